-- The marks of a run are those that the passes come to after as many steps as there are signals.
use Rattle.std.proofs.Common.{◌≡◌, ℕ, zero, suc, ◌<◌, ◌≤◌, List, map, length, Some, None, Option, sym, ap, ◌∙◌, subst, ⊎_elim, arith}
use Rattle.std.proofs.lemmas.Bool.{cases_lt}
use Rattle.std.proofs.lemmas.List.{length-map}
use Rattle.gates.specs.declared.Mark.{Mark}
use Rattle.gates.specs.Marks.{settled}
use Rattle.gates.specs.Told.{Stop, Told, answer, refused, left_by}
use Rattle.circuit.specs.declared.passes.Pass.TheVariants.{First, Second}
use Rattle.circuit.specs.Circuits.{size}
use Rattle.circuit.specs.Passes.{stepped, iterate, Ends, Run, open_count}
use Rattle.circuit.proofs.Runs.{run_exists, ends_long}
use Rattle.circuit.proofs.Steps.{steps_few}
use Rattle.record.specs.Boards.{Board, marked}
use Rattle.record.specs.Runs.{RunOrStop}
use Rattle.calls.specs.Tellings.{Given, counts}
use Rattle.calls.specs.Effects.{first_marks, second_marks, CountedOrStop}

-- what a call gives, of what the record tells
abbrev pub told_as : {A : Type 0} → (A → Given) → Told A → Told Given
told_as give (answer a) = answer (give a)
told_as give (refused s) = refused s

module _ {A : Type 0} (f : A → A) (x : A) where
  -- where a step changes nothing, further steps change nothing
  rests : (n m : ℕ) → n ≤ m → f (iterate f n x) ≡ iterate f n x → iterate f m x ≡ iterate f n x
  rests n zero h e = let same : 0 ≡ n = omega arith in ap (λ k. iterate f k x) same
  rests n (suc m) h e =
      ⊎_elim
      (λ (l : n < suc m). ap f (rests n m (omega arith) e) ∙ e)
      (λ (l : suc m ≤ n). let same : suc m ≡ n = omega arith in ap (λ k. iterate f k x) same)
      (cases_lt n (suc m))

  ends_at : (n m : ℕ) (to : A) → n ≤ m → Ends f x n to → to ≡ iterate f m x
  ends_at n m to h e = e.reached ∙ sym (rests n m h (ap f (sym e.reached) ∙ e.still ∙ e.reached))

module _ (b : Board) (long : length b.state ≡ size b.circuit) where
  pub run_firsts : (n k : ℕ) (firsts seconds : List Mark) → Run b.kinds b.circuit b.state n firsts k seconds → firsts ≡ first_marks b
  unfolding first_marks
  run_firsts n k firsts seconds run =
      let few = steps_few b.kinds b.circuit b.state n k firsts seconds long run in
      ends_at (stepped First b.kinds b.circuit) (map settled b.state) n (size b.circuit) firsts few.first_size run.first

  pub run_seconds : (n k : ℕ) (firsts seconds : List Mark) → Run b.kinds b.circuit b.state n firsts k seconds → seconds ≡ second_marks b
  unfolding second_marks
  run_seconds n k firsts seconds run =
      let few = steps_few b.kinds b.circuit b.state n k firsts seconds long run in
      ends_at (stepped Second b.kinds b.circuit) firsts k (size b.circuit) seconds few.second_size run.second
      ∙ ap (iterate (stepped Second b.kinds b.circuit) (size b.circuit)) (run_firsts n k firsts seconds run)

  pub run_marks : (n k : ℕ) (firsts seconds : List Mark) → Run b.kinds b.circuit b.state n firsts k seconds → Run b.kinds b.circuit b.state n (first_marks b) k (second_marks b)
  run_marks n k firsts seconds run =
      subst (λ ms. Run b.kinds b.circuit b.state n ms k (second_marks b)) (run_firsts n k firsts seconds run)
      (subst (λ ms. Run b.kinds b.circuit b.state n firsts k ms) (run_seconds n k firsts seconds run) run)

  pub marks_run : (n k : ℕ) × Run b.kinds b.circuit b.state n (first_marks b) k (second_marks b)
  marks_run = let r = run_exists b.kinds b.circuit b.state long in (r.0, r.1, run_marks r.0 r.1 r.2.0 r.2.1 r.2.2)

  pub firsts_long : length (first_marks b) ≡ size b.circuit
  firsts_long = let r = marks_run in ends_long b.kinds b.circuit First r.0 (map settled b.state) (first_marks b) (length-map b.state settled ∙ long) r.2.first

  pub seconds_long : length (second_marks b) ≡ size b.circuit
  seconds_long = let r = marks_run in ends_long b.kinds b.circuit Second r.1 (first_marks b) (second_marks b) firsts_long r.2.second

  -- what the record's run answers and leaves
  pub ran_counted : (stop : Option Stop) (t : Told (ℕ × ℕ × ℕ)) (new : Board) (told : Told Given) → RunOrStop stop b t new → told ≡ told_as counts t
      → CountedOrStop stop b told × (new ≡ left_by stop b (marked b (first_marks b) (second_marks b)))
  ran_counted (Some s) t new told r e = (e ∙ ap (told_as counts) r.0, r.1)
  ran_counted None t new told r e =
      let firsts = run_firsts _ _ _ _ r.run in
      let seconds = run_seconds _ _ _ _ r.run in (
        record { first_steps = r.first_steps; second_steps = r.second_steps; run = run_marks _ _ _ _ r.run; says = e ∙ ap (told_as counts) r.counts ∙ ap (λ ms. answer (counts (r.first_steps, r.second_steps, open_count ms))) seconds },
        r.marks ∙ ap (λ ms. marked b ms r.seconds) firsts ∙ ap (marked b (first_marks b)) seconds,
      )
