-- What a run answers and leaves.
use Rattle.std.proofs.Common.{◌≡◌, ℕ, List, [], ◌∷◌, length, Some, None, Option, sym, refl, ap, ◌∙◌}
use Rattle.gates.specs.declared.Mark.{Mark}
use Rattle.gates.specs.Kinds.{Kind}
use Rattle.gates.specs.Told.{Told, answer, first_stop}
use Rattle.circuit.specs.declared.passes.Pass.TheVariants.{First, Second}
use Rattle.circuit.specs.Circuits.{Circuit, size}
use Rattle.circuit.specs.Wiring.{Wired, first_unjoined}
use Rattle.circuit.proofs.Falls.{length-stepped}
use Rattle.circuit.proofs.Steps.{steps_few}
use Rattle.circuit.proofs.Unjoined.{first_unjoined_exact}
use Rattle.races.specs.Races.{State}
use Rattle.races.specs.Exact.{Whole}
use Rattle.races.proofs.Adopts.{outcome_some}
use Rattle.races.proofs.Exact.{marks_exact}
use Rattle.record.specs.Boards.{Board}
use Rattle.record.specs.Calls.{at_pin}
use Rattle.record.specs.Runs.{Marked, Ran, RunOrStop}

-- there is a mark of each pass for every signal
pub marks_long : (ks : List Kind) (c : Circuit) (start : State) (counts : ℕ × ℕ × ℕ) (marks : Option (List Mark × List Mark)) → Marked ks c start counts marks
    → (firsts seconds : List Mark) → marks ≡ Some (firsts, seconds) → (length firsts ≡ size c) × (length seconds ≡ size c)
marks_long ks c start counts marks m firsts seconds e =
    let stand = m.stand in
    let same : (m.firsts, m.seconds) ≡ (firsts, seconds) = cc in
    let run = m.run in (
      sym (ap (λ (p : List Mark × List Mark). length p.0) same) ∙ sym (ap length run.first.still) ∙ length-stepped ks c First m.firsts,
      sym (ap (λ (p : List Mark × List Mark). length p.1) same) ∙ sym (ap length run.second.still) ∙ length-stepped ks c Second m.seconds,
    )

no_pin : (o : Option (ℕ × ℕ)) → at_pin o ≡ None → o ≡ None
no_pin None e = refl
no_pin (Some p) e = absurd (cc)

unstopped : (o : Option (ℕ × ℕ)) (old : Board) (t : Told (ℕ × ℕ × ℕ)) (new : Board) → o ≡ None → Ran old t new → RunOrStop (first_stop (at_pin o ∷ [])) old t new
unstopped None old t new e ran = ran
unstopped (Some p) old t new e ran = absurd (cc)

-- a run with all pins joined
pub ran_unstopped : (old : Board) (counts : ℕ × ℕ × ℕ) (marks : Option (List Mark × List Mark)) → Wired old.circuit → length old.state ≡ size old.circuit → at_pin (first_unjoined old.circuit) ≡ None
    → Marked old.kinds old.circuit old.state counts marks
    → RunOrStop (first_stop (at_pin (first_unjoined old.circuit) ∷ [])) old (answer counts) (record { kinds = old.kinds; circuit = old.circuit; state = old.state; marks = marks })
ran_unstopped old counts marks wired long joined m =
    let none = no_pin (first_unjoined old.circuit) joined in
    let whole : Whole old.circuit old.state = record { wired = wired; joined = (first_unjoined_exact old.circuit wired.numbered).none none; long = long } in
    let run = m.run in
    unstopped (first_unjoined old.circuit) old (answer counts) (record { kinds = old.kinds; circuit = old.circuit; state = old.state; marks = marks }) none (record {
      first_steps = counts.0;
      second_steps = counts.1;
      firsts = m.firsts;
      seconds = m.seconds;
      run = run;
      counts = ap (λ n. answer (counts.0, counts.1, n)) m.open_signals;
      marks = ap (λ (o : Option (List Mark × List Mark)). record { kinds = old.kinds; circuit = old.circuit; state = old.state; marks = o }) m.stand;
      few = steps_few old.kinds old.circuit old.state counts.0 counts.1 m.firsts m.seconds long run;
      exact = marks_exact old.kinds old.circuit old.state counts.0 counts.1 m.firsts m.seconds whole run;
      outcome = outcome_some old.kinds old.circuit old.state whole;
    })
