-- Where no second mark is unknown, the outcome is the one stable state of the second marks; and the outcome is never empty.
use Rattle.std.proofs.Common.{◌≡◌, ℕ, zero, suc, ◌<◌, Bool, true, false, not, List, [], ◌∷◌, ◌++◌, map, length, get_or, sym, refl, ap, ◌∙◌, subst, inl, inr, arith}
use mathlib.Core.Bool.{Bool-discrete}
use native.Mathlib.Decide.{ℕ_discrete}
use lib.ListN.{length-map, get_or-map}
use Rattle.std.proofs.lemmas.List.{ext_get_or, get_or-set_same}
use Rattle.gates.specs.declared.Mark.{Mark}
use Rattle.gates.specs.declared.Mark.TheVariants.{Zero, One, Unknown}
use Rattle.gates.specs.Marks.{settled, covers}
use Rattle.gates.specs.Kinds.{Kind}
use Rattle.gates.proofs.Exact.{covers_itself, covers_settled}
use Rattle.circuit.specs.declared.Signal.{Signal}
use Rattle.circuit.specs.Circuits.{Circuit, Has, size, place, signal_at}
use Rattle.circuit.specs.Passes.{Run, open_count}
use Rattle.circuit.proofs.Runs.{ends_long, run_exists}
use Rattle.races.specs.Races.{State, value, last, driven, Stable, Step, Walk, Reachable, Outcome}
use Rattle.races.specs.Exact.{mark, Whole, OutcomeSome}
use Rattle.races.specs.Fires.{fired}
use Rattle.races.specs.Adopts.{AdoptLands}
use Rattle.races.proofs.Places.{place_in, placed}
use Rattle.races.proofs.Walks.{outcome_long}
use Rattle.races.proofs.Exact.{second_covers}
use Rattle.races.proofs.Fires.{fire_steps}
use Rattle.races.proofs.network.Bits.{not_same}
use Rattle.races.proofs.network.Marks.{unk, unk_settled, some_bit}

none_open : (ms : List Mark) → open_count ms ≡ 0 → (k : ℕ) → unk (get_or ms k Zero) ≡ false
none_open [] e k = refl
none_open (Zero ∷ ms) e zero = refl
none_open (One ∷ ms) e zero = refl
none_open (Unknown ∷ ms) e k = absurd (omega arith)
none_open (Zero ∷ ms) e (suc k) = none_open ms e k
none_open (One ∷ ms) e (suc k) = none_open ms e k

-- a step more
walk_more : (ks : List Kind) (c : Circuit) (s : State) (ts : List State) (u : State) → Walk ks c s ts → Step ks c (last s ts) u → Walk ks c s (ts ++ u ∷ []) × (last s (ts ++ u ∷ []) ≡ u)
walk_more ks c s [] u w h = ((h, tt), refl)
walk_more ks c s (t ∷ ts) u w h = let r = walk_more ks c t ts u w.1 h in ((w.0, r.0), r.1)

reach_more : (ks : List Kind) (c : Circuit) (s t u : State) → Reachable ks c s t → Step ks c t u → Reachable ks c s u
reach_more ks c s t u r h = let w = walk_more ks c s r.0 u r.1 (subst (λ x. Step ks c x u) (sym r.2) h) in (r.0 ++ u ∷ [], w.0, w.1)

outcome_more : (ks : List Kind) (c : Circuit) (start o u : State) → Outcome ks c start o → Step ks c o u → Outcome ks c start u
outcome_more ks c start o u w h = record { round = w.round; lasting = w.lasting; from = w.from; within = w.within; reached = w.reached; after = reach_more ks c w.from o u w.after h }

settled_same : (a b : Bool) → settled a ≡ settled b → a ≡ b
settled_same a b e = covers_settled a b (subst (λ m. covers m b ≡ true) (sym e) (covers_itself b))

module _ (ks : List Kind) (c : Circuit) (start : State) (n k : ℕ) (firsts seconds : List Mark) (whole : Whole c start) (run : Run ks c start n firsts k seconds) (settles : open_count seconds ≡ 0) where
  long : (o : State) → Outcome ks c start o → length o ≡ size c
  long o w = outcome_long ks c whole.wired whole.joined start o whole.long w

  seconds_long : length seconds ≡ size c
  seconds_long = ends_long ks c _ k firsts seconds (ends_long ks c _ n (map settled start) firsts (length-map start settled ∙ whole.long) run.first) run.second

  lands : (o : State) → Outcome ks c start o → map settled o ≡ seconds
  lands o w =
      let lo = long o w in
      let lm = length-map o settled in
      ext_get_or Zero (map settled o) seconds (lm ∙ lo ∙ sym seconds_long)
      (λ i h. let low : i < size c = omega arith in
      let at = placed c i low in
      let x = signal_at c i in
      let covers = (second_covers ks c start n k firsts seconds whole run x at.1 (value c o x)).1 (o, w, refl) in
      get_or-map settled o i false
      ∙ ap (λ j. settled (get_or o j false)) (sym at.0)
      ∙ sym (unk_settled (mark c seconds x) (value c o x) covers (none_open seconds settles (place c x)))
      ∙ ap (λ j. get_or seconds j Zero) at.0)

  -- an unstable signal could be fired, and would then have another value than its mark
  rests : (o : State) → Outcome ks c start o → (x : Signal) → Has c x → Stable ks c o x
  rests o w x h = elim (Bool-discrete (value c o x) (driven ks c o x)) [
    | yes e ↦ e
    | no e ↦
        let u : State = fired c (x ∷ []) o in
        let step = fire_steps ks c o (x ∷ []) (long o w) (record { some = λ q. absurd (omega (arith, ap length q)); apart = (tt, tt); there = (h, tt); unstable = (e, tt) }) in
        let a = lands o w ∙ sym (lands u (outcome_more ks c start o u w step)) in
        let same : settled (value c o x) ≡ settled (value c u x) = sym (get_or-map settled o (place c x) false) ∙ ap (λ ms. get_or ms (place c x) Zero) a ∙ get_or-map settled u (place c x) false in
        let turned : value c u x ≡ not (value c o x) = get_or-set_same o (place c x) (not (value c o x)) false (subst (λ m. place c x < m) (sym (long o w)) (place_in c x h)) in
        absurd (not_same (value c o x) (sym turned ∙ sym (settled_same (value c o x) (value c u x) same)))
  ]

pub adopt_lands : AdoptLands
adopt_lands ks c start n k firsts seconds whole run settles = record { one = lands ks c start n k firsts seconds whole run settles; stable = rests ks c start n k firsts seconds whole run settles }

pub outcome_some : OutcomeSome
outcome_some ks c start whole = elim (ℕ_discrete (size c) 0) [
  | yes e ↦
      let none : (x : Signal) → Has c x → ⊥ = λ x h. let l = place_in c x h in omega arith in (
        start,
        record {
          round = record { first = start; next = start; others = []; walk = (inr (record { stable = λ x h. absurd (none x h); same = refl }), tt); closed = refl };
          lasting = λ t. none t.signal t.there;
          from = start;
          within = inl refl;
          reached = ([], tt, refl);
          after = ([], tt, refl);
        },
      )
  | no e ↦
      let at = placed c 0 (omega arith) in
      let r = run_exists ks c start whole.long in
      let m = some_bit (mark c r.2.1 (signal_at c 0)) in
      let o = (second_covers ks c start r.0 r.1 r.2.0 r.2.1 whole r.2.2 (signal_at c 0) at.1 m.0).0 m.1 in
      (o.0, o.1)
]
