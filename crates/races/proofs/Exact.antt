-- The marks of both passes are exact.
use Rattle.std.proofs.Common.{◌≡◌, ℕ, zero, Bool, true, false, not, ◌↔◌, List, map, length, sym, refl, ap, ◌∙◌, subst}
use mathlib.Core.Bool.{false≢true}
use lib.ListN.{length-map, get_or-map}
use Rattle.std.proofs.lemmas.Bool.{cond-true}
use Rattle.gates.specs.declared.Mark.{Mark}
use Rattle.gates.specs.declared.Mark.TheVariants.{Zero, One, Unknown}
use Rattle.gates.specs.Marks.{settled}
use Rattle.gates.specs.Kinds.{Kind}
use Rattle.circuit.specs.declared.Signal.{Signal}
use Rattle.circuit.specs.declared.passes.Pass.TheVariants.{First, Second}
use Rattle.circuit.specs.Circuits.{Circuit, Has, size, place}
use Rattle.circuit.specs.Passes.{Run}
use Rattle.circuit.proofs.Runs.{ends_long}
use Rattle.races.specs.Races.{State, Reachable, Outcome}
use Rattle.races.specs.Exact.{mark, Open, Tells, Whole, MarksExact}
use Rattle.races.proofs.Named.{network, named, numbered, there, back}
use Rattle.races.proofs.Agreed.{Agrees, end_agrees, end_still}
use Rattle.races.proofs.States.{state, value_at}
use Rattle.races.proofs.Walks.{reach_up, reach_down, outcome_up, outcome_down}
use Rattle.races.proofs.network.Networks as net
use Rattle.races.proofs.network.Races as net_races
use Rattle.races.proofs.network.Passes.{first, second, FirstEnds, SecondEnds, Takes}
use Rattle.races.proofs.network.Marks.{Covers}
use Rattle.races.proofs.network.RacesUpper.{races_upper}
use Rattle.races.proofs.network.RacesLower.{races_lower}
use Rattle.races.proofs.network.OutcomeUpper.{outcome_upper}
use Rattle.races.proofs.network.OutcomeLower.{outcome_lower}

-- a mark covers the open values and no other
abbrev CoversJust : Mark → (Bool → Type 0) → Type 0
CoversJust m O = (v : Bool) → Covers m v ↔ O v

module _ (ks : List Kind) (c : Circuit) (start : State) (whole : Whole c start) (x : Signal) (h : Has c x) (v : Bool) where
  -- open values are those that the signal takes in the network
  along : Takes (net_races.Walk (network ks c) (state ks c start)) (named c x) v ↔ Open c (Reachable ks c start) x v
  along = (
    (λ t.
        let d = reach_down ks c whole.wired whole.joined start t.0 whole.long t.1 in
        (d.0, d.1, sym (value_at ks c whole.wired whole.joined d.0 x h) ∙ ap (λ u. u (named c x)) (sym d.2) ∙ t.2)),
    (λ o. (state ks c o.0, reach_up ks c whole.wired whole.joined start o.0 whole.long o.1, value_at ks c whole.wired whole.joined o.0 x h ∙ o.2)),
  )

  lastly : Takes (net_races.Outcome (network ks c) (state ks c start)) (named c x) v ↔ Open c (Outcome ks c start) x v
  lastly = (
    (λ t.
        let d = outcome_down ks c whole.wired whole.joined start t.0 whole.long t.1 in
        (d.0, d.1, sym (value_at ks c whole.wired whole.joined d.0 x h) ∙ ap (λ u. u (named c x)) (sym d.2) ∙ t.2)),
    (λ o. (state ks c o.0, outcome_up ks c whole.wired whole.joined start o.0 whole.long o.1, value_at ks c whole.wired whole.joined o.0 x h ∙ o.2)),
  )

module _ (ks : List Kind) (c : Circuit) (start : State) (n k : ℕ) (firsts seconds : List Mark) (whole : Whole c start) (run : Run ks c start n firsts k seconds) where
  abbrev b : net.State
  b = state ks c start

  abbrev rising : ℕ → net.Marking
  rising = first (network ks c) b

  abbrev falling : ℕ → net.Marking
  falling = second (network ks c) (rising n)

  start_long : length (map settled start) ≡ size c
  start_long = length-map start settled ∙ whole.long

  start_agrees : Agrees settled ks c (map settled start) (rising zero)
  start_agrees σ q = get_or-map settled start (place c (numbered c σ)) false ∙ ap settled (sym (cond-true _ _ _ q))

  firsts_agree : Agrees settled ks c firsts (rising n)
  firsts_agree = end_agrees ks c whole.wired whole.joined First (map settled start) start_long rising start_agrees (λ i σ. refl) n firsts run.first

  first_ends : FirstEnds (network ks c) b n
  first_ends = end_still ks c whole.wired whole.joined First (map settled start) start_long rising start_agrees (λ i σ. refl) n firsts run.first

  firsts_long : length firsts ≡ size c
  firsts_long = ends_long ks c First n (map settled start) firsts start_long run.first

  seconds_agree : Agrees settled ks c seconds (falling k)
  seconds_agree = end_agrees ks c whole.wired whole.joined Second firsts firsts_long falling firsts_agree (λ i σ. refl) k seconds run.second

  second_ends : SecondEnds (network ks c) (rising n) k
  second_ends = end_still ks c whole.wired whole.joined Second firsts firsts_long falling firsts_agree (λ i σ. refl) k seconds run.second

  module _ (x : Signal) (h : Has c x) where
    marked : (ms : List Mark) (a : net.Marking) → Agrees settled ks c ms a → mark c ms x ≡ a (named c x)
    marked ms a agrees = ap (mark c ms) (sym (back ks c whole.wired x h)) ∙ agrees (named c x) (there ks c whole.wired x h)

    -- marks of the lists, values of the network
    by_network : (P : net.State → Type 0) (ms : List Mark) (a : net.Marking) → Agrees settled ks c ms a → ((v : Bool) → Covers (a (named c x)) v → Takes P (named c x) v) → ((s : net.State) → P s → Covers (a (named c x)) (s (named c x))) → CoversJust (mark c ms x) (Takes P (named c x))
    by_network P ms a agrees lower upper v = (
      (λ e. lower v (subst (λ m. Covers m v) (marked ms a agrees) e)),
      (λ t. subst (λ m. Covers m v) (sym (marked ms a agrees)) (subst (Covers (a (named c x))) t.2 (upper t.0 t.1))),
    )

    first_covers : CoversJust (mark c firsts x) (Open c (Reachable ks c start) x)
    first_covers v =
        let e = by_network (net_races.Walk (network ks c) b) firsts (rising n) firsts_agree (races_lower (network ks c) b n (named c x)) (λ s w. races_upper (network ks c) b n first_ends s w (named c x)) v in
        let o = along ks c start whole x h v in
        ((λ m. o.0 (e.0 m)), (λ s. e.1 (o.1 s)))

    pub second_covers : CoversJust (mark c seconds x) (Open c (Outcome ks c start) x)
    second_covers v =
        let e = by_network (net_races.Outcome (network ks c) b) seconds (falling k) seconds_agree (outcome_lower (network ks c) b n k first_ends second_ends (named c x)) (λ s w. outcome_upper (network ks c) b n first_ends k s w (named c x)) v in
        let o = lastly ks c start whole x h v in
        ((λ m. o.0 (e.0 m)), (λ s. e.1 (o.1 s)))

-- what a mark covers says which mark it is
settled_covers : (v : Bool) → Covers (settled v) v × (¬ Covers (settled v) (not v))
settled_covers true = (refl, false≢true)
settled_covers false = (refl, false≢true)

covers_one : (m : Mark) (v : Bool) → Covers m v → (¬ Covers m (not v)) → m ≡ settled v
covers_one Zero true c d = absurd (false≢true c)
covers_one Zero false c d = refl
covers_one One true c d = refl
covers_one One false c d = absurd (false≢true c)
covers_one Unknown v c d = absurd (d refl)

covers_both : (m : Mark) → Covers m false → Covers m true → m ≡ Unknown
covers_both Zero a b = absurd (false≢true b)
covers_both One a b = absurd (false≢true a)
covers_both Unknown a b = refl

tells : (O : Bool → Type 0) (m : Mark) → CoversJust m O → Tells O m
tells O m h = record {
  one = λ v. (
    (λ e. let s = subst (λ k. Covers k v × (¬ Covers k (not v))) (sym e) (settled_covers v) in ((h v).0 s.0, λ o. s.1 ((h (not v)).1 o))),
    (λ o. covers_one m v ((h v).1 o.0) (λ q. o.1 ((h (not v)).0 q))),
  );
  both = (
    (λ e. ((h false).0 (subst (λ k. Covers k false) (sym e) refl), (h true).0 (subst (λ k. Covers k true) (sym e) refl))),
    (λ o. covers_both m ((h false).1 o.0) ((h true).1 o.1)),
  );
}

pub marks_exact : MarksExact
marks_exact ks c start n k firsts seconds whole run x h = record {
  races = tells (Open c (Reachable ks c start) x) (mark c firsts x) (first_covers ks c start n k firsts seconds whole run x h);
  outcome = tells (Open c (Outcome ks c start) x) (mark c seconds x) (second_covers ks c start n k firsts seconds whole run x h);
}
