-- The examples: the first circuit from the definitions, the second by its marks.
use Rattle.std.proofs.Common.{◌≡◌, ℕ, zero, suc, ◌<◌, Bool, true, false, ◌⊎◌, List, [], ◌∷◌, length, get_or, take, Some, None, sym, refl, ap, ◌∙◌, subst, inl, inr, ⊎_elim, arith}
use mathlib.Core.Bool.{false≢true}
use Rattle.gates.specs.declared.Mark.{Mark}
use Rattle.gates.specs.declared.Mark.TheVariants.{Zero, One, Unknown}
use Rattle.gates.specs.Marks.{mark_code}
use Rattle.circuit.specs.declared.Source.TheVariants as source
use Rattle.circuit.specs.declared.Signal.{Signal}
use Rattle.circuit.specs.declared.Signal.TheVariants as signal
use Rattle.circuit.specs.declared.passes.Pass.TheVariants.{First, Second}
use Rattle.circuit.specs.Circuits.{Has, no_gate}
use Rattle.circuit.specs.Wiring.{pin_total}
use Rattle.circuit.specs.Passes.{stepped, iterate, Run}
use Rattle.races.specs.Races.{State, value, Among, last, Stable, Kept, Complemented, Race, Step, Walk, Reachable, Round, states, Outcome}
use Rattle.races.specs.Exact.{Open, Whole, Exact}
use Rattle.races.specs.Examples.{rise, low, high, inverter, beside, all_low, Examples}
use Rattle.races.proofs.Exact.{marks_exact}
use Rattle.races.proofs.network.Bits.{by_bit, other}

-- the only signal is the input
only : (P : Signal → Type 0) → P (signal.Input 0) → (x : Signal) → Has rise x → P x
only P p (signal.Input zero) h = p
only P p (signal.Input (suc i)) h = absurd (omega arith)
only P p (signal.Gate g) h = absurd (omega arith)
only P p (signal.Wire w) h = absurd (omega arith)

abbrev Up : State → Type 0
Up s = value rise s (signal.Input 0) ≡ true

one_value : (t : State) → length t ≡ 1 → Up t → t ≡ high
one_value [] l e = absurd (omega arith)
one_value (b ∷ []) l e = ap (λ v. v ∷ []) e
one_value (b ∷ b' ∷ t) l e = absurd (omega arith)

-- a race makes the input rise
race_rises : (s t : State) → Race [] rise s t → t ≡ high
race_rises s t r = one_value t r.long (only (λ x. Complemented [] rise s t x → Up t) (λ c. c.1 ∙ sym (other true (value rise s (signal.Input 0)) (λ e. c.0 (sym e)))) r.some.0 r.some.1 r.some.2)

step_up : (s t : State) → Step [] rise s t → Up t
step_up s t (inl r) = ap (λ u. value rise u (signal.Input 0)) (race_rises s t r)
step_up s t (inr r) = ap (λ u. value rise u (signal.Input 0)) r.same ∙ r.stable (signal.Input 0) (omega arith)

-- every state behind a step, and so every state of a round, has the input at 1
walk_up : (s : State) (ts : List State) → Walk [] rise s ts → (t : State) → Among t ts → Up t
walk_up s [] w t h = absurd h
walk_up s (u ∷ ts) w t h = ⊎_elim (λ e. ap (λ x. value rise x (signal.Input 0)) e ∙ step_up s u w.0) (λ r. walk_up u ts w.1 t r) h

last_among : (s : State) (ts : List State) → Among (last s ts) (s ∷ ts)
last_among s [] = inl refl
last_among s (t ∷ ts) = inr (last_among t ts)

round_up : (r : Round [] rise) (t : State) → Among t (states [] rise r) → Up t
round_up r t h =
    let up = walk_up r.first (r.next ∷ r.others) r.walk in
    ⊎_elim (λ e. up t (subst (λ x. Among x (r.next ∷ r.others)) (r.closed ∙ sym e) (last_among r.next r.others))) (up t) h

step_high : (s t : State) → (s ≡ low) ⊎ (s ≡ high) → Step [] rise s t → t ≡ high
step_high s t at (inl r) = race_rises s t r
step_high s t (inl e) (inr r) = absurd (false≢true (sym (ap (λ x. value rise x (signal.Input 0)) e) ∙ r.stable (signal.Input 0) (omega arith)))
step_high s t (inr e) (inr r) = r.same ∙ e

walk_high : (s : State) (ts : List State) → s ≡ high → Walk [] rise s ts → last s ts ≡ high
walk_high s [] e w = e
walk_high s (t ∷ ts) e w = walk_high t ts (step_high s t (inr e) w.0) w.1

walk_low : (ts : List State) → Walk [] rise low ts → (last low ts ≡ low) ⊎ (last low ts ≡ high)
walk_low [] w = inl refl
walk_low (t ∷ ts) w = inr (walk_high t ts (step_high low t (inl refl) w.0) w.1)

reach_low : (s : State) → Reachable [] rise low s → (s ≡ low) ⊎ (s ≡ high)
reach_low s r = ⊎_elim (λ e. inl (sym r.2 ∙ e)) (λ e. inr (sym r.2 ∙ e)) (walk_low r.0 r.1)

rising : Race [] rise low high
rising =
    let turns : Complemented [] rise low high (signal.Input 0) = (false≢true, refl) in
    record {
      long = refl;
      each = only (λ x. Kept [] rise low high x ⊎ Complemented [] rise low high x) (inr turns);
      some = (signal.Input 0, omega arith, turns);
    }

stable_high : (x : Signal) → Has rise x → Stable [] rise high x
stable_high = only (Stable [] rise high) refl

to_high : Reachable [] rise low high
to_high = (high ∷ [], (inl rising, tt), refl)

reach_back : (s : State) → (s ≡ low) ⊎ (s ≡ high) → Reachable [] rise low s
reach_back s at = ⊎_elim (λ e. subst (Reachable [] rise low) (sym e) ([], tt, refl)) (λ e. subst (Reachable [] rise low) (sym e) to_high) at

outcome_high : (s : State) → Outcome [] rise low s → s ≡ high
outcome_high s o =
    let up = round_up o.round o.from o.within in
    ⊎_elim
    (λ e. absurd (false≢true (sym (ap (λ x. value rise x (signal.Input 0)) e) ∙ up)))
    (λ e. sym o.after.2 ∙ walk_high o.from o.after.0 e o.after.1)
    (reach_low o.from o.reached)

high_outcome : Outcome [] rise low high
high_outcome = record {
  round = record { first = high; next = high; others = []; walk = (inr (record { stable = stable_high; same = refl }), tt); closed = refl };
  lasting = λ t. t.unstable high (inl refl) (stable_high t.signal t.there);
  from = high;
  within = inl refl;
  reached = to_high;
  after = ([], tt, refl);
}

-- the second circuit is whole, and its run is as worked out by hand
numbered : (g : ℕ) → g < 1 → (get_or beside.gates g no_gate).first ≡ pin_total (take g beside.gates)
numbered zero h = refl
numbered (suc g) h = absurd (omega arith)

from_inputs : (w i : ℕ) → get_or beside.sources w None ≡ Some (source.Input i) → i < 1
from_inputs zero i e = let z : ◌≡◌ {A = ℕ} 0 1 = cc in absurd (omega arith)
from_inputs (suc w) i e = let z : ◌≡◌ {A = ℕ} 0 1 = cc in absurd (omega arith)

from_gates : (w g : ℕ) → get_or beside.sources w None ≡ Some (source.Gate g) → g < 1
from_gates zero g e = let z : ◌≡◌ {A = ℕ} 0 g = cc in omega arith
from_gates (suc w) g e = let z : ◌≡◌ {A = ℕ} 0 1 = cc in absurd (omega arith)

joined : (w : ℕ) → w < 1 → get_or beside.sources w None ≡ None → ⊥
joined zero h e = let z : ◌≡◌ {A = ℕ} 0 1 = cc in omega arith
joined (suc w) h e = omega arith

whole : Whole beside all_low
whole = record { wired = record { numbered = (numbered, refl); sourced = (from_inputs, from_gates) }; joined = joined; long = refl }

abbrev start : List Mark
start = Zero ∷ Zero ∷ Zero ∷ []

abbrev firsts : List Mark
firsts = Unknown ∷ Unknown ∷ Unknown ∷ []

abbrev seconds : List Mark
seconds = One ∷ Unknown ∷ Unknown ∷ []

-- a place at which a step changed a mark
differ : (k : ℕ) (ms ns : List Mark) → ms ≡ ns → mark_code (get_or ms k Zero) ≡ mark_code (get_or ns k Zero)
differ k ms ns e = ap (λ l. mark_code (get_or l k Zero)) e

first_moves : (k : ℕ) → k < 2 → stepped First inverter beside (iterate (stepped First inverter beside) k start) ≡ iterate (stepped First inverter beside) k start → ⊥
unfolding stepped
first_moves zero h e = let d : ◌≡◌ {A = ℕ} 2 0 = differ 0 _ _ e in omega arith
first_moves (suc zero) h e = let d : ◌≡◌ {A = ℕ} 2 0 = differ 2 _ _ e in omega arith
first_moves (suc (suc k)) h e = omega arith

second_moves : (k : ℕ) → k < 1 → stepped Second inverter beside (iterate (stepped Second inverter beside) k firsts) ≡ iterate (stepped Second inverter beside) k firsts → ⊥
unfolding stepped
second_moves zero h e = let d : ◌≡◌ {A = ℕ} 1 2 = differ 0 _ _ e in omega arith
second_moves (suc k) h e = omega arith

run : Run inverter beside all_low 2 firsts 1 seconds
unfolding stepped
run = record {
  first = record { reached = refl; still = refl; moved = first_moves };
  second = record { reached = refl; still = refl; moved = second_moves };
}

exact : (x : Signal) → Has beside x → Exact inverter beside all_low firsts seconds x
exact = marks_exact inverter beside all_low 2 1 firsts seconds whole run

oscillates : (v : Bool) → Open beside (Outcome inverter beside all_low) (signal.Gate 0) v
oscillates true = ((exact (signal.Gate 0) (omega arith)).outcome.both.0 refl).1
oscillates false = ((exact (signal.Gate 0) (omega arith)).outcome.both.0 refl).0

rises : (s : State) → Outcome inverter beside all_low s → value beside s (signal.Input 0) ≡ true
rises s o = by_bit (value beside s (signal.Input 0)) (λ e. e) (λ e. absurd ((((exact (signal.Input 0) (omega arith)).outcome.one true).0 refl).1 (s, o, e)))

pub examples : Examples
examples = record {
  rise_along = λ s. (reach_low s, reach_back s);
  rise_lastly = λ s. (outcome_high s, λ e. subst (Outcome [] rise low) (sym e) high_outcome);
  beside_oscillates = oscillates;
  beside_rises = rises;
}
