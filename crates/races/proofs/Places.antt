-- Signals and their places in sheet order.
use Rattle.std.proofs.Common.{◌≡◌, ℕ, ◌+◌, ◌<◌, ◌≤◌, length, sym, refl, ap, ◌∙◌, arith}
use Rattle.std.proofs.lemmas.Bool.{lt-ltb, le-ltb, ltb-true, ltb-false, cond-true, cond-false, cond_both}
use Rattle.circuit.specs.declared.Signal.{Signal}
use Rattle.circuit.specs.declared.Signal.TheVariants as signal
use Rattle.circuit.specs.Circuits.{Circuit, Has, size, place, signal_at}

pub place_in : (c : Circuit) (x : Signal) → Has c x → place c x < size c
place_in c (signal.Input i) h = omega arith
place_in c (signal.Gate g) h = omega arith
place_in c (signal.Wire w) h = omega arith

pub signal_place : (c : Circuit) (x : Signal) → Has c x → signal_at c (place c x) ≡ x
signal_place c (signal.Input i) h = cond-true _ _ _ (lt-ltb i _ h)
signal_place c (signal.Gate g) h =
    cond-false _ _ _ (le-ltb (length c.applied + g) (length c.applied) (omega arith))
    ∙ cond-true _ _ _ (lt-ltb (length c.applied + g) (length c.applied + length c.gates) (omega arith))
    ∙ ap signal.Gate (omega arith)
signal_place c (signal.Wire w) h =
    cond-false _ _ _ (le-ltb (length c.applied + length c.gates + w) (length c.applied) (omega arith))
    ∙ cond-false _ _ _ (le-ltb (length c.applied + length c.gates + w) (length c.applied + length c.gates) (omega arith))
    ∙ ap signal.Wire (omega arith)

pub place_same : (c : Circuit) (x y : Signal) → Has c x → Has c y → place c x ≡ place c y → x ≡ y
place_same c x y h k e = sym (signal_place c x h) ∙ ap (signal_at c) e ∙ signal_place c y k

-- a signal that stands at a place
abbrev Placed : Circuit → ℕ → Signal → Type 0
Placed c k x = (place c x ≡ k) × Has c x

pub placed : (c : Circuit) (k : ℕ) → k < size c → Placed c k (signal_at c k)
placed c k h =
    cond_both _ _ _ (Placed c k)
    (λ t. (refl, ltb-true k (length c.applied) t))
    (λ t. let a : length c.applied ≤ k = ltb-false k (length c.applied) t in
    cond_both _ _ _ (Placed c k)
    (λ u. let b : k < length c.applied + length c.gates = ltb-true k (length c.applied + length c.gates) u in (omega arith, omega arith))
    (λ u. let b : length c.applied + length c.gates ≤ k = ltb-false k (length c.applied + length c.gates) u in (omega arith, omega arith)))
