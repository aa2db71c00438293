-- Marks in order, and excitations that keep it.
use Rattle.std.proofs.Common.{◌≡◌, ℕ, zero, suc, ◌+◌, ◌<◌, Bool, true, false, List, [], ◌∷◌, length, get_or, take, drop, Some, None, Option, sym, refl, ap, ◌∙◌, subst, arith}
use Rattle.std.specs.List.{AllZip}
use Rattle.gates.specs.declared.Mark.{Mark}
use Rattle.gates.specs.declared.Mark.TheVariants.{Zero, One, Unknown}
use Rattle.gates.specs.Marks.{settled, lub, extended}
use Rattle.gates.specs.Kinds.{Kind}
use Rattle.gates.proofs.Folds.{extended_zero, extended_one, extended_unknown}
use Rattle.circuit.specs.declared.Signal.{Signal}
use Rattle.circuit.specs.declared.Signal.TheVariants as signal
use Rattle.circuit.specs.declared.Source.{Source}
use Rattle.circuit.specs.Circuits.{Circuit, excitation, source_value, no_gate, gate_function}
use Rattle.circuit.specs.Passes.{Below}

pub below_refl : (m : Mark) → Below m m
below_refl Zero = refl
below_refl One = refl
below_refl Unknown = tt

below_lub : (a b m n : Mark) → Below a m → Below b n → Below (lub a b) (lub m n)
below_lub a b Zero Zero p q = ap (λ x. lub x b) p ∙ ap (lub Zero) q
below_lub a b One One p q = ap (λ x. lub x b) p ∙ ap (lub One) q
below_lub a b Zero One p q = tt
below_lub a b One Zero p q = tt
below_lub a b Zero Unknown p q = tt
below_lub a b One Unknown p q = tt
below_lub a b Unknown n p q = tt

below_left : (a m n : Mark) → Below a m → Below a (lub m n)
below_left a Zero Zero p = p
below_left a One One p = p
below_left a Zero One p = tt
below_left a One Zero p = tt
below_left a Zero Unknown p = tt
below_left a One Unknown p = tt
below_left a Unknown n p = tt

below_right : (a m n : Mark) → Below a n → Below a (lub m n)
below_right a Zero Zero p = p
below_right a One One p = p
below_right a Zero One p = tt
below_right a One Zero p = tt
below_right a Zero Unknown p = tt
below_right a One Unknown p = tt
below_right a Unknown n p = tt

below_both : (a b m n : Mark) → a ≡ b → m ≡ n → Below b n → Below a m
below_both a b m n p q h = subst (λ x. Below x m) (sym p) (subst (Below b) (sym q) h)

-- the exact extension keeps the order
pub extended_below : (f : List Bool → Bool) (as' ms : List Mark) → AllZip Below as' ms → Below (extended f as') (extended f ms)
extended_below f [] [] h = below_refl (extended f [])
extended_below f [] (m ∷ ms) h = absurd h
extended_below f (a ∷ as') [] h = absurd h
extended_below f (a ∷ as') (Zero ∷ ms) h =
    below_both _ _ _ _ (ap (λ x. extended f (x ∷ as')) h.0 ∙ extended_zero f as') (extended_zero f ms) (extended_below (λ bs. f (false ∷ bs)) as' ms h.1)
extended_below f (a ∷ as') (One ∷ ms) h =
    below_both _ _ _ _ (ap (λ x. extended f (x ∷ as')) h.0 ∙ extended_one f as') (extended_one f ms) (extended_below (λ bs. f (true ∷ bs)) as' ms h.1)
extended_below f (Zero ∷ as') (Unknown ∷ ms) h =
    below_both _ _ _ _ (extended_zero f as') (extended_unknown f ms) (below_left _ _ _ (extended_below (λ bs. f (false ∷ bs)) as' ms h.1))
extended_below f (One ∷ as') (Unknown ∷ ms) h =
    below_both _ _ _ _ (extended_one f as') (extended_unknown f ms) (below_right _ _ _ (extended_below (λ bs. f (true ∷ bs)) as' ms h.1))
extended_below f (Unknown ∷ as') (Unknown ∷ ms) h =
    below_both _ _ _ _ (extended_unknown f as') (extended_unknown f ms)
    (below_lub _ _ _ _ (extended_below (λ bs. f (false ∷ bs)) as' ms h.1) (extended_below (λ bs. f (true ∷ bs)) as' ms h.1))

module _ {X : Type 0} (R : X → X → Type 0) where
  pub each_take : (n : ℕ) (xs ys : List X) → AllZip R xs ys → AllZip R (take n xs) (take n ys)
  each_take zero xs ys h = tt
  each_take (suc n) [] [] h = tt
  each_take (suc n) [] (y ∷ ys) h = absurd h
  each_take (suc n) (x ∷ xs) [] h = absurd h
  each_take (suc n) (x ∷ xs) (y ∷ ys) h = (h.0, each_take n xs ys h.1)

  pub each_drop : (n : ℕ) (xs ys : List X) → AllZip R xs ys → AllZip R (drop n xs) (drop n ys)
  each_drop zero xs ys h = h
  each_drop (suc n) [] [] h = tt
  each_drop (suc n) [] (y ∷ ys) h = absurd h
  each_drop (suc n) (x ∷ xs) [] h = absurd h
  each_drop (suc n) (x ∷ xs) (y ∷ ys) h = each_drop n xs ys h.1

  pub each_getD : (d : X) → R d d → (xs ys : List X) (k : ℕ) → AllZip R xs ys → R (get_or xs k d) (get_or ys k d)
  each_getD d r [] [] k h = r
  each_getD d r [] (y ∷ ys) k h = absurd h
  each_getD d r (x ∷ xs) [] k h = absurd h
  each_getD d r (x ∷ xs) (y ∷ ys) zero h = h.0
  each_getD d r (x ∷ xs) (y ∷ ys) (suc k) h = each_getD d r xs ys k h.1

  pub each_from : (d : X) (xs ys : List X) → length xs ≡ length ys → ((k : ℕ) → k < length xs → R (get_or xs k d) (get_or ys k d)) → AllZip R xs ys
  each_from d [] [] l h = tt
  each_from d [] (y ∷ ys) l h = absurd (omega arith)
  each_from d (x ∷ xs) [] l h = absurd (omega arith)
  each_from d (x ∷ xs) (y ∷ ys) l h = (h 0 (omega arith), each_from d xs ys (omega arith) (λ k low. h (suc k) (omega arith)))

-- excitations keep the order
module _ (ks : List Kind) (c : Circuit) (as' ms : List Mark) (h : AllZip Below as' ms) where
  wire_below : (o : Option Source) → Below (source_value settled extended ks c o as') (source_value settled extended ks c o ms)
  wire_below None = refl
  wire_below (Some s) = each_getD Below (settled false) refl as' ms _ h

  pub excitation_below : (s : Signal) → Below (excitation settled extended ks c as' s) (excitation settled extended ks c ms s)
  excitation_below (signal.Input i) = below_refl _
  excitation_below (signal.Gate g) =
      let gate = get_or c.gates g no_gate in
      let from : ℕ = length c.applied + length c.gates + gate.first in
      extended_below (gate_function ks gate.kind) (take gate.pins (drop from as')) (take gate.pins (drop from ms))
      (each_take Below gate.pins (drop from as') (drop from ms) (each_drop Below from as' ms h))
  excitation_below (signal.Wire w) = wire_below _
