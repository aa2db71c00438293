-- Laws of the exact extension.
use Rattle.std.proofs.Common.{◌≡◌, Bool, true, false, not, List, [], ◌∷◌, map, refl, ap, ◌∙◌}
use Rattle.gates.specs.declared.Mark.{Mark}
use Rattle.gates.specs.declared.Mark.TheVariants.{Zero, One, Unknown}
use Rattle.gates.specs.Marks.{settled, lub, covered, lub_all, least, extended, complemented}

complemented_settled : (b : Bool) → settled (not b) ≡ complemented (settled b)
complemented_settled true = refl
complemented_settled false = refl

complemented_lub : (m : Mark) (b : Bool) → lub (complemented m) (settled (not b)) ≡ complemented (lub m (settled b))
complemented_lub Zero true = refl
complemented_lub Zero false = refl
complemented_lub One true = refl
complemented_lub One false = refl
complemented_lub Unknown b = refl

module _ {X : Type 0} (f : X → Bool) where
  complemented_all : (m : Mark) (xs : List X) → lub_all (complemented m) (map (λ x. not (f x)) xs) ≡ complemented (lub_all m (map f xs))
  complemented_all m [] = refl
  complemented_all m (x ∷ xs) = ap (λ n. lub_all n (map (λ y. not (f y)) xs)) (complemented_lub m (f x)) ∙ complemented_all (lub m (settled (f x))) xs

  complemented_least : (xs : List X) → least (map (λ x. not (f x)) xs) ≡ complemented (least (map f xs))
  complemented_least [] = refl
  complemented_least (x ∷ xs) = ap (λ n. lub_all n (map (λ y. not (f y)) xs)) (complemented_settled (f x)) ∙ complemented_all (settled (f x)) xs

-- the extension of the complement is the complement of the extension
pub extended_not : (f : List Bool → Bool) (ms : List Mark) → extended (λ bs. not (f bs)) ms ≡ complemented (extended f ms)
extended_not f ms = complemented_least f (covered ms)
