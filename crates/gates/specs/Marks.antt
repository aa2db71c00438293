-- Marks, what they cover, and the exact extension of a Boolean function to marks.
use Rattle.std.specs.Prelude.{◌≡◌, ℕ, Bool, true, false, not, ◌↔◌, List, [], ◌∷◌, ◌++◌, map}
use Rattle.gates.specs.declared.Mark.{Mark}
use Rattle.gates.specs.declared.Mark.TheVariants.{Zero, One, Unknown}

-- the settled mark of a value
abbrev pub settled : Bool → Mark
settled false = Zero
settled true = One

-- the code of a mark
abbrev pub mark_code : Mark → ℕ
mark_code Zero = 0
mark_code One = 1
mark_code Unknown = 2

-- how a mark is written: `0`, `1` or `?`
abbrev pub mark_symbol : Mark → ℕ
mark_symbol Zero = 48
mark_symbol One = 49
mark_symbol Unknown = 63

-- a settled mark covers its value, an unknown mark both
abbrev pub covers : Mark → Bool → Bool
covers Zero v = not v
covers One v = v
covers Unknown v = true

-- the least upper bound: of equal marks that mark, of others unknown
abbrev pub lub : Mark → Mark → Mark
lub Zero Zero = Zero
lub Zero One = Unknown
lub Zero Unknown = Unknown
lub One Zero = Unknown
lub One One = One
lub One Unknown = Unknown
lub Unknown n = Unknown

abbrev pub complemented : Mark → Mark
complemented Zero = One
complemented One = Zero
complemented Unknown = Unknown

-- the bit lists that a list of marks covers
abbrev pub covered : List Mark → List (List Bool)
covered [] = [] ∷ []
covered (Zero ∷ ms) = map (λ bits. false ∷ bits) (covered ms)
covered (One ∷ ms) = map (λ bits. true ∷ bits) (covered ms)
covered (Unknown ∷ ms) = map (λ bits. false ∷ bits) (covered ms) ++ map (λ bits. true ∷ bits) (covered ms)

-- the least upper bound of a mark and of values
abbrev pub lub_all : Mark → List Bool → Mark
lub_all m [] = m
lub_all m (v ∷ vs) = lub_all (lub m (settled v)) vs

-- the least upper bound of at least one value
abbrev pub least : List Bool → Mark
least [] = Unknown
least (v ∷ vs) = lub_all (settled v) vs

-- the exact extension of a Boolean function: the least upper bound of its values over all covered bit lists
abbrev pub extended : (List Bool → Bool) → List Mark → Mark
extended f ms = least (map f (covered ms))

-- each mark covers the bit at its place
abbrev pub Covered : List Mark → List Bool → Type 0
Covered [] [] = Unit {0}
Covered [] (v ∷ vs) = ⊥
Covered (m ∷ ms) [] = ⊥
Covered (m ∷ ms) (v ∷ vs) = (covers m v ≡ true) × Covered ms vs

-- the exact extension covers a value exactly if the function takes it on bits that the marks cover
abbrev pub ExtensionExact : Type 0
ExtensionExact =
    (f : List Bool → Bool) (ms : List Mark) (v : Bool)
    → (covers (extended f ms) v ≡ true) ↔ ((bits : List Bool) × Covered ms bits × (f bits ≡ v))
