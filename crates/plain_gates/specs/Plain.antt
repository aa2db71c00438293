-- The plain gates, by number: AND, OR and XOR of 1 to 8 pins, and the majority of three.
use Rattle.std.specs.Prelude.{◌≡◌, ℕ, suc, ◌+◌, ◌-◌, ◌*◌, ◌%◌, ◌≤◌, Bool, true, false, ◌&&◌, ◌||◌, List, [], ◌∷◌, ◌++◌, map, length, Some, ◌==◌, nat_lt}
use Rattle.std.specs.List.{slice_get}
use Rattle.gates.specs.Kinds.{Kind}

-- the number of ones
abbrev pub ones_in : List Bool → ℕ
ones_in [] = 0
ones_in (true ∷ bits) = suc (ones_in bits)
ones_in (false ∷ bits) = ones_in bits

abbrev pub and_of : List Bool → Bool
and_of [] = true
and_of (bit ∷ bits) = bit && and_of bits

abbrev pub or_of : List Bool → Bool
or_of [] = false
or_of (bit ∷ bits) = bit || or_of bits

-- an odd number of ones
abbrev pub xor_of : List Bool → Bool
xor_of bits = ones_in bits % 2 == 1

-- more ones than zeros
abbrev pub majority_of : List Bool → Bool
majority_of bits = nat_lt (length bits) (2 * ones_in bits)

abbrev pub gate : ℕ → (List Bool → Bool) → Kind
gate p f = record { pins = p; output = f }

-- a function at 1 to 8 pins
abbrev pub family : (List Bool → Bool) → List Kind
family f = map (λ p. gate p f) (1 ∷ 2 ∷ 3 ∷ 4 ∷ 5 ∷ 6 ∷ 7 ∷ 8 ∷ [])

unfoldable pub plain : List Kind
plain = family and_of ++ (family or_of ++ (family xor_of ++ gate 3 majority_of ∷ []))

-- there are 25 kinds; kind 8f + p - 1 has p pins and is AND for f = 0, OR for f = 1, XOR for f = 2; kind 24 is the majority of three
pub record PlainNumbered : Type 0 where
  pub count : length plain ≡ 25
  pub ands : (p : ℕ) → 1 ≤ p → p ≤ 8 → slice_get plain (8 * 0 + p - 1) ≡ Some (gate p and_of)
  pub ors : (p : ℕ) → 1 ≤ p → p ≤ 8 → slice_get plain (8 * 1 + p - 1) ≡ Some (gate p or_of)
  pub xors : (p : ℕ) → 1 ≤ p → p ≤ 8 → slice_get plain (8 * 2 + p - 1) ≡ Some (gate p xor_of)
  pub majority : slice_get plain 24 ≡ Some (gate 3 majority_of)
