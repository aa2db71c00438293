-- The kinds of the plain gates, by number.
use Rattle.std.proofs.Common.{◌≡◌, ℕ, zero, suc, ◌+◌, ◌-◌, ◌*◌, ◌≤◌, Bool, List, Some, refl, arith}
use Rattle.std.specs.List.{slice_get}
use Rattle.plain_gates.specs.Plain.{and_of, or_of, xor_of, gate, plain, PlainNumbered}

-- what holds of 1 to 8
one_to_eight : (P : ℕ → Type 0) → P 1 → P 2 → P 3 → P 4 → P 5 → P 6 → P 7 → P 8 → (p : ℕ) → 1 ≤ p → p ≤ 8 → P p
one_to_eight P a b c d e f g h zero low high = absurd (omega arith)
one_to_eight P a b c d e f g h (suc zero) low high = a
one_to_eight P a b c d e f g h (suc (suc zero)) low high = b
one_to_eight P a b c d e f g h (suc (suc (suc zero))) low high = c
one_to_eight P a b c d e f g h (suc (suc (suc (suc zero)))) low high = d
one_to_eight P a b c d e f g h (suc (suc (suc (suc (suc zero))))) low high = e
one_to_eight P a b c d e f g h (suc (suc (suc (suc (suc (suc zero)))))) low high = f
one_to_eight P a b c d e f g h (suc (suc (suc (suc (suc (suc (suc zero))))))) low high = g
one_to_eight P a b c d e f g h (suc (suc (suc (suc (suc (suc (suc (suc zero)))))))) low high = h
one_to_eight P a b c d e f g h (suc (suc (suc (suc (suc (suc (suc (suc (suc p))))))))) low high = absurd (omega arith)

-- family f begins at kind 8f
abbrev Family : ℕ → (List Bool → Bool) → ℕ → Type 0
Family f function p = slice_get plain (8 * f + p - 1) ≡ Some (gate p function)

pub plain_numbered : PlainNumbered
unfolding plain
plain_numbered = record {
  count = refl;
  ands = one_to_eight (Family 0 and_of) refl refl refl refl refl refl refl refl;
  ors = one_to_eight (Family 1 or_of) refl refl refl refl refl refl refl refl;
  xors = one_to_eight (Family 2 xor_of) refl refl refl refl refl refl refl refl;
  majority = refl;
}
