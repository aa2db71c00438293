-- The exact extension of a cell, from a pin on.
use Rattle.std.proofs.Common.{◌≡◌, ℕ, ◌+◌, ◌*◌, ◌<◌, Bool, true, false, List, ◌∷◌, length, get_or, sym, ap, ◌∙◌, mul_assoc, mul-add, arith}
use Rattle.std.specs.List.{between}
use Rattle.std.proofs.lemmas.Slice.{first_rest}
use Rattle.gates.specs.declared.Mark.{Mark}
use Rattle.gates.specs.declared.Mark.TheVariants.{Zero, One, Unknown}
use Rattle.gates.specs.Marks.{extended, lub}
use Rattle.gates.proofs.Folds.{extended_zero, extended_one, extended_unknown, extended_same}
use Rattle.table_cells.specs.Cells.{index_of, bit_at, output_by}

abbrev rest : List Mark → List Mark
rest marks = between 1 (length marks) marks

low_index : (i w n : ℕ) → i + w * (2 * n) ≡ i + 2 * w * n
low_index i w n = omega (arith, mul_assoc w 2 n, mul_assoc 2 w n)

high_index : (i w n : ℕ) → i + w * (1 + 2 * n) ≡ i + w + 2 * w * n
high_index i w n = omega (arith, mul-add w 1 (2 * n), mul_assoc w 2 n, mul_assoc 2 w n)

-- the output at the bits of the pins from one on, which counts w, where the pins before it gave i
abbrev from : ℕ → ℕ → ℕ → List Bool → Bool
from truth i w bits = bit_at truth (i + w * index_of bits)

module _ (truth i w : ℕ) (marks : List Mark) (some : 0 < length marks) where
  first_is : (m : Mark) → get_or marks 0 Zero ≡ m → extended (from truth i w) marks ≡ extended (from truth i w) (m ∷ rest marks)
  first_is m is = ap (extended (from truth i w)) (first_rest marks Zero some ∙ ap (λ x. x ∷ rest marks) is)

  low : extended (λ bits. from truth i w (false ∷ bits)) (rest marks) ≡ extended (from truth i (2 * w)) (rest marks)
  low = extended_same _ _ (rest marks) (λ bits l. ap (bit_at truth) (low_index i w (index_of bits)))

  high : extended (λ bits. from truth i w (true ∷ bits)) (rest marks) ≡ extended (from truth (i + w) (2 * w)) (rest marks)
  high = extended_same _ _ (rest marks) (λ bits l. ap (bit_at truth) (high_index i w (index_of bits)))

  -- with what the rest of the marks gave
  pub spread_zero : (l : Mark) → l ≡ extended (from truth i (2 * w)) (rest marks) → get_or marks 0 Zero ≡ Zero → l ≡ extended (from truth i w) marks
  spread_zero l e is = e ∙ sym (first_is Zero is ∙ extended_zero (from truth i w) (rest marks) ∙ low)

  pub spread_one : (h : Mark) → h ≡ extended (from truth (i + w) (2 * w)) (rest marks) → get_or marks 0 Zero ≡ One → h ≡ extended (from truth i w) marks
  spread_one h e is = e ∙ sym (first_is One is ∙ extended_one (from truth i w) (rest marks) ∙ high)

  pub spread-unknown :
      (l h : Mark) → l ≡ extended (from truth i (2 * w)) (rest marks) → h ≡ extended (from truth (i + w) (2 * w)) (rest marks)
      → get_or marks 0 Zero ≡ Unknown → lub l h ≡ extended (from truth i w) marks
  spread-unknown l h e f is =
      ap (λ m. lub m h) (e ∙ sym low) ∙ ap (lub _) (f ∙ sym high)
      ∙ sym (first_is Unknown is ∙ extended_unknown (from truth i w) (rest marks))

-- from the first pin on
pub spread_all : (truth : ℕ) (marks : List Mark) → extended (from truth 0 1) marks ≡ extended (output_by truth) marks
spread_all truth marks = extended_same _ _ marks (λ bits l. ap (bit_at truth) (one (index_of bits)))
  where
    one : (n : ℕ) → 0 + 1 * n ≡ n
    one n = omega arith
