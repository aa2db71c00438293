-- The exact extension of a function that goes by the number of ones.
use Rattle.std.proofs.Common.{◌≡◌, ℕ, zero, suc, ◌+◌, Bool, List, [], ◌∷◌, length, sym, refl, ap, ◌∙◌, add-zero, zero-add, arith}
use Rattle.std.specs.List.{fold, range_with_len}
use Rattle.gates.specs.declared.Mark.{Mark}
use Rattle.gates.specs.declared.Mark.TheVariants.{Zero, One, Unknown}
use Rattle.gates.specs.Marks.{settled, lub, extended}
use Rattle.gates.proofs.Folds.{extended_zero, extended_one, extended_unknown, extended_same}
use Rattle.plain_gates.specs.declared.rules.Rule.{Rule}
use Rattle.plain_gates.specs.Plain.{ones_in}
use Rattle.plain_gates.specs.Rules.{function_of, output_at, sure_ones, unknowns}
use Rattle.plain_gates.proofs.Counted.{counted}

-- the least upper bound of the outputs at low, low + 1, .., low + n ones
abbrev pub spread : (ℕ → Bool) → ℕ → ℕ → Mark
spread out low zero = settled (out low)
spread out low (suc n) = lub (spread out low n) (settled (out (low + n + 1)))

-- the same, as a fold that has gone over k of the numbers
spread_from : (out : ℕ → Bool) (low k n : ℕ) → fold (λ m ones. lub m (settled (out ones))) (spread out low k) (range_with_len (low + k + 1) n) ≡ spread out low (k + n)
spread_from out low k zero = ap (spread out low) (sym (add-zero k))
spread_from out low k (suc n) =
    let behind : low + k + 1 + 1 ≡ low + suc k + 1 = omega arith in
    let all : suc k + n ≡ k + suc n = omega arith in
    ap (λ a. fold (λ m ones. lub m (settled (out ones))) (spread out low (suc k)) (range_with_len a n)) behind
    ∙ spread_from out low (suc k) n
    ∙ ap (spread out low) all

pub spread_folded : (out : ℕ → Bool) (low n : ℕ) → fold (λ m ones. lub m (settled (out ones))) (settled (out low)) (range_with_len (low + 1) n) ≡ spread out low n
spread_folded out low n =
    let start : low + 1 ≡ low + 0 + 1 = omega arith in
    ap (λ a. fold (λ m ones. lub m (settled (out ones))) (settled (out low)) (range_with_len a n)) start
    ∙ spread_from out low 0 n ∙ ap (spread out low) (zero-add n)

lub_twice : (a x y : Mark) → lub (lub a x) (lub x y) ≡ lub (lub a x) y
lub_twice Unknown x y = refl
lub_twice Zero Unknown y = refl
lub_twice One Unknown y = refl
lub_twice Zero One y = refl
lub_twice One Zero y = refl
lub_twice Zero Zero Zero = refl
lub_twice Zero Zero One = refl
lub_twice Zero Zero Unknown = refl
lub_twice One One Zero = refl
lub_twice One One One = refl
lub_twice One One Unknown = refl

-- one unknown pin more
spread_more : (out : ℕ → Bool) (low n : ℕ) → lub (spread out low n) (spread out (suc low) n) ≡ spread out low (suc n)
spread_more out low zero = ap (λ k. lub (settled (out low)) (settled (out k))) (omega arith)
spread_more out low (suc n) =
    let below = spread_more out low n in
    let above = spread out (suc low) n in
    let top = settled (out (suc low + n + 1)) in
    let same : suc low + n + 1 ≡ low + suc n + 1 = omega arith in
    ap (λ m. lub m (lub above top)) (sym below)
    ∙ lub_twice (spread out low n) above top
    ∙ ap (λ m. lub m top) below
    ∙ ap (λ k. lub (spread out low (suc n)) (settled (out k))) same

-- one sure pin more
spread_up : (out : ℕ → Bool) (low n : ℕ) → spread (λ k. out (suc k)) low n ≡ spread out (suc low) n
spread_up out low zero = refl
spread_up out low (suc n) =
    let same : suc (low + n + 1) ≡ suc low + n + 1 = omega arith in
    ap (λ m. lub m (settled (out (suc (low + n + 1))))) (spread_up out low n)
    ∙ ap (λ k. lub (spread out (suc low) n) (settled (out k))) same

-- out takes the number of ones and the number of pins
spread_extended : (out : ℕ → ℕ → Bool) (ms : List Mark) → extended (λ bits. out (ones_in bits) (length bits)) ms ≡ spread (λ k. out k (length ms)) (sure_ones ms) (unknowns ms)
spread_extended out [] = refl
spread_extended out (Zero ∷ ms) =
    extended_zero (λ bits. out (ones_in bits) (length bits)) ms ∙ spread_extended (λ k pins. out k (suc pins)) ms
spread_extended out (One ∷ ms) =
    extended_one (λ bits. out (ones_in bits) (length bits)) ms
    ∙ spread_extended (λ k pins. out (suc k) (suc pins)) ms
    ∙ spread_up (λ k. out k (suc (length ms))) (sure_ones ms) (unknowns ms)
spread_extended out (Unknown ∷ ms) =
    let low = spread (λ k. out k (suc (length ms))) (sure_ones ms) (unknowns ms) in
    extended_unknown (λ bits. out (ones_in bits) (length bits)) ms
    ∙ ap (λ m. lub m (extended (λ bits. out (suc (ones_in bits)) (suc (length bits))) ms)) (spread_extended (λ k pins. out k (suc pins)) ms)
    ∙ ap (λ m. lub low m) (spread_extended (λ k pins. out (suc k) (suc pins)) ms ∙ spread_up (λ k. out k (suc (length ms))) (sure_ones ms) (unknowns ms))
    ∙ spread_more (λ k. out k (suc (length ms))) (sure_ones ms) (unknowns ms)

pub extended_rule : (rule : Rule) (ms : List Mark) → extended (function_of rule) ms ≡ spread (λ k. output_at rule k (length ms)) (sure_ones ms) (unknowns ms)
extended_rule rule ms = extended_same (function_of rule) _ ms (λ bits l. counted rule bits) ∙ spread_extended (output_at rule) ms
