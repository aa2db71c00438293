-- What is written into a page, and how long it is.
use Rattle.std.proofs.Common.{◌≡◌, ℕ, zero, suc, ◌+◌, ◌*◌, ◌/◌, ◌%◌, ◌^◌, ◌<◌, ◌≤◌, List, [], ◌∷◌, ◌++◌, length, get_or, take, drop, set, decimal, sym, refl, ap, ap₂, ◌∙◌, append_assoc, length-append, arith, lit<}
use borrow.Rule.Slice.PartMut.{put_mid}
use Rattle.std.proofs.lemmas.List.{length_push, take_at, drop_at, drop-drop, nil_from_length}
use Rattle.std.proofs.lemmas.Fmt.{decimal_digit, decimal_step}
use Rattle.gates.specs.declared.Mark.{Mark}
use Rattle.gates.specs.Marks.{mark_symbol}
use Rattle.sheet.specs.Sheets.{lines}
use Rattle.sheet.specs.Writing.{overwritten}

-- a part written behind what stands already
pub placed : (old page so more : List ℕ) (at k : ℕ) → page ≡ so ++ drop at old → length so ≡ at → put_mid at k page more ≡ (so ++ more) ++ drop (at + k) old
placed old page so more at k e l =
    ap (λ p. put_mid at k p more) e
    ∙ ap₂ (λ x y. x ++ (more ++ y)) (take_at so (drop at old) at l) (ap (drop k) (drop_at so (drop at old) at l) ∙ drop-drop k at old)
    ∙ sym (append_assoc so more (drop (at + k) old))

-- three parts one after another: how long they are, and what they leave at the start of a buffer
pub three_long : (a b c a' b' c' : List ℕ) (i j k : ℕ) → a ≡ a' → b ≡ b' → c ≡ c' → i ≡ length a → j ≡ length b → k ≡ length c → i + j + k ≡ length (a' ++ (b' ++ c'))
three_long a b c a' b' c' i j k p q r l m n =
    let pa = ap length p in
    let qb = ap length q in
    let rc = ap length r in
    omega (arith, length-append a' (b' ++ c'), length-append b' c')

pub three_written : (old rest behind a b c a' b' c' : List ℕ) (i j k : ℕ) → a ≡ a' → b ≡ b' → c ≡ c' → i ≡ length a → j ≡ length b → k ≡ length c → rest ≡ drop i old → behind ≡ drop j rest → a ++ (b ++ (c ++ drop k behind)) ≡ overwritten (a' ++ (b' ++ c')) old
three_written old rest behind a b c a' b' c' i j k p q r l m n e f =
    let all = a' ++ (b' ++ c') in
    let far = three_long a b c a' b' c' i j k p q r l m n in
    let left : drop k behind ≡ drop (length all) old = ap (drop k) (f ∙ ap (drop j) e ∙ drop-drop j i old) ∙ drop-drop k (i + j) old ∙ ap (λ x. drop x old) far in
    ap₂ (λ x y. x ++ y) p (ap₂ (λ x y. x ++ y) q (ap₂ (λ x y. x ++ y) r left))
    ∙ sym (append_assoc a' (b' ++ c') (drop (length all) old) ∙ ap (λ x. a' ++ x) (append_assoc b' c' (drop (length all) old)))

pub last_set : (page : List ℕ) (at d : ℕ) → length page ≡ at + 1 → drop at (set page at d) ≡ d ∷ []
last_set [] at d h = absurd (omega arith)
last_set (x ∷ page) zero d h = ap (λ l. d ∷ l) (nil_from_length page (omega arith))
last_set (x ∷ page) (suc at) d h = last_set page at d (omega arith)

pub lines_more : (fs ss : List Mark) (i : ℕ) (d e : Mark) → i < length fs → i < length ss → lines (take (i + 1) fs) (take (i + 1) ss) ≡ lines (take i fs) (take i ss) ++ mark_symbol (get_or fs i d) ∷ mark_symbol (get_or ss i e) ∷ 10 ∷ []
lines_more [] ss i d e h k = absurd (omega arith)
lines_more (f ∷ fs) [] i d e h k = absurd (omega arith)
lines_more (f ∷ fs) (s ∷ ss) zero d e h k = refl
lines_more (f ∷ fs) (s ∷ ss) (suc i) d e h k =
    let next : suc i + 1 ≡ suc (i + 1) = omega arith in
    ap (λ n. lines (take n (f ∷ fs)) (take n (s ∷ ss))) next
    ∙ ap (λ l. mark_symbol f ∷ mark_symbol s ∷ 10 ∷ l) (lines_more fs ss i d e (omega arith) (omega arith))

pub length-lines : (fs ss : List Mark) → length fs ≡ length ss → length (lines fs ss) ≡ 3 * length fs
length-lines [] ss h = refl
length-lines (f ∷ fs) [] h = absurd (omega arith)
length-lines (f ∷ fs) (s ∷ ss) h = let l = length-lines fs ss (omega arith) in omega arith

-- how many digits a number has
pub digits_one : (n : ℕ) → n < 10 → length (decimal n) ≡ 1
digits_one n h = ap length (decimal_digit n h)

ten_power : (k : ℕ) → 0 < 10 ^ k
ten_power zero = lit< tt
ten_power (suc k) = omega (arith, ten_power k)

pub digits_by_power : (k n : ℕ) → n < 2 ^ 64 → 10 ^ k ≤ n → n < 10 * 10 ^ k → length (decimal n) ≡ k + 1
digits_by_power zero n wide low high = digits_one n high
digits_by_power (suc k) n wide low high =
    let less = digits_by_power k (n / 10) (omega arith) (omega arith) (omega arith) in
    let more = ap length (decimal_step n (omega (arith, ten_power k)) wide) ∙ length_push (decimal (n / 10)) (48 + n % 10) in
    omega arith

pub digits_two : (n : ℕ) → 10 ≤ n → n < 100 → length (decimal n) ≡ 2
digits_two n low high = digits_by_power 1 n (omega arith) low high

pub digits_three : (n : ℕ) → 100 ≤ n → n < 1000 → length (decimal n) ≡ 3
digits_three n low high = digits_by_power 2 n (omega arith) low high
