-- A table that is blank from an entry on.
use Rattle.std.proofs.Common.{◌≡◌, ℕ, ◌-◌, List, [], ◌∷◌, ◌++◌, length, take, drop, replicate, min, sym, ap, ◌∙◌, ⊎_elim, arith, length-drop, refl}
use Rattle.std.specs.List.{FoldsTo}
use Rattle.std.proofs.lemmas.List.{append-nil, drop_all, take_all}
use Rattle.std.proofs.lemmas.Bool.{cases_lt}
use borrow.Rule.Slice.PartMut.{put_mid}

-- calls that each give y, and leave what they are called on as it was
pub all_one : {P X : Type 0} (R : P → X → P → Type 0) (f : P) (xs : List X) (last : P) (y : X) → FoldsTo R f xs last → ((x : X) (q : P) → R f x q → (q ≡ f) × (x ≡ y)) → xs ≡ replicate (length xs) y
all_one R f [] last y folds each = refl
all_one R f (x ∷ xs) last y folds each =
    let here = each x folds.0 folds.1 in
    let rest = folds.2 in
    ap (λ t. t ∷ xs) here.1 ∙ ap (λ t. y ∷ t) (all_one R f xs last y (rw here.0 at rest) each)

pub filled_from : {X : Type 0} (xs ys : List X) (from start : ℕ) (y : X) → start ≡ min from (length xs) → length ys ≡ length xs - start → ys ≡ replicate (length ys) y → put_mid start (length xs - start) xs ys ≡ take from xs ++ replicate (length xs - from) y
filled_from xs ys from start y s long blank =
    let none : drop (length xs - start) (drop start xs) ≡ [] = drop_all (length xs - start) (drop start xs) (omega (arith, length-drop start xs)) in
    let front : take start xs ≡ take from xs = ⊎_elim
    (λ h. ap (λ n. take n xs) (let same : start ≡ from = omega arith in same))
    (λ h. take_all start xs (omega arith) ∙ sym (take_all from xs (omega arith)))
    (cases_lt from (length xs)) in
    let many : length ys ≡ length xs - from = omega arith in
    ap (λ t. take start xs ++ (ys ++ t)) none
    ∙ ap (λ t. take start xs ++ t) (append-nil ys ∙ blank ∙ ap (λ n. replicate n y) many)
    ∙ ap (λ t. t ++ replicate (length xs - from) y) front
