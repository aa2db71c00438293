-- The exact extension covers just the values that the function takes.
use Rattle.std.proofs.Common.{◌≡◌, Bool, true, false, ◌||◌, List, [], ◌∷◌, sym, refl, ap, ◌∙◌, subst, ⊎_elim}
use mathlib.Core.Bool.{false≢true}
use Rattle.std.proofs.lemmas.Bool.{or_cases, or_left, or_right}
use Rattle.gates.specs.declared.Mark.{Mark}
use Rattle.gates.specs.declared.Mark.TheVariants.{Zero, One, Unknown}
use Rattle.gates.specs.Marks.{settled, covers, lub, extended, Covered, ExtensionExact}
use Rattle.gates.proofs.Folds.{extended_zero, extended_one, extended_unknown}

-- a least upper bound of values covers what either covers
pub covers_settled : (a v : Bool) → covers (settled a) v ≡ true → a ≡ v
covers_settled true true e = refl
covers_settled true false e = absurd (false≢true e)
covers_settled false true e = absurd (false≢true e)
covers_settled false false e = refl

pub covers_itself : (v : Bool) → covers (settled v) v ≡ true
covers_itself true = refl
covers_itself false = refl

pub covers_lub : (m n : Mark) (v : Bool) → covers (lub m n) v ≡ covers m v || covers n v
covers_lub Zero Zero true = refl
covers_lub Zero Zero false = refl
covers_lub Zero One true = refl
covers_lub Zero One false = refl
covers_lub Zero Unknown true = refl
covers_lub Zero Unknown false = refl
covers_lub One Zero true = refl
covers_lub One Zero false = refl
covers_lub One One true = refl
covers_lub One One false = refl
covers_lub One Unknown true = refl
covers_lub One Unknown false = refl
covers_lub Unknown n v = refl

-- f takes the value v on bits that the marks cover
abbrev Takes : (List Bool → Bool) → List Mark → Bool → Type 0
Takes f ms v = (bits : List Bool) × Covered ms bits × (f bits ≡ v)

covers_of : (m n : Mark) (v : Bool) → m ≡ n → covers n v ≡ true → covers m v ≡ true
covers_of m n v e c = ap (λ k. covers k v) e ∙ c

pub taken : (f : List Bool → Bool) (ms : List Mark) (v : Bool) → covers (extended f ms) v ≡ true → Takes f ms v
taken f [] v c = ([], tt, covers_settled (f []) v c)
taken f (Zero ∷ ms) v c =
    let t = taken (λ bits. f (false ∷ bits)) ms v (covers_of _ _ v (sym (extended_zero f ms)) c) in
    (false ∷ t.0, (refl, t.1), t.2)
taken f (One ∷ ms) v c =
    let t = taken (λ bits. f (true ∷ bits)) ms v (covers_of _ _ v (sym (extended_one f ms)) c) in
    (true ∷ t.0, (refl, t.1), t.2)
taken f (Unknown ∷ ms) v c =
    let low = extended (λ bits. f (false ∷ bits)) ms in
    let high = extended (λ bits. f (true ∷ bits)) ms in
    ⊎_elim
    (λ (l : covers low v ≡ true). let t = taken (λ bits. f (false ∷ bits)) ms v l in (false ∷ t.0, (refl, t.1), t.2))
    (λ (h : covers high v ≡ true). let t = taken (λ bits. f (true ∷ bits)) ms v h in (true ∷ t.0, (refl, t.1), t.2))
    (or_cases (covers low v) (covers high v) (sym (covers_lub low high v) ∙ covers_of _ _ v (sym (extended_unknown f ms)) c))

pub covers_taken : (f : List Bool → Bool) (ms : List Mark) (bits : List Bool) → Covered ms bits → covers (extended f ms) (f bits) ≡ true
covers_taken f [] [] h = covers_itself (f [])
covers_taken f [] (v ∷ vs) h = absurd h
covers_taken f (m ∷ ms) [] h = absurd h
covers_taken f (Zero ∷ ms) (true ∷ vs) h = absurd (false≢true h.0)
covers_taken f (Zero ∷ ms) (false ∷ vs) h = covers_of _ _ (f (false ∷ vs)) (extended_zero f ms) (covers_taken (λ bits. f (false ∷ bits)) ms vs h.1)
covers_taken f (One ∷ ms) (true ∷ vs) h = covers_of _ _ (f (true ∷ vs)) (extended_one f ms) (covers_taken (λ bits. f (true ∷ bits)) ms vs h.1)
covers_taken f (One ∷ ms) (false ∷ vs) h = absurd (false≢true h.0)
covers_taken f (Unknown ∷ ms) (false ∷ vs) h =
    let low = extended (λ bits. f (false ∷ bits)) ms in
    let high = extended (λ bits. f (true ∷ bits)) ms in
    covers_of _ _ (f (false ∷ vs)) (extended_unknown f ms) (covers_lub low high (f (false ∷ vs)) ∙ or_left _ _ (covers_taken (λ bits. f (false ∷ bits)) ms vs h.1))
covers_taken f (Unknown ∷ ms) (true ∷ vs) h =
    let low = extended (λ bits. f (false ∷ bits)) ms in
    let high = extended (λ bits. f (true ∷ bits)) ms in
    covers_of _ _ (f (true ∷ vs)) (extended_unknown f ms) (covers_lub low high (f (true ∷ vs)) ∙ or_right _ _ (covers_taken (λ bits. f (true ∷ bits)) ms vs h.1))

pub extension_exact : ExtensionExact
extension_exact f ms v = (taken f ms v, λ t. subst (λ w. covers (extended f ms) w ≡ true) t.2 (covers_taken f ms t.0 t.1))
