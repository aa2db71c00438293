-- Slots, by what a judge makes of the field.
use Rattle.std.proofs.Common.{◌≡◌, ℕ, List, [], ◌∷◌, None, Ok, Err, Result, sym, refl, ap, ◌∙◌, subst, ⊎_elim}
use Rattle.std.specs.Borrow.{Bor}
use Rattle.std.specs.Result.{MatchResult}
use Rattle.gate_list_format.specs.Slots.{End, Judged, fits, fault, verdict, field, behind, past}
use Rattle.gate_list_fields.specs.declared.Fault.{Fault}
use Rattle.gate_list_fields.specs.declared.Fault.TheVariants.{Form}
use Rattle.gate_list_fields.specs.Faults.{number_of}
use Rattle.gate_list_fields.specs.Taken.{judged, Passed, Failed, Slotted, Named}
use Rattle.gate_list_fields.proofs.Slotted.{went, failed, unended}
use Rattle.gate_list_lines.specs.Judging.{SlotRead, NameJudged}

there : (judge : List ℕ → Judged) (f : List ℕ) → (f ≡ [] → ⊥) → verdict judge f ≡ judge f
there judge [] h = absurd (h refl)
there judge (b ∷ bs) h = refl

missing : (judge : List ℕ → Judged) (f : List ℕ) → f ≡ [] → verdict judge f ≡ fault 15
missing judge f e = ap (verdict judge) e

-- the slot is passed, where the judge finds this number
pub passed : {T : Type 0} (judge : List ℕ → Judged) (end : End) (text : List ℕ) (answers : Result T Fault → Type 0) (x : T × Bor (List ℕ)) (n : ℕ) → SlotRead answers end text (Ok x) → judge (field text) ≡ fits n → Passed judge end text (field text) n x.1.now
passed judge end text answers x n h j = went judge end text (field text) (behind text) n x.1.now refl refl (there judge (field text) h.is.0 ∙ j) h.is.2

-- the slot is not passed, where the judge finds that fault or some number
pub stopped : {T : Type 0} (judge : List ℕ → Judged) (end : End) (text : List ℕ) (answers : Result T Fault → Type 0) (f : Fault) → SlotRead answers end text (Err f) → (answers (Err f) → judge (field text) ≡ fault (number_of f)) → ((v : T) → answers (Ok v) → (n : ℕ) × (judge (field text) ≡ fits n)) → Failed judge end text (number_of f)
stopped {T} judge end text answers f h bad good = ⊎_elim
    (λ m. subst (λ g. Failed judge end text (number_of g)) (sym m.1) (failed judge end text (field text) 15 refl (missing judge (field text) m.0)))
    (λ t. ⊎_elim
    (λ a. failed judge end text (field text) (number_of f) refl (there judge (field text) t.0 ∙ bad a))
    (λ (u : (v : T) × answers (Ok v) × (past end (behind text) ≡ None) × (f ≡ Form)).
    let fit = good u.0 u.1 in
    subst (λ g. Failed judge end text (number_of g)) (sym u.3) (unended judge end text (field text) (behind text) fit.0 refl refl (there judge (field text) t.0 ∙ fit.1) u.2))
    t.1)
    h.is

pub slotted : (judge : List ℕ → Judged) (end : End) (text : List ℕ) (answers : Result ℕ Fault → Type 0) (result : Result (ℕ × Bor (List ℕ)) Fault) → SlotRead answers end text result → ((r : Result ℕ Fault) → answers r → judge (field text) ≡ judged r) → Slotted judge end text result
slotted judge end text answers (Ok x) h is = passed judge end text answers x x.0 h (is (Ok x.0) h.is.1)
slotted judge end text answers (Err f) h is = stopped judge end text answers f h (is (Err f)) (λ v a. (v, is (Ok v) a))

-- the same of a value that has the number in it
pub numbered : {T : Type 0} (number : T → ℕ) (judge : List ℕ → Judged) (end : End) (text : List ℕ) (answers : Result T Fault → Type 0) (result : Result (T × Bor (List ℕ)) Fault) → SlotRead answers end text result → ((r : Result T Fault) → answers r → MatchResult r (λ x. judge (field text) ≡ fits (number x)) (λ f. judge (field text) ≡ fault (number_of f))) → MatchResult result (λ x. Passed judge end text (field text) (number x.0) x.1.now) (λ f. Failed judge end text (number_of f))
numbered number judge end text answers (Ok x) h is = passed judge end text answers x (number x.0) h (is (Ok x.0) h.is.1)
numbered number judge end text answers (Err f) h is = stopped judge end text answers f h (is (Err f)) (λ v a. (number v, is (Ok v) a))

pub named : (judge : List ℕ → Judged) (end : End) (text : List ℕ) (answers : Result (Bor (List ℕ)) Fault → Type 0) (result : Result (Bor (List ℕ) × Bor (List ℕ)) Fault) → SlotRead answers end text result → ((r : Result (Bor (List ℕ)) Fault) → answers r → NameJudged judge (field text) r) → Named judge end text result
named judge end text answers (Ok x) h is =
    let name = is (Ok x.0) h.is.1 in
    subst (λ f. Passed judge end text f 0 x.1.now) (sym name.0) (passed judge end text answers x 0 h name.1)
named judge end text answers (Err f) h is = stopped judge end text answers f h (is (Err f)) (λ v a. (0, (is (Ok v) a).1))
