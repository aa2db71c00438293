-- What a library answers for marks is the exact extension of what it answers for bits.
use Rattle.std.proofs.Common.{◌≡◌, ℕ, Bool, false, List, [], ◌∷◌, length, Some, None, Option, unwrap_or, sym, refl, ap, ◌∙◌, ap₂}
use native.Mathlib.Decide.{ℕ_discrete}
use Rattle.std.specs.List.{slice_get}
use Rattle.std.proofs.lemmas.Bool.{eq-eqb, ne_eqb, cond-true, cond-false}
use Rattle.gates.specs.declared.Mark.{Mark}
use Rattle.gates.specs.declared.Mark.TheVariants.{Zero, One, Unknown}
use Rattle.gates.specs.Marks.{lub, extended}
use Rattle.gates.specs.Kinds.{Kind, given_by, extension_of}
use Rattle.gates.proofs.Folds.{extended_zero, extended_one, extended_unknown, extended_same}
use Rattle.circuit.specs.Circuits.{gate_function}

extended_false : (ms : List Mark) → extended (λ bits. false) ms ≡ Zero
extended_false [] = refl
extended_false (Zero ∷ ms) = extended_zero (λ bits. false) ms ∙ extended_false ms
extended_false (One ∷ ms) = extended_one (λ bits. false) ms ∙ extended_false ms
extended_false (Unknown ∷ ms) = extended_unknown (λ bits. false) ms ∙ ap₂ lub (extended_false ms) (extended_false ms)

-- the answers of a kind for as many values as it has pins, and for another number
given_right : (kind : Kind) {A B : Type 0} (give : (List Bool → Bool) → List A → B) (xs : List A) → length xs ≡ kind.pins → given_by give (Some kind) xs ≡ Some (give kind.output xs)
given_right kind give xs l = cond-true _ _ _ (eq-eqb (length xs) kind.pins l)

given_wrong : (kind : Kind) {A B : Type 0} (give : (List Bool → Bool) → List A → B) (xs : List A) → (length xs ≡ kind.pins → ⊥) → given_by give (Some kind) xs ≡ None
given_wrong kind give xs l = cond-false _ _ _ (ne_eqb (length xs) kind.pins l)

by_kind : (o : Option Kind) (ms : List Mark) → extended (λ bits. unwrap_or (given_by (λ f bs. f bs) o bits) false) ms ≡ unwrap_or (given_by extended o ms) Zero
by_kind None ms = extended_false ms
by_kind (Some kind) ms =
    elim (ℕ_discrete (length ms) kind.pins) [
      | yes e ↦
          extended_same (λ bits. unwrap_or (given_by (λ f bs. f bs) (Some kind) bits) false) kind.output ms (λ bits l. ap (λ o. unwrap_or o false) (given_right kind (λ f xs. f xs) bits (l ∙ e)))
          ∙ sym (ap (λ o. unwrap_or o Zero) (given_right kind extended ms e))
      | no e ↦
          extended_same (λ bits. unwrap_or (given_by (λ f bs. f bs) (Some kind) bits) false) (λ _. false) ms (λ bits l. ap (λ o. unwrap_or o false) (given_wrong kind (λ f xs. f xs) bits (λ q. e (sym l ∙ q))))
          ∙ extended_false ms
          ∙ sym (ap (λ o. unwrap_or o Zero) (given_wrong kind extended ms e))
    ]

pub extended_gate : (ks : List Kind) (kind : ℕ) (ms : List Mark) → extended (gate_function ks kind) ms ≡ unwrap_or (extension_of ks kind ms) Zero
extended_gate ks kind ms = by_kind (slice_get ks kind) ms
