-- Numbers below 100, names and words.
use Rattle.std.proofs.Common.{◌≡◌, ℕ, ◌+◌, ◌-◌, ◌*◌, ◌/◌, ◌%◌, ◌<◌, ◌≤◌, ◌⊎◌, List, [], ◌∷◌, ◌++◌, length, get_or, Some, None, decimal, Option, sym, refl, ap, ◌∙◌, subst, inl, inr, ⊎_elim, arith, MatchOption}
use Rattle.std.proofs.lemmas.Fmt.{decimal_digit, decimal_step}
use Rattle.std.proofs.lemmas.Bool.{cases_lt}
use Rattle.gate_list_format.specs.Slots.{Judged, fits, fault, verdict}
use Rattle.gate_list_format.specs.Lists.{word_text}
use Rattle.gate_list_format.specs.Reading.{pick, gate_word}
use Rattle.gate_list_format.proofs.Judges.{number_fits, word_fits, verdict_judge}
use Rattle.gate_list_fields.proofs.Fields.{pick_none}

two_digits : (v : ℕ) → 10 ≤ v → v < 100 → decimal v ≡ (48 + v / 10) ∷ (48 + v % 10) ∷ []
two_digits v a b = decimal_step v a (omega arith) ∙ ap (λ t. t ++ ((48 + v % 10) ∷ [])) (decimal_digit (v / 10) (omega arith))

-- what a number below 100 shows in its field
pub record One (f : List ℕ) (v : ℕ) : Type 0 where
  pub long : length f ≡ 1
  pub first : get_or f 0 0 ≡ 48 + v
  pub small : v < 10

pub record Two (f : List ℕ) (v : ℕ) : Type 0 where
  pub long : length f ≡ 2
  pub first : get_or f 0 0 ≡ 48 + v / 10
  pub second : get_or f 1 0 ≡ 48 + v % 10
  pub large : 10 ≤ v

pub shows : (f : List ℕ) (v : ℕ) → v < 100 → f ≡ decimal v → One f v ⊎ Two f v
shows f v l e = ⊎_elim
    (λ s. let d = e ∙ decimal_digit v s in inl (record { long = ap length d; first = ap (λ t. get_or t 0 0) d; small = s }))
    (λ s. let d = e ∙ two_digits v s l in inr (record { long = ap length d; first = ap (λ t. get_or t 0 0) d; second = ap (λ t. get_or t 1 0) d; large = s }))
    (cases_lt v 10)

one_byte : (f : List ℕ) → length f ≡ 1 → f ≡ get_or f 0 0 ∷ []
one_byte [] h = absurd (omega arith)
one_byte (a ∷ []) h = refl
one_byte (a ∷ b ∷ f) h = absurd (omega arith)

two_bytes : (f : List ℕ) → length f ≡ 2 → f ≡ get_or f 0 0 ∷ get_or f 1 0 ∷ []
two_bytes [] h = absurd (omega arith)
two_bytes (a ∷ []) h = absurd (omega arith)
two_bytes (a ∷ b ∷ []) h = refl
two_bytes (a ∷ b ∷ d ∷ f) h = absurd (omega arith)

pub one_is : (f : List ℕ) (d : ℕ) → length f ≡ 1 → d < 10 → get_or f 0 0 ≡ 48 + d → f ≡ decimal d
one_is f d h l e = one_byte f h ∙ ap (λ b. b ∷ []) e ∙ sym (decimal_digit d l)

pub two_are : (f : List ℕ) (a b : ℕ) → length f ≡ 2 → a < 10 → b < 10 → (a ≡ 0 → ⊥) → get_or f 0 0 ≡ 48 + a → get_or f 1 0 ≡ 48 + b → f ≡ decimal (a * 10 + b)
two_are f a b h l m some p q =
    let tens : (a * 10 + b) / 10 ≡ a = omega arith in
    let ones : (a * 10 + b) % 10 ≡ b = omega arith in
    two_bytes f h
    ∙ ap (λ x. x ∷ get_or f 1 0 ∷ []) (p ∙ ap (λ n. 48 + n) (sym tens))
    ∙ ap (λ x. (48 + (a * 10 + b) / 10) ∷ x ∷ []) (q ∙ ap (λ n. 48 + n) (sym ones))
    ∙ sym (two_digits (a * 10 + b) (omega arith) (omega arith))

-- one byte: its digit, or none
pub one_digit : (f : List ℕ) (r : Option ℕ) → length f ≡ 1 → MatchOption r ((d : ℕ) → d < 10 → get_or f 0 0 ≡ 48 + d → ⊥) (λ d. (d < 10) × (get_or f 0 0 ≡ 48 + d)) → MatchOption r ((v : ℕ) → v < 100 → f ≡ decimal v → ⊥) (λ v. (v < 100) × (f ≡ decimal v))
one_digit f None h c = λ v l e. ⊎_elim (λ o. c v o.small o.first) (λ t. omega arith) (shows f v l e)
one_digit f (Some d) h c = (omega (arith, c.0), one_is f d h c.0 c.1)

-- a number in its range, and faults
pub number_good : (f : List ℕ) (low high v : ℕ) → high < 100 → low ≤ v → v ≤ high → f ≡ decimal v → pick 16 decimal low (high + 1 - low) f ≡ fits v
number_good f low high v s a b e = ap (pick 16 decimal low (high + 1 - low)) e ∙ verdict_judge (pick 16 decimal low (high + 1 - low)) (decimal v) v (number_fits 16 low (high + 1 - low) v a (omega arith) (omega arith)).1

pub number_bad : (f : List ℕ) (low high : ℕ) → low ≤ high → ((v : ℕ) → low ≤ v → v ≤ high → f ≡ decimal v → ⊥) → pick 16 decimal low (high + 1 - low) f ≡ fault 16
number_bad f low high m h = pick_none 16 decimal low (high + 1 - low) f (λ a p q. h a p (omega arith))

pub word_good : (f : List ℕ) (w : ℕ) → w < 10 → f ≡ word_text w → gate_word f ≡ fits w
word_good f w l e = ap gate_word e ∙ verdict_judge gate_word (word_text w) w (word_fits w l).1

pub word_bad : (f : List ℕ) → ((w : ℕ) → w < 10 → f ≡ word_text w → ⊥) → gate_word f ≡ fault 18
word_bad f h = pick_none 18 word_text 0 10 f (λ a p q. h a (omega arith))

pub no_number : (f : List ℕ) (r : Option ℕ) → r ≡ None → ((v : ℕ) → v < 100 → f ≡ decimal v → ⊥) → MatchOption r ((v : ℕ) → v < 100 → f ≡ decimal v → ⊥) (λ v. (v < 100) × (f ≡ decimal v))
no_number f r e h = subst (λ q. MatchOption q ((v : ℕ) → v < 100 → f ≡ decimal v → ⊥) (λ v. (v < 100) × (f ≡ decimal v))) (sym e) h
