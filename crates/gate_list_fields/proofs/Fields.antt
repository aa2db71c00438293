-- Fields at the front of a text.
use Rattle.std.proofs.Common.{◌≡◌, ℕ, zero, suc, ◌+◌, ◌<◌, ◌≤◌, Bool, true, false, cond, eqb, ◌||◌, List, [], ◌∷◌, length, get_or, take, drop, Some, None, decimal, sym, refl, ap, ◌∙◌, arith}
use Rattle.std.proofs.Common.{one-add}
use Rattle.std.specs.Prelude.{position, unwrap_or, nat_lt}
use Rattle.std.specs.List.{prefix_len}
use Rattle.std.proofs.lemmas.List.Sums.{prefix_len-le-length}
use Rattle.std.specs.Str.{bytes_eq}
use Rattle.std.proofs.lemmas.Fmt.{decimal_digit}
use Rattle.std.proofs.lemmas.Slice.Eq.{bytes_eq-Decides}
use Rattle.gate_list_format.specs.Slots.{solid, field, behind, Judged, fits, fault, verdict}
use Rattle.gate_list_format.specs.Reading.{pick, bit}
use Rattle.gate_list_format.proofs.Judges.{number_fits}

-- what ends a field
abbrev pub stop : ℕ → Bool
stop b = eqb b 32 || eqb b 10

cut_at : (text : List ℕ) → (take (prefix_len solid text) text ≡ field text) × (drop (prefix_len solid text) text ≡ behind text)
cut_at [] = (refl, refl)
cut_at (b ∷ bs) =
    let more = cut_at bs in
    elim (solid b) as (λ t. (take (cond t (1 + prefix_len solid bs) 0) (b ∷ bs) ≡ cond t (b ∷ field bs) []) × (drop (cond t (1 + prefix_len solid bs) 0) (b ∷ bs) ≡ cond t (behind bs) (b ∷ bs))) [
      | true ↦ (rw one-add (ap (λ t. b ∷ t) more.0), rw one-add more.1)
      | false ↦ (refl, refl)
    ]

or_length : (n l : ℕ) → n ≤ l → unwrap_or (cond (nat_lt n l) (Some n) None) l ≡ n
or_length n l h = grind arith

-- the field ends at the first byte that ends it, or with the text
pub field_position : (text : List ℕ) → (take (unwrap_or (position stop text) (length text)) text ≡ field text) × (drop (unwrap_or (position stop text) (length text)) text ≡ behind text)
field_position text =
    let at = or_length (prefix_len solid text) (length text) (prefix_len-le-length solid text) in
    (ap (λ n. take n text) at ∙ (cut_at text).0, ap (λ n. drop n text) at ∙ (cut_at text).1)

-- a field that is none of the texts
pub pick_none : (n : ℕ) (text : ℕ → List ℕ) (v k : ℕ) (f : List ℕ) → ((a : ℕ) → v ≤ a → a < v + k → f ≡ text a → ⊥) → pick n text v k f ≡ fault n
pick_none n text v zero f h = refl
pick_none n text v (suc k) f h = go (bytes_eq f (text v)) refl (pick_none n text (suc v) k f (λ a p q. h a (omega arith) (omega arith)))
  where
    go : (t : Bool) → bytes_eq f (text v) ≡ t → pick n text (suc v) k f ≡ fault n → cond t (fits v) (pick n text (suc v) k f) ≡ fault n
    go true p more = absurd (h v (omega arith) (omega arith) ((bytes_eq-Decides f (text v)).0 p))
    go false p more = more

pub bit_fits : (v : ℕ) (f : List ℕ) → v < 2 → f ≡ (48 + v) ∷ [] → verdict bit f ≡ fits v
bit_fits v f l e = ap (verdict bit) (e ∙ sym (decimal_digit v (omega arith))) ∙ (number_fits 15 0 2 v (omega arith) (omega arith) (omega arith)).1

verdict_fault : (judge : List ℕ → Judged) (f : List ℕ) → judge f ≡ fault 15 → verdict judge f ≡ fault 15
verdict_fault judge [] h = refl
verdict_fault judge (b ∷ bs) h = h

pub bit_faults : (f : List ℕ) → (length f ≡ 1 → (get_or f 0 0 ≡ 48 → ⊥) × (get_or f 0 0 ≡ 49 → ⊥)) → verdict bit f ≡ fault 15
bit_faults f h = verdict_fault bit f (pick_none 15 decimal 0 2 f (λ a p q e.
    let is = e ∙ decimal_digit a (omega arith) in
    let one : length f ≡ 1 = ap length is in
    let first : get_or f 0 0 ≡ 48 + a = ap (λ t. get_or t 0 0) is in
    let zero-not = (h one).0 in
    let one-not = (h one).1 in
    omega (arith, zero-not, one-not)))
