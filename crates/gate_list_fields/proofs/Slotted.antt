-- Slots, from what code found.
use Rattle.std.proofs.Common.{◌≡◌, ℕ, List, ◌++◌, Some, None, sym, ap, ◌∙◌, subst}
use Rattle.gate_list_format.specs.Slots.{End, Judged, fits, fault, verdict, field, behind, past, put, step, read, line_after}
use Rattle.gate_list_format.proofs.Slotted.{field_behind, past_some}
use Rattle.gate_list_fields.specs.Taken.{Passed, Failed}

-- a slot is passed, with the field and what is behind it as slices
pub went : (judge : List ℕ → Judged) (end : End) (text f bs : List ℕ) (v : ℕ) (rest : List ℕ) → f ≡ field text → bs ≡ behind text → verdict judge f ≡ fits v → past end bs ≡ Some rest → Passed judge end text f v rest
went judge end text f bs v rest e e₁ j p =
    let i = ap (verdict judge) (sym e) ∙ j in
    let q = ap (past end) (sym e₁) ∙ p in
    record {
      begins = field_behind text ∙ ap (λ bs. field text ++ bs) (past_some end (behind text) rest q) ∙ ap (λ g. put g end rest) (sym e);
      on = λ line next.
          ap (λ i. step line i (past end (behind text)) (λ w more. read (next (field text) w) (line_after end line) more)) i
          ∙ ap (λ o. step line (fits v) o (λ w more. read (next (field text) w) (line_after end line) more)) q
          ∙ ap (λ g. read (next g v) (line_after end line) rest) (sym e);
      fits = j;
    }

pub went_on : (judge : List ℕ → Judged) (end : End) (text f bs : List ℕ) (v : ℕ) (rest : List ℕ) → f ≡ field text → bs ≡ behind text → verdict judge f ≡ fits v → past end bs ≡ Some rest → Passed judge end text (field text) v rest
went_on judge end text f bs v rest e e₁ j p = subst (λ g. Passed judge end text g v rest) e (went judge end text f bs v rest e e₁ j p)

-- a slot is not passed, by its field or by its end
pub failed : (judge : List ℕ → Judged) (end : End) (text f : List ℕ) (n : ℕ) → f ≡ field text → verdict judge f ≡ fault n → Failed judge end text n
failed judge end text f n e j line next = ap (λ i. step line i (past end (behind text)) (λ w more. read (next (field text) w) (line_after end line) more)) (ap (verdict judge) (sym e) ∙ j)

pub unended : (judge : List ℕ → Judged) (end : End) (text f bs : List ℕ) (v : ℕ) → f ≡ field text → bs ≡ behind text → verdict judge f ≡ fits v → past end bs ≡ None → Failed judge end text 15
unended judge end text f bs v e e₁ j p line next =
    ap (λ i. step line i (past end (behind text)) (λ w more. read (next (field text) w) (line_after end line) more)) (ap (verdict judge) (sym e) ∙ j)
    ∙ ap (λ o. step line (fits v) o (λ w more. read (next (field text) w) (line_after end line) more)) (ap (past end) (sym e₁) ∙ p)
