-- A refusal is the first fault.
use Rattle.std.proofs.Common.{◌≡◌, ℕ, ◌+◌, true, eqb, ◌↔◌, List, [], ◌∷◌, ◌++◌, Some, None, Option, sym, refl, ap, ◌∙◌, inl, inr, ⊎_elim, arith}
use Rattle.std.proofs.lemmas.List.{append_assoc, append-nil}
use Rattle.std.proofs.lemmas.Bool.{and_parts, cond-false, or_parts, not-true}
use Rattle.gate_list_format.specs.Slots.{End, space, newline, byte, solid, solids, field, behind, put, Judged, fits, fault, Outcome, refused, Form, ends, slot, verdict, past, line_after, step, read, Passes, Faulty, newlines, Stopped, at, last}
use Rattle.gate_list_format.specs.Reading.{list_form, reading}
use Rattle.gate_list_format.proofs.Slotted.{field_put, behind_put, past_end, past_some, field_behind, solids_field}

-- one slot is passed
pub slot_passed : {A : Type 0} (judge : List ℕ → Judged) (end : End) (next : List ℕ → ℕ → Form A) (line : ℕ) (f : List ℕ) (v : ℕ) (rest : List ℕ) → solids f ≡ true → verdict judge f ≡ fits v → read (slot judge end next) line (put f end rest) ≡ read (next f v) (line_after end line) rest
slot_passed judge end next line f v rest s j =
    let text = put f end rest in
    ap (λ g. step line (verdict judge g) (past end (behind text)) (λ w more. read (next g w) (line_after end line) more)) (field_put f end rest s)
    ∙ ap (λ i. step line i (past end (behind text)) (λ w more. read (next f w) (line_after end line) more)) j
    ∙ ap (λ o. step line (fits v) o (λ w more. read (next f w) (line_after end line) more)) (ap (past end) (behind_put f end rest s) ∙ past_end end rest)

newlines_end : (e : End) (n : ℕ) (rest : List ℕ) → newlines (byte e ∷ rest) + n ≡ line_after e (newlines rest + n)
newlines_end space n rest = refl
newlines_end newline n rest = omega arith

newlines_put : (f : List ℕ) (e : End) (rest : List ℕ) (n : ℕ) → solids f ≡ true → newlines (put f e rest) + n ≡ newlines rest + line_after e n
newlines_put [] space rest n s = refl
newlines_put [] newline rest n s = omega arith
newlines_put (b ∷ f) e rest n s =
    let r = and_parts (solid b) (solids f) s in
    let no_end = (or_parts (eqb b 32) (eqb b 10) (not-true _ r.0)).1 in
    ap (λ k. k + n) (cond-false (eqb b 10) _ _ no_end) ∙ newlines_put f e rest n r.1

passes_none : {A : Type 0} (F : Form A) → Passes F [] F
passes_none (ends o) = (refl, refl)
passes_none (slot judge end next) = inl (refl, refl)

none_read : {A : Type 0} (F : Form A) (front : List ℕ) (G : Form A) (line : ℕ) (rest : List ℕ) → front ≡ [] → F ≡ G → read F line (front ++ rest) ≡ read G (newlines front + line) rest
none_read F front G line rest p q = ap (λ t. read F line (t ++ rest)) p ∙ ap (λ H. read H line rest) q ∙ ap (λ l. read G l rest) (let z : line ≡ 0 + line = omega arith in z) ∙ ap (λ t. read G (newlines t + line) rest) (sym p)

passes_read : {A : Type 0} (F : Form A) (front : List ℕ) (G : Form A) (line : ℕ) (rest : List ℕ) → Passes F front G → read F line (front ++ rest) ≡ read G (newlines front + line) rest
passes_read (ends o) front G line rest p = none_read (ends o) front G line rest p.0 p.1
passes_read (slot judge end next) front G line rest (inl p) = none_read (slot judge end next) front G line rest p.0 p.1
passes_read (slot judge end next) front G line rest (inr (f, v, more, e, s, j, p)) =
    ap (λ t. read (slot judge end next) line (t ++ rest)) e
    ∙ ap (read (slot judge end next) line) (append_assoc f (byte end ∷ more) rest)
    ∙ slot_passed judge end next line f v (more ++ rest) s j
    ∙ passes_read (next f v) more G (line_after end line) rest p
    ∙ ap (λ l. read G l rest) (sym (newlines_put f end more line s))
    ∙ ap (λ t. read G (newlines t + line) rest) (sym e)

faulty_read : {A : Type 0} (G : Form A) (line : ℕ) (rest : List ℕ) (n : ℕ) → Faulty G rest n → read G line rest ≡ refused n line
faulty_read (ends o) line [] n h = absurd (h.0 refl)
faulty_read (ends o) line (b ∷ bs) n h = ap (λ m. refused m line) (sym h.1)
faulty_read (slot judge end next) line rest n h = ⊎_elim
    (λ j. ap (λ i. step line i (past end (behind rest)) (λ w more. read (next (field rest) w) (line_after end line) more)) j)
    (λ r. ap (λ i. step line i (past end (behind rest)) (λ w more. read (next (field rest) w) (line_after end line) more)) r.1
    ∙ ap (λ o. step line (fits r.0) o (λ w more. read (next (field rest) w) (line_after end line) more)) r.2
    ∙ ap (λ m. refused m line) (sym r.3))
    h

-- how a form's reading stops, in a text that begins at a line
data Stops {A : Type 0} (F : Form A) (text : List ℕ) (n start line : ℕ) : Type 0 where
  there : (front rest : List ℕ) (G : Form A) → text ≡ front ++ rest → Passes F front G → Faulty G rest n → line ≡ newlines front + start → Stops F text n start line
  whole : Passes F text (ends (refused n line)) → Stops F text n start line

read_stops : {A : Type 0} (F : Form A) (start : ℕ) (text : List ℕ) (n line : ℕ) → read F start text ≡ refused n line → Stops F text n start line
read_stops (ends o) start [] n line h = whole (refl, ap ends h)
read_stops (ends o) start (b ∷ bs) n line h = there [] (b ∷ bs) (ends o) refl (passes_none (ends o)) ((λ e. let z : ◌≡◌ {A = ℕ} 0 1 = cc in omega arith), cc) (let same : start ≡ line = cc in omega arith)
read_stops {A = A} (slot judge end next) start text n line h = go (verdict judge (field text)) (past end (behind text)) refl refl h (λ v rest. read_stops (next (field text) v) (line_after end start) rest n line)
  where
    further : (v : ℕ) (rest : List ℕ) → verdict judge (field text) ≡ fits v → text ≡ put (field text) end rest → Stops (next (field text) v) rest n (line_after end start) line → Stops (slot judge end next) text n start line
    further v rest j e (there front rest₁ G p q r s) =
        there (put (field text) end front) rest₁ G (e ∙ ap (put (field text) end) p ∙ sym (append_assoc (field text) (byte end ∷ front) rest₁)) (inr (field text, v, front, refl, solids_field text, j, q)) r (s ∙ sym (newlines_put (field text) end front start (solids_field text)))
    further v rest j e (whole q) = whole (inr (field text, v, rest, e, solids_field text, j, q))

    go : (j : Judged) (o : Option (List ℕ)) → verdict judge (field text) ≡ j → past end (behind text) ≡ o → step start j o (λ v rest. read (next (field text) v) (line_after end start) rest) ≡ refused n line → ((v : ℕ) (rest : List ℕ) → read (next (field text) v) (line_after end start) rest ≡ refused n line → Stops (next (field text) v) rest n (line_after end start) line) → Stops (slot judge end next) text n start line
    go (fault m) o p q r again = there [] text (slot judge end next) refl (passes_none (slot judge end next)) (inl (p ∙ cc)) (let same : start ≡ line = cc in omega arith)
    go (fits v) None p q r again = there [] text (slot judge end next) refl (passes_none (slot judge end next)) (inr (v, p, q, cc)) (let same : start ≡ line = cc in omega arith)
    go (fits v) (Some rest) p q r again = further v rest p (field_behind text ∙ ap (λ bs. field text ++ bs) (past_some end (behind text) rest q)) (again v rest r)

passes_whole : {A : Type 0} (F : Form A) (text : List ℕ) (o : Outcome A) (line : ℕ) → Passes F text (ends o) → read F line text ≡ o
passes_whole F text o line p = ap (read F line) (sym (append-nil text)) ∙ passes_read F text (ends o) line [] p

pub first : (text : List ℕ) (n line : ℕ) → (reading text ≡ refused n line) ↔ Stopped list_form text n line
unfolding reading
first text n line = ((λ h. out (read_stops list_form 1 text n line h)), into)
  where
    out : Stops list_form text n 1 line → Stopped list_form text n line
    out (there front rest G p q r s) = at front rest G p q r (omega arith)
    out (whole q) = last q

    into : Stopped list_form text n line → read list_form 1 text ≡ refused n line
    into (at front rest G p q r s) =
        ap (read list_form 1) p ∙ passes_read list_form front G 1 rest q ∙ faulty_read G (newlines front + 1) rest n r ∙ ap (refused n) (let e : newlines front + 1 ≡ line = omega arith in e)
    into (last q) = passes_whole list_form text (refused n line) 1 q
