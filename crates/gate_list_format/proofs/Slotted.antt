-- Reading a form accepts exactly what has it.
use Rattle.std.proofs.Common.{◌≡◌, ℕ, Bool, true, false, cond, eqb, List, [], ◌∷◌, ◌++◌, Some, None, Option, sym, refl, ap, ◌∙◌, subst, arith}
use Rattle.std.proofs.lemmas.Bool.{and_parts, and_from, cond-true, eqb-true}
use Rattle.gate_list_format.specs.Slots.{End, space, newline, byte, solid, solids, field, behind, put, Judged, fits, fault, accepted, Form, ends, slot, verdict, past, line_after, step, read}

-- the whole text has the form, and x is read from it
abbrev pub Has : {A : Type 0} → Form A → List ℕ → A → Type 0
Has (ends answer) text x = (text ≡ []) × (answer ≡ accepted x)
Has (slot judge end next) text x = (f : List ℕ) × (v : ℕ) × (rest : List ℕ) × (text ≡ put f end rest) × (solids f ≡ true) × (verdict judge f ≡ fits v) × Has (next f v) rest x

field_end : (e : End) (rest : List ℕ) → field (byte e ∷ rest) ≡ []
field_end space rest = refl
field_end newline rest = refl

behind_end : (e : End) (rest : List ℕ) → behind (byte e ∷ rest) ≡ byte e ∷ rest
behind_end space rest = refl
behind_end newline rest = refl

pub past_end : (e : End) (rest : List ℕ) → past e (byte e ∷ rest) ≡ Some rest
past_end space rest = refl
past_end newline rest = refl

pub field_put : (f : List ℕ) (e : End) (rest : List ℕ) → solids f ≡ true → field (put f e rest) ≡ f
field_put [] e rest h = field_end e rest
field_put (b ∷ f) e rest h =
    let both = and_parts (solid b) (solids f) h in
    cond-true (solid b) _ _ both.0 ∙ ap (λ g. b ∷ g) (field_put f e rest both.1)

pub behind_put : (f : List ℕ) (e : End) (rest : List ℕ) → solids f ≡ true → behind (put f e rest) ≡ byte e ∷ rest
behind_put [] e rest h = behind_end e rest
behind_put (b ∷ f) e rest h =
    let both = and_parts (solid b) (solids f) h in
    cond-true (solid b) _ _ both.0 ∙ behind_put f e rest both.1

pub field_behind : (text : List ℕ) → text ≡ field text ++ behind text
field_behind [] = refl
field_behind (b ∷ bs) = go (solid b) (field_behind bs)
  where
    go : (t : Bool) → bs ≡ field bs ++ behind bs → b ∷ bs ≡ cond t (b ∷ field bs) [] ++ cond t (behind bs) (b ∷ bs)
    go true more = ap (λ xs. b ∷ xs) more
    go false more = refl

pub solids_field : (text : List ℕ) → solids (field text) ≡ true
solids_field [] = refl
solids_field (b ∷ bs) = go (solid b) refl (solids_field bs)
  where
    go : (t : Bool) → solid b ≡ t → solids (field bs) ≡ true → solids (cond t (b ∷ field bs) []) ≡ true
    go true e h = and_from (solid b) (solids (field bs)) e h
    go false e h = refl

pub past_some : (e : End) (bs rest : List ℕ) → past e bs ≡ Some rest → bs ≡ byte e ∷ rest
past_some e [] rest h = let z : ◌≡◌ {A = ℕ} 0 1 = cc in absurd (omega arith)
past_some e (b ∷ bs) rest h = go (eqb b (byte e)) refl h
  where
    go : (t : Bool) → eqb b (byte e) ≡ t → cond t (Some bs) None ≡ Some rest → b ∷ bs ≡ byte e ∷ rest
    go true p q = let x = eqb-true b (byte e) p in cc
    go false p q = let z : ◌≡◌ {A = ℕ} 0 1 = cc in absurd (omega arith)

pub has_read : {A : Type 0} (F : Form A) (line : ℕ) (text : List ℕ) (x : A) → Has F text x → read F line text ≡ accepted x
has_read (ends o) line text x h = subst (λ t. read (ends o) line t ≡ accepted x) (sym h.0) h.1
has_read (slot judge end next) line text x h =
    let f = h.0 in
    let v = h.1 in
    let rest = h.2 in
    let one : field text ≡ f = ap field h.3 ∙ field_put f end rest h.4 in
    let two : past end (behind text) ≡ Some rest = ap (past end) (ap behind h.3 ∙ behind_put f end rest h.4) ∙ past_end end rest in
    ap (λ g. step line (verdict judge g) (past end (behind text)) (λ w more. read (next g w) (line_after end line) more)) one
    ∙ ap (λ j. step line j (past end (behind text)) (λ w more. read (next f w) (line_after end line) more)) h.5
    ∙ ap (λ o. step line (fits v) o (λ w more. read (next f w) (line_after end line) more)) two
    ∙ has_read (next f v) (line_after end line) rest x h.6

pub read_has : {A : Type 0} (F : Form A) (line : ℕ) (text : List ℕ) (x : A) → read F line text ≡ accepted x → Has F text x
read_has (ends o) line [] x h = (refl, h)
read_has (ends o) line (b ∷ bs) x h = let z : ◌≡◌ {A = ℕ} 0 1 = cc in absurd (omega arith)
read_has {A = A} (slot judge end next) line text x h = go (verdict judge (field text)) (past end (behind text)) refl refl h (λ v rest. read_has (next (field text) v) (line_after end line) rest x)
  where
    go : (j : Judged) (o : Option (List ℕ)) → verdict judge (field text) ≡ j → past end (behind text) ≡ o → step line j o (λ v rest. read (next (field text) v) (line_after end line) rest) ≡ accepted x → ((v : ℕ) (rest : List ℕ) → read (next (field text) v) (line_after end line) rest ≡ accepted x → Has (next (field text) v) rest x) → Has (slot judge end next) text x
    go (fault n) o p q r more = let z : ◌≡◌ {A = ℕ} 0 1 = cc in absurd (omega arith)
    go (fits v) None p q r more = let z : ◌≡◌ {A = ℕ} 0 1 = cc in absurd (omega arith)
    go (fits v) (Some rest) p q r more = (field text, v, rest, field_behind text ∙ ap (λ bs. field text ++ bs) (past_some end (behind text) rest q), solids_field text, p, more v rest r)
