-- Equal sheets have equal counts and marks.
use Rattle.std.proofs.Common.{◌≡◌, ℕ, ◌+◌, ◌-◌, ◌*◌, ◌%◌, ◌^◌, ◌<◌, ◌≤◌, List, [], ◌∷◌, ◌++◌, length, take, drop, codes, decimal, sym, refl, ap, ◌∙◌, ap₂, append_assoc, append-nil, arith}
use mathlib.Core.List.{append_cancel_left}
use Rattle.std.specs.List.{AllByRecursion}
use Rattle.std.proofs.lemmas.Fmt.{decimal_by_steps, decimal_injective, length-decimal-le}
use Rattle.std.proofs.ByRecursion.{All-append}
use Rattle.std.proofs.lemmas.List.{length-take-le, length-drop, length-append, take-append-drop, take_rest, drop-drop}
use Rattle.gates.specs.declared.Mark.{Mark}
use Rattle.gates.specs.declared.Mark.TheVariants.{Zero, One, Unknown}
use Rattle.gates.specs.Marks.{mark_symbol}
use Rattle.sheet.specs.Sheets.{lines, section, sheet, Sheeted, SheetInjective, SheetLength}
use Rattle.sheet.specs.Longest.{SheetLongest}
use Rattle.sheet.proofs.Writes.{length-lines, digits_two, digits_three}

byte_same : (m n : Mark) → mark_symbol m ≡ mark_symbol n → m ≡ n
byte_same Zero Zero e = refl
byte_same Zero One e = absurd (omega arith)
byte_same Zero Unknown e = absurd (omega arith)
byte_same One Zero e = absurd (omega arith)
byte_same One One e = refl
byte_same One Unknown e = absurd (omega arith)
byte_same Unknown Zero e = absurd (omega arith)
byte_same Unknown One e = absurd (omega arith)
byte_same Unknown Unknown e = refl

-- digits end at the first line end
digits : (n : ℕ) → n < 2 ^ 64 → AllByRecursion (λ d. 48 ≤ d) (decimal n)
digits n h = decimal_by_steps (λ m ds. AllByRecursion (λ d. 48 ≤ d) ds) (λ m l. (omega arith, tt)) (λ m ds l r. All-append (λ d. 48 ≤ d) ds ((48 + m % 10) ∷ []) r (omega arith, tt)) n h

line_same : (ds es xs ys : List ℕ) → AllByRecursion (λ d. 48 ≤ d) ds → AllByRecursion (λ d. 48 ≤ d) es → ds ++ 10 ∷ xs ≡ es ++ 10 ∷ ys → (ds ≡ es) × (xs ≡ ys)
line_same [] [] xs ys p q e = (refl, cc)
line_same [] (d ∷ es) xs ys p q e = let h : 10 ≡ d = cc in let l = q.0 in absurd (omega arith)
line_same (d ∷ ds) [] xs ys p q e = let h : d ≡ 10 = cc in let l = p.0 in absurd (omega arith)
line_same (d ∷ ds) (b ∷ es) xs ys p q e =
    let h : d ≡ b = cc in
    let t : ds ++ 10 ∷ xs ≡ es ++ 10 ∷ ys = cc in
    let r = line_same ds es xs ys p.1 q.1 t in
    (ap₂ (λ x l. x ∷ l) h r.0, r.1)

record Alike (f f' g g' : List Mark) (r r' : List ℕ) : Type 0 where
  first : f ≡ f'
  second : g ≡ g'
  rest : r ≡ r'

lines_same : (f f' g g' : List Mark) (r r' : List ℕ) → length f ≡ length f' → length f ≡ length g → length f' ≡ length g' → lines f g ++ r ≡ lines f' g' ++ r' → Alike f f' g g' r r'
lines_same [] [] [] [] r r' a b c e = record { first = refl; second = refl; rest = e }
lines_same [] [] [] (n' ∷ g') r r' a b c e = absurd (omega arith)
lines_same [] [] (n ∷ g) g' r r' a b c e = absurd (omega arith)
lines_same [] (m' ∷ f') g g' r r' a b c e = absurd (omega arith)
lines_same (m ∷ f) [] g g' r r' a b c e = absurd (omega arith)
lines_same (m ∷ f) (m' ∷ f') [] g' r r' a b c e = absurd (omega arith)
lines_same (m ∷ f) (m' ∷ f') (n ∷ g) [] r r' a b c e = absurd (omega arith)
lines_same (m ∷ f) (m' ∷ f') (n ∷ g) (n' ∷ g') r r' a b c e =
    let p : mark_symbol m ≡ mark_symbol m' = cc in
    let q : mark_symbol n ≡ mark_symbol n' = cc in
    let t : lines f g ++ r ≡ lines f' g' ++ r' = cc in
    let s = lines_same f f' g g' r r' (omega arith) (omega arith) (omega arith) t in
    record { first = ap₂ (λ x l. x ∷ l) (byte_same m m' p) s.first; second = ap₂ (λ x l. x ∷ l) (byte_same n n' q) s.second; rest = s.rest }

opened : (w : List ℕ) (f g : List Mark) (r : List ℕ) → section w f g ++ r ≡ w ++ (decimal (length f) ++ 10 ∷ (lines f g ++ r))
opened w f g r = append_assoc w (decimal (length f) ++ 10 ∷ lines f g) r ∙ ap (λ l. w ++ l) (append_assoc (decimal (length f)) (10 ∷ lines f g) r)

section_same : (w : List ℕ) (f f' g g' : List Mark) (r r' : List ℕ) → length f ≡ length g → length f' ≡ length g' → length f < 2 ^ 64 → length f' < 2 ^ 64 → section w f g ++ r ≡ section w f' g' ++ r' → Alike f f' g g' r r'
section_same w f f' g g' r r' a b small small' e =
    let t = append_cancel_left w (decimal (length f) ++ 10 ∷ (lines f g ++ r)) (decimal (length f') ++ 10 ∷ (lines f' g' ++ r')) (sym (opened w f g r) ∙ e ∙ opened w f' g' r') in
    let s = line_same (decimal (length f)) (decimal (length f')) (lines f g ++ r) (lines f' g' ++ r') (digits (length f) small) (digits (length f') small') t in
    lines_same f f' g g' r r' (decimal_injective (length f) (length f') small small' s.0) a b s.1

-- the parts of the marks
module _ (n r : ℕ) (f : List Mark) (l : n + r ≤ length f) where
  length-first : length (take n f) ≡ n
  length-first = length-take-le n f (omega arith)

  length-second : length (take r (drop n f)) ≡ r
  length-second = let d = length-drop n f in length-take-le r (drop n f) (omega arith)

  length_third : n + r + length (drop r (drop n f)) ≡ length f
  length_third = let d = length-drop n f in let e = length-drop r (drop n f) in omega arith

parts : (n r : ℕ) (f : List Mark) → take n f ++ (take r (drop n f) ++ drop r (drop n f)) ≡ f
parts n r f = ap (λ l. take n f ++ l) (take-append-drop r (drop n f)) ∙ take-append-drop n f

same_parts : (n n' r r' : ℕ) (f f' : List Mark) → take n f ≡ take n' f' → take r (drop n f) ≡ take r' (drop n' f') → drop r (drop n f) ≡ drop r' (drop n' f') → f ≡ f'
same_parts n n' r r' f f' a b c = sym (parts n r f) ∙ ap₂ (λ x y. x ++ y) a (ap₂ (λ x y. x ++ y) b c) ∙ parts n' r' f'

module _ (n r n' r' : ℕ) (f g f' g' : List Mark) (m : Sheeted n r f g) (m' : Sheeted n' r' f' g') where
  abbrev Same : Type 0
  Same = (n ≡ n') × (r ≡ r') × (f ≡ f') × (g ≡ g')

  apart : sheet n r f g ≡ sheet n' r' f' g' → Same
  apart e =
      let lf = m.enough in
      let lg = m.level in
      let lf' = m'.enough in
      let lg' = m'.level in
      let s = m.few in
      let s' = m'.few in
      let f1 = length-first n r f (omega arith) in
      let f2 = length-second n r f (omega arith) in
      let f3 = length_third n r f (omega arith) in
      let g1 = length-first n r g (omega arith) in
      let g2 = length-second n r g (omega arith) in
      let g3 = length_third n r g (omega arith) in
      let f1' = length-first n' r' f' (omega arith) in
      let f2' = length-second n' r' f' (omega arith) in
      let f3' = length_third n' r' f' (omega arith) in
      let g1' = length-first n' r' g' (omega arith) in
      let g2' = length-second n' r' g' (omega arith) in
      let g3' = length_third n' r' g' (omega arith) in
      let a = section_same (codes "inputs ") (take n f) (take n' f') (take n g) (take n' g') _ _ (omega arith) (omega arith) (omega arith) (omega arith) e in
      let b = section_same (codes "gates ") (take r (drop n f)) (take r' (drop n' f')) (take r (drop n g)) (take r' (drop n' g')) _ _ (omega arith) (omega arith) (omega arith) (omega arith) a.rest in
      let z = section_same (codes "wires ") (drop r (drop n f)) (drop r' (drop n' f')) (drop r (drop n g)) (drop r' (drop n' g')) [] [] (omega arith) (omega arith) (omega arith) (omega arith) (append-nil _ ∙ b.rest ∙ sym (append-nil _)) in
      let p = ap length a.first in
      let q = ap length b.first in (
        omega arith,
        omega arith,
        same_parts n n' r r' f f' a.first b.first z.first,
        same_parts n n' r r' g g' a.second b.second z.second,
      )

  together : Same → sheet n r f g ≡ sheet n' r' f' g'
  together h = ap₂ (λ x y. sheet x y f g) h.0 h.1 ∙ ap₂ (λ x y. sheet n' r' x y) h.2 h.3

pub sheet_injective : SheetInjective
sheet_injective n r n' r' f g f' g' m m' = (apart n r n' r' f g f' g' m m', together n r n' r' f g f' g' m m')

pub length-section : (w : List ℕ) (f g : List Mark) (k : ℕ) → length f ≡ length g → length f ≡ k → length (section w f g) ≡ length w + (length (decimal k) + (1 + 3 * k))
length-section w f g k l e =
    let a = length-append w (decimal (length f) ++ 10 ∷ lines f g) in
    let b = length-append (decimal (length f)) (10 ∷ lines f g) in
    let n = length-lines f g l in
    let d = ap (λ i. length (decimal i)) e in
    omega arith

pub sheet_length : SheetLength
sheet_length n r p f g m count =
    let lf = m.enough in
    let lg = m.level in
    let f1 = length-first n r f (omega arith) in
    let f2 = length-second n r f (omega arith) in
    let f3 = length_third n r f (omega arith) in
    let g1 = length-first n r g (omega arith) in
    let g2 = length-second n r g (omega arith) in
    let g3 = length_third n r g (omega arith) in
    let a = length-section (codes "inputs ") (take n f) (take n g) n (omega arith) f1 in
    let b = length-section (codes "gates ") (take r (drop n f)) (take r (drop n g)) r (omega arith) f2 in
    let z = length-section (codes "wires ") (drop r (drop n f)) (drop r (drop n g)) p (omega arith) (omega arith) in
    let x = length-append (section (codes "inputs ") (take n f) (take n g)) (section (codes "gates ") (take r (drop n f)) (take r (drop n g)) ++ section (codes "wires ") (drop r (drop n f)) (drop r (drop n g))) in
    let y = length-append (section (codes "gates ") (take r (drop n f)) (take r (drop n g))) (section (codes "wires ") (drop r (drop n f)) (drop r (drop n g))) in
    omega arith

pub sheet_longest : SheetLongest
sheet_longest n r f g m few_inputs few_gates =
    let p = length f - n - r in
    let lf = m.enough in
    let s = m.few in
    let long = sheet_length n r p f g m (omega arith) in
    let i = length-decimal-le 2 n (omega arith) few_inputs (omega arith) in
    let j = length-decimal-le 2 r (omega arith) few_gates (omega arith) in
    let k = length-decimal-le 3 p (omega arith) (omega arith) (omega arith) in (
      omega arith,
      λ full some_inputs some_gates. omega (arith, digits_two n some_inputs few_inputs, digits_two r some_gates few_gates, digits_three p (omega arith) (omega arith)),
    )

-- a part of the marks, as a slice gives it
pub inputs_part : (n : ℕ) (f : List Mark) → take (n - 0) f ≡ take n f
inputs_part n f = let e : n - 0 ≡ n = omega arith in ap (λ k. take k f) e

pub gates_part : (n r : ℕ) (f : List Mark) → take (n + r - n) (drop n f) ≡ take r (drop n f)
gates_part n r f = let e : n + r - n ≡ r = omega arith in ap (λ k. take k (drop n f)) e

pub wires_part : (n r size : ℕ) (f : List Mark) → length f ≡ size → take (size - (n + r)) (drop (n + r) f) ≡ drop r (drop n f)
wires_part n r size f e = ap (λ k. take (k - (n + r)) (drop (n + r) f)) (sym e) ∙ take_rest f (n + r) ∙ sym (drop-drop r n f)
