-- Steps of headings, pins and lines.
use Rattle.std.proofs.Common.{Ok, Err, ◌≡◌, ℕ, zero, suc, ◌+◌, ◌-◌, ◌<◌, ◌≤◌, true, false, ◌&&◌, List, [], ◌∷◌, ◌++◌, length, take, decimal, Result, sym, refl, ap, ◌∙◌, subst, arith}
use Rattle.std.specs.Borrow.{Bor}
use Rattle.std.specs.List.{AllByRecursion}
use Rattle.std.specs.Ordering.{is_le, nat_cmp}
use Rattle.std.proofs.lemmas.Bool.Decides.{nat_tests}
use Rattle.std.proofs.ByRecursion.{All-append}
use Rattle.std.proofs.lemmas.List.{length-append, length_push, take_at}
use Rattle.std.proofs.lemmas.Bool.{cond-true, cond-false}
use Rattle.gate_list_format.specs.Slots.{End, space, newline, fits, fault, field, read, line_after, Form, slot}
use Rattle.gate_list_format.specs.Lists.{GateList, Input, Pin, Gate, LawfulPin, is_name, pin_end, least_pins, most_pins, word_text, write_pins}
use Rattle.gate_list_format.specs.Reading.{pick, heading, count, source_name, bit, pin_forms, pin_count, member, new_name, gate_word, input_form, gate_form}
use Rattle.gate_list_format.proofs.Forms.{put_same}
use Rattle.gate_list_format.proofs.Judges.{source_read, number_read, word_read, pins_read, name_read}
use Rattle.gate_list_format.proofs.Laid.{pins_onto}
use Rattle.gate_list_format.proofs.Passed.{after_name, after_applied, after_start, after_source, after_bit, gate₁, gate₂, gate₃, gate₄, gate₅}
use Rattle.gate_list_fields.specs.declared.Fault.{Fault}
use Rattle.gate_list_fields.specs.Taken.{Passed, Slotted}
use Rattle.gate_list_lines.specs.Lines.{HeadingRead, InputIs, PinIs, PinsAre, GateIs, pin_form, write_pin}

-- a count from 0
pub count_is : (most : ℕ) → pick 16 decimal 0 (most + 1 - 0) ≡ count most
count_is most = ap (λ k. pick 16 decimal 0 k) (let e : most + 1 - 0 ≡ suc most = omega arith in e)

abbrev after_count : (ℕ → Form GateList) → List ℕ → ℕ → Form GateList
after_count next _ n = next n

abbrev pub after_word : ℕ → (ℕ → Form GateList) → List ℕ → ℕ → Form GateList
after_word most next _ _ = slot (count most) newline λ _ n. next n

pub heading_read : (word text behind : List ℕ) (most : ℕ) (r : Result (ℕ × Bor (List ℕ)) Fault) → Passed (heading word) space text word 0 behind → Slotted (pick 16 decimal 0 (most + 1 - 0)) newline behind r → HeadingRead word most text r
heading_read word text behind most (Ok x) taken counted =
    let is = number_read 16 0 (most + 1 - 0) x.0 (field behind) counted.fits in
    record {
      few = omega (arith, is.1);
      written = put_same text word word space behind _ taken.begins refl (put_same behind (field behind) (decimal x.0) newline x.1.now x.1.now counted.begins is.2 refl);
      on = λ line next.
          taken.on line (after_word most next)
          ∙ ap (λ j. read (slot j newline (after_count next)) line behind) (sym (count_is most))
          ∙ counted.on line (after_count next);
    }
heading_read word text behind most (Err f) taken counted = λ line next.
    taken.on line (after_word most next)
    ∙ ap (λ j. read (slot j newline (after_count next)) line behind) (sym (count_is most))
    ∙ counted line (after_count next)

-- names
pub name_new : (seen : List (List ℕ)) (f : List ℕ) → is_name f ≡ true → member f seen ≡ false → new_name seen f ≡ fits 0
name_new seen f p q = cond-true (is_name f) _ (fault 15) p ∙ cond-false (member f seen) (fault 17) (fits 0) q

pub name_repeated : (seen : List (List ℕ)) (f : List ℕ) → is_name f ≡ true → member f seen ≡ true → new_name seen f ≡ fault 17
name_repeated seen f p q = cond-true (is_name f) _ (fault 15) p ∙ cond-true (member f seen) (fault 17) (fits 0) q

-- a number within a range
pub contained : (s e v : ℕ) → s ≤ v → v ≤ e → (is_le (nat_cmp s v) && is_le (nat_cmp v e)) ≡ true
contained s e v a b = grind (arith, nat_tests)

-- an input line from its slots
module _ (seen : List (List ℕ)) {text name t₁ : List ℕ} (p : Passed (new_name seen) space text name 0 t₁) {applied : ℕ} {t₂ : List ℕ} (q : Passed bit space t₁ (field t₁) applied t₂) where
  pub past_applied : (line : ℕ) (next : Input → Form GateList) → read (input_form seen next) line text ≡ read (after_applied next name (field t₁) applied) line t₂
  past_applied line next = p.on line (after_name next) ∙ q.on line (after_applied next name)

  pub input_is : (start : ℕ) (rest : List ℕ) → Passed bit newline t₂ (field t₂) start rest → InputIs seen text (record { name = name; applied = applied; start = start }) rest
  input_is start rest r =
      record {
        lawful = record { name = (name_read seen name 0 p.fits).0; applied = (number_read 15 0 2 applied (field t₁) q.fits).1; start = (number_read 15 0 2 start (field t₂) r.fits).1 };
        written = put_same text name name space t₁ _ p.begins refl (put_same t₁ (field t₁) (decimal applied) space t₂ _ q.begins (number_read 15 0 2 applied (field t₁) q.fits).2 (put_same t₂ (field t₂) (decimal start) newline rest _ r.begins (number_read 15 0 2 start (field t₂) r.fits).2 refl));
        on = λ line next. past_applied line next ∙ r.on line (after_start next name applied);
      }

-- pins
pub first_line : (k line : ℕ) → 0 < k → line_after (pin_end k) line ≡ line
first_line zero line h = absurd (omega arith)
first_line (suc m) line h = refl

pub next_pin : (k m : ℕ) (ps : List Pin) (next : List Pin → Form GateList) (line : ℕ) (text : List ℕ) → k ≡ suc m → read (pin_forms k ps next) (line_after (pin_end k) line) text ≡ read (pin_form (pin_end m) (λ p. pin_forms m (ps ++ (p ∷ [])) next)) line text
next_pin k m ps next line text e = ap (λ n. read (pin_forms n ps next) (line_after (pin_end n) line) text) e

-- a pin from its slots
pub pin_is : (text source t₁ : List ℕ) (start : ℕ) (end : End) (rest : List ℕ) → Passed source_name space text source 0 t₁ → Passed bit end t₁ (field t₁) start rest → PinIs end text (record { source = source; start = start }) rest
pin_is text source t₁ start end rest p q =
    let bit = number_read 15 0 2 start (field t₁) q.fits in
    record {
      lawful = record { source = source_read source 0 p.fits; start = bit.1 };
      written = put_same text source source space t₁ _ p.begins refl (put_same t₁ (field t₁) (decimal start) end rest rest q.begins bit.2 refl);
      on = λ line next. p.on line (after_source end next) ∙ q.on line (after_bit next source);
    }

-- pins that so many more follow
abbrev pub leading : ℕ → List Pin → List ℕ → List ℕ
leading more [] rest = rest
leading more (p ∷ ps) rest = write_pin p (pin_end (length ps + more)) (leading more ps rest)

leading_one : (m : ℕ) (ps : List Pin) (p : Pin) (rest : List ℕ) → leading (suc m) ps (write_pin p (pin_end m) rest) ≡ leading m (ps ++ (p ∷ [])) rest
leading_one m [] p rest = ap (λ n. write_pin p (pin_end n) rest) (let e : m ≡ 0 + m = omega arith in e)
leading_one m (q ∷ qs) p rest =
    ap (write_pin q (pin_end (length qs + suc m))) (leading_one m qs p rest)
    ∙ ap (λ n. write_pin q (pin_end n) (leading m (qs ++ (p ∷ [])) rest)) (let e : length qs + suc m ≡ length (qs ++ (p ∷ [])) + m = omega (arith, length_push qs p) in e)

pub leading_push : (k m : ℕ) (ps : List Pin) (p : Pin) (rest : List ℕ) → k ≡ suc m → leading k ps (write_pin p (pin_end m) rest) ≡ leading m (ps ++ (p ∷ [])) rest
leading_push k m ps p rest e = ap (λ n. leading n ps (write_pin p (pin_end m) rest)) e ∙ leading_one m ps p rest

pub leading_all : (ps : List Pin) (rest : List ℕ) → leading 0 ps rest ≡ write_pins ps rest
leading_all [] rest = refl
leading_all (p ∷ ps) rest = ap (λ n. write_pin p (pin_end n) (leading 0 ps rest)) (let e : length ps + 0 ≡ length ps = omega arith in e) ∙ ap (write_pin p (pin_end (length ps))) (leading_all ps rest)

pub all_push : (ps : List Pin) (p : Pin) → AllByRecursion LawfulPin ps → LawfulPin p → AllByRecursion LawfulPin (ps ++ (p ∷ []))
all_push ps p h l = All-append LawfulPin ps (p ∷ []) h (l, tt)

-- the pins' part of the text, as code cuts it
pub pins_short : (text : List ℕ) (ps : List Pin) (rest : List ℕ) → text ≡ write_pins ps rest → length rest ≤ length text
pins_short text ps rest e = omega (arith, ap length (e ∙ pins_onto ps [] rest) ∙ length-append (write_pins ps []) rest)

pub pins_cut : (text : List ℕ) (ps : List Pin) (rest : List ℕ) → text ≡ write_pins ps rest → take (length text - length rest) text ≡ write_pins ps []
pins_cut text ps rest e =
    let split = e ∙ pins_onto ps [] rest in
    let long = ap length split ∙ length-append (write_pins ps []) rest in
    let cut : length text - length rest ≡ length (write_pins ps []) = omega arith in
    ap (λ n. take n text) cut ∙ ap (take (length (write_pins ps []))) split ∙ take_at (write_pins ps []) rest (length (write_pins ps [])) refl

-- a gate line from its slots: what is read behind each of them, and what all of them write
module _ (seen : List (List ℕ)) {text name t₁ : List ℕ} (before : ℕ) (p : Passed (new_name seen) space text name 0 t₁) where
  pub past_name : (line : ℕ) (next : Gate → Form GateList) → read (gate_form seen before next) line text ≡ read (gate₁ before next name 0) line t₁
  past_name line next = p.on line (gate₁ before next)

  module _ {word : ℕ} {t₂ : List ℕ} (q : Passed gate_word space t₁ (field t₁) word t₂) where
    pub past_word : (line : ℕ) (next : Gate → Form GateList) → read (gate_form seen before next) line text ≡ read (gate₂ before next name (field t₁) word) line t₂
    past_word line next = past_name line next ∙ q.on line (gate₂ before next name)

    module _ {n : ℕ} {t₃ : List ℕ} (r : Passed (pin_count word before) space t₂ (field t₂) n t₃) where
      pub past_count : (line : ℕ) (next : Gate → Form GateList) → read (gate_form seen before next) line text ≡ read (gate₃ next name word (field t₂) n) line t₃
      past_count line next = past_word line next ∙ r.on line (gate₃ next name word)

      module _ {start : ℕ} {t₄ : List ℕ} (s : Passed bit space t₃ (field t₃) start t₄) where
        pub past_start : (line : ℕ) (next : Gate → Form GateList) → read (gate_form seen before next) line text ≡ read (gate₄ next name word n (field t₃) start) line t₄
        past_start line next = past_count line next ∙ s.on line (gate₄ next name word n)

        pub gate_is : (ps : List Pin) (rest : List ℕ) → PinsAre n t₄ ps rest → before + n ≤ 384 → GateIs seen before text (record { name = name; word = word; start = start; pins = ps }) rest
        gate_is ps rest are room =
            let c = pins_read word before (field t₂) n r.fits in
            record {
              lawful = record { name = (name_read seen name 0 p.fits).0; word = (word_read (field t₁) word q.fits).0; least = subst (λ m. least_pins word ≤ m) (sym are.long) c.1; most = subst (λ m. m ≤ most_pins word) (sym are.long) c.2; start = (number_read 15 0 2 start (field t₃) s.fits).1; pins = are.lawful };
              room = omega (arith, are.long, room);
              written =
                  put_same text name name space t₁ _ p.begins refl
                  (put_same t₁ (field t₁) (word_text word) space t₂ _ q.begins (word_read (field t₁) word q.fits).1
                  (put_same t₂ (field t₂) (decimal (length ps)) space t₃ _ r.begins (c.0 ∙ ap decimal (sym are.long))
                  (put_same t₃ (field t₃) (decimal start) space t₄ _ s.begins (number_read 15 0 2 start (field t₃) s.fits).2 are.written)));
              on = λ line next. past_start line next ∙ are.on line (gate₅ next name word start);
            }
