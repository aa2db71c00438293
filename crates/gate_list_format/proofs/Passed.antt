-- The written text of a lawful line passes the line's form, and is that of no other line.
use Rattle.std.proofs.Common.{◌≡◌, ℕ, suc, ◌+◌, ◌^◌, ◌<◌, ◌≤◌, true, List, [], ◌∷◌, ◌++◌, length, decimal, sym, refl, ap, ◌∙◌, arith}
use Rattle.std.specs.List.{AllByRecursion}
use Rattle.std.proofs.lemmas.Fmt.{decimal_injective}
use Rattle.std.proofs.lemmas.List.{append_assoc}
use Rattle.gate_list_format.specs.Slots.{End, space, newline, byte, solids, field, behind, put, verdict, Form, slot, read, line_after}
use Rattle.gate_list_format.specs.Lists.{Input, Pin, Gate, NotIn, LawfulInput, LawfulPin, LawfulGate, word_text, pin_end, write_input, write_pins, write_gate}
use Rattle.gate_list_format.specs.Reading.{bit, new_name, source_name, gate_word, pin_count, input_form, pin_forms, gate_form}
use Rattle.gate_list_format.proofs.Judges.{number_fits, decimal_field, name_field, word_fits, source_fits, name_fits, pins_fit, pin_range, same_fits}
use Rattle.gate_list_format.proofs.Slotted.{field_put, behind_put}
use Rattle.gate_list_format.proofs.Stops.{slot_passed}

-- what follows in an input line
module _ {A : Type 0} where
  abbrev pub after_name : (Input → Form A) → List ℕ → ℕ → Form A
  after_name next name _ = slot bit space λ _ applied. slot bit newline λ _ start. next (record { name = name; applied = applied; start = start })

  abbrev pub after_applied : (Input → Form A) → List ℕ → List ℕ → ℕ → Form A
  after_applied next name _ applied = slot bit newline λ _ start. next (record { name = name; applied = applied; start = start })

  abbrev pub after_start : (Input → Form A) → List ℕ → ℕ → List ℕ → ℕ → Form A
  after_start next name applied _ start = next (record { name = name; applied = applied; start = start })

  -- what follows in a gate line
  abbrev pub gate₁ : ℕ → (Gate → Form A) → List ℕ → ℕ → Form A
  gate₁ before next name _ = slot gate_word space λ _ word. slot (pin_count word before) space λ _ p. slot bit space λ _ start. pin_forms p [] λ pins. next (record { name = name; word = word; start = start; pins = pins })

  abbrev pub gate₂ : ℕ → (Gate → Form A) → List ℕ → List ℕ → ℕ → Form A
  gate₂ before next name _ word = slot (pin_count word before) space λ _ p. slot bit space λ _ start. pin_forms p [] λ pins. next (record { name = name; word = word; start = start; pins = pins })

  abbrev pub gate₃ : (Gate → Form A) → List ℕ → ℕ → List ℕ → ℕ → Form A
  gate₃ next name word _ p = slot bit space λ _ start. pin_forms p [] λ pins. next (record { name = name; word = word; start = start; pins = pins })

  abbrev pub gate₄ : (Gate → Form A) → List ℕ → ℕ → ℕ → List ℕ → ℕ → Form A
  gate₄ next name word p _ start = pin_forms p [] λ pins. next (record { name = name; word = word; start = start; pins = pins })

  abbrev pub gate₅ : (Gate → Form A) → List ℕ → ℕ → ℕ → List Pin → Form A
  gate₅ next name word start pins = next (record { name = name; word = word; start = start; pins = pins })

  -- what follows in a pin
  abbrev pub after_source : End → (Pin → Form A) → List ℕ → ℕ → Form A
  after_source end next source _ = slot bit end λ _ start. next (record { source = source; start = start })

  abbrev pub after_bit : (Pin → Form A) → List ℕ → List ℕ → ℕ → Form A
  after_bit next source _ start = next (record { source = source; start = start })

  pub input_passed : (seen : List (List ℕ)) (next : Input → Form A) (line : ℕ) (i : Input) (rest : List ℕ) → LawfulInput i → NotIn i.name seen → read (input_form seen next) line (write_input i rest) ≡ read (next i) (suc line) rest
  input_passed seen next line i rest l new =
      let w = name_fits seen i.name l.name new in
      let a = number_fits 15 0 2 i.applied (omega arith) l.applied (omega (arith, l.applied)) in
      let b = number_fits 15 0 2 i.start (omega arith) l.start (omega (arith, l.start)) in
      slot_passed (new_name seen) space (after_name next) line i.name 0 (put (decimal i.applied) space (put (decimal i.start) newline rest)) w.0 w.1
      ∙ slot_passed bit space (after_applied next i.name) line (decimal i.applied) i.applied (put (decimal i.start) newline rest) a.0 a.1
      ∙ slot_passed bit newline (after_start next i.name i.applied) line (decimal i.start) i.start rest b.0 b.1

  pub pin_passed : (end : End) (next : Pin → Form A) (line : ℕ) (p : Pin) (rest : List ℕ) → LawfulPin p → read (slot source_name space (after_source end next)) line (put p.source space (put (decimal p.start) end rest)) ≡ read (next p) (line_after end line) rest
  pin_passed end next line p rest l =
      let w = source_fits p.source l.source in
      let a = number_fits 15 0 2 p.start (omega arith) l.start (omega (arith, l.start)) in
      slot_passed source_name space (after_source end next) line p.source 0 (put (decimal p.start) end rest) w.0 w.1
      ∙ slot_passed bit end (after_bit next p.source) line (decimal p.start) p.start rest a.0 a.1

  pub pins_passed : (p : Pin) (ps before : List Pin) (next : List Pin → Form A) (line : ℕ) (rest : List ℕ) → AllByRecursion LawfulPin (p ∷ ps) → read (pin_forms (length (p ∷ ps)) before next) line (write_pins (p ∷ ps) rest) ≡ read (next (before ++ (p ∷ ps))) (suc line) rest
  pins_passed p [] before next line rest l = pin_passed newline (λ q. next (before ++ (q ∷ []))) line p rest l.0
  pins_passed p (q ∷ ps) before next line rest l =
      pin_passed space (λ r. pin_forms (suc (length ps)) (before ++ (r ∷ [])) next) line p (write_pins (q ∷ ps) rest) l.0
      ∙ pins_passed q ps (before ++ (p ∷ [])) next line rest l.1
      ∙ ap (λ qs. read (next qs) (suc line) rest) (append_assoc before (p ∷ []) (q ∷ ps))

  some_pins : (ps : List Pin) (next : List Pin → Form A) (line : ℕ) (rest : List ℕ) → 0 < length ps → AllByRecursion LawfulPin ps → read (pin_forms (length ps) [] next) line (write_pins ps rest) ≡ read (next ps) (suc line) rest
  some_pins [] next line rest h l = absurd (omega arith)
  some_pins (p ∷ ps) next line rest h l = pins_passed p ps [] next line rest l

  pub gate_passed : (seen : List (List ℕ)) (before : ℕ) (next : Gate → Form A) (line : ℕ) (g : Gate) (rest : List ℕ) → LawfulGate g → NotIn g.name seen → before + length g.pins ≤ 384 → read (gate_form seen before next) line (write_gate g rest) ≡ read (next g) (suc line) rest
  gate_passed seen before next line g rest l new room =
      let t₃ = write_pins g.pins rest in
      let t₂ = put (decimal g.start) space t₃ in
      let t₁ = put (decimal (length g.pins)) space t₂ in
      let w = name_fits seen g.name l.name new in
      let k = word_fits g.word l.word in
      let c = pins_fit g.word before (length g.pins) l.word l.least l.most room in
      let b = number_fits 15 0 2 g.start (omega arith) l.start (omega (arith, l.start)) in
      let range = pin_range g.word l.word in
      slot_passed (new_name seen) space (gate₁ before next) line g.name 0 (put (word_text g.word) space t₁) w.0 w.1
      ∙ slot_passed gate_word space (gate₂ before next g.name) line (word_text g.word) g.word t₁ k.0 k.1
      ∙ slot_passed (pin_count g.word before) space (gate₃ next g.name g.word) line (decimal (length g.pins)) (length g.pins) t₂ c.0 c.1
      ∙ slot_passed bit space (gate₄ next g.name g.word (length g.pins)) line (decimal g.start) g.start t₃ b.0 b.1
      ∙ some_pins g.pins (gate₅ next g.name g.word g.start) line rest (omega (arith, l.least)) l.pins

-- a field and what is behind it are told by the text
put_parts : (f g : List ℕ) (d e : End) (rest more : List ℕ) → solids f ≡ true → solids g ≡ true → put f d rest ≡ put g e more → (f ≡ g) × (rest ≡ more)
put_parts f g d e rest more p q h =
    let tail : byte d ∷ rest ≡ byte e ∷ more = sym (behind_put f d rest p) ∙ ap behind h ∙ behind_put g e more q in
    (sym (field_put f d rest p) ∙ ap field h ∙ field_put g e more q, cc)

bit_parts : (v w : ℕ) (d e : End) (rest more : List ℕ) → v < 2 → w < 2 → put (decimal v) d rest ≡ put (decimal w) e more → (v ≡ w) × (rest ≡ more)
bit_parts v w d e rest more l m h =
    let r = put_parts (decimal v) (decimal w) d e rest more (decimal_field v (omega arith)).0 (decimal_field w (omega arith)).0 h in
    (decimal_injective v w (omega arith) (omega arith) r.0, r.1)

pub input_same : (i j : Input) (rest more : List ℕ) → LawfulInput i → LawfulInput j → write_input i rest ≡ write_input j more → (i ≡ j) × (rest ≡ more)
input_same i j rest more l m h =
    let n = put_parts i.name j.name space space _ _ (name_field i.name l.name).0 (name_field j.name m.name).0 h in
    let a = bit_parts i.applied j.applied space space _ _ l.applied m.applied n.1 in
    let s = bit_parts i.start j.start newline newline rest more l.start m.start a.1 in
    (ap (λ x. record { name = x; applied = i.applied; start = i.start }) n.0 ∙ ap (λ x. record { name = j.name; applied = x; start = i.start }) a.0 ∙ ap (λ x. record { name = j.name; applied = j.applied; start = x }) s.0, s.1)

pub pin_same : (p q : Pin) (d e : End) (rest more : List ℕ) → LawfulPin p → LawfulPin q → put p.source space (put (decimal p.start) d rest) ≡ put q.source space (put (decimal q.start) e more) → (p ≡ q) × (rest ≡ more)
pin_same p q d e rest more l m h =
    let n = put_parts p.source q.source space space _ _ (name_field p.source l.source).0 (name_field q.source m.source).0 h in
    let s = bit_parts p.start q.start d e rest more l.start m.start n.1 in
    (ap (λ x. record { source = x; start = p.start }) n.0 ∙ ap (λ x. record { source = q.source; start = x }) s.0, s.1)

pub pins_same : (ps qs : List Pin) (rest more : List ℕ) → length ps ≡ length qs → AllByRecursion LawfulPin ps → AllByRecursion LawfulPin qs → write_pins ps rest ≡ write_pins qs more → (ps ≡ qs) × (rest ≡ more)
pins_same [] [] rest more n l m h = (refl, h)
pins_same [] (q ∷ qs) rest more n l m h = absurd (omega arith)
pins_same (p ∷ ps) [] rest more n l m h = absurd (omega arith)
pins_same (p ∷ ps) (q ∷ qs) rest more n l m h =
    let one = pin_same p q (pin_end (length ps)) (pin_end (length qs)) (write_pins ps rest) (write_pins qs more) l.0 m.0 h in
    let r = pins_same ps qs rest more (let e : length ps ≡ length qs = omega arith in e) l.1 m.1 one.1 in
    (ap (λ x. x ∷ ps) one.0 ∙ ap (λ xs. q ∷ xs) r.0, r.1)

pub gate_same : (g h : Gate) (rest more : List ℕ) → LawfulGate g → LawfulGate h → write_gate g rest ≡ write_gate h more → (g ≡ h) × (rest ≡ more)
gate_same g h rest more l m e =
    let rg = pin_range g.word l.word in
    let rh = pin_range h.word m.word in
    let few : length g.pins < 2 ^ 64 = omega (arith, l.most) in
    let few₁ : length h.pins < 2 ^ 64 = omega (arith, m.most) in
    let n = put_parts g.name h.name space space _ _ (name_field g.name l.name).0 (name_field h.name m.name).0 e in
    let wg = word_fits g.word l.word in
    let wh = word_fits h.word m.word in
    let w = put_parts (word_text g.word) (word_text h.word) space space _ _ wg.0 wh.0 n.1 in
    let word : g.word ≡ h.word = same_fits (sym wg.1 ∙ ap (verdict gate_word) w.0 ∙ wh.1) in
    let c = put_parts (decimal (length g.pins)) (decimal (length h.pins)) space space _ _ (decimal_field (length g.pins) few).0 (decimal_field (length h.pins) few₁).0 w.1 in
    let s = bit_parts g.start h.start space space _ _ l.start m.start c.1 in
    let p = pins_same g.pins h.pins rest more (decimal_injective (length g.pins) (length h.pins) few few₁ c.0) l.pins m.pins s.1 in (
      ap (λ x. record { name = x; word = g.word; start = g.start; pins = g.pins }) n.0
          ∙ ap (λ x. record { name = h.name; word = x; start = g.start; pins = g.pins }) word
          ∙ ap (λ x. record { name = h.name; word = h.word; start = x; pins = g.pins }) s.0
          ∙ ap (λ x. record { name = h.name; word = h.word; start = h.start; pins = x }) p.0,
      p.1,
    )
