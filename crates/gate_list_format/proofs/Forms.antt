-- What has the forms of input, pin and gate lines.
use Rattle.std.proofs.Common.{◌≡◌, ℕ, zero, suc, ◌+◌, ◌<◌, ◌≤◌, true, List, [], ◌∷◌, ◌++◌, length, decimal, sym, refl, ap, ◌∙◌, subst, arith}
use Rattle.std.specs.List.{AllByRecursion}
use Rattle.std.proofs.lemmas.List.{append-nil, append_assoc, map_push}
use Rattle.gate_list_format.specs.Slots.{End, space, newline, solids, put, Form}
use Rattle.gate_list_format.specs.Lists.{Input, Pin, Gate, NotIn, LawfulInput, LawfulPin, LawfulGate, input_names, gate_names, wires, word_text, least_pins, most_pins, write_heading, write_input, write_pins, write_gate, writes, pin_end}
use Rattle.gate_list_format.specs.Reading.{heading_form, input_forms, pin_forms, gate_forms}
use Rattle.gate_list_format.proofs.Slotted.{Has}
use Rattle.gate_list_format.proofs.Judges.{heading_is, heading_fits, number_fits, number_read, word_fits, word_read, source_fits, source_read, name_fits, name_read, pins_fit, pins_read}

-- each name is none of those before it
abbrev pub Fresh : List (List ℕ) → List (List ℕ) → Type 0
Fresh seen [] = Unit {0}
Fresh seen (n ∷ ns) = NotIn n seen × Fresh (seen ++ (n ∷ [])) ns

-- the wires stay within their bound at each gate
abbrev pub Room : ℕ → List Gate → Type 0
Room wires [] = Unit {0}
Room wires (g ∷ gs) = (wires + length g.pins ≤ 384) × Room (wires + length g.pins) gs

pub put_same : (text f g : List ℕ) (e : End) (rest more : List ℕ) → text ≡ put f e rest → f ≡ g → rest ≡ more → text ≡ put g e more
put_same text f g e rest more p q r = p ∙ ap (λ h. put h e rest) q ∙ ap (λ t. put g e t) r

pub wires_push : (gs : List Gate) (g : Gate) → wires (gs ++ (g ∷ [])) ≡ wires gs + length g.pins
wires_push [] g = omega arith
wires_push (h ∷ gs) g = let r = wires_push gs g in omega arith

pub names_push : (is : List Input) (gs : List Gate) (g : Gate) → input_names is ++ gate_names (gs ++ (g ∷ [])) ≡ input_names is ++ gate_names gs ++ (g.name ∷ [])
names_push is gs g = ap (λ ns. input_names is ++ ns) (map_push (λ (k : Gate). k.name) gs g) ∙ sym (append_assoc (input_names is) (gate_names gs) (g.name ∷ []))

module _ {A : Type 0} where
  pub inputs_read : (n : ℕ) (before : List Input) (next : List Input → Form A) (text : List ℕ) (x : A) → Has (input_forms n before next) text x → (is : List Input) × (rest : List ℕ) × (length is ≡ n) × (text ≡ writes write_input is rest) × AllByRecursion LawfulInput is × Fresh (input_names before) (input_names is) × Has (next (before ++ is)) rest x
  inputs_read zero before next text x h = ([], text, refl, refl, tt, tt, subst (λ is. Has (next is) text x) (sym (append-nil before)) h)
  inputs_read (suc n) before next text x (name, v, rest, e, s, j, (f₁, applied, rest₁, e₁, s₁, j₁, (f₂, start, rest₂, e₂, s₂, j₂, h))) =
      let i : Input = record { name = name; applied = applied; start = start } in
      let r = inputs_read n (before ++ (i ∷ [])) next rest₂ x h in
      let a = number_read 15 0 2 applied f₁ j₁ in
      let b = number_read 15 0 2 start f₂ j₂ in
      let w = name_read (input_names before) name v j in (
        i ∷ r.0,
        r.1,
        ap suc r.2,
        put_same text name name space rest _ e refl (put_same rest f₁ _ space rest₁ _ e₁ a.2 (put_same rest₁ f₂ _ newline rest₂ _ e₂ b.2 r.3)),
        (record { name = w.0; applied = a.1; start = b.1 }, r.4),
        (w.1, subst (λ ns. Fresh ns (input_names r.0)) (map_push (λ (k : Input). k.name) before i) r.5),
        subst (λ is. Has (next is) r.1 x) (append_assoc before (i ∷ []) r.0) r.6,
      )

  pub inputs_have : (is before : List Input) (next : List Input → Form A) (rest : List ℕ) (x : A) → AllByRecursion LawfulInput is → Fresh (input_names before) (input_names is) → Has (next (before ++ is)) rest x → Has (input_forms (length is) before next) (writes write_input is rest) x
  inputs_have [] before next rest x l f h = subst (λ is. Has (next is) rest x) (append-nil before) h
  inputs_have (i ∷ is) before next rest x l f h =
      let w = name_fits (input_names before) i.name l.0.name f.0 in
      let a = number_fits 15 0 2 i.applied (omega arith) l.0.applied (omega (arith, l.0.applied)) in
      let b = number_fits 15 0 2 i.start (omega arith) l.0.start (omega (arith, l.0.start)) in (
        i.name,
        0,
        _,
        refl,
        w.0,
        w.1,
        (
          decimal i.applied,
          i.applied,
          _,
          refl,
          a.0,
          a.1,
          (
            decimal i.start,
            i.start,
            _,
            refl,
            b.0,
            b.1,
            inputs_have is (before ++ (i ∷ [])) next rest x l.1
                (subst (λ ns. Fresh ns (input_names is)) (sym (map_push (λ (k : Input). k.name) before i)) f.1)
                (subst (λ js. Has (next js) rest x) (sym (append_assoc before (i ∷ []) is)) h),
          ),
        ),
      )

  pub pins_from : (n : ℕ) (before : List Pin) (next : List Pin → Form A) (text : List ℕ) (x : A) → Has (pin_forms n before next) text x → (ps : List Pin) × (rest : List ℕ) × (length ps ≡ n) × (text ≡ write_pins ps rest) × AllByRecursion LawfulPin ps × Has (next (before ++ ps)) rest x
  pins_from zero before next text x h = ([], text, refl, refl, tt, subst (λ ps. Has (next ps) text x) (sym (append-nil before)) h)
  pins_from (suc n) before next text x (source, v, rest, e, s, j, (f₁, start, rest₁, e₁, s₁, j₁, h)) =
      let p : Pin = record { source = source; start = start } in
      let r = pins_from n (before ++ (p ∷ [])) next rest₁ x h in
      let a = number_read 15 0 2 start f₁ j₁ in (
        p ∷ r.0,
        r.1,
        ap suc r.2,
        put_same text source source space rest _ e refl (put_same rest f₁ _ (pin_end (length r.0)) rest₁ _ (e₁ ∙ ap (λ k. put f₁ (pin_end k) rest₁) (sym r.2)) a.2 r.3),
        (record { source = source_read source v j; start = a.1 }, r.4),
        subst (λ ps. Has (next ps) r.1 x) (append_assoc before (p ∷ []) r.0) r.5,
      )

  pub pins_have : (ps before : List Pin) (next : List Pin → Form A) (rest : List ℕ) (x : A) → AllByRecursion LawfulPin ps → Has (next (before ++ ps)) rest x → Has (pin_forms (length ps) before next) (write_pins ps rest) x
  pins_have [] before next rest x l h = subst (λ ps. Has (next ps) rest x) (append-nil before) h
  pins_have (p ∷ ps) before next rest x l h =
      let w = source_fits p.source l.0.source in
      let a = number_fits 15 0 2 p.start (omega arith) l.0.start (omega (arith, l.0.start)) in (
        p.source,
        0,
        _,
        refl,
        w.0,
        w.1,
        (
          decimal p.start,
          p.start,
          _,
          refl,
          a.0,
          a.1,
          pins_have ps (before ++ (p ∷ [])) next rest x l.1 (subst (λ qs. Has (next qs) rest x) (sym (append_assoc before (p ∷ []) ps)) h),
        ),
      )

  pub gates_read : (n : ℕ) (is : List Input) (before : List Gate) (next : List Gate → Form A) (text : List ℕ) (x : A) → Has (gate_forms n is before next) text x → (gs : List Gate) × (rest : List ℕ) × (length gs ≡ n) × (text ≡ writes write_gate gs rest) × AllByRecursion LawfulGate gs × Fresh (input_names is ++ gate_names before) (gate_names gs) × Room (wires before) gs × Has (next (before ++ gs)) rest x
  gates_read zero is before next text x h = ([], text, refl, refl, tt, tt, tt, subst (λ gs. Has (next gs) text x) (sym (append-nil before)) h)
  gates_read (suc n) is before next text x (name, v, rest, e, s, j, (f₁, word, rest₁, e₁, s₁, j₁, (f₂, p, rest₂, e₂, s₂, j₂, (f₃, start, rest₃, e₃, s₃, j₃, h)))) =
      let pr = pins_from p [] (λ pins. gate_forms n is (before ++ (record { name = name; word = word; start = start; pins = pins } ∷ [])) next) rest₃ x h in
      let pins = pr.0 in
      let g : Gate = record { name = name; word = word; start = start; pins = pins } in
      let r = gates_read n is (before ++ (g ∷ [])) next pr.1 x pr.5 in
      let w = name_read (input_names is ++ gate_names before) name v j in
      let k = word_read f₁ word j₁ in
      let c = pins_read word (wires before) f₂ p j₂ in
      let b = number_read 15 0 2 start f₃ j₃ in (
        g ∷ r.0,
        r.1,
        ap suc r.2,
        put_same text name name space rest _ e refl
            (put_same rest f₁ _ space rest₁ _ e₁ k.1
            (put_same rest₁ f₂ _ space rest₂ _ e₂ (c.0 ∙ ap decimal (sym pr.2))
            (put_same rest₂ f₃ _ space rest₃ _ e₃ b.2 (pr.3 ∙ ap (λ t. write_pins pins t) r.3)))),
        (record { name = w.0; word = k.0; least = subst (λ m. least_pins word ≤ m) (sym pr.2) c.1; most = subst (λ m. m ≤ most_pins word) (sym pr.2) c.2; start = b.1; pins = pr.4 }, r.4),
        (w.1, subst (λ ns. Fresh ns (gate_names r.0)) (names_push is before g) r.5),
        (subst (λ m. wires before + m ≤ 384) (sym pr.2) c.3, subst (λ m. Room m r.0) (wires_push before g) r.6),
        subst (λ gs. Has (next gs) r.1 x) (append_assoc before (g ∷ []) r.0) r.7,
      )

  pub gates_have : (gs : List Gate) (is : List Input) (before : List Gate) (next : List Gate → Form A) (rest : List ℕ) (x : A) → AllByRecursion LawfulGate gs → Fresh (input_names is ++ gate_names before) (gate_names gs) → Room (wires before) gs → Has (next (before ++ gs)) rest x → Has (gate_forms (length gs) is before next) (writes write_gate gs rest) x
  gates_have [] is before next rest x l f m h = subst (λ gs. Has (next gs) rest x) (append-nil before) h
  gates_have (g ∷ gs) is before next rest x l f m h =
      let w = name_fits (input_names is ++ gate_names before) g.name l.0.name f.0 in
      let k = word_fits g.word l.0.word in
      let c = pins_fit g.word (wires before) (length g.pins) l.0.word l.0.least l.0.most m.0 in
      let b = number_fits 15 0 2 g.start (omega arith) l.0.start (omega (arith, l.0.start)) in (
        g.name,
        0,
        _,
        refl,
        w.0,
        w.1,
        (
          word_text g.word,
          g.word,
          _,
          refl,
          k.0,
          k.1,
          (
            decimal (length g.pins),
            length g.pins,
            _,
            refl,
            c.0,
            c.1,
            (
              decimal g.start,
              g.start,
              _,
              refl,
              b.0,
              b.1,
              pins_have g.pins [] _ _ x l.0.pins
                  (gates_have gs is (before ++ (g ∷ [])) next rest x l.1
                  (subst (λ ns. Fresh ns (gate_names gs)) (sym (names_push is before g)) f.1)
                  (subst (λ n. Room n gs) (sym (wires_push before g)) m.1)
                  (subst (λ hs. Has (next hs) rest x) (sym (append_assoc before (g ∷ []) gs)) h)),
            ),
          ),
        ),
      )

  pub heading_read : (word : List ℕ) (most : ℕ) (next : ℕ → Form A) (text : List ℕ) (x : A) → Has (heading_form word most next) text x → (n : ℕ) × (rest : List ℕ) × (n ≤ most) × (text ≡ write_heading word n rest) × Has (next n) rest x
  heading_read word most next text x (f, v, rest, e, s, j, (f₁, n, rest₁, e₁, s₁, j₁, h)) =
      let c = number_read 16 0 (suc most) n f₁ j₁ in
      (n, rest₁, omega (arith, c.1), put_same text f word space rest _ e (heading_is word f v j) (put_same rest f₁ _ newline rest₁ _ e₁ c.2 refl), h)

  pub heading_has : (word : List ℕ) (most n : ℕ) (next : ℕ → Form A) (rest : List ℕ) (x : A) → solids word ≡ true → 0 < length word → n ≤ most → most < 1000 → Has (next n) rest x → Has (heading_form word most next) (write_heading word n rest) x
  heading_has word most n next rest x s l le small h =
      let a = number_fits 16 0 (suc most) n (omega arith) (omega arith) (omega arith) in
      (word, 0, _, refl, s, heading_fits word l, (decimal n, n, _, refl, a.0, a.1, h))
