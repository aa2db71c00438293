-- A written line is read again as it is.
use Rattle.std.proofs.Common.{◌≡◌, ℕ, ◌+◌, ◌-◌, ◌<◌, ◌≤◌, List, [], ◌∷◌, length, drop, Some, None, Ok, Err, decimal, Option, Result, sym, refl, ap, ◌∙◌, subst, arith, length-drop, Bor}
use Rattle.std.specs.List.{AllByRecursion}
use Rattle.std.specs.Result.{result_ok}
use Rattle.std.proofs.ByRecursion.{All-drop}
use Rattle.std.proofs.lemmas.List.{drop_more}
use Rattle.gate_list_format.specs.Slots.{End, Form, slot, ends, read, accepted, refused, space, newline, put, behind, past, fault, step, verdict}
use Rattle.gate_list_format.specs.Lists.{GateList, Input, Pin, Gate, LawfulInput, LawfulPin, LawfulGate, pin_end, write_input, write_gate, write_pins}
use Rattle.gate_list_format.specs.Reading.{input_form, gate_form}
use Rattle.gate_list_format.proofs.Judges.{pin_range, name_field}
use Rattle.gate_list_format.proofs.Slotted.{field_put}
use Rattle.gate_list_format.proofs.Passed.{input_passed, gate_passed, pin_passed, input_same, gate_same, pin_same}
use Rattle.gate_list_fields.specs.declared.Fault.{Fault}
use Rattle.gate_list_fields.specs.Faults.{number_of}
use Rattle.gate_list_lines.specs.Lines.{InputLine, GateLine, Stops, pin_form, IsInputFields, IsGateFields, IsPin, PinRead}
use Rattle.gate_list_lines.specs.declared.Line.{Line}
use Rattle.gate_list_lines.specs.declared.InputFields.{InputFields}
use Rattle.gate_list_lines.specs.declared.GateFields.{GateFields}
use Rattle.gate_list_lines.specs.declared.PinFields.{PinFields}
use Rattle.gate_list_lookup.specs.Lookup.{InputAt, GateAt, PinAt, PinOf, pin_number}

abbrev none : GateList
none = record { inputs = []; gates = [] }

-- a text that is read up to the next line is not refused in this one
not_here : (rest : List ℕ) (n : ℕ) → read (ends (accepted none)) 1 rest ≡ refused n 0 → ⊥
not_here [] n h = let z : ◌≡◌ {A = ℕ} 0 1 = cc in omega arith
not_here (b ∷ bs) n h = let z : ◌≡◌ {A = ℕ} 1 0 = cc in omega arith

pub input_not : (text : List ℕ) (n : ℕ) → Stops (input_form []) text n → (i : Input) (rest : List ℕ) → LawfulInput i → text ≡ write_input i rest → ⊥
input_not text n stops i rest l e =
    let next : Input → Form GateList = λ _. ends (accepted none) in
    not_here rest n (sym (ap (read (input_form [] next) 0) e ∙ input_passed [] next 0 i rest l tt) ∙ stops 0 next)

pub gate_not : (text : List ℕ) (n : ℕ) → Stops (gate_form [] 0) text n → (g : Gate) (rest : List ℕ) → LawfulGate g → text ≡ write_gate g rest → ⊥
gate_not text n stops g rest l e =
    let next : Gate → Form GateList = λ _. ends (accepted none) in
    let range = pin_range g.word l.word in
    let room : 0 + length g.pins ≤ 384 = omega (arith, l.most) in
    not_here rest n (sym (ap (read (gate_form [] 0 next) 0) e ∙ gate_passed [] 0 next 0 g rest l tt room) ∙ stops 0 next)

-- no line is read there
pub input_lost : (seen : List (List ℕ)) (text from : List ℕ) (r : Result (Line × Bor (List ℕ)) Fault) → seen ≡ [] → from ≡ text → None ≡ result_ok r → InputLine seen from r → InputAt text None
input_lost seen text from (Ok x) e is lost h = cc
input_lost seen text from (Err f) e is lost h = input_not text (number_of f) (subst (λ t. Stops (input_form []) t (number_of f)) is (subst (λ (s : List (List ℕ)). Stops (input_form s) from (number_of f)) e h))

pub gate_lost : (seen : List (List ℕ)) (text from : List ℕ) (r : Result (Line × Bor (List ℕ)) Fault) → seen ≡ [] → from ≡ text → None ≡ result_ok r → GateLine seen 0 from r → GateAt text None
gate_lost seen text from (Ok x) e is lost h = cc
gate_lost seen text from (Err f) e is lost h = gate_not text (number_of f) (subst (λ t. Stops (gate_form [] 0) t (number_of f)) is (subst (λ (s : List (List ℕ)). Stops (gate_form s 0) from (number_of f)) e h))

-- the line at its place is that line
pub input_is : (text : List ℕ) (fields : InputFields) (i : Input) (rest : List ℕ) → InputAt text (Some fields) → LawfulInput i → text ≡ write_input i rest → IsInputFields fields i
input_is text fields i rest h l e = subst (IsInputFields fields) (input_same h.0 i h.1 rest h.2 l (sym h.3 ∙ e)).0 h.4

pub gate_is : (text : List ℕ) (fields : GateFields) (g : Gate) (rest : List ℕ) → GateAt text (Some fields) → LawfulGate g → text ≡ write_gate g rest → IsGateFields fields g
gate_is text fields g rest h l e = subst (IsGateFields fields) (gate_same h.0 g h.1 rest h.2 l (sym h.3 ∙ e)).0 h.4

-- the next pin of a gate's pin fields is found
abbrev pub PinAgain : Pin → List ℕ → Result (PinFields × Bor (List ℕ)) Fault → Type 0
PinAgain p rest (Ok x) = IsPin x.0 p × (x.1.now ≡ rest)
PinAgain p rest (Err f) = ⊥

-- a slot that no field fits
abbrev never : ℕ → Form GateList
never n = slot (λ _. fault n) space (λ _ _. ends (accepted none))

never_read : (n line : ℕ) (q : Pin) (qs : List Pin) → LawfulPin q → read (never n) line (write_pins (q ∷ qs) []) ≡ refused n line
never_read n line q qs l =
    let text = write_pins (q ∷ qs) [] in
    let f = name_field q.source l.source in
    let first = field_put q.source space (put (decimal q.start) (pin_end (length qs)) (write_pins qs [])) f.0 in
    ap (λ j. step line j (past space (behind text)) (λ v rest. read (ends (accepted none)) line rest)) (ap (verdict (λ _. fault n)) first ∙ some q.source f.1)
  where
    some : (g : List ℕ) → 0 < length g → verdict (λ _. fault n) g ≡ fault n
    some [] h = absurd (omega arith)
    some (b ∷ bs) h = refl

pin_not : (p : Pin) (ps : List Pin) (n : ℕ) → Stops (pin_form (pin_end (length ps))) (write_pins (p ∷ ps) []) n → AllByRecursion LawfulPin (p ∷ ps) → ⊥
pin_not p [] n stops l =
    let next : Pin → Form GateList = λ _. ends (accepted none) in
    not_here [] n (sym (pin_passed newline next 0 p [] l.0) ∙ stops 0 next)
pin_not p (q ∷ qs) n stops l =
    let at = λ (m : ℕ). sym (pin_passed space (λ _. never m) 0 p (write_pins (q ∷ qs) []) l.0 ∙ never_read m 0 q qs l.1.0) ∙ stops 0 (λ _. never m) in
    let h : refused 16 0 ≡ refused n 0 = at 16 in
    let k : refused 17 0 ≡ refused n 0 = at 17 in
    let z : ◌≡◌ {A = ℕ} 16 17 = cc in
    omega arith

pub pin_again : (p : Pin) (ps : List Pin) (text : List ℕ) (r : Result (PinFields × Bor (List ℕ)) Fault) → AllByRecursion LawfulPin (p ∷ ps) → text ≡ write_pins (p ∷ ps) [] → PinRead (pin_end (length ps)) text r → PinAgain p (write_pins ps []) r
pin_again p ps text (Ok x) l e h =
    let is = pin_same h.0 p (pin_end (length ps)) (pin_end (length ps)) x.1.now (write_pins ps []) h.2.lawful l.0 (sym h.2.written ∙ e) in
    (subst (IsPin x.0) is.0 h.1, is.1)
pin_again p ps text (Err f) l e h = pin_not p ps (number_of f) (subst (λ t. Stops (pin_form (pin_end (length ps))) t (number_of f)) e h) l

-- one pin after another is read again
pub pin_turn : (ps : List Pin) (p count : ℕ) (e : End) (rest : List ℕ) (r : Result (PinFields × Bor (List ℕ)) Fault) → AllByRecursion LawfulPin ps → length ps ≡ count → p < count → rest ≡ write_pins (drop p ps) [] → e ≡ pin_end (count - p - 1) → PinRead e rest r → PinAgain (pin_number ps p) (write_pins (drop (p + 1) ps) []) r
pin_turn ps p count e rest r l n less is end h =
    let split = drop_more ps p (record { source = []; start = 0 }) (omega arith) in
    let long : count - p - 1 ≡ length (drop (p + 1) ps) = omega (arith, length-drop (p + 1) ps) in
    pin_again (pin_number ps p) (drop (p + 1) ps) rest r (subst (AllByRecursion LawfulPin) split (All-drop LawfulPin p ps l)) (is ∙ ap (λ t. write_pins t []) split) (subst (λ x. PinRead x rest r) (end ∙ ap pin_end long) h)

pub turn_lost : (p : Pin) (rest : List ℕ) (r : Result (PinFields × Bor (List ℕ)) Fault) → None ≡ result_ok r → PinAgain p rest r → ⊥
turn_lost p rest (Ok x) lost h = let z : ◌≡◌ {A = ℕ} 0 1 = cc in absurd (omega arith)
turn_lost p rest (Err f) lost h = h

pub turn_found : (p : Pin) (rest : List ℕ) (r : Result (PinFields × Bor (List ℕ)) Fault) (x : PinFields × Bor (List ℕ)) → Some x ≡ result_ok r → PinAgain p rest r → IsPin x.0 p × (x.1.now ≡ rest)
turn_found p rest (Ok y) x found h = let same : y ≡ x = cc in subst (λ z. IsPin z.0 p × (z.1.now ≡ rest)) same h
turn_found p rest (Err f) x found h = absurd h

-- the pin at its number is that pin
pub pin_is : (text : List ℕ) (p : ℕ) (fields : PinFields) (g : Gate) (rest : List ℕ) → PinAt text p (Some fields) → LawfulGate g → text ≡ write_gate g rest → PinOf g.pins p (Some fields)
pin_is text p fields g rest h l e = subst (λ x. PinOf x.pins p (Some fields)) (gate_same h.0 g h.1 rest h.2 l (sym h.3 ∙ e)).0 h.4

pub pin_by : (text : List ℕ) (p : ℕ) (r : Option PinFields) (g : Gate) (rest : List ℕ) → LawfulGate g → text ≡ write_gate g rest → PinOf g.pins p r → PinAt text p r
pin_by text p None g rest l e h = λ other more m d. subst (λ x. length x.pins ≤ p) (gate_same g other rest more l m (sym e ∙ d)).0 h
pin_by text p (Some fields) g rest l e h = (g, rest, l, e, h)
