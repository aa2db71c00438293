-- What code answers of headings, pins and lines, whatever follows them in the text.
use Rattle.std.specs.Prelude.{◌≡◌, ℕ, ◌+◌, ◌≤◌, List, [], length, Ok, Err, Some, None, decimal, codes, Option, Result}
use Rattle.std.specs.Borrow.{Bor}
use Rattle.std.specs.List.{AllByRecursion}
use Rattle.gate_list_format.specs.Slots.{End, space, newline, refused, Form, slot, read, line_after, put}
use Rattle.gate_list_format.specs.Lists.{GateList, Input, Pin, Gate, LawfulInput, LawfulPin, LawfulGate, kind_of, write_heading, write_input, write_pins, write_gate}
use Rattle.gate_list_format.specs.Reading.{heading, heading_form, source_name, bit, input_form, pin_forms, gate_form}
use Rattle.gate_list_fields.specs.declared.Fault.{Fault}
use Rattle.gate_list_fields.specs.Faults.{number_of}
use Rattle.gate_list_fields.specs.Taken.{Passed, Failed}
use Rattle.gate_list_lines.specs.declared.InputFields.{InputFields}
use Rattle.gate_list_lines.specs.declared.GateFields.{GateFields}
use Rattle.gate_list_lines.specs.declared.Section.{Section}
use Rattle.gate_list_lines.specs.declared.Section.TheVariants.{Inputs, Gates}
use Rattle.gate_list_lines.specs.declared.Line.{Line}
use Rattle.gate_list_lines.specs.declared.Line.TheVariants.{Input as InputVariant, Gate as GateVariant}
use Rattle.gate_list_lines.specs.declared.PinFields.{PinFields}

-- a part of the form is read: whatever follows it, reading goes on behind it with what was read
abbrev pub GoesOn : {X : Type 0} → ((X → Form GateList) → Form GateList) → End → List ℕ → X → List ℕ → Type 0
GoesOn {X = X} form end text x rest = (line : ℕ) (next : X → Form GateList) → read (form next) line text ≡ read (next x) (line_after end line) rest

-- a part of the form has a fault: whatever follows it, the text is refused there
abbrev pub Stops : {X : Type 0} → ((X → Form GateList) → Form GateList) → List ℕ → ℕ → Type 0
Stops {X = X} form text n = (line : ℕ) (next : X → Form GateList) → read (form next) line text ≡ refused n line

-- a heading's word
abbrev pub WordTaken : List ℕ → List ℕ → Result (Bor (List ℕ)) Fault → Type 0
WordTaken word text (Ok rest) = Passed (heading word) space text word 0 rest.now
WordTaken word text (Err f) = Failed (heading word) space text (number_of f)

pub record HeadingIs (word : List ℕ) (most : ℕ) (text : List ℕ) (n : ℕ) (rest : List ℕ) : Type 0 where
  pub few : n ≤ most
  pub written : text ≡ write_heading word n rest
  pub on : GoesOn (heading_form word most) newline text n rest

abbrev pub HeadingRead : List ℕ → ℕ → List ℕ → Result (ℕ × Bor (List ℕ)) Fault → Type 0
HeadingRead word most text (Ok x) = HeadingIs word most text x.0 x.1.now
HeadingRead word most text (Err f) = Stops (heading_form word most) text (number_of f)

-- a section's word, and the most lines that it may have
abbrev pub section_word : Section → List ℕ
section_word Inputs = codes "inputs"
section_word Gates = codes "gates"

abbrev pub section_most : Section → ℕ
section_most Inputs = 32
section_most Gates = 96

abbrev pub line_name : Line → List ℕ
line_name (InputVariant fields) = fields.name.now
line_name (GateVariant fields) = fields.name.now

abbrev pub line_input : Line → Option InputFields
line_input (InputVariant fields) = Some fields
line_input (GateVariant fields) = None

abbrev pub line_gate : Line → Option GateFields
line_gate (InputVariant fields) = None
line_gate (GateVariant fields) = Some fields

-- the fields are those of an input
abbrev pub IsInputFields : InputFields → Input → Type 0
IsInputFields fields i = (fields.name.now ≡ i.name) × (fields.applied ≡ i.applied) × (fields.start ≡ i.start)

-- a read line is that input
abbrev pub IsInput : Line → Input → Type 0
IsInput (InputVariant fields) i = IsInputFields fields i
IsInput (GateVariant fields) i = ⊥

pub record InputIs (seen : List (List ℕ)) (text : List ℕ) (i : Input) (rest : List ℕ) : Type 0 where
  pub lawful : LawfulInput i
  pub written : text ≡ write_input i rest
  pub on : GoesOn (input_form seen) newline text i rest

abbrev pub InputLine : List (List ℕ) → List ℕ → Result (Line × Bor (List ℕ)) Fault → Type 0
InputLine seen text (Ok x) = (i : Input) × IsInput x.0 i × InputIs seen text i x.1.now
InputLine seen text (Err f) = Stops (input_form seen) text (number_of f)

-- one pin
abbrev pub pin_form : End → (Pin → Form GateList) → Form GateList
pin_form end next =
    slot source_name space λ source _.
    slot bit end λ _ start.
    next (record { source = source; start = start })

abbrev pub write_pin : Pin → End → List ℕ → List ℕ
write_pin p end rest = put p.source space (put (decimal p.start) end rest)

pub record PinIs (end : End) (text : List ℕ) (p : Pin) (rest : List ℕ) : Type 0 where
  pub lawful : LawfulPin p
  pub written : text ≡ write_pin p end rest
  pub on : GoesOn (pin_form end) end text p rest

-- the fields are those of a pin
abbrev pub IsPin : PinFields → Pin → Type 0
IsPin fields p = (fields.source.now ≡ p.source) × (fields.start ≡ p.start)

abbrev pub PinRead : End → List ℕ → Result (PinFields × Bor (List ℕ)) Fault → Type 0
PinRead end text (Ok x) = (p : Pin) × IsPin x.0 p × PinIs end text p x.1.now
PinRead end text (Err f) = Stops (pin_form end) text (number_of f)

pub record PinsAre (count : ℕ) (text : List ℕ) (ps : List Pin) (rest : List ℕ) : Type 0 where
  pub long : length ps ≡ count
  pub lawful : AllByRecursion LawfulPin ps
  pub written : text ≡ write_pins ps rest
  pub on : GoesOn (pin_forms count []) newline text ps rest

abbrev pub PinsRead : ℕ → List ℕ → Result (Bor (List ℕ)) Fault → Type 0
PinsRead count text (Ok rest) = (ps : List Pin) × PinsAre count text ps rest.now
PinsRead count text (Err f) = Stops (pin_forms count []) text (number_of f)

-- the fields are those of a gate
abbrev pub IsGateFields : GateFields → Gate → Type 0
IsGateFields fields g = (fields.name.now ≡ g.name) × (fields.kind ≡ kind_of g.word (length g.pins)) × (fields.pin_count ≡ length g.pins) × (fields.start ≡ g.start) × (fields.pins.now ≡ write_pins g.pins [])

-- a read line is that gate
abbrev pub IsGate : Line → Gate → Type 0
IsGate (InputVariant fields) g = ⊥
IsGate (GateVariant fields) g = IsGateFields fields g

pub record GateIs (seen : List (List ℕ)) (before : ℕ) (text : List ℕ) (g : Gate) (rest : List ℕ) : Type 0 where
  pub lawful : LawfulGate g
  pub room : before + length g.pins ≤ 384
  pub written : text ≡ write_gate g rest
  pub on : GoesOn (gate_form seen before) newline text g rest

abbrev pub GateLine : List (List ℕ) → ℕ → List ℕ → Result (Line × Bor (List ℕ)) Fault → Type 0
GateLine seen before text (Ok x) = (g : Gate) × IsGate x.0 g × GateIs seen before text g x.1.now
GateLine seen before text (Err f) = Stops (gate_form seen before) text (number_of f)
