-- What the parts of the reading answer.
use Rattle.std.specs.Prelude.{◌≡◌, ℕ, ◌+◌, ◌-◌, ◌<◌, ◌≤◌, Bool, List, [], ◌++◌, length, take, codes, drop, Some, None, Ok, Err, Option, Result}
use Rattle.std.specs.Borrow.{Bor}
use Rattle.std.specs.List.{AllByRecursion}
use Rattle.gate_list_format.specs.Slots.{Outcome, accepted, refused, Form, ends, read}
use Rattle.gate_list_format.specs.Lists.{GateList, Input, Gate, LawfulGate, input_names, write_input, write_gate, writes, written}
use Rattle.gate_list_format.specs.Reading.{heading_form, input_forms, gate_forms, member, known, sourced, answer, reading}
use Rattle.gate_list_format.specs.Places.{laid}
use Rattle.gate_list_lines.specs.Lines.{HeadingIs}
use Rattle.gate_list_lookup.specs.Lookup.{pin_number}
use Rattle.gate_list_names.specs.declared.InputEntry.{InputEntry}
use Rattle.gate_list_names.specs.declared.GateEntry.{GateEntry}
use Rattle.gate_list_names.specs.declared.Names.{Names}
use Rattle.gate_list_names.specs.Names.{input_names_in}
use Rattle.gate_list_names.specs.Given.{all_names}
use Rattle.gate_list.specs.declared.Refusal.{Refusal}
use Rattle.gate_list.specs.Refusals.{RefusedAt}
use Rattle.gate_list.specs.Tables.{input_entry, gate_entry, input_entries, gate_entries}

-- what is left of a text
abbrev pub Rest : List ℕ → List ℕ → Type 0
Rest whole rest = (front : List ℕ) × (whole ≡ front ++ rest)

-- the text begins with these input lines, and the table's first entries are theirs
pub record InputsAre (count : ℕ) (whole text : List ℕ) (table : List InputEntry) (is : List Input) (rest : List ℕ) : Type 0 where
  pub long : length is ≡ count
  pub written : text ≡ writes write_input is rest
  pub entries : take count table ≡ laid write_input input_entry (length whole - length text) is

abbrev pub InputsRead : ℕ → List ℕ → List ℕ → List InputEntry → Result (Bor (List ℕ)) Refusal → Type 0
InputsRead count whole text table (Ok rest) = (is : List Input) × InputsAre count whole text table is rest.now × ((next : List Input → Form GateList) → read (input_forms count [] next) 2 text ≡ read (next is) (2 + count) rest.now)
InputsRead count whole text table (Err e) = (next : List Input → Form GateList) → RefusedAt (read (input_forms count [] next) 2 text) e

-- the text begins with these gate lines, and the table's first entries are theirs
pub record GatesAre (count : ℕ) (whole text : List ℕ) (table : List GateEntry) (gs : List Gate) (rest : List ℕ) : Type 0 where
  pub long : length gs ≡ count
  pub lawful : AllByRecursion LawfulGate gs
  pub written : text ≡ writes write_gate gs rest
  pub entries : take count table ≡ laid write_gate gate_entry (length whole - length text) gs

abbrev pub GatesRead : ℕ → ℕ → List ℕ → List ℕ → List InputEntry → List GateEntry → Result (Bor (List ℕ)) Refusal → Type 0
GatesRead count first whole text inputs table (Ok rest) = (gs : List Gate) × GatesAre count whole text table gs rest.now × ((is : List Input) → input_names is ≡ input_names_in whole inputs → (next : List Gate → Form GateList) → read (gate_forms count is [] next) first text ≡ read (next gs) (first + count) rest.now)
GatesRead count first whole text inputs table (Err e) = (is : List Input) → input_names is ≡ input_names_in whole inputs → (next : List Gate → Form GateList) → RefusedAt (read (gate_forms count is [] next) first text) e

-- the tables hold the list that the text writes
pub record Held (text : List ℕ) (inputs : List InputEntry) (gates : List GateEntry) (n r : ℕ) (b : GateList) : Type 0 where
  pub input_count : n ≡ length b.inputs
  pub gate_count : r ≡ length b.gates
  pub few_inputs : n ≤ 32
  pub few_gates : r ≤ 96
  pub lawful : AllByRecursion LawfulGate b.gates
  pub written : text ≡ written b
  pub input_rows : take n inputs ≡ input_entries b
  pub gate_rows : take r gates ≡ gate_entries b

-- what is read behind the inputs' lines, behind the gates' heading, and behind the gates' lines
abbrev pub list₄ : List Input → List Gate → Form GateList
list₄ is gs = ends (answer (record { inputs = is; gates = gs }))

abbrev pub list₃ : List Input → ℕ → Form GateList
list₃ is r = gate_forms r is [] (list₄ is)

abbrev pub list₂ : List Input → Form GateList
list₂ is = heading_form (codes "gates") 96 (list₃ is)

-- the text begins with the inputs' heading and so many input lines, and the table's first entries are theirs
pub record InputsIn (text : List ℕ) (n : ℕ) (inputs : List InputEntry) (rest : List ℕ) : Type 0 where
  pub list : List Input
  pub body : List ℕ
  pub heading : HeadingIs (codes "inputs") 32 text n body
  pub lines : InputsAre n text body inputs list rest
  pub reads : reading text ≡ read (list₂ list) (2 + n) rest

-- and with the gates' heading and so many gate lines
pub record GatesIn (text : List ℕ) (n r : ℕ) (inputs : List InputEntry) (gates : List GateEntry) (rest : List ℕ) : Type 0 where
  pub list : GateList
  pub few : r ≤ 96
  pub holds : length rest ≡ 0 → Held text inputs gates n r list
  pub reads : reading text ≡ read (ends (answer list)) (n + 3 + r) rest

-- the inputs' section is read, with its heading
abbrev pub InputSection : List ℕ → List InputEntry → Result (ℕ × Bor (List ℕ)) Refusal → Type 0
InputSection text inputs (Ok x) = InputsIn text x.0 inputs x.1.now
InputSection text inputs (Err e) = RefusedAt (reading text) e

-- the gates' section is read, behind so many inputs
abbrev pub GateSection : List ℕ → ℕ → List InputEntry → List GateEntry → Result (ℕ × Bor (List ℕ)) Refusal → Type 0
GateSection text n inputs gates (Ok x) = GatesIn text n x.0 inputs gates x.1.now
GateSection text n inputs gates (Err e) = RefusedAt (reading text) e

-- all lines are read, but for the look at the sources
abbrev pub LinesRead : List ℕ → List InputEntry → List GateEntry → Result (ℕ × ℕ) Refusal → Type 0
LinesRead text inputs gates (Ok x) = (b : GateList) × Held text inputs gates x.0 x.1 b × (reading text ≡ answer b)
LinesRead text inputs gates (Err e) = RefusedAt (reading text) e

abbrev pub ListRead : List ℕ → List InputEntry → List GateEntry → Result (ℕ × ℕ) Refusal → Type 0
ListRead text inputs gates (Ok x) = (b : GateList) × Held text inputs gates x.0 x.1 b × (reading text ≡ accepted b)
ListRead text inputs gates (Err e) = RefusedAt (reading text) e

-- the pin count of a lawful gate line, written at a place
abbrev pub PinCount : List ℕ → ℕ → ℕ → Type 0
PinCount text place r = (g : Gate) (rest : List ℕ) → LawfulGate g → drop place text ≡ write_gate g rest → r ≡ length g.pins

-- whether the source of a pin is among the names, in a lawful gate line, written at a place
abbrev pub SourceKnown : List (List ℕ) → List ℕ → ℕ → ℕ → Bool → Type 0
SourceKnown ns text place pin r = (g : Gate) (rest : List ℕ) → LawfulGate g → drop place text ≡ write_gate g rest → pin < length g.pins → r ≡ member (pin_number g.pins pin).source ns

-- whether the sources of a lawful gate line, written at a place, are all among the names
abbrev pub GateKnown : List (List ℕ) → List ℕ → ℕ → Bool → Type 0
GateKnown ns text place r = (g : Gate) (rest : List ℕ) → LawfulGate g → drop place text ≡ write_gate g rest → r ≡ known ns g.pins

-- the first gate with a source that is none of the names
abbrev pub FirstUnknown : List (List ℕ) → List Gate → Option ℕ → Type 0
FirstUnknown ns gs None = (line : ℕ) (o : Outcome GateList) → sourced ns line gs o ≡ o
FirstUnknown ns gs (Some k) = (k < length gs) × ((line : ℕ) (o : Outcome GateList) → sourced ns line gs o ≡ refused 19 (line + k))

-- the same of the gates that the table holds
abbrev pub UnknownGate : Names → Option ℕ → Type 0
UnknownGate names r = (gs : List Gate) (front : List ℕ) → AllByRecursion LawfulGate gs → names.text.now ≡ front ++ writes write_gate gs [] → names.gates.now ≡ laid write_gate gate_entry (length front) gs → FirstUnknown (all_names names) gs r
