-- What a gate list's answer is, and what the name tables then hold.
use Rattle.std.specs.Prelude.{ℕ, ◌-◌, cond, List, [], ◌++◌, length, replicate, Ok, Err, Result, ◌==◌}
use Rattle.gate_list_format.specs.Slots.{Outcome, accepted, refused}
use Rattle.gate_list_format.specs.Lists.{GateList, Input, Gate, kind_of, write_input, write_gate}
use Rattle.gate_list_format.specs.Places.{laid, inputs_place, gates_place}
use Rattle.gate_list_names.specs.declared.InputEntry.{InputEntry}
use Rattle.gate_list_names.specs.declared.GateEntry.{GateEntry}
use Rattle.gate_list.specs.declared.Refusal.{Refusal}
use Rattle.gate_list.specs.Refusals.{refusal_number, refusal_line}

-- an answer in code: the counts of inputs and gates, or a refusal's number and line
abbrev pub told : Result (ℕ × ℕ) Refusal → Outcome (ℕ × ℕ)
told (Ok x) = accepted (x.0, x.1)
told (Err e) = refused (refusal_number e) (refusal_line e)

abbrev pub counts : Outcome GateList → Outcome (ℕ × ℕ)
counts (accepted b) = accepted (length b.inputs, length b.gates)
counts (refused n line) = refused n line

-- the entries of a list's lines: its name's place and length, and a gate's kind
abbrev pub input_entry : ℕ → Input → InputEntry
input_entry place i = record { place = place; length = length i.name }

abbrev pub gate_entry : ℕ → Gate → GateEntry
gate_entry place g = record { place = place; length = length g.name; kind = kind_of g.word (length g.pins) }

abbrev pub input_entries : GateList → List InputEntry
input_entries b = laid write_input input_entry (inputs_place b) b.inputs

abbrev pub gate_entries : GateList → List GateEntry
gate_entries b = laid write_gate gate_entry (gates_place b) b.gates

-- entries of all 0
abbrev pub no_input : InputEntry
no_input = record { place = 0; length = 0 }

abbrev pub no_gate : GateEntry
no_gate = record { place = 0; length = 0; kind = 0 }

-- a table with these entries, and blank ones up to its end
abbrev pub filled : {E : Type 0} → E → List E → List E → List E
filled blank old es = es ++ replicate (length old - length es) blank

-- after an accepted list its entries; after a refused one all blank, but untouched at 14
abbrev pub table : {E : Type 0} → E → (GateList → List E) → List E → Outcome GateList → List E
table blank entries old (accepted b) = filled blank old (entries b)
table blank entries old (refused n line) = cond (n == 14) old (filled blank old [])

abbrev pub input_table : List InputEntry → Outcome GateList → List InputEntry
input_table = table no_input input_entries

abbrev pub gate_table : List GateEntry → Outcome GateList → List GateEntry
gate_table = table no_gate gate_entries
