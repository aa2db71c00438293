use Rattle.std.proofs.Common.{◌≡◌, ◌+◌, ◌-◌, ◌≤◌, List, []}
use Rattle.gate_list_format.specs.Slots.{Form, read}
use Rattle.gate_list_format.specs.Lists.{GateList, Input, Gate, input_names, wires}
use Rattle.gate_list_format.specs.Reading.{gate_forms}
use Rattle.gate_list_names.specs.Names.{input_names_in}
use Rattle.gate_list.specs.Parts.{GatesAre}
use Rattle.gate_list.proofs.read_gates.Given as goal

abbrev pub invariant-loop-i : goal.invariant-loop-i
invariant-loop-i l = (gs : List Gate) × GatesAre l.i l.whole l.text l.table gs l.rest × (l.before ≡ wires gs) × (l.before ≤ 384) × ((is : List Input) → input_names is ≡ input_names_in l.whole l.inputs → (next : List Gate → Form GateList) → read (gate_forms l.i-end is [] next) l.first l.text ≡ read (gate_forms (l.i-end - l.i) is gs next) (l.first + l.i) l.rest)
