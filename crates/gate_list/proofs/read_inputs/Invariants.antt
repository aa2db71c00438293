use Rattle.std.proofs.Common.{◌≡◌, ◌+◌, ◌-◌, List, []}
use Rattle.gate_list_format.specs.Slots.{Form, read}
use Rattle.gate_list_format.specs.Lists.{GateList, Input}
use Rattle.gate_list_format.specs.Reading.{input_forms}
use Rattle.gate_list.specs.Parts.{InputsAre}
use Rattle.gate_list.proofs.read_inputs.Given as goal

abbrev pub invariant-loop-i : goal.invariant-loop-i
invariant-loop-i l = (is : List Input) × InputsAre l.i l.whole l.text l.table is l.rest × ((next : List Input → Form GateList) → read (input_forms l.i-end [] next) 2 l.text ≡ read (input_forms (l.i-end - l.i) is next) (2 + l.i) l.rest)
