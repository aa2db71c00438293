use Rattle.std.proofs.Common.{◌≡◌, take}
use Rattle.gate_list_format.specs.Lists.{GateList, wires}
use Rattle.list_record.specs.Entering.{list_board}
use Rattle.list_record.specs.Replay.{Lists, GateStands, pins_joined, pins_before}
use Rattle.list_record.proofs.replay.join_pins.Given as goal

abbrev pub invariant-loop-pin : goal.invariant-loop-pin
invariant-loop-pin l = (b : GateList) → Lists l.names b → GateStands b l.names.text.now l.gate l.place → l.first ≡ wires (take l.gate b.gates) → list_board l.initial.board ≡ pins_joined b (pins_before b l.gate 0) → list_board l.board ≡ pins_joined b (pins_before b l.gate l.pin)
