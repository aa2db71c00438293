use Rattle.std.proofs.Common.{◌≡◌, ◌*◌, ◌≤◌, [], take}
use Rattle.gate_list_format.specs.Lists.{GateList, wires}
use Rattle.list_record.specs.Entering.{list_board}
use Rattle.list_record.specs.ListBoards.{pins_in}
use Rattle.list_record.specs.Replay.{Lists, pins_joined}
use Rattle.list_record.proofs.replay.join_gates.Given as goal

abbrev pub invariant-loop-gate : goal.invariant-loop-gate
invariant-loop-gate l =
    (l.wire ≤ 255 * l.gate)
    × ((b : GateList) → Lists l.names b → list_board l.initial.board ≡ pins_joined b [] → (l.wire ≡ wires (take l.gate b.gates)) × (list_board l.board ≡ pins_joined b (pins_in (take l.gate b.gates))))
