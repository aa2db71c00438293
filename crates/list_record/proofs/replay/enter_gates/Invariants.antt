use Rattle.std.proofs.Common.{◌≡◌}
use Rattle.gate_list_format.specs.Lists.{GateList}
use Rattle.list_record.specs.Entering.{list_board}
use Rattle.list_record.specs.Replay.{Lists, gates_in}
use Rattle.list_record.proofs.replay.enter_gates.Given as goal

abbrev pub invariant-loop-number : goal.invariant-loop-number
invariant-loop-number l = (b : GateList) → Lists l.names b → list_board l.initial.board ≡ gates_in b 0 → list_board l.board ≡ gates_in b l.number
