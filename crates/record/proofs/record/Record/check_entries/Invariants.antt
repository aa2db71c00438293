use Rattle.std.proofs.Common.{◌≡◌, [], take, drop}
use Rattle.gates.specs.Told.{first_stop}
use Rattle.record.specs.Moves.{entry_stops}
use Rattle.record.specs.Views.{board_of}
use Rattle.record.proofs.record.Record.check_entries.Given as goal

abbrev pub invariant-loop-number : goal.invariant-loop-number
invariant-loop-number g l = first_stop (entry_stops (board_of g.L.GateLibrary.kinds l.self) (take l.number l.signals) (drop l.number l.signals)) ≡ first_stop (entry_stops (board_of g.L.GateLibrary.kinds l.self) [] l.signals)
