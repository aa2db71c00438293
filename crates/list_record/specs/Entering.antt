-- What is answered to a gate list, and the steps by which it goes onto a record.
use Rattle.std.specs.Prelude.{Ok, Err, Result}
use Rattle.gates.specs.declared.Complement.{Complement}
use Rattle.plain_gates.specs.declared.PlainGates.{PlainGates}
use Rattle.record.specs.Boards.{Board, Held}
use Rattle.record.specs.Views.{board_of}
use Rattle.gate_list_format.specs.Slots.{Outcome, accepted, refused}
use Rattle.gate_list_format.specs.Lists.{GateList}
use Rattle.gate_list.specs.declared.Refusal.{Refusal}
use Rattle.gate_list.specs.Refusals.{refusal_number, refusal_line}
use Rattle.list_record.specs.ListBoards.{list_kinds}

-- the board of a record over the complementing library on plain gates
abbrev pub list_board : Held (Complement PlainGates) → Board
list_board held = board_of (λ _. list_kinds) held

-- an answer in code
abbrev pub told : Result (Unit {0}) Refusal → Outcome (Unit {0})
told (Ok x) = accepted tt
told (Err e) = refused (refusal_number e) (refusal_line e)

-- whether a list is accepted, or its first fault and its line
abbrev pub verdict : Outcome GateList → Outcome (Unit {0})
verdict (accepted b) = accepted tt
verdict (refused n line) = refused n line
