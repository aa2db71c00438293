-- The board that a record stands for.
use Rattle.std.specs.Prelude.{List}
use Rattle.gates.specs.Kinds.{Kind}
use Rattle.record.specs.Boards.{Board, Held}

abbrev pub board_of : {L : Type 0} → (L → List Kind) → Held L → Board
board_of kinds held = record { kinds = kinds held.library; circuit = held.circuit; state = held.state; marks = held.marks }
