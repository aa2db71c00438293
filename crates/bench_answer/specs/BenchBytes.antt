-- The bytes that the bench answers to a text.
use Rattle.std.specs.Prelude.{◌≡◌, ℕ, List, [], ◌∷◌, ◌++◌, codes, decimal}
use Rattle.gates.specs.Told.{Told}
use Rattle.record.specs.Boards.{Board}
use Rattle.record.specs.Calls.{sheet_of}
use Rattle.record.specs.Runs.{Ran}
use Rattle.gate_list_format.specs.Slots.{Outcome, accepted, refused}
use Rattle.gate_list_format.specs.Lists.{GateList}
use Rattle.gate_list_format.specs.Reading.{admitted}
use Rattle.gate_list.specs.Refusals.{refuser}
use Rattle.list_record.specs.ListBoards.{board_of_list}

-- a refusal's number, who refuses, and the line
abbrev pub refusal_text : ℕ → ℕ → List ℕ
refusal_text n line = codes "refused " ++ (decimal n ++ (refuser n ++ (decimal line ++ (10 ∷ []))))

-- the bytes are the sheet of the board after a run
pub record SheetAfterRun (old : Board) (bytes : List ℕ) : Type 0 where
  pub told : Told (ℕ × ℕ × ℕ)
  pub new : Board
  pub ran : Ran old told new
  pub sheet : bytes ≡ sheet_of new

abbrev pub Answers : Outcome GateList → List ℕ → Type 0
Answers (accepted b) bytes = SheetAfterRun (board_of_list b) bytes
Answers (refused n line) bytes = bytes ≡ refusal_text n line

-- the bench's name tables have 32 and 96 entries
abbrev pub BenchBytes : List ℕ → List ℕ → Type 0
BenchBytes text bytes = Answers (admitted 32 96 text) bytes
