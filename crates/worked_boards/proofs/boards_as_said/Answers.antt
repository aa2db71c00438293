use Rattle.worked_boards.proofs.Computed.{boards_as_said}
use Rattle.worked_boards.proofs.boards_as_said.Goals as goal

pub returns : goal.returns
returns c = boards_as_said
