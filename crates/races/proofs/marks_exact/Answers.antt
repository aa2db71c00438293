use Rattle.races.proofs.Exact.{marks_exact}
use Rattle.races.proofs.marks_exact.Goals as goal

pub returns : goal.returns
returns c = marks_exact
