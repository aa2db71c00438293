use Rattle.races.proofs.SmallCircuits.{examples}
use Rattle.races.proofs.examples.Goals as goal

pub returns : goal.returns
returns c = examples
