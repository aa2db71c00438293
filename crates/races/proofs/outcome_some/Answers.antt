use Rattle.races.proofs.Adopts.{outcome_some}
use Rattle.races.proofs.outcome_some.Goals as goal

pub returns : goal.returns
returns c = outcome_some
