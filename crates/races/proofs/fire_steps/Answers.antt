use Rattle.races.proofs.Fires.{fire_steps}
use Rattle.races.proofs.fire_steps.Goals as goal

pub returns : goal.returns
returns c = fire_steps
