use Rattle.races.proofs.Fires.{steps_fire}
use Rattle.races.proofs.steps_fire.Goals as goal

pub returns : goal.returns
returns c = steps_fire
