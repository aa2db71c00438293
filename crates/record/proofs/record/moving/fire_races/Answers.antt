use Rattle.record.proofs.Fired.{fire_races}
use Rattle.record.proofs.record.moving.fire_races.Goals as goal

pub returns : goal.returns
returns c = fire_races
