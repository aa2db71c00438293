use Rattle.races.proofs.Adopts.{adopt_lands}
use Rattle.races.proofs.adopt_lands.Goals as goal

pub returns : goal.returns
returns c = adopt_lands
