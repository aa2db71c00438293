use Rattle.list_record.proofs.Joined.{pins_joined}
use Rattle.list_record.proofs.pins_joined.Goals as goal

pub returns : goal.returns
returns c = pins_joined
