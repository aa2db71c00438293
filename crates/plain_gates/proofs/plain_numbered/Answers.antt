use Rattle.plain_gates.proofs.Numbered.{plain_numbered}
use Rattle.plain_gates.proofs.plain_numbered.Goals as goal

pub returns : goal.returns
returns c = plain_numbered
