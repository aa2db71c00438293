use Rattle.gates.specs.Paired.{paired_kind}
use Rattle.gates.proofs.paired.Goals as goal

pub returns : goal.returns
returns c = rw c.then_some.ensures (paired_kind c.args.kind)
