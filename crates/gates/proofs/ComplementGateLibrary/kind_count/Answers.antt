use Rattle.std.proofs.Common.{arith}
use Rattle.gates.specs.Paired.{length-complementing}
use Rattle.gates.proofs.ComplementGateLibrary.kind_count.Goals as goal

pub returns : goal.returns
returns g c = omega (arith, length-complementing (g.L.GateLibrary.kinds c.args.self.now.below))
