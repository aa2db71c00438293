use Rattle.std.proofs.Common.{arith}
use Rattle.plain_gates.proofs.Numbered.{plain_numbered}
use Rattle.plain_gates.proofs.PlainGatesGateLibrary.kind_count.Goals as goal

pub returns : goal.returns
returns c = omega (arith, plain_numbered.count)
