use Rattle.gates.proofs.Exact.{extension_exact}
use Rattle.gates.proofs.extension_exact.Goals as goal

pub returns : goal.returns
returns c = extension_exact
