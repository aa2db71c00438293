use Rattle.circuit.proofs.Unjoined.{first_unjoined_exact}
use Rattle.circuit.proofs.tables.reads.first_unjoined_exact.Goals as goal

pub returns : goal.returns
returns c = first_unjoined_exact
