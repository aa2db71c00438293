use Rattle.circuit.proofs.Runs.{run_exists}
use Rattle.circuit.proofs.passes.run_exists.Goals as goal

pub returns : goal.returns
returns c = run_exists
