use Rattle.circuit.proofs.Steps.{steps_few}
use Rattle.circuit.proofs.passes.steps_few.Goals as goal

pub returns : goal.returns
returns c = steps_few
