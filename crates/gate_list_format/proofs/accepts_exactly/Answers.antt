use Rattle.gate_list_format.proofs.Admitted.{accepts}
use Rattle.gate_list_format.proofs.accepts_exactly.Goals as goal

pub returns : goal.returns
returns c = accepts
