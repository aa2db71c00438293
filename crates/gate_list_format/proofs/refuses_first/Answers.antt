use Rattle.gate_list_format.proofs.Admitted.{refuses}
use Rattle.gate_list_format.proofs.refuses_first.Goals as goal

pub returns : goal.returns
returns c = refuses
