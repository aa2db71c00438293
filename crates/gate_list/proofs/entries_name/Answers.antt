use Rattle.gate_list.proofs.Known.{entries_name}
use Rattle.gate_list.proofs.entries_name.Goals as goal

pub returns : goal.returns
returns c = entries_name
