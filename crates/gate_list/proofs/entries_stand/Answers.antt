use Rattle.gate_list.proofs.Known.{entries_stand}
use Rattle.gate_list.proofs.entries_stand.Goals as goal

pub returns : goal.returns
returns c = entries_stand
