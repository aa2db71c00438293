use Rattle.table_cells.proofs.Indices.{high_bits_ignored}
use Rattle.table_cells.proofs.high_bits_ignored.Goals as goal

pub returns : goal.returns
returns c = high_bits_ignored
