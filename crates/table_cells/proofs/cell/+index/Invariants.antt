use Rattle.std.proofs.Common.{length}
use Rattle.table_cells.proofs.cell.+index.Given as goal

abbrev pub decreases-index : goal.decreases-index
decreases-index l = length l.bits.now
