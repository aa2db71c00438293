use Rattle.std.proofs.Common.{length}
use Rattle.table_cells.proofs.cell.+spread.Given as goal

abbrev pub decreases-spread : goal.decreases-spread
decreases-spread l = length l.marks.now
