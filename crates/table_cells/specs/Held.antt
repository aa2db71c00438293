-- The cells that a library holds, as kinds.
use Rattle.std.specs.Prelude.{List, map}
use Rattle.gates.specs.Kinds.{Kind}
use Rattle.table_cells.specs.declared.cell.Cell.{Cell}
use Rattle.table_cells.specs.Cells.{cell_kind}

abbrev pub kind_of : Cell → Kind
kind_of c = cell_kind c.pins c.truth

abbrev pub kinds_of : List Cell → List Kind
kinds_of cells = map kind_of cells
