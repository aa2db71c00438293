-- What a library of cells means, and what stops an addition to it.
use Rattle.std.specs.Prelude.{ℕ, cond, ◌||◌, List, length, Some, None, Ok, Err, vec_items, Option, Result, nat_le, nat_lt}
use Rattle.gates.specs.Kinds.{Kind}
use Rattle.gates.specs.Told.{Stop, Told, answer, refused, stop}
use Rattle.table_cells.specs.declared.TableCells.{TableCells}
use Rattle.table_cells.specs.declared.CellRefusal.{CellRefusal}
use Rattle.table_cells.specs.declared.CellRefusal.TheVariants.{OutsideLimits}
use Rattle.table_cells.specs.Held.{kinds_of}

-- the kinds of the cells in the order of their addition
abbrev pub kinds_in : TableCells → List Kind
kinds_in t = kinds_of (vec_items t.cells)

-- number 20: it would be cell 33, or the pins are not 1 to 6
abbrev pub cell_stop : List Kind → ℕ → Option Stop
cell_stop kinds pins = cond (nat_le 32 (length kinds) || (nat_lt pins 1 || nat_lt 6 pins)) (Some (stop 20)) None

abbrev refusal_stop : CellRefusal → Stop
refusal_stop OutsideLimits = stop 20

-- the answer of an addition, with a refusal's number
abbrev pub told_cell : Result ℕ CellRefusal → Told ℕ
told_cell (Ok kind) = answer kind
told_cell (Err e) = refused (refusal_stop e)
