-- The kinds of the cells that a library holds.
use Rattle.std.specs.Prelude.{◌≤◌, List, [], ◌∷◌, length}
use Rattle.std.proofs.Common.{arith}
use Rattle.std.specs.List.{AllByRecursion}
use Rattle.std.proofs.lemmas.List.{length-map}
use Rattle.gates.specs.Kinds.{Kind, Lawful}
use Rattle.table_cells.specs.declared.cell.Cell.{Cell}
use Rattle.table_cells.specs.Held.{kinds_of, kind_of}

narrow_kinds : (cells : List Cell) → AllByRecursion (λ (k : Kind). (1 ≤ k.pins) × (k.pins ≤ 8)) (kinds_of cells)
narrow_kinds [] = tt
narrow_kinds (c ∷ cells) =
    let few = c.few in
    ((c.some, omega arith), narrow_kinds cells)

pub lawful_table : (cells : List Cell) → length cells ≤ 32 → Lawful (kinds_of cells)
lawful_table cells few = record { few = omega (arith, length-map cells kind_of); narrow = narrow_kinds cells }
