use Rattle.std.proofs.Common.{◌≡◌, ◌+◌, ◌*◌, arith}
use Rattle.std.proofs.lemmas.Grind.{common_steps}
use Rattle.table_cells.specs.Cells.{index_of}
use Rattle.table_cells.proofs.Indices.{index_six}
use Rattle.table_cells.proofs.cell.+index.Goals as goal

pub returns-in-len1-up-clause-bound : goal.returns-in-len1-up-clause-bound
returns-in-len1-up-clause-bound t c =
    let value : 2 * c.index.result + c.from.result ≡ index_of c.args.bits.now = grind (arith, common_steps) in
    omega (arith, index_six c.args.bits.now c.requires)
