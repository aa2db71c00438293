use Rattle.std.proofs.Common.{◌∙◌, arith}
use Rattle.std.proofs.lemmas.Bool.{ltb-false}
use Rattle.table_cells.proofs.Spread.{spread_zero, spread_one, spread-unknown}
use Rattle.table_cells.proofs.cell.+spread.Goals as goal

pub returns-in-Zero : goal.returns-in-Zero
returns-in-Zero t c =
    spread_zero c.args.truth c.args.index c.args.weight c.args.marks.now (omega (arith, ltb-false)) _ c.spread.ensures c.in-Zero.is

pub returns-in-One : goal.returns-in-One
returns-in-One t c =
    spread_one c.args.truth c.args.index c.args.weight c.args.marks.now (omega (arith, ltb-false)) _ c.spread-in-One.ensures c.in-One.is

pub returns-in-Unknown : goal.returns-in-Unknown
returns-in-Unknown t c =
    c.lub.ensures
    ∙ spread-unknown c.args.truth c.args.index c.args.weight c.args.marks.now (omega (arith, ltb-false)) _ _
    c.spread-low.ensures c.spread-high.ensures c.in-Unknown.is
