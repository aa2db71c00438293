use Rattle.std.proofs.Common.{◌≤◌, length, ◌∙◌, arith, pow_mono}
use Rattle.table_cells.proofs.Spread.{spread_all}
use Rattle.table_cells.proofs.cell.Cell.extension.Goals as goal

pub spread-requires-clause-room : goal.spread-requires-clause-room
spread-requires-clause-room c =
    let few = c.args.self.now.few in
    let short : length c.args.marks.now ≤ 6 = omega arith in
    omega (arith, pow_mono short)

pub returns : goal.returns
returns c = c.spread.ensures ∙ spread_all _ c.args.marks.now
