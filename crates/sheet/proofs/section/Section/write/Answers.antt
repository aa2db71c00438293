use Rattle.std.proofs.Common.{length, refl, ap, arith}
use Rattle.sheet.proofs.Sheets.{length-section}
use Rattle.sheet.proofs.section.Section.write.Goals as goal

pub put_lines-requires-clause-room : goal.put_lines-requires-clause-room
put_lines-requires-clause-room c =
    let s = c.self.inside in
    let seen = ap length c.self.view_is in
    let long = length-section s.word.now s.firsts.now s.seconds.now _ c.self.invariant.2 refl in
    omega arith
