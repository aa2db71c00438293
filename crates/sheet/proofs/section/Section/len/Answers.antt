use Rattle.std.proofs.Common.{length, refl, ap, arith}
use Rattle.sheet.proofs.Sheets.{length-section}
use Rattle.sheet.proofs.section.Section.len.Goals as goal

pub returns-clause-value : goal.returns-clause-value
returns-clause-value c =
    let s = c.self.inside in
    let seen = ap length c.self.view_is in
    let long = length-section s.word.now s.firsts.now s.seconds.now _ c.self.invariant.2 refl in
    omega arith
