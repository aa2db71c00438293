use Rattle.std.proofs.Common.{sym, arith}
use Rattle.sheet.proofs.Writes.{digits_one, digits_by_power}
use Rattle.sheet.proofs.section.digits.Goals as goal

pub returns-in-Some-clause-value : goal.returns-in-Some-clause-value
returns-in-Some-clause-value c = sym (digits_by_power c.in-Some.power c.args.number (omega arith) c.in-Some.ensures.power_le c.in-Some.ensures.next_power_gt)

pub returns-in-None-clause-value : goal.returns-in-None-clause-value
returns-in-None-clause-value c = let none = c.in-None.ensures.none in sym (digits_one c.args.number (omega arith))
