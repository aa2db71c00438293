use Rattle.std.proofs.Common.{◌≡◌, sym, ◌∙◌, arith, rules}
use Rattle.std.proofs.lemmas.Bool.{both_ways}
use Rattle.std.proofs.lemmas.Fmt.{decimal_injective}
use Rattle.gate_list_fields.proofs.Numbers.{number_good, number_bad}
use Rattle.gate_list_lines.proofs.Steps.{contained}
use Rattle.gate_list_lines.proofs.slots.number.Goals as goal

pub returns-in-Some : goal.returns-in-Some
returns-in-Some c = number_good c.args.field.now c.args.least c.args.most c.in-Some.value (omega arith) (search rules) (search rules) c.in-Some.ensures.1

pub returns-in_default : goal.returns-in_default
returns-in_default c =
    let is = c.in-Some.ensures in
    number_bad c.args.field.now c.args.least c.args.most (omega arith)
    (λ v a b e.
    let same : c.in-Some.value ≡ v = decimal_injective c.in-Some.value v (omega (arith, is.0)) (omega arith) (sym is.1 ∙ e) in
    both_ways c.contains.result c.if-contains.false (rw (c.contains.ensures.value, c.new.ensures.exhausted, c.new.ensures.start, c.new.ensures.end) (contained c.args.least c.args.most c.in-Some.value (omega arith) (omega arith))))

pub returns-in_default-2 : goal.returns-in_default-2
returns-in_default-2 c =
    let none = rw c.in_default.is at c.short_number.ensures in
    number_bad c.args.field.now c.args.least c.args.most (omega arith) (λ v a b e. none v (omega arith) e)
