use Rattle.std.proofs.Common.{◌≡◌, ◌+◌, ◌-◌, ◌*◌, sym, ap, ◌∙◌, arith}
use Rattle.std.specs.List.{slice_get}
use Rattle.std.proofs.lemmas.Option.{slice_get_past}
use Rattle.plain_gates.specs.Plain.{plain}
use Rattle.plain_gates.proofs.Numbered.{plain_numbered}
use Rattle.plain_gates.proofs.rules.numbered.Goals as goal

pub returns-in-24 : goal.returns-in-24
returns-in-24 c = sym (ap (slice_get plain) c.in-24.is ∙ plain_numbered.majority)

pub returns-in-0-to-7 : goal.returns-in-0-to-7
returns-in-0-to-7 c =
    let k = c.args.kind in
    let at : 8 * 0 + (k + 1) - 1 ≡ k = omega arith in
    sym (plain_numbered.ands (k + 1) (omega arith) (omega arith)) ∙ ap (slice_get plain) at

pub returns-in-8-to-15 : goal.returns-in-8-to-15
returns-in-8-to-15 c =
    let k = c.args.kind in
    let at : 8 * 1 + (k - 7) - 1 ≡ k = omega arith in
    sym (plain_numbered.ors (k - 7) (omega arith) (omega arith)) ∙ ap (slice_get plain) at

pub returns-in-16-to-23 : goal.returns-in-16-to-23
returns-in-16-to-23 c =
    let k = c.args.kind in
    let at : 8 * 2 + (k - 15) - 1 ≡ k = omega arith in
    sym (plain_numbered.xors (k - 15) (omega arith) (omega arith)) ∙ ap (slice_get plain) at

pub returns-in_default : goal.returns-in_default
returns-in_default c = sym (slice_get_past plain c.args.kind (omega (arith, plain_numbered.count)))
