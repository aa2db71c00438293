use Rattle.std.proofs.Common.{◌≡◌, ◌/◌, ◌%◌, length, ⊎_elim, arith}
use Rattle.gate_list_fields.proofs.Numbers.{shows, one_digit, no_number, two_are}
use Rattle.gate_list_fields.proofs.short_number.Goals as goal

pub returns-in_err-tens-in-len2 : goal.returns-in_err-tens-in-len2
returns-in_err-tens-in-len2 c = no_number c.args.field.now _ c.from_residual.ensures (λ v l e. ⊎_elim (λ o. omega (arith, o.long)) (λ t. c.in_err-tens-in-len2.ensures (v / 10) (omega arith) t.first) (shows c.args.field.now v l e))

pub returns-in_err-ones-in-len2 : goal.returns-in_err-ones-in-len2
returns-in_err-ones-in-len2 c = no_number c.args.field.now _ c.from_residual-in_err-ones-in-len2.ensures (λ v l e. ⊎_elim (λ o. omega (arith, o.long)) (λ t. c.in_err-ones-in-len2.ensures (v % 10) (omega arith) t.second) (shows c.args.field.now v l e))

pub returns-in-len1 : goal.returns-in-len1
returns-in-len1 c =
    let one : length c.args.field.now ≡ 1 = omega arith in
    one_digit c.args.field.now c.digit.result one c.digit.ensures

pub returns-in-48 : goal.returns-in-48
returns-in-48 c v l e = ⊎_elim (λ o. omega (arith, o.long)) (λ t. omega (arith, t.first, t.large)) (shows c.args.field.now v l e)

pub returns-in_ok-ones-in-len2 : goal.returns-in_ok-ones-in-len2
returns-in_ok-ones-in-len2 c =
    let a = c.in_ok-tens-in-len2.ensures in
    let b = c.in_ok-ones-in-len2.ensures in
    (omega (arith, a.0, b.0), two_are c.args.field.now c.in_ok-tens-in-len2.tens c.in_ok-ones-in-len2.ones (omega arith) a.0 b.0 (omega arith) a.1 b.1)

pub returns-in_default : goal.returns-in_default
returns-in_default c v l e = ⊎_elim (λ o. omega (arith, o.long)) (λ t. omega (arith, t.long)) (shows c.args.field.now v l e)

pub returns-in_default-2 : goal.returns-in_default-2
returns-in_default-2 c v l e = ⊎_elim (λ o. omega (arith, o.long)) (λ t. omega (arith, t.long)) (shows c.args.field.now v l e)
