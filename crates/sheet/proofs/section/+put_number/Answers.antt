use Rattle.std.proofs.Common.{◌≡◌, ◌+◌, ◌-◌, ◌/◌, ◌%◌, length, decimal, sym, ap, ap₂, ◌++◌, ◌∙◌, arith, rules, set}
use Rattle.std.proofs.lemmas.Fmt.{decimal_digit, decimal_step, decimal_nonempty}
use Rattle.std.proofs.lemmas.List.{length_push, length-take-le, length-set}
use Rattle.sheet.proofs.Writes.{last_set, digits_one}
use Rattle.sheet.proofs.section.+put_number.Goals as goal

pub overflow_sub-last : goal.overflow_sub-last
overflow_sub-last t c = omega (arith, decimal_nonempty c.args.number (omega arith))

pub bounds-page-last : goal.bounds-page-last
bounds-page-last t c = omega (arith, decimal_nonempty c.args.number (omega arith))

pub put_number-requires : goal.put_number-requires
put_number-requires t c =
    let n = c.args.number in
    let page = c.args.page.now in
    let more = ap length (decimal_step n c.if-number-ge10.true (omega arith)) ∙ length_push (decimal (n / 10)) (48 + n % 10) in
    let same = length-set page (length page - 1) (48 + n % 10) in
    let short = length-take-le (length page - 1) (set page (length page - 1) (48 + n % 10)) (omega arith) in
    (search rules, omega arith)

pub returns-then-number-ge10 : goal.returns-then-number-ge10
returns-then-number-ge10 t c =
    let n = c.args.number in
    let page = c.args.page.now in
    let last = last_set page (length page - 1) (48 + n % 10) (omega (arith, decimal_nonempty n (omega arith))) in
    ap₂ (λ x y. x ++ y) c.put_number.ensures last ∙ sym (decimal_step n c.if-number-ge10.true (omega arith))

pub returns-else-number-ge10 : goal.returns-else-number-ge10
returns-else-number-ge10 t c =
    let n = c.args.number in
    let page = c.args.page.now in
    let one = c.requires ∙ digits_one n c.if-number-ge10.false in
    let at : length page - 1 ≡ 0 = omega arith in
    let digit : n % 10 ≡ n = omega arith in
    ap₂ (λ i d. set page i (48 + d)) at digit
    ∙ last_set page 0 (48 + n) (omega arith)
    ∙ sym (decimal_digit n c.if-number-ge10.false)
