use Rattle.std.proofs.Common.{◌≡◌, ◌+◌, ◌<◌, length, sym, ap, ◌∙◌, arith}
use Rattle.std.proofs.lemmas.Bool.{eqb-true, eqb-false}
use Rattle.gate_list_format.specs.Slots.{refused}
use Rattle.gate_list_format.specs.Reading.{answer}
use Rattle.gate_list.proofs.Whole.{ends_empty, ends_more}
use Rattle.gate_list.proofs.read_lines.Goals as goal

pub returns-then-not-is_empty : goal.returns-then-not-is_empty
returns-then-not-is_empty c =
    let n = c.in_ok-n.n in
    let r = c.in_ok-r.r in
    let rest = c.in_ok-r.rest.now in
    let all = c.in_ok-r.ensures in
    let some : 0 < length rest = omega (arith, eqb-false (length rest) 0 (sym c.if-not-is_empty.ensures)) in
    all.reads ∙ ends_more (answer all.list) (n + 3 + r) rest some ∙ ap (refused 15) (let e : n + 3 + r ≡ n + r + 3 = omega arith in e)

pub returns : goal.returns
returns c =
    let rest = c.in_ok-r.rest.now in
    let all = c.in_ok-r.ensures in
    let end : length rest ≡ 0 = eqb-true (length rest) 0 (sym c.if-not-is_empty.ensures) in
    (all.list, all.holds end, all.reads ∙ ends_empty (answer all.list) (c.in_ok-n.n + 3 + c.in_ok-r.r) rest end)
