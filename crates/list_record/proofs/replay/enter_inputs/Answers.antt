use Rattle.std.proofs.Common.{◌≡◌, ◌<◌, length, ap, ◌∙◌, arith}
use Rattle.std.proofs.ByRecursion.{All-get_or}
use Rattle.gate_list_format.specs.Lists.{LawfulInput}
use Rattle.gate_list.specs.Laws.{input_number}
use Rattle.list_record.specs.Replay.{inputs_in}
use Rattle.list_record.proofs.Lines.{inputs_long, input_stands}
use Rattle.list_record.proofs.Turns.{input_turn}
use Rattle.list_record.proofs.replay.enter_inputs.Goals as goal

pub loop-number-preserved : goal.loop-number-preserved
loop-number-preserved c = λ b lists start.
    let k = c.loop-number.number in
    let here : k < length b.inputs = omega (arith, inputs_long b c.args.names lists, c.loop-number-test.true) in
    let at = input_stands b c.args.names k _ lists here in
    let law = All-get_or LawfulInput b.inputs k _ here lists.listed.lawful.each_input in
    input_turn b k _ _ lists.listed.lawful here (c.loop-number.invariant b lists start) (c.enter_input.ensures (input_number b k) at.0 law at.1)

pub returns : goal.returns
returns c = λ b lists start.
    let done : c.loop-number.number ≡ length b.inputs = omega (arith, inputs_long b c.args.names lists, c.loop-number-test.false) in
    c.loop-number.invariant b lists start ∙ ap (inputs_in b) done
