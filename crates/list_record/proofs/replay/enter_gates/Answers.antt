use Rattle.std.proofs.Common.{◌≡◌, ◌<◌, length, ap, ◌∙◌, arith}
use Rattle.gate_list.specs.Laws.{gate_number}
use Rattle.list_record.specs.Replay.{gates_in}
use Rattle.list_record.proofs.Lines.{gates_long, gate_stands, kind_here}
use Rattle.list_record.proofs.Turns.{gate_turn}
use Rattle.list_record.proofs.replay.enter_gates.Goals as goal

pub loop-number-preserved : goal.loop-number-preserved
loop-number-preserved c = λ b lists start.
    let k = c.loop-number.number in
    let here : k < length b.gates = omega (arith, gates_long b c.args.names lists, c.loop-number-test.true) in
    let at = gate_stands b c.args.names k _ lists here in
    gate_turn b k _ _ _ lists.listed.lawful here (kind_here b c.args.names k _ lists here) (c.loop-number.invariant b lists start) (c.enter_gate.ensures (gate_number b k) at.1 at.2 at.3)

pub returns : goal.returns
returns c = λ b lists start.
    let done : c.loop-number.number ≡ length b.gates = omega (arith, gates_long b c.args.names lists, c.loop-number-test.false) in
    c.loop-number.invariant b lists start ∙ ap (gates_in b) done
