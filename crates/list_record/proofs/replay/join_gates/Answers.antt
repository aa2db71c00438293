use Rattle.std.proofs.Common.{◌+◌, ◌<◌, ◌≤◌, length, sym, ap, ◌∙◌, arith}
use Rattle.std.proofs.lemmas.List.{take_all}
use Rattle.gate_list.specs.Laws.{gate_number}
use Rattle.list_record.specs.ListBoards.{pins_in}
use Rattle.list_record.specs.Replay.{pins_joined}
use Rattle.list_record.proofs.Lines.{gates_long, gate_stands}
use Rattle.list_record.proofs.Pins.{wires_take, before_none, before_all}
use Rattle.list_record.proofs.replay.join_gates.Goals as goal

pub loop-gate-preserved : goal.loop-gate-preserved
loop-gate-preserved c = (
  omega (arith, c.loop-gate.invariant.0, c.join_pins-wire.ensures.few),
  λ b lists start.
      let k = c.loop-gate.gate in
      let so_far = c.loop-gate.invariant.1 b lists start in
      let here : k < length b.gates = omega (arith, gates_long b c.args.names lists, c.loop-gate-test.true) in
      let at = gate_stands b c.args.names k _ lists here in
      let next = c.join_pins-wire.ensures.next b at in
      let before = so_far.1 ∙ ap (pins_joined b) (sym (before_none b k)) in (
        next ∙ ap (λ n. n + length (gate_number b k).pins) so_far.0 ∙ sym (wires_take b.gates k here),
        c.join_pins-wire.ensures.after b lists at so_far.0 before ∙ ap (pins_joined b) (before_all b k here),
      ),
)

pub returns : goal.returns
returns c = λ b lists start.
    let done : length b.gates ≤ c.loop-gate.gate = omega (arith, gates_long b c.args.names lists, c.loop-gate-test.false) in
    (c.loop-gate.invariant.1 b lists start).1 ∙ ap (λ t. pins_joined b (pins_in t)) (take_all c.loop-gate.gate b.gates done)
