use Rattle.std.proofs.Common.{◌≡◌, ◌+◌, ◌<◌, length, drop, ap, ◌∙◌, arith}
use Rattle.gate_list_lookup.proofs.Again.{gate_is}
use Rattle.gate_list.specs.Laws.{gate_number}
use Rattle.list_record.specs.Replay.{pins_joined, pins_before}
use Rattle.list_record.proofs.replay.join_pins.Goals as goal

pub loop-pin-preserved : goal.loop-pin-preserved
loop-pin-preserved c = λ b lists at first start.
    let g = gate_number b c.args.gate in
    let is = gate_is (drop c.args.place c.args.names.text.now) c.in-Some.fields g at.1 c.in-Some.ensures at.2 at.3 in
    let within : c.loop-pin.pin < length g.pins = omega (arith, is.2, c.from-pins.ensures, c.loop-pin-test.true) in
    c.join_pin.ensures b lists at within (ap (λ n. n + c.loop-pin.pin) first) (c.loop-pin.invariant b lists at first start)

pub returns-clause-next : goal.returns-clause-next
returns-clause-next c = λ b at.
    let g = gate_number b c.args.gate in
    let is = gate_is (drop c.args.place c.args.names.text.now) c.in-Some.fields g at.1 c.in-Some.ensures at.2 at.3 in
    ap (λ n. c.args.first + n) (c.from-pins.ensures ∙ is.2)

pub returns-clause-after : goal.returns-clause-after
returns-clause-after c = λ b lists at first start.
    let g = gate_number b c.args.gate in
    let is = gate_is (drop c.args.place c.args.names.text.now) c.in-Some.fields g at.1 c.in-Some.ensures at.2 at.3 in
    let done : c.loop-pin.pin ≡ length g.pins = omega (arith, is.2, c.from-pins.ensures, c.loop-pin-test.false) in
    c.loop-pin.invariant b lists at first start ∙ ap (λ n. pins_joined b (pins_before b c.args.gate n)) done
