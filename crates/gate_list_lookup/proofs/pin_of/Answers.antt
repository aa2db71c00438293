use Rattle.std.proofs.Common.{◌≡◌, sym, ◌∙◌, subst, arith}
use Rattle.gate_list_lines.specs.Lines.{IsPin}
use Rattle.gate_list_lookup.specs.Lookup.{pin_number}
use Rattle.gate_list_lookup.proofs.Again.{pin_turn, turn_lost, turn_found}
use Rattle.gate_list_lookup.proofs.pin_of.Goals as goal

pub returns-in_err-fields : goal.returns-in_err-fields
returns-in_err-fields c = λ ps l n e.
    absurd (turn_lost _ _ c.pin.result c.in_err-fields.ensures.value (pin_turn ps c.loop-i.i c.args.count _ c.loop-i.rest.now c.pin.result l n c.loop-i-test.true (c.loop-i.invariant.1 ps l n e) c.pin_end.ensures c.pin.ensures))

pub returns-then-from-p : goal.returns-then-from-p
returns-then-from-p c = λ ps l n e.
    let again = turn_found _ _ c.pin.result (c.in_ok-fields.fields, c.in_ok-fields.behind) c.in_ok-fields.ensures.value (pin_turn ps c.loop-i.i c.args.count _ c.loop-i.rest.now c.pin.result l n c.loop-i-test.true (c.loop-i.invariant.1 ps l n e) c.pin_end.ensures c.pin.ensures) in
    let here : c.loop-i.i ≡ c.args.p = sym c.from.ensures ∙ c.if-from-p.true in
    (omega (arith, here), subst (λ k. IsPin c.in_ok-fields.fields (pin_number ps k)) here again.0)

pub loop-i-preserved : goal.loop-i-preserved
loop-i-preserved c = (
  omega (arith, c.if-from-p.false),
  (λ ps l n e. (turn_found _ _ c.pin.result (c.in_ok-fields.fields, c.in_ok-fields.behind) c.in_ok-fields.ensures.value (pin_turn ps c.loop-i.i c.args.count _ c.loop-i.rest.now c.pin.result l n c.loop-i-test.true (c.loop-i.invariant.1 ps l n e) c.pin_end.ensures c.pin.ensures)).1),
)
