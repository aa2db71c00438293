use Rattle.std.proofs.Common.{drop, sym}
use Rattle.gate_list_lookup.proofs.Again.{pin_by}
use Rattle.gate_list_lookup.proofs.pin_at.Goals as goal

pub returns : goal.returns
returns c =
    let h = c.in_ok-gate.ensures in
    pin_by (drop c.args.place c.args.text.now) c.args.p c.pin_of.result h.0 h.1 h.2 h.3 (c.pin_of.ensures h.0.pins h.2.pins (sym h.4.2) h.4.4)
