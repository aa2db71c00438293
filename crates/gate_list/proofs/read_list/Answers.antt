use Rattle.std.proofs.Common.{◌+◌, length, Some, None, sym, ap, ◌∙◌, arith}
use Rattle.gate_list_format.specs.Slots.{accepted, refused}
use Rattle.gate_list.proofs.Known.{sources_held}
use Rattle.gate_list.proofs.read_list.Goals as goal

pub overflow_add-result-in-Some : goal.overflow_add-result-in-Some
overflow_add-result-in-Some c =
    let ok = c.in_ok-n.ensures in
    let h = ok.1 in
    let first = sources_held c.args.text.now _ _ c.in_ok-n.n c.in_ok-n.r ok.0 (Some c.in-Some.k) h c.in-Some.ensures in
    omega (arith, first.0, h.few_inputs, h.few_gates, h.gate_count)

pub returns-in-Some : goal.returns-in-Some
returns-in-Some c =
    let ok = c.in_ok-n.ensures in
    let h = ok.1 in
    let first = sources_held c.args.text.now _ _ c.in_ok-n.n c.in_ok-n.r ok.0 (Some c.in-Some.k) h c.in-Some.ensures in
    ok.2 ∙ first.1 (length ok.0.inputs + 3) (accepted ok.0) ∙ ap (λ m. refused 19 (m + 3 + c.in-Some.k)) (sym h.input_count)

pub returns-in-None : goal.returns-in-None
returns-in-None c =
    let ok = c.in_ok-n.ensures in
    let none = sources_held c.args.text.now _ _ c.in_ok-n.n c.in_ok-n.r ok.0 None ok.1 c.in-None.ensures in
    (ok.0, ok.1, ok.2 ∙ none (length ok.0.inputs + 3) (accepted ok.0))
