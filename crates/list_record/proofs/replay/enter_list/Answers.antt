use Rattle.std.proofs.Common.{[], length, ap, ◌∙◌, arith}
use Rattle.std.proofs.lemmas.List.{take_all}
use Rattle.gate_list_format.specs.Lists.{wires}
use Rattle.list_record.specs.Replay.{entered}
use Rattle.list_record.proofs.Pins.{all_joined}
use Rattle.list_record.proofs.replay.enter_list.Goals as goal

pub returns : goal.returns
returns c = λ b lists start.
    let inputs = c.enter_inputs.ensures b lists start ∙ ap (λ t. entered b t [] [] 0) (take_all (length b.inputs) b.inputs (omega arith)) in
    let gates = c.enter_gates.ensures b lists inputs ∙ ap (λ t. entered b b.inputs t [] (wires t)) (take_all (length b.gates) b.gates (omega arith)) in
    c.join_gates.ensures b lists (gates ∙ ap (λ n. entered b b.inputs b.gates [] n) (omega arith)) ∙ all_joined b
