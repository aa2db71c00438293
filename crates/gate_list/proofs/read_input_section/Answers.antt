use Rattle.std.proofs.Common.{codes, ◌∙◌}
use Rattle.std.proofs.lemmas.Result.{err_from_is_err_and}
use Rattle.gate_list_format.specs.Reading.{reading}
use Rattle.gate_list_lines.specs.Lines.{HeadingRead}
use Rattle.gate_list.proofs.Tied.{refused_so}
use Rattle.gate_list.proofs.Whole.{list₁, reading_is, rest_heading, heading_so, inputs_in, inputs_refused}
use Rattle.gate_list.proofs.read_input_section.Goals as goal

pub returns-in_err-n : goal.returns-in_err-n
returns-in_err-n c =
    let text = c.args.text.now in
    let p = err_from_is_err_and c.from_residual.result c.from_residual.ensures.1 in
    rw (p.1, p.2) (refused_so (HeadingRead (codes "inputs") 32 text) (reading text) 1 c.heading.result _ c.in_err-n.ensures c.heading.ensures λ f stops.
    reading_is text ∙ stops 1 list₁)

pub read_inputs-requires-clause-rest : goal.read_inputs-requires-clause-rest
read_inputs-requires-clause-rest c =
    let text = c.args.text.now in
    let h = heading_so (codes "inputs") 32 text 1 c.heading.result _ c.from-n.result c.in_ok-n.rest c.in_ok-n.ensures c.heading.ensures c.from-n.ensures in
    rest_heading (codes "inputs") c.from-n.result text c.in_ok-n.rest.now h.written

pub returns-in_err-rest : goal.returns-in_err-rest
returns-in_err-rest c =
    let text = c.args.text.now in
    let p = err_from_is_err_and c.from_residual-in_err-rest.result c.from_residual-in_err-rest.ensures.1 in
    let h = heading_so (codes "inputs") 32 text 1 c.heading.result _ c.from-n.result c.in_ok-n.rest c.in_ok-n.ensures c.heading.ensures c.from-n.ensures in
    rw (p.1, p.2) (inputs_refused text c.in_ok-n.rest.now c.from-n.result c.args.table.now c.read_inputs.new.table h c.requires c.read_inputs.auto.table _ c.in_err-rest.ensures)

pub returns : goal.returns
returns c =
    let text = c.args.text.now in
    let h = heading_so (codes "inputs") 32 text 1 c.heading.result _ c.from-n.result c.in_ok-n.rest c.in_ok-n.ensures c.heading.ensures c.from-n.ensures in
    inputs_in text c.in_ok-n.rest.now c.from-n.result c.args.table.now c.read_inputs.new.table h c.requires c.read_inputs.auto.table c.in_ok-rest.rest c.in_ok-rest.ensures
