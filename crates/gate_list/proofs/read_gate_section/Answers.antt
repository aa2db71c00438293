use Rattle.std.proofs.Common.{◌≡◌, ◌+◌, codes, ap, ◌∙◌, arith}
use Rattle.std.proofs.lemmas.Result.{err_from_is_err_and}
use Rattle.gate_list_format.specs.Slots.{refused}
use Rattle.gate_list_format.specs.Reading.{reading}
use Rattle.gate_list_fields.specs.Faults.{number_of}
use Rattle.gate_list_lines.specs.Lines.{HeadingRead}
use Rattle.gate_list.specs.Parts.{list₃}
use Rattle.gate_list.proofs.Tied.{refused_so}
use Rattle.gate_list.proofs.Whole.{rest_inputs, heading_so, gates_in, gates_refused}
use Rattle.gate_list.proofs.read_gate_section.Goals as goal

pub returns-in_err-r : goal.returns-in_err-r
returns-in_err-r c =
    let n = c.args.n in
    let ins = c.requires.begun in
    let p = err_from_is_err_and c.from_residual.result c.from_residual.ensures.1 in
    rw (p.1, p.2) (refused_so (HeadingRead (codes "gates") 96 c.args.text.now) (reading c.args.whole.now) (n + 2) c.heading.result _ c.in_err-r.ensures c.heading.ensures λ f stops.
    ins.reads ∙ stops (2 + n) (list₃ ins.list) ∙ ap (refused (number_of f)) (let e : 2 + n ≡ n + 2 = omega arith in e))

pub read_gates-requires-clause-rest : goal.read_gates-requires-clause-rest
read_gates-requires-clause-rest c =
    let text = c.args.text.now in
    let n = c.args.n in
    let h = heading_so (codes "gates") 96 text (n + 2) c.heading.result _ c.from-r.result c.in_ok-r.rest c.in_ok-r.ensures c.heading.ensures c.from-r.ensures in
    rest_inputs c.args.whole.now text c.in_ok-r.rest.now n c.from-r.result _ c.requires.begun h

pub returns-in_err-rest : goal.returns-in_err-rest
returns-in_err-rest c =
    let text = c.args.text.now in
    let n = c.args.n in
    let p = err_from_is_err_and c.from_residual-in_err-rest.result c.from_residual-in_err-rest.ensures.1 in
    let h = heading_so (codes "gates") 96 text (n + 2) c.heading.result _ c.from-r.result c.in_ok-r.rest c.in_ok-r.ensures c.heading.ensures c.from-r.ensures in
    rw (p.1, p.2) (gates_refused c.args.whole.now text c.in_ok-r.rest.now n c.from-r.result _ c.args.table.now c.read_gates.new.table c.requires.begun h c.requires.room.1 c.read_gates.auto.table _ c.in_err-rest.ensures)

pub returns : goal.returns
returns c =
    let text = c.args.text.now in
    let n = c.args.n in
    let h = heading_so (codes "gates") 96 text (n + 2) c.heading.result _ c.from-r.result c.in_ok-r.rest c.in_ok-r.ensures c.heading.ensures c.from-r.ensures in
    gates_in c.args.whole.now text c.in_ok-r.rest.now n c.from-r.result _ c.args.table.now c.read_gates.new.table c.requires.begun h c.requires.room.1 c.read_gates.auto.table c.in_ok-rest.rest c.in_ok-rest.ensures
