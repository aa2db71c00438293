use Rattle.std.proofs.Common.{◌≡◌, suc, ◌+◌, ◌-◌, [], ◌∷◌, ◌++◌, length, take, sym, ap, ◌∙◌, subst, arith}
use Rattle.std.proofs.ByRecursion.{All-push}
use Rattle.std.proofs.lemmas.List.{length_push}
use Rattle.std.proofs.lemmas.Result.{err_from_is_err_and}
use Rattle.gate_list_format.specs.Slots.{read}
use Rattle.gate_list_format.specs.Lists.{LawfulGate, write_gate}
use Rattle.gate_list_format.specs.Reading.{gate_forms}
use Rattle.gate_list_format.proofs.Forms.{wires_push}
use Rattle.gate_list_format.proofs.Laid.{gate_onto}
use Rattle.gate_list_lines.specs.Lines.{IsGate, IsGateFields, GateLine}
use Rattle.gate_list_names.specs.Names.{input_names_in, gate_names_in}
use Rattle.gate_list.specs.Tables.{gate_entry}
use Rattle.gate_list.proofs.Laying.{rest_short, laid_more, written_more, gates_named, gate_entry_is, gates_step, both_names}
use Rattle.gate_list.proofs.Tied.{read_so, refused_so}
use Rattle.gate_list.proofs.read_gates.Goals as goal

pub overflow_sub-place : goal.overflow_sub-place
overflow_sub-place c = rest_short write_gate gate_onto c.args.whole.now c.args.text.now c.loop-i.invariant.0 c.loop-i.rest.now c.requires.rest c.loop-i.invariant.1.written

pub returns-in_err-line : goal.returns-in_err-line
returns-in_err-line c =
    let count = length c.args.table.now in
    let whole = c.args.whole.now in
    let gs = c.loop-i.invariant.0 in
    let are = c.loop-i.invariant.1 in
    let i = c.loop-i.i in
    let first = c.args.first in
    let rest = c.loop-i.rest.now in
    let table = take i c.loop-i.table in
    let seen = input_names_in whole c.args.inputs.now ++ gate_names_in whole table in
    let outs = gates_named whole c.args.text.now gs rest table c.requires.rest are.written are.entries in
    let p = err_from_is_err_and c.from_residual.result c.from_residual.ensures.1 in
    rw (p.1, p.2) (λ is named next. refused_so (GateLine seen c.loop-i.before rest) (read (gate_forms count is [] next) first c.args.text.now) (first + i) c.gate_line.result _ c.in_err-line.ensures c.gate_line.ensures λ f stops.
    c.loop-i.invariant.4 is named next
    ∙ gates_step count i is gs seen c.loop-i.before next (first + i) rest c.loop-i-test.true (both_names is gs _ _ named outs) (sym c.loop-i.invariant.2)
    ∙ stops (first + i) (λ g. gate_forms (count - (i + 1)) is (gs ++ (g ∷ [])) next))

pub loop-i-preserved : goal.loop-i-preserved
loop-i-preserved c =
    let count = length c.args.table.now in
    let whole = c.args.whole.now in
    let text = c.args.text.now in
    let rest = c.loop-i.rest.now in
    let i = c.loop-i.i in
    let table = c.loop-i.table in
    let gs = c.loop-i.invariant.0 in
    let are = c.loop-i.invariant.1 in
    let seen = input_names_in whole c.args.inputs.now ++ gate_names_in whole (take i table) in
    let ok = read_so (GateLine seen c.loop-i.before rest) (c.args.first + i) c.gate_line.result (c.in_ok-line.line, c.in_ok-line.behind) c.in_ok-line.ensures c.gate_line.ensures in
    let g = ok.0 in
    let behind = c.in_ok-line.behind.now in
    let outs = gates_named whole text gs rest (take i table) c.requires.rest are.written are.entries in
    let is : IsGateFields c.in-Gate.gate g = subst (λ t. IsGate t g) c.in-Gate.is ok.1 in (
      gs ++ (g ∷ []),
      record {
        long = length_push gs g ∙ ap (λ n. n + 1) are.long;
        lawful = All-push LawfulGate gs g are.lawful ok.2.lawful;
        written = written_more write_gate gate_onto text gs rest g behind are.written ok.2.written;
        entries = laid_more write_gate gate_onto gate_entry whole text table i gs rest g _ c.requires.rest are.written (omega arith) (gate_entry_is (length whole - length rest) c.in-Gate.gate g is) are.entries;
      },
      omega (arith, wires_push gs g, c.loop-i.invariant.2, is.2, c.from-pins.ensures),
      omega (arith, ok.2.room, is.2, c.from-pins.ensures),
      (λ is named next.
          c.loop-i.invariant.4 is named next
          ∙ gates_step count i is gs seen c.loop-i.before next (c.args.first + i) rest c.loop-i-test.true (both_names is gs _ _ named outs) (sym c.loop-i.invariant.2)
          ∙ ok.2.on (c.args.first + i) (λ y. gate_forms (count - (i + 1)) is (gs ++ (y ∷ [])) next)
          ∙ ap (λ l. read (gate_forms (count - (i + 1)) is (gs ++ (g ∷ [])) next) l behind) (let e : suc (c.args.first + i) ≡ c.args.first + (i + 1) = omega arith in e)),
    )
