use Rattle.std.proofs.Common.{◌≡◌, suc, ◌+◌, ◌-◌, [], ◌∷◌, ◌++◌, length, take, sym, ap, ◌∙◌, arith}
use Rattle.std.proofs.lemmas.List.{append-nil, length_push}
use Rattle.std.proofs.lemmas.Result.{err_from_is_err_and}
use Rattle.gate_list_format.specs.Slots.{read}
use Rattle.gate_list_format.specs.Lists.{write_input}
use Rattle.gate_list_format.specs.Reading.{input_forms}
use Rattle.gate_list_format.proofs.Laid.{input_onto}
use Rattle.gate_list_lines.specs.Lines.{InputLine}
use Rattle.gate_list_names.specs.Names.{input_names_in}
use Rattle.gate_list.specs.Tables.{input_entry}
use Rattle.gate_list.proofs.Laying.{rest_short, laid_more, written_more, inputs_named, input_entry_is, inputs_step}
use Rattle.gate_list.proofs.Tied.{read_so, refused_so}
use Rattle.gate_list.proofs.read_inputs.Goals as goal

pub overflow_sub-place : goal.overflow_sub-place
overflow_sub-place c = rest_short write_input input_onto c.args.whole.now c.args.text.now c.loop-i.invariant.0 c.loop-i.rest.now c.requires.rest c.loop-i.invariant.1.written

pub returns-in_err-line : goal.returns-in_err-line
returns-in_err-line c =
    let count = length c.args.table.now in
    let is = c.loop-i.invariant.0 in
    let are = c.loop-i.invariant.1 in
    let i = c.loop-i.i in
    let rest = c.loop-i.rest.now in
    let seen = input_names_in c.args.whole.now (take i c.loop-i.table) ++ [] in
    let p = err_from_is_err_and c.from_residual.result c.from_residual.ensures.1 in
    rw (p.1, p.2) (λ next. refused_so (InputLine seen rest) (read (input_forms count [] next) 2 c.args.text.now) (2 + i) c.input_line.result _ c.in_err-line.ensures c.input_line.ensures λ f stops.
    c.loop-i.invariant.2 next
    ∙ inputs_step count i is seen next (2 + i) rest c.loop-i-test.true (inputs_named c.args.whole.now c.args.text.now is rest (take i c.loop-i.table) c.requires.rest are.written are.entries ∙ sym (append-nil (input_names_in c.args.whole.now (take i c.loop-i.table))))
    ∙ stops (2 + i) (λ x. input_forms (count - (i + 1)) (is ++ (x ∷ [])) next))

pub loop-i-preserved : goal.loop-i-preserved
loop-i-preserved c =
    let count = length c.args.table.now in
    let whole = c.args.whole.now in
    let text = c.args.text.now in
    let rest = c.loop-i.rest.now in
    let i = c.loop-i.i in
    let table = c.loop-i.table in
    let is = c.loop-i.invariant.0 in
    let are = c.loop-i.invariant.1 in
    let seen = input_names_in whole (take i table) ++ [] in
    let ok = read_so (InputLine seen rest) (2 + i) c.input_line.result (c.in_ok-line.line, c.in_ok-line.behind) c.in_ok-line.ensures c.input_line.ensures in
    let x = ok.0 in
    let behind = c.in_ok-line.behind.now in
    let named = inputs_named whole text is rest (take i table) c.requires.rest are.written are.entries ∙ sym (append-nil (input_names_in whole (take i table))) in (
      is ++ (x ∷ []),
      record {
        long = length_push is x ∙ ap (λ n. n + 1) are.long;
        written = written_more write_input input_onto text is rest x behind are.written ok.2.written;
        entries = laid_more write_input input_onto input_entry whole text table i is rest x _ c.requires.rest are.written (omega arith) (input_entry_is (length whole - length rest) _ c.in_ok-line.line x ok.1 (ap length c.name.ensures)) are.entries;
      },
      (λ next.
          c.loop-i.invariant.2 next
          ∙ inputs_step count i is seen next (2 + i) rest c.loop-i-test.true named
          ∙ ok.2.on (2 + i) (λ y. input_forms (count - (i + 1)) (is ++ (y ∷ [])) next)
          ∙ ap (λ l. read (input_forms (count - (i + 1)) (is ++ (x ∷ [])) next) l behind) (let e : suc (2 + i) ≡ 2 + (i + 1) = omega arith in e)),
    )
