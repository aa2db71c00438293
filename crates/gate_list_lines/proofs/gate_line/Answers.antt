use Rattle.std.proofs.Common.{sym, refl, ap, ◌∙◌}
use Rattle.std.proofs.lemmas.Result.{err_from_is_err_and}
use Rattle.gate_list_format.specs.Lists.{kind_of}
use Rattle.gate_list_format.proofs.Passed.{gate₁, gate₂, gate₃, gate₄, gate₅}
use Rattle.gate_list_names.specs.Given.{all_names}
use Rattle.gate_list_lines.proofs.Steps.{past_name, past_word, past_count, past_start, gate_is, pins_short, pins_cut}
use Rattle.gate_list_lines.proofs.gate_line.Goals as goal

pub returns-in_err-name : goal.returns-in_err-name
returns-in_err-name c =
    let p = err_from_is_err_and c.from_residual.result c.from_residual.ensures.1 in
    rw (p.1, p.2) (λ line next. c.in_err-name.ensures line (gate₁ c.args.before next))

pub returns-in_err-word : goal.returns-in_err-word
returns-in_err-word c =
    let p = err_from_is_err_and c.from_residual-in_err-word.result c.from_residual-in_err-word.ensures.1 in
    rw (p.1, p.2) (λ line next.
    past_name _ c.args.before c.in_ok-name.ensures line next
    ∙ c.in_err-word.ensures line (gate₂ c.args.before next c.in_ok-name.name.now))

pub returns-in_err-shape : goal.returns-in_err-shape
returns-in_err-shape c =
    let p = err_from_is_err_and c.from_residual-in_err-shape.result c.from_residual-in_err-shape.ensures.1 in
    rw (p.1, p.2) (λ line next.
    past_word _ c.args.before c.in_ok-name.ensures c.in_ok-word.ensures line next
    ∙ c.in_err-shape.ensures.slot line (gate₃ next c.in_ok-name.name.now c.in_ok-word.word.number))

pub returns-in_err-start : goal.returns-in_err-start
returns-in_err-start c =
    let p = err_from_is_err_and c.from_residual-in_err-start.result c.from_residual-in_err-start.ensures.1 in
    rw (p.1, p.2) (λ line next.
    past_count _ c.args.before c.in_ok-name.ensures c.in_ok-word.ensures c.in_ok-shape.ensures.slot line next
    ∙ c.in_err-start.ensures line (gate₄ next c.in_ok-name.name.now c.in_ok-word.word.number c.in_ok-shape.shape.pins))

pub returns-in_err-rest : goal.returns-in_err-rest
returns-in_err-rest c =
    let p = err_from_is_err_and c.from_residual-in_err-rest.result c.from_residual-in_err-rest.ensures.1 in
    rw (p.1, p.2) (λ line next.
    past_start _ c.args.before c.in_ok-name.ensures c.in_ok-word.ensures c.in_ok-shape.ensures.slot c.in_ok-start.ensures line next
    ∙ c.in_err-rest.ensures line (gate₅ next c.in_ok-name.name.now c.in_ok-word.word.number c.in_ok-start.start))

pub slice_bounds-pins-count : goal.slice_bounds-pins-count
slice_bounds-pins-count c =
    let ps = c.in_ok-rest.ensures in
    pins_short c.in_ok-start.text.now ps.0 c.in_ok-rest.rest.now ps.1.written

pub returns : goal.returns
returns c =
    let word = c.in_ok-word.word.number in
    let rest = c.in_ok-rest.rest.now in
    let ps = c.in_ok-rest.ensures.0 in
    let are = c.in_ok-rest.ensures.1 in
    let room = c.in_ok-shape.ensures.room in (
      record { name = c.in_ok-name.name.now; word = word; start = c.in_ok-start.start; pins = ps },
      (refl, c.kind-kind.ensures ∙ ap (λ w. kind_of w c.in_ok-shape.shape.pins) room.0 ∙ ap (kind_of word) (sym are.long), sym are.long, refl, pins_cut c.in_ok-start.text.now ps rest are.written),
      gate_is (all_names c.args.names) c.args.before c.in_ok-name.ensures c.in_ok-word.ensures c.in_ok-shape.ensures.slot c.in_ok-start.ensures ps rest are room.1,
    )
