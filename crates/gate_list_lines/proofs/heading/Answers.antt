use Rattle.std.proofs.Common.{ℕ, List, subst}
use Rattle.std.proofs.lemmas.Result.{err_from_is_err_and}
use Rattle.gate_list_format.specs.Reading.{heading_form}
use Rattle.gate_list_fields.specs.Faults.{number_of}
use Rattle.gate_list_lines.specs.Lines.{HeadingRead, Stops, section_most}
use Rattle.gate_list_lines.proofs.Steps.{after_word, heading_read}
use Rattle.gate_list_lines.proofs.heading.Goals as goal

pub returns-in_err-behind : goal.returns-in_err-behind
returns-in_err-behind c =
    let p = err_from_is_err_and c.from_residual.result c.from_residual.ensures.1 in
    let most = section_most c.args.section in
    rw (p.1, p.2) (subst (λ (w : List ℕ). Stops (heading_form w most) c.args.text.now (number_of c.in_err-behind.field-0.0)) c.word.ensures
    (λ line next. c.in_err-behind.ensures line (after_word most next)))

pub returns : goal.returns
returns c =
    let text = c.args.text.now in
    let word = c.word.result.now in
    subst (λ (w : List ℕ). HeadingRead w (section_most c.args.section) text c.count_slot.result) c.word.ensures
    (subst (λ (m : ℕ). HeadingRead word m text c.count_slot.result) c.most.ensures.most
    (heading_read word text c.in_ok-behind.behind.now c.most.result c.count_slot.result c.in_ok-behind.ensures c.count_slot.ensures))
