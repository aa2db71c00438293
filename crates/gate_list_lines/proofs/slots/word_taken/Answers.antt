use Rattle.std.proofs.Common.{rules, subst}
use Rattle.std.proofs.lemmas.Result.{err_from_is_err_and}
use Rattle.gate_list_format.specs.Slots.{space, field}
use Rattle.gate_list_format.specs.Reading.{heading}
use Rattle.gate_list_format.proofs.Judges.{heading_is}
use Rattle.gate_list_fields.specs.Taken.{Passed}
use Rattle.gate_list_lines.proofs.Judging.{passed, stopped}
use Rattle.gate_list_lines.proofs.slots.word_taken.Goals as goal

pub returns-in_err-rest : goal.returns-in_err-rest
returns-in_err-rest c =
    let p = err_from_is_err_and c.from_residual.result c.from_residual.ensures.1 in
    rw (p.1, p.2) (stopped (heading c.args.word.now) space c.args.text.now _ c.in_err-rest.field-0.0 c.in_err-rest.ensures (λ a. search rules) (λ v a. (0, search rules)))

pub returns : goal.returns
returns c =
    let word = c.args.word.now in
    let text = c.args.text.now in
    let taken = passed (heading word) space text _ (c.in_ok-rest.field-0-0, c.in_ok-rest.rest) 0 c.in_ok-rest.ensures (search rules) in
    subst (λ f. Passed (heading word) space text f 0 c.in_ok-rest.rest.now) (heading_is word (field text) 0 taken.fits) taken
