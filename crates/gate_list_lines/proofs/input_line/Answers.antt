use Rattle.std.proofs.Common.{refl, ◌∙◌}
use Rattle.std.proofs.lemmas.Result.{err_from_is_err_and}
use Rattle.gate_list_format.proofs.Passed.{after_name, after_applied, after_start}
use Rattle.gate_list_names.specs.Given.{all_names}
use Rattle.gate_list_lines.proofs.Steps.{past_applied, input_is}
use Rattle.gate_list_lines.proofs.input_line.Goals as goal

pub returns-in_err-name : goal.returns-in_err-name
returns-in_err-name c =
    let p = err_from_is_err_and c.from_residual.result c.from_residual.ensures.1 in
    rw (p.1, p.2) (λ line next. c.in_err-name.ensures line (after_name next))

pub returns-in_err-applied : goal.returns-in_err-applied
returns-in_err-applied c =
    let p = err_from_is_err_and c.from_residual-in_err-applied.result c.from_residual-in_err-applied.ensures.1 in
    rw (p.1, p.2) (λ line next.
    c.in_ok-name.ensures.on line (after_name next)
    ∙ c.in_err-applied.ensures line (after_applied next c.in_ok-name.name.now))

pub returns-in_err-start : goal.returns-in_err-start
returns-in_err-start c =
    let p = err_from_is_err_and c.from_residual-in_err-start.result c.from_residual-in_err-start.ensures.1 in
    rw (p.1, p.2) (λ line next.
    past_applied _ c.in_ok-name.ensures c.in_ok-applied.ensures line next
    ∙ c.in_err-start.ensures line (after_start next c.in_ok-name.name.now c.in_ok-applied.applied))

pub returns : goal.returns
returns c =
    let start = c.in_ok-start.start in (
      record { name = c.in_ok-name.name.now; applied = c.in_ok-applied.applied; start = start },
      (refl, refl, refl),
      input_is (all_names c.args.names) c.in_ok-name.ensures c.in_ok-applied.ensures start c.in_ok-start.text.now c.in_ok-start.ensures,
    )
