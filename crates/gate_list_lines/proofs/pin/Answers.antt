use Rattle.std.proofs.Common.{refl, ◌∙◌}
use Rattle.std.proofs.lemmas.Result.{err_from_is_err_and}
use Rattle.gate_list_fields.specs.Taken.{end_of}
use Rattle.gate_list_format.proofs.Passed.{after_source, after_bit}
use Rattle.gate_list_lines.proofs.Steps.{pin_is}
use Rattle.gate_list_lines.proofs.pin.Goals as goal

pub returns-in_err-source : goal.returns-in_err-source
returns-in_err-source c =
    let p = err_from_is_err_and c.from_residual.result c.from_residual.ensures.1 in
    rw (p.1, p.2) (λ line next. c.in_err-source.ensures line (after_source (end_of c.args.end) next))

pub returns-in_err-start : goal.returns-in_err-start
returns-in_err-start c =
    let p = err_from_is_err_and c.from_residual-in_err-start.result c.from_residual-in_err-start.ensures.1 in
    let source = c.in_ok-source.source.now in
    rw (p.1, p.2) (λ line next. c.in_ok-source.ensures.on line (after_source (end_of c.args.end) next) ∙ c.in_err-start.ensures line (after_bit next source))

pub returns : goal.returns
returns c =
    let source = c.in_ok-source.source.now in
    let start = c.in_ok-start.start in (
      record { source = source; start = start },
      (refl, refl),
      pin_is c.args.text.now source c.in_ok-source.behind.now start (end_of c.args.end) c.in_ok-start.rest.now c.in_ok-source.ensures c.in_ok-start.ensures,
    )
