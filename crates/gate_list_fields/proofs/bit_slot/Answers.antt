use Rattle.std.proofs.lemmas.Result.{err_from_is_err_and}
use Rattle.gate_list_format.specs.Reading.{bit}
use Rattle.gate_list_fields.specs.Taken.{end_of}
use Rattle.gate_list_fields.proofs.Slotted.{went_on, unended}
use Rattle.gate_list_fields.proofs.bit_slot.Goals as goal

pub returns : goal.returns
returns c = went_on bit (end_of c.args.end) c.args.text.now c.split_field.result.0.now c.split_field.result.1.now c.in_ok-value.value c.in_ok-rest.rest.now c.split_field.ensures.0 c.split_field.ensures.1 c.in_ok-value.ensures c.in_ok-rest.ensures

pub returns-in_err-rest : goal.returns-in_err-rest
returns-in_err-rest c =
    let p = err_from_is_err_and c.from_residual-in_err-rest.result c.from_residual-in_err-rest.ensures.1 in
    rw (p.1, p.2, c.in_err-rest.ensures.0) (unended bit (end_of c.args.end) c.args.text.now c.split_field.result.0.now c.split_field.result.1.now c.in_ok-value.value c.split_field.ensures.0 c.split_field.ensures.1 c.in_ok-value.ensures c.in_err-rest.ensures.1)
