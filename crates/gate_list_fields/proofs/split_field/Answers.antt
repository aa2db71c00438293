use Rattle.std.proofs.Common.{ap, ◌∙◌, take, drop, length}
use Rattle.std.specs.Prelude.{unwrap_or}
use Rattle.gate_list_fields.proofs.Fields.{field_position}
use Rattle.gate_list_fields.proofs.split_field.Goals as goal

pub returns : goal.returns
returns c =
    let text = c.args.text.now in
    let at = c.unwrap_or.ensures ∙ ap (λ o. unwrap_or o (length text)) c.field_end.ensures in
    let cut = field_position text in
    (c.split_at.ensures.front ∙ ap (λ n. take n text) at ∙ cut.0, c.split_at.ensures.back ∙ ap (λ n. drop n text) at ∙ cut.1)
