use Rattle.std.proofs.Common.{drop, sym, ap, ◌∙◌}
use Rattle.gate_list_format.specs.Reading.{member}
use Rattle.gate_list_names.specs.Given.{input_names, gate_names, all_names}
use Rattle.gate_list_names.proofs.Found.{source_member}
use Rattle.gate_list_lookup.proofs.Again.{pin_is}
use Rattle.gate_list.proofs.source_known.Goals as goal

pub returns : goal.returns
returns c = λ g rest l e within.
    let names = c.args.names in
    let is = pin_is (drop c.args.place names.text.now) c.args.pin c.in-Some.fields g rest c.in-Some.ensures l e in
    c.is_some.ensures
    ∙ sym (source_member _ (input_names names) (gate_names names) c.source.result c.source.ensures)
    ∙ ap (λ n. member n (all_names names)) is.1.0
