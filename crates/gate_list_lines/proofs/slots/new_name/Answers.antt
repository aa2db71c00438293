use Rattle.std.proofs.Common.{Some, None, sym, refl}
use Rattle.gate_list_names.specs.Given.{input_names, gate_names, all_names}
use Rattle.gate_list_names.proofs.Found.{source_member}
use Rattle.gate_list_lines.proofs.Steps.{name_new, name_repeated}
use Rattle.gate_list_lines.proofs.slots.new_name.Goals as goal

pub returns-in-Some : goal.returns-in-Some
returns-in-Some c = name_repeated (all_names c.args.names) c.args.field.now (sym c.if-not-is_name.ensures) (source_member c.args.field.now (input_names c.args.names) (gate_names c.args.names) (Some _) c.in-Some.ensures)

pub returns-in-None : goal.returns-in-None
returns-in-None c = (refl, name_new (all_names c.args.names) c.args.field.now (sym c.if-not-is_name.ensures) (source_member c.args.field.now (input_names c.args.names) (gate_names c.args.names) None c.in-None.ensures))
