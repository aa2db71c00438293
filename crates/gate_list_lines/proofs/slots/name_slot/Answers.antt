use Rattle.std.proofs.Common.{rules}
use Rattle.gate_list_format.specs.Slots.{space}
use Rattle.gate_list_format.specs.Reading.{new_name}
use Rattle.gate_list_names.specs.Given.{all_names}
use Rattle.gate_list_lines.proofs.Judging.{named}
use Rattle.gate_list_lines.proofs.slots.name_slot.Goals as goal

pub returns : goal.returns
returns c = named (new_name (all_names c.args.names)) space c.args.text.now _ c.slot.result c.slot.ensures (λ r k. search rules)
