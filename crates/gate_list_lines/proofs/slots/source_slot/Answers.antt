use Rattle.std.proofs.Common.{rules}
use Rattle.gate_list_format.specs.Slots.{space}
use Rattle.gate_list_format.specs.Reading.{source_name}
use Rattle.gate_list_lines.proofs.Judging.{named}
use Rattle.gate_list_lines.proofs.slots.source_slot.Goals as goal

pub returns : goal.returns
returns c = named source_name space c.args.text.now _ c.slot.result c.slot.ensures (λ r k. search rules)
