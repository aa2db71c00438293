use Rattle.std.proofs.Common.{◌+◌, ◌-◌, decimal, rules}
use Rattle.gate_list_format.specs.Slots.{newline}
use Rattle.gate_list_format.specs.Reading.{pick}
use Rattle.gate_list_lines.proofs.Judging.{slotted}
use Rattle.gate_list_lines.proofs.slots.count_slot.Goals as goal

pub returns : goal.returns
returns c = slotted (pick 16 decimal 0 (c.args.most + 1 - 0)) newline c.args.text.now _ c.slot.result c.slot.ensures (λ r k. search rules)
