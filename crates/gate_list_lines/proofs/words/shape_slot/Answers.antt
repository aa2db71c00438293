use Rattle.std.proofs.Common.{rules}
use Rattle.gate_list_format.specs.Slots.{space}
use Rattle.gate_list_format.specs.Reading.{pin_count}
use Rattle.gate_list_lines.specs.declared.words.Shape.{Shape}
use Rattle.gate_list_lines.proofs.Judging.{numbered}
use Rattle.gate_list_lines.proofs.words.shape_slot.Goals as goal

pub returns-clause-slot : goal.returns-clause-slot
returns-clause-slot c = numbered (λ (s : Shape). s.pins) (pin_count c.args.word.number c.args.before) space c.args.text.now _ c.slot.result c.slot.ensures (λ r k. search rules)
