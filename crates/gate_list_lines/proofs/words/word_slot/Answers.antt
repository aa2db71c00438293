use Rattle.std.proofs.Common.{rules}
use Rattle.gate_list_format.specs.Slots.{space}
use Rattle.gate_list_format.specs.Reading.{gate_word}
use Rattle.gate_list_lines.specs.declared.words.Word.{Word}
use Rattle.gate_list_lines.proofs.Judging.{numbered}
use Rattle.gate_list_lines.proofs.words.word_slot.Goals as goal

pub returns : goal.returns
returns c = numbered (λ (w : Word). w.number) gate_word space c.args.text.now _ c.slot.result c.slot.ensures (λ r k. search rules)
