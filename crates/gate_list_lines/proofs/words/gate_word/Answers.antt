use Rattle.gate_list_fields.proofs.Numbers.{word_good, word_bad}
use Rattle.gate_list_lines.proofs.words.gate_word.Goals as goal

pub returns-in-Some : goal.returns-in-Some
returns-in-Some c = word_good c.args.field.now c.in-Some.number c.in-Some.ensures.0 c.in-Some.ensures.1

pub returns-in-None : goal.returns-in-None
returns-in-None c = word_bad c.args.field.now c.in-None.ensures
