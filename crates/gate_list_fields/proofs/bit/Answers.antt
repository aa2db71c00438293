use Rattle.std.proofs.Common.{arith, rules}
use Rattle.std.proofs.lemmas.Bool.{ltb-true, ltb-false, leb-true, leb-false, eqb-true}
use Rattle.std.proofs.lemmas.Slice.Eq.{text_from_reads}
use Rattle.gate_list_fields.proofs.Fields.{bit_fits, bit_faults}
use Rattle.gate_list_fields.proofs.bit.Goals as goal

pub returns-in-48 : goal.returns-in-48
returns-in-48 c = bit_fits 0 c.args.field.now (omega arith) (text_from_reads c.args.field.now _ (omega (arith, ltb-true, ltb-false, leb-true, leb-false, eqb-true)) (search rules))

pub returns-in-49 : goal.returns-in-49
returns-in-49 c = bit_fits 1 c.args.field.now (omega arith) (text_from_reads c.args.field.now _ (omega (arith, ltb-true, ltb-false, leb-true, leb-false, eqb-true)) (search rules))

pub returns-in_default-2 : goal.returns-in_default-2
returns-in_default-2 c = bit_faults c.args.field.now (λ one. (search rules, search rules))

pub returns-in_default-3 : goal.returns-in_default-3
returns-in_default-3 c = bit_faults c.args.field.now (λ one. absurd (omega (arith, ltb-true, ltb-false, leb-true, leb-false, eqb-true)))
