use Rattle.std.proofs.Common.{refl, rules}
use Rattle.std.proofs.lemmas.List.Recursion.{and_is}
use Rattle.gate_list_format.specs.Lists.{name_byte, name_bytes}
use Rattle.gate_list_fields.proofs.all_name_bytes.Goals as goal

pub returns : goal.returns
returns c = and_is name_bytes name_byte refl (λ _ _. refl) c.args.bytes.now 0 _ (search rules) (search rules)
