use Rattle.std.proofs.Common.{◌≡◌, Bool, List, [], ◌∷◌, length, refl, ap, suc, ◌∙◌, rules, tests}
use Rattle.std.specs.List.{filter}
use Rattle.std.proofs.lemmas.Iterator.{YieldsList-from_slice}
use Rattle.std.proofs.lemmas.Iterator.Consumers.{YieldsList-from_filter, count_from_yields_List}
use Rattle.gates.specs.declared.Mark.{Mark}
use Rattle.gates.specs.declared.Mark.TheVariants.{Zero, One, Unknown}
use Rattle.gates.specs.contracts.MarkPartialEq.TheImpl.{ghosts}
use Rattle.circuit.specs.Passes.{open_count}
use Rattle.record.proofs.marks.count_open.Goals as goal

abbrev is_unknown : Mark → Bool
is_unknown mark = ghosts.eq mark Unknown

unknown_counted : (marks : List Mark) → length (filter is_unknown marks) ≡ open_count marks
unknown_counted [] = refl
unknown_counted (Zero ∷ marks) = unknown_counted marks
unknown_counted (One ∷ marks) = unknown_counted marks
unknown_counted (Unknown ∷ marks) = ap suc (unknown_counted marks)

pub returns : goal.returns
returns c =
    let marks = c.args.marks.now in
    count_from_yields_List _ _ c.count.ensures.ran (YieldsList-from_filter _ is_unknown (YieldsList-from_slice marks cc) c.filter.ensures.closure (λ x r q k. search (rules, tests))) ∙ unknown_counted marks
