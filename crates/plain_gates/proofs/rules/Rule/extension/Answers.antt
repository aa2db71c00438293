use Rattle.std.proofs.Common.{ℕ, ◌+◌, Bool, length, sym, ap, ap₂, ◌∙◌, refl, arith, rules}
use Rattle.std.specs.List.{fold, range_with_len}
use Rattle.std.proofs.lemmas.Iterator.{YieldsList-from_range}
use Rattle.std.proofs.lemmas.Iterator.Consumers.{fold_from_yields_List}
use Rattle.gates.specs.declared.Mark.{Mark}
use Rattle.gates.specs.Marks.{settled, lub}
use Rattle.plain_gates.specs.Rules.{output_at}
use Rattle.plain_gates.proofs.Spread.{spread, spread_folded, extended_rule}
use Rattle.plain_gates.proofs.rules.Rule.extension.Goals as goal

pub returns : goal.returns
returns c =
    let marks = c.args.marks.now in
    let out : ℕ → Bool = λ k. output_at c.args.self k (length marks) in
    let sure = c.mark_counts-sure.result.0 in
    let unknown = c.mark_counts-sure.result.1 in
    let next : Mark → ℕ → Mark = λ m ones. lub m (settled (out ones)) in
    let road = YieldsList-from_range (sure + 1) (sure + unknown + 1) unknown refl (omega arith) in
    fold_from_yields_List _ next c.from-least.result c.fold.result c.fold.ensures.ran road (λ m k r q called. search rules)
    ∙ ap (λ m. fold next m (range_with_len (sure + 1) unknown)) (c.from-least.ensures ∙ ap settled c.output.ensures)
    ∙ spread_folded out sure unknown
    ∙ ap₂ (spread out) c.mark_counts-sure.ensures.sure c.mark_counts-sure.ensures.unknown
    ∙ sym (extended_rule c.args.self marks)
