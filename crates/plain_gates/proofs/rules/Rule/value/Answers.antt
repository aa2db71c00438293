use Rattle.std.proofs.Common.{length, sym, ap, ◌∙◌}
use Rattle.plain_gates.specs.Rules.{output_at}
use Rattle.plain_gates.proofs.Counted.{counted}
use Rattle.plain_gates.proofs.rules.Rule.value.Goals as goal

pub returns : goal.returns
returns c =
    let bits = c.args.bits.now in
    c.output.ensures ∙ ap (λ n. output_at c.args.self n (length bits)) c.ones.ensures ∙ sym (counted c.args.self bits)
