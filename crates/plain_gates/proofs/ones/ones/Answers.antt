use Rattle.std.proofs.Common.{◌≡◌, sym, ◌∙◌, count_by, rules}
use Rattle.plain_gates.proofs.Counted.{ones_counted}
use Rattle.plain_gates.proofs.ones.ones.Goals as goal

pub returns : goal.returns
returns c =
    let counted : c.count.result ≡ count_by (λ b. b) c.args.bits.now = search rules in
    counted ∙ sym (ones_counted c.args.bits.now)
