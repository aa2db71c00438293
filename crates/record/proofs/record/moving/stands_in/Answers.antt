use Rattle.std.proofs.Common.{sym, ◌∙◌, rules}
use Rattle.std.proofs.lemmas.Iterator.{YieldsList-from_slice}
use Rattle.std.proofs.lemmas.Iterator.Search.{any_from_yields_List}
use borrow.Author.Tests.{tests}
use Rattle.circuit.specs.contracts.SignalPartialEq.TheImpl.{ghosts}
use Rattle.record.proofs.Fired.{listed_any}
use Rattle.record.proofs.record.moving.stands_in.Goals as goal

pub returns : goal.returns
returns c =
    any_from_yields_List (λ y. ghosts.eq y c.args.signal) _ _ _ c.any.ensures.ran (YieldsList-from_slice c.args.signals.now cc) (λ x b q k. search (rules, tests))
    ∙ sym (listed_any c.args.signals.now c.args.signal)
