use Rattle.std.proofs.Common.{true, false, refl, arith, rules}
use Rattle.std.proofs.lemmas.Iterator.{YieldsList-from_range, cases_from_all}
use borrow.Author.Tests.{tests}
use Rattle.gate_list_names.specs.Given.{all_names}
use Rattle.gate_list.specs.Parts.{SourceKnown}
use Rattle.gate_list.proofs.Known.{pins_known}
use Rattle.gate_list.proofs.gate_known.Goals as goal

pub returns : goal.returns
returns c =
    let text = c.args.names.text.now in
    let ns = all_names c.args.names in
    let n = c.pin_count_at.result in
    pins_known ns text c.args.place n c.all.result c.pin_count_at.ensures
    (cases_from_all _ _ _ (λ p. SourceKnown ns text c.args.place p true) (λ p. SourceKnown ns text c.args.place p false) c.all.ensures.ran (YieldsList-from_range 0 n n refl (omega arith)) (λ x q k. search (rules, tests)) (λ x q k. search (rules, tests)))
