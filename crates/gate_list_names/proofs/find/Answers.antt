use Rattle.std.proofs.Common.{◌≡◌, rules, true, false}
use borrow.Author.Tests.{tests}
use Rattle.std.specs.Str.{bytes_eq}
use Rattle.std.proofs.lemmas.Iterator.{IsFirst-from_position, YieldsList-from_slice}
use Rattle.gate_list_names.specs.Names.{at}
use Rattle.gate_list_names.proofs.Found.{first_named}
use Rattle.gate_list_names.proofs.find.Goals as goal

pub returns : goal.returns
returns g c =
    let e = g.E.Entry in
    let text = c.args.text.now in
    let f = c.args.name.now in
    first_named f (λ y. at text (e.start y) (e.size y)) c.args.table.now c.position.result
    (IsFirst-from_position _ _ _ (λ y. bytes_eq (at text (e.start y) (e.size y)) f ≡ true) (λ y. bytes_eq (at text (e.start y) (e.size y)) f ≡ false) c.position.ensures.ran (YieldsList-from_slice c.args.table.now cc) (λ x q k. search (rules, tests)) (λ x q k. search (rules, tests)))
