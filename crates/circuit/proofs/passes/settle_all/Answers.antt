use Rattle.std.proofs.Common.{◌≡◌, false, get_or, map, length, sym, ◌∙◌, arith, rules}
use lib.ListN.{length-map, get_or-map}
use Rattle.std.proofs.lemmas.List.{ext_get_or}
use Rattle.gates.specs.declared.Mark.TheVariants.{Zero}
use Rattle.gates.specs.Marks.{settled}
use Rattle.circuit.proofs.passes.settle_all.Goals as goal

pub returns : goal.returns
returns c =
    let bits = c.args.bits.now in
    let marks = c.fill_by.new.marks in
    let same : length marks ≡ length (map settled bits) = omega (arith, length-map bits settled) in
    ext_get_or Zero marks (map settled bits) same
    (λ i h. let is = c.fill_by.ensures i h in let made : get_or marks i Zero ≡ settled (get_or bits i false) = search rules in made ∙ sym (get_or-map settled bits i false))
