use Rattle.std.proofs.Common.{unwrap_or, sym, ap, ◌∙◌}
use Rattle.gates.specs.declared.Mark.TheVariants.{Zero}
use Rattle.circuit.proofs.Functions.{extended_gate}
use Rattle.circuit.proofs.level.MarkLevel.gate_value.Goals as goal

pub returns : goal.returns
returns g c =
    c.unwrap_or.ensures
    ∙ ap (λ o. unwrap_or o Zero) c.extension.ensures
    ∙ sym (extended_gate (g.L.GateLibrary.kinds c.args.library.now) c.args.kind c.args.pins.now)
