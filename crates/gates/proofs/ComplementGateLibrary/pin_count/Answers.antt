use Rattle.std.proofs.Common.{sym, ap, ◌∙◌}
use Rattle.std.specs.Option.{option_map}
use Rattle.gates.specs.Kinds.{Kind}
use Rattle.gates.specs.Paired.{pins_turned}
use Rattle.gates.proofs.ComplementGateLibrary.pin_count.Goals as goal

pub returns-in_err-below : goal.returns-in_err-below
returns-in_err-below g c = c.from_residual.ensures ∙ sym (ap (option_map (λ (d : Kind). d.pins)) (c.in_err-below.ensures _))

pub returns : goal.returns
returns g c = c.pin_count.ensures ∙ sym (ap (option_map (λ (d : Kind). d.pins)) (c.in_ok-below.ensures _) ∙ pins_turned _ _)
