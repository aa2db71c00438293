use Rattle.std.proofs.Common.{get_or, None, sym, ap, subst, ◌∙◌}
use Rattle.std.proofs.lemmas.List.{get_or_read}
use Rattle.circuit.specs.Circuits.{Circuit}
use Rattle.circuit.specs.Wiring.{Kept}
use Rattle.circuit.proofs.Wired.{sourced_at}
use Rattle.circuit.proofs.tables.excitations.Moment.wire.Goals as goal

pub place-requires : goal.place-requires
place-requires g c =
    let circuit = c.args.self.now.tables.now in
    let kept = subst Kept c.tables.view_is c.tables.invariant.kept in
    let read = c.index.ensures ∙ ap (λ (x : Circuit). get_or x.sources c.args.number c.index.result.now) c.tables.view_is in
    sourced_at circuit c.args.number _ kept.wired.sourced (sym (get_or_read circuit.sources _ _ c.requires read None) ∙ c.in-Some.is)
