use Rattle.std.proofs.Common.{◌≡◌, [], None, vec_items, sym, ◌∙◌, subst}
use Rattle.std.specs.List.{AllByRecursion}
use Rattle.std.specs.Vec.{with_items}
use Rattle.std.proofs.lemmas.List.{with_items_is}
use Rattle.circuit.specs.Circuits.{Has}
use Rattle.races.specs.Races.{Race}
use Rattle.races.specs.Fires.{fired}
use Rattle.record.specs.Boards.{Held}
use Rattle.record.specs.Moves.{fire_stop}
use Rattle.record.specs.Views.{board_of}
use Rattle.record.proofs.Fired.{told_none, fire_unstopped, entries_pass, fired_race}
use Rattle.record.proofs.record.Record.fire.Goals as goal

pub complement_all-requires-clause-there : goal.complement_all-requires-clause-there
complement_all-requires-clause-there g c =
    let old = board_of g.L.GateLibrary.kinds c.args.self.now in
    let signals = c.args.signals.now in
    subst (λ (h : Held g.row.L.Denot). AllByRecursion (Has h.circuit) signals) (sym c.self.view_is) (entries_pass old [] signals (told_none _ _ _ c.in_ok-check_entries.ensures)).there

pub returns-clause-race : goal.returns-clause-race
returns-clause-race g c =
    let kinds = g.L.GateLibrary.kinds in
    let r = c.self.inside in
    let signals = c.args.signals.now in
    let held : Held g.row.L.Denot = record { library = r.library; circuit = r.tables; state = vec_items r.values; marks = r.marking } in
    let old = board_of kinds held in
    let passes = fire_unstopped (board_of kinds c.args.self.now) signals (told_none _ _ _ c.in_ok-check_joined.ensures) (sym c.is_empty.ensures ∙ c.if-is_empty.false) (told_none _ _ _ c.in_ok-check_entries.ensures) in
    let passed = subst (λ (h : Held g.row.L.Denot). fire_stop (board_of kinds h) signals ≡ None) (sym c.self.view_is) passes in
    let values = with_items_is r.values c.complement_all.new.values (c.complement_all.auto.values ∙ c.deref_mut.ensures.len) in
    let fires : c.complement_all.new.values ≡ fired old.circuit signals old.state = rw c.deref_mut.ensures.value at c.complement_all.ensures in
    let after = values ∙ fires in
    subst (λ (h : Held g.row.L.Denot). Race (kinds h.library) h.circuit h.state (vec_items (with_items r.values c.complement_all.new.values))) c.self.view_is
    (subst (Race old.kinds old.circuit old.state) (sym after) (fired_race old signals c.self.invariant.0.valued passed))
