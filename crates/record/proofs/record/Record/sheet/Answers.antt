use Rattle.std.proofs.Common.{◌≡◌, ◌≤◌, true, length, is_some, vec_items, subst}
use Rattle.sheet.specs.declared.TheConstants.{LONGEST}
use Rattle.record.specs.Boards.{Held}
use Rattle.record.specs.Calls.{sheet_of}
use Rattle.record.specs.Views.{board_of}
use Rattle.record.proofs.Sheets.{sheet_few}
use Rattle.record.proofs.record.Record.sheet.Goals as goal

pub returns-clause-few : goal.returns-clause-few
returns-clause-few g c =
    let kinds = g.L.GateLibrary.kinds in
    let r = c.self.inside in
    let held : Held g.row.L.Denot = record { library = r.library; circuit = r.tables; state = vec_items r.values; marks = r.marking } in
    subst (λ (h : Held g.row.L.Denot). is_some h.marks ≡ true → length (sheet_of (board_of kinds h)) ≤ LONGEST) c.self.view_is (sheet_few (board_of kinds held) (record { kept = c.kept.ensures; valued = c.self.invariant.0.valued; marked = c.self.invariant.0.marked }))
