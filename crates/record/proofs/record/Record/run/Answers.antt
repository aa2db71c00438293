use Rattle.std.proofs.Common.{◌≡◌, None, vec_items, sym, subst}
use Rattle.gates.specs.Told.{answer}
use Rattle.record.specs.Boards.{Held}
use Rattle.record.specs.Calls.{unjoined_stop, run_stop}
use Rattle.record.specs.Runs.{RunOrStop, Marked}
use Rattle.record.specs.Views.{board_of}
use Rattle.record.proofs.Fired.{told_none}
use Rattle.record.proofs.Ran.{marks_long, ran_unstopped}
use Rattle.record.proofs.record.Record.run.Goals as goal

pub invariant_of-self : goal.invariant_of-self
invariant_of-self g c =
    let filled = c.self.invariant.0 in
    (record { valued = filled.valued; marked = marks_long _ _ _ _ _ c.run.ensures }, c.self.invariant.1)

pub returns : goal.returns
returns g c =
    let kinds = g.L.GateLibrary.kinds in
    let r = c.self.inside in
    let held : Held g.row.L.Denot = record { library = r.library; circuit = r.tables; state = vec_items r.values; marks = r.marking } in
    let old = board_of kinds held in
    let joined = subst (λ (h : Held g.row.L.Denot). unjoined_stop (board_of kinds h) ≡ None) (sym c.self.view_is) (told_none _ _ _ c.in_ok-check_joined.ensures) in
    let run = subst (λ values. Marked old.kinds old.circuit values c.run.result c.run.new.self) c.deref.ensures.value c.run.ensures in
    subst (λ (h : Held g.row.L.Denot). RunOrStop (run_stop (board_of kinds h)) (board_of kinds h) (answer c.run.result) (record { kinds = old.kinds; circuit = old.circuit; state = old.state; marks = c.run.new.self }))
    c.self.view_is (ran_unstopped old c.run.result c.run.new.self c.kept.ensures.wired c.self.invariant.0.valued joined run)
