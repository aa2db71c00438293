use Rattle.std.proofs.Common.{◌≡◌, sym, subst, rules}
use Rattle.record.specs.Answers.{told}
use Rattle.record.specs.Calls.{run_stop}
use Rattle.record.specs.Views.{board_of}
use Rattle.calls.specs.Tellings.{counts, told_of}
use Rattle.calls.specs.Effects.{effect, Answered}
use Rattle.calls.proofs.Marking.{told_as, ran_counted}
use Rattle.calls.proofs.perform.Goals as goal

pub returns-in-Run : goal.returns-in-Run
returns-in-Run g c =
    let old = board_of g.L.GateLibrary.kinds c.args.held.now in
    let new = board_of g.L.GateLibrary.kinds c.run.new.self in
    let given : told_of c.map-in-Run.result ≡ told_as counts (told c.run.result) = search rules in
    let r = ran_counted old c.sound.ensures.valued (run_stop old) _ new (told_of c.map-in-Run.result) c.run.ensures given in
    record {
      sound = c.sound.ensures;
      answer = subst (λ k. Answered old k (told_of c.map-in-Run.result)) (sym c.in-Run.is) r.0;
      after = subst (λ k. new ≡ effect old k) (sym c.in-Run.is) r.1;
    }
