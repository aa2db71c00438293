use Rattle.std.proofs.Common.{drop, subst, rules}
use Rattle.gate_list_lookup.proofs.Again.{gate_is}
use Rattle.list_record.specs.Entering.{list_board}
use Rattle.list_record.specs.Replay.{GateEntered}
use Rattle.list_record.proofs.replay.enter_gate.Goals as goal

pub returns : goal.returns
returns c = λ g rest l e.
    let is = gate_is (drop c.args.entry.place c.args.text.now) c.in-Some.fields g rest c.in-Some.ensures l e in
    subst (λ s. GateEntered (list_board c.args.board.now) c.args.number c.args.entry.kind s (list_board c.set_signal.new.self)) is.3 (search rules)
