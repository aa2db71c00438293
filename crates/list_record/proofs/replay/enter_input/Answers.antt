use Rattle.std.proofs.Common.{drop, subst, rules}
use Rattle.gate_list_lookup.proofs.Again.{input_is}
use Rattle.list_record.specs.Entering.{list_board}
use Rattle.list_record.specs.Replay.{InputEntered}
use Rattle.list_record.proofs.replay.enter_input.Goals as goal

pub returns : goal.returns
returns c = λ i rest l e.
    let old = list_board c.args.board.now in
    let new = list_board c.set_signal.new.self in
    let is = input_is (drop c.args.place c.args.text.now) c.in-Some.fields i rest c.in-Some.ensures l e in
    subst (λ s. InputEntered old c.args.number i.applied s new) is.2
    (subst (λ a. InputEntered old c.args.number a c.in-Some.fields.start new) is.1 (search rules))
