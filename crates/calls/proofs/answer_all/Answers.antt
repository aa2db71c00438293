use Rattle.std.proofs.Common.{◌≡◌, length, get_or, vec_items, sym, ap, ◌∙◌, subst, arith}
use Rattle.std.proofs.lemmas.List.{get_or_read}
use Rattle.record.specs.Boards.{Sound, opened}
use Rattle.record.specs.Views.{board_of}
use Rattle.calls.specs.declared.Call.TheVariants as call
use Rattle.calls.specs.Tellings.{told_of}
use Rattle.calls.specs.Effects.{effect, Answered}
use Rattle.calls.proofs.Boards.{after_more}
use Rattle.calls.proofs.Promised.{Past, past_more, promised}
use Rattle.calls.proofs.answer_all.Goals as goal

pub loop-call-preserved : goal.loop-call-preserved
loop-call-preserved g c =
    let kinds = g.L.GateLibrary.kinds in
    let start = opened (kinds c.args.library) in
    let calls = c.args.calls.now in
    let i = c.loop-call.call-index in
    let same = c.loop-call.invariant.board in
    let item = get_or_read calls i c.call-item.result c.loop-call-test.true c.call-item.is call.AddInput in
    let answered = subst (λ b. Answered b (get_or calls i call.AddInput) (told_of c.in_ok-answer.answer)) same (subst (λ k. Answered (board_of kinds c.loop-call.held) k (told_of c.in_ok-answer.answer)) item c.in_ok-answer.ensures.answer) in
    let count : length (vec_items c.loop-call.answers) ≡ i = sym c.loop-call.answers.ok.0 ∙ c.loop-call.invariant.count in
    record {
      board = c.in_ok-answer.ensures.after ∙ ap (effect (board_of kinds c.loop-call.held)) item ∙ ap (λ b. effect b (get_or calls i call.AddInput)) same ∙ sym (after_more start calls i c.loop-call-test.true);
      count = omega arith;
      room = omega arith;
      past = past_more start calls (vec_items c.loop-call.answers) (vec_items c.push_reserved.new.self) c.in_ok-answer.answer i c.push_reserved.ensures.items count c.loop-call.invariant.past answered (subst Sound same c.in_ok-answer.ensures.sound);
    }

pub returns : goal.returns
returns g c =
    let kinds = g.L.GateLibrary.kinds c.args.library in
    let calls = c.args.calls.now in
    let answers = vec_items c.loop-call.answers in
    let all : c.loop-call.call-index ≡ length calls = omega arith in
    let count : length answers ≡ length calls = sym c.loop-call.answers.ok.0 ∙ c.loop-call.invariant.count ∙ all in
    promised kinds calls answers count (subst (Past (opened kinds) calls answers) all c.loop-call.invariant.past)
