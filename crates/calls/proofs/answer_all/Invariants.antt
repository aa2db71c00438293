use Rattle.std.proofs.Common.{◌≡◌, ◌≤◌, length, take, vec_items, vec_len, vec_capacity}
use Rattle.record.specs.Boards.{opened}
use Rattle.record.specs.Views.{board_of}
use Rattle.calls.specs.Effects.{after}
use Rattle.calls.proofs.Promised.{Past}
use Rattle.calls.proofs.answer_all.Given as goal

abbrev pub invariant-loop-call : goal.invariant-loop-call
invariant-loop-call g l =
    let kinds = g.L.GateLibrary.kinds in
    let start = opened (kinds l.fn.library) in
    record {
      board : board_of kinds l.held ≡ after start (take l.call-index l.calls);
      count : vec_len l.answers ≡ l.call-index;
      room : length l.calls ≤ vec_capacity l.answers;
      past : Past start l.calls (vec_items l.answers) l.call-index;
    }
