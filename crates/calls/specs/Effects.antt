-- What each call does to a board and answers there, and the board at each call of a list.
use Rattle.std.specs.Prelude.{◌≡◌, ℕ, List, [], ◌∷◌, map, length, take, Some, None, vec_items, Option}
use Rattle.gates.specs.declared.Mark.{Mark}
use Rattle.gates.specs.Marks.{settled}
use Rattle.gates.specs.Kinds.{Kind}
use Rattle.gates.specs.Told.{Stop, Told, answer, refused, told_by, left_by}
use Rattle.circuit.specs.declared.passes.Pass.TheVariants.{First, Second}
use Rattle.circuit.specs.Circuits.{size}
use Rattle.circuit.specs.Passes.{stepped, iterate, Run, open_count}
use Rattle.record.specs.Boards.{Board, opened, marked}
use Rattle.record.specs.Calls.{add_input_stop, input_added, add_gate_stop, gate_added, join_stop, joined, set_input_stop, input_set, set_signal_stop, signal_set, unstable_stop, is_unstable, run_stop, marks_stop, mark_pair, sheet_stop, sheet_of}
use Rattle.record.specs.Moves.{fire_stop, signals_fired, adopt_stop, adopted}
use Rattle.calls.specs.declared.Call.{Call}
use Rattle.calls.specs.declared.Call.TheVariants as call
use Rattle.calls.specs.Tellings.{Given, number, done, unstable, counts, marks, sheet}

-- the marks that the passes come to: after as many steps as there are signals nothing changes any more
unfoldable pub first_marks : Board → List Mark
first_marks b = iterate (stepped First b.kinds b.circuit) (size b.circuit) (map settled b.state)

unfoldable pub second_marks : Board → List Mark
second_marks b = iterate (stepped Second b.kinds b.circuit) (size b.circuit) (first_marks b)

-- the board after a call; a refused call changes nothing
abbrev pub effect : Board → Call → Board
effect b call.AddInput = left_by (add_input_stop b) b (input_added b)
effect b (call.AddGate kind) = left_by (add_gate_stop b kind) b (gate_added b kind)
effect b (call.Join gate pin source) = left_by (join_stop b gate pin source) b (joined b gate pin source)
effect b (call.SetInput input bit) = left_by (set_input_stop b input bit) b (input_set b input bit)
effect b (call.SetSignal signal bit) = left_by (set_signal_stop b signal bit) b (signal_set b signal bit)
effect b (call.Unstable signal) = b
effect b (call.Fire signals) = left_by (fire_stop b (vec_items signals)) b (signals_fired b (vec_items signals))
effect b call.Run = left_by (run_stop b) b (marked b (first_marks b) (second_marks b))
effect b (call.Marks signal) = b
effect b call.Adopt = left_by (adopt_stop b) b (adopted b)
effect b (call.Sheet room) = b

-- the board after calls in their order
abbrev pub after : Board → List Call → Board
after b [] = b
after b (call ∷ calls) = after (effect b call) calls

-- the board at call i of a list: the earlier calls on a newly opened record
abbrev pub board_at : List Kind → List Call → ℕ → Board
board_at ks calls i = after (opened ks) (take i calls)

-- a run tells how many steps of each pass changed something, and how many second marks are unknown
pub record Counted (b : Board) (told : Told Given) : Type 0 where
  pub first_steps : ℕ
  pub second_steps : ℕ
  pub run : Run b.kinds b.circuit b.state first_steps (first_marks b) second_steps (second_marks b)
  pub says : told ≡ answer (counts (first_steps, second_steps, open_count (second_marks b)))

abbrev pub CountedOrStop : Option Stop → Board → Told Given → Type 0
CountedOrStop (Some s) b told = told ≡ refused s
CountedOrStop None b told = Counted b told

-- what a call tells on a board: the first of its checks that stops it, or what it gives
abbrev pub Answered : Board → Call → Told Given → Type 0
Answered b call.AddInput told = told ≡ told_by (add_input_stop b) (number (length b.circuit.applied))
Answered b (call.AddGate kind) told = told ≡ told_by (add_gate_stop b kind) (number (length b.circuit.gates))
Answered b (call.Join gate pin source) told = told ≡ told_by (join_stop b gate pin source) done
Answered b (call.SetInput input bit) told = told ≡ told_by (set_input_stop b input bit) done
Answered b (call.SetSignal signal bit) told = told ≡ told_by (set_signal_stop b signal bit) done
Answered b (call.Unstable signal) told = told ≡ told_by (unstable_stop b signal) (unstable (is_unstable b signal))
Answered b (call.Fire signals) told = told ≡ told_by (fire_stop b (vec_items signals)) done
Answered b call.Run told = CountedOrStop (run_stop b) b told
Answered b (call.Marks signal) told = told ≡ told_by (marks_stop b signal) (marks (mark_pair b signal))
Answered b call.Adopt told = told ≡ told_by (adopt_stop b) done
Answered b (call.Sheet room) told = told ≡ told_by (sheet_stop b room) (sheet (sheet_of b))
