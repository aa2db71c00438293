-- What holds of every board that calls lead to.
use Rattle.std.proofs.Common.{◌≡◌, ℕ, ◌+◌, ◌<◌, List, [], ◌∷◌, ◌++◌, length, get_or, take, Some, None, vec_items, Option, refl, ap, ◌∙◌}
use Rattle.std.proofs.lemmas.List.{take_more}
use Rattle.gates.specs.declared.Mark.{Mark}
use Rattle.gates.specs.Told.{Stop, first_stop, left_by}
use Rattle.circuit.specs.Wiring.{first_unjoined}
use Rattle.circuit.proofs.Unjoined.{first_unjoined_exact}
use Rattle.races.specs.Exact.{Whole}
use Rattle.record.specs.Boards.{Board, Sound, marked}
use Rattle.record.specs.Calls.{at_pin, add_input_stop, input_added, add_gate_stop, gate_added, join_stop, joined, set_input_stop, input_set, set_signal_stop, signal_set}
use Rattle.record.specs.Moves.{fire_stop, signals_fired, adopt_stop, adopted}
use Rattle.calls.specs.declared.Call.{Call}
use Rattle.calls.specs.declared.Call.TheVariants as call
use Rattle.calls.specs.Effects.{first_marks, second_marks, effect, after}

-- marks that stand are those of the present circuit and values, and every pin is joined
abbrev pub Standing : Board → Type 0
Standing b = (firsts seconds : List Mark) → b.marks ≡ Some (firsts, seconds) → (firsts ≡ first_marks b) × (seconds ≡ second_marks b) × (first_unjoined b.circuit ≡ None)

pub no_marks : (b : Board) → b.marks ≡ None → Standing b
no_marks b e f s is = absurd (cc)

stand_left : (stop : Option Stop) (b new : Board) → Standing b → new.marks ≡ None → Standing (left_by stop b new)
stand_left None b new h none = no_marks new none
stand_left (Some s) b new h none = h

stand_run : (b : Board) (o : Option (ℕ × ℕ)) → first_unjoined b.circuit ≡ o → Standing b → Standing (left_by (first_stop (at_pin o ∷ [])) b (marked b (first_marks b) (second_marks b)))
unfolding first_marks second_marks
stand_run b (Some p) e h = h
stand_run b None e h = λ f s is. let p : (f, s) ≡ (first_marks b, second_marks b) = cc in (ap (λ (q : List Mark × List Mark). q.0) p, ap (λ (q : List Mark × List Mark). q.1) p, e)

stand_effect : (b : Board) (call : Call) → Standing b → Standing (effect b call)
stand_effect b call.AddInput h = stand_left (add_input_stop b) b (input_added b) h refl
stand_effect b (call.AddGate kind) h = stand_left (add_gate_stop b kind) b (gate_added b kind) h refl
stand_effect b (call.Join gate pin source) h = stand_left (join_stop b gate pin source) b (joined b gate pin source) h refl
stand_effect b (call.SetInput input bit) h = stand_left (set_input_stop b input bit) b (input_set b input bit) h refl
stand_effect b (call.SetSignal signal bit) h = stand_left (set_signal_stop b signal bit) b (signal_set b signal bit) h refl
stand_effect b (call.Unstable signal) h = h
stand_effect b (call.Fire signals) h = stand_left (fire_stop b (vec_items signals)) b (signals_fired b (vec_items signals)) h refl
stand_effect b call.Run h = stand_run b (first_unjoined b.circuit) refl h
stand_effect b (call.Marks signal) h = h
stand_effect b call.Adopt h = stand_left (adopt_stop b) b (adopted b) h refl
stand_effect b (call.Sheet room) h = h

pub stand_after : (b : Board) (calls : List Call) → Standing b → Standing (after b calls)
stand_after b [] h = h
stand_after b (call ∷ calls) h = stand_after (effect b call) calls (stand_effect b call h)

-- one call more
after_push : (b : Board) (calls : List Call) (call : Call) → after b (calls ++ call ∷ []) ≡ effect (after b calls) call
after_push b [] call = refl
after_push b (first ∷ calls) call = after_push (effect b first) calls call

pub after_more : (b : Board) (calls : List Call) (i : ℕ) → i < length calls → after b (take (i + 1) calls) ≡ effect (after b (take i calls)) (get_or calls i call.AddInput)
after_more b calls i h = ap (after b) (take_more calls i call.AddInput h) ∙ after_push b (take i calls) (get_or calls i call.AddInput)

-- a board with every pin joined
pub whole_of : (b : Board) → Sound b → first_unjoined b.circuit ≡ None → Whole b.circuit b.state
whole_of b s none = record { wired = s.kept.wired; joined = (first_unjoined_exact b.circuit s.kept.wired.numbered).none none; long = s.valued }
