-- Each call on a board: the checks that may stop it, in order, and what it does otherwise.
use Rattle.std.specs.Prelude.{ℕ, ◌+◌, Bool, false, cond, not, List, [], ◌∷◌, ◌++◌, length, replicate, is_some, Some, None, Option, ◌==◌, nat_lt, slice_index_or, slice_set}
use Rattle.std.specs.Bool.{beq}
use Rattle.std.specs.List.{insert}
use Rattle.std.specs.Option.{unwrap_or}
use Rattle.gates.specs.declared.Mark.{Mark}
use Rattle.gates.specs.declared.Mark.TheVariants.{Zero}
use Rattle.gates.specs.Kinds.{pins_of}
use Rattle.gates.specs.Told.{Stop, stop, first_stop}
use Rattle.circuit.specs.declared.Signal.{Signal}
use Rattle.circuit.specs.Circuits.{place, excitation}
use Rattle.circuit.specs.Changes.{input_fits, with_input, gate_fits, with_gate, join_fits, with_joined, has_input, has_signal, with_applied}
use Rattle.circuit.specs.Wiring.{first_unjoined}
use Rattle.sheet.specs.Sheets.{sheet}
use Rattle.record.specs.Answers.{unjoined}
use Rattle.record.specs.Boards.{Board, changed}

-- a check that stops a call unless a test holds
abbrev pub unless : Bool → ℕ → Option Stop
unless test n = cond test None (Some (stop n))

-- a bit comes as a number
abbrev pub is_bit : ℕ → Bool
is_bit n = nat_lt n 2

abbrev pub bit_of : ℕ → Bool
bit_of n = n == 1

-- add input: 2 if it would be input 33
abbrev pub add_input_stop : Board → Option Stop
add_input_stop b = first_stop (unless (input_fits b.circuit) 2 ∷ [])

-- a new input has the value 0; what stands behind it moves on by one place
abbrev pub input_added : Board → Board
input_added b = changed b (with_input b.circuit) (insert b.state (length b.circuit.applied) false)

abbrev pub pin_count : Board → ℕ → ℕ
pin_count b kind = unwrap_or (pins_of b.kinds kind) 0

-- add gate: 1 if the library has no such kind, 2 if it would be gate 97 or have a wire beyond 384
abbrev pub add_gate_stop : Board → ℕ → Option Stop
add_gate_stop b kind = first_stop (unless (is_some (pins_of b.kinds kind)) 1 ∷ unless (gate_fits b.circuit (pin_count b kind)) 2 ∷ [])

-- a new gate and its wires have the value 0
abbrev pub gate_added : Board → ℕ → Board
gate_added b kind =
    changed b (with_gate b.circuit kind (pin_count b kind))
    (insert b.state (length b.circuit.applied + length b.circuit.gates) false ++ replicate (pin_count b kind) false)

-- join: 3 if the gate, its pin or the source is not there, or the source is a wire
abbrev pub join_stop : Board → ℕ → ℕ → Signal → Option Stop
join_stop b gate pin source = first_stop (unless (join_fits b.circuit gate pin source) 3 ∷ [])

abbrev pub joined : Board → ℕ → ℕ → Signal → Board
joined b gate pin source = changed b (with_joined b.circuit gate pin source) b.state

-- set input: 3 if there is no such input, 4 if the bit is neither 0 nor 1
abbrev pub set_input_stop : Board → ℕ → ℕ → Option Stop
set_input_stop b input bit = first_stop (unless (has_input b.circuit input) 3 ∷ unless (is_bit bit) 4 ∷ [])

abbrev pub input_set : Board → ℕ → ℕ → Board
input_set b input bit = changed b (with_applied b.circuit input (bit_of bit)) b.state

-- set signal: 3 if there is no such signal, 4 if the bit is neither 0 nor 1
abbrev pub set_signal_stop : Board → Signal → ℕ → Option Stop
set_signal_stop b signal bit = first_stop (unless (has_signal b.circuit signal) 3 ∷ unless (is_bit bit) 4 ∷ [])

abbrev pub signal_set : Board → Signal → ℕ → Board
signal_set b signal bit = changed b b.circuit (slice_set b.state (place b.circuit signal) (bit_of bit))

-- 5 if a pin is not joined: the first, by gate and then by pin
abbrev pub at_pin : Option (ℕ × ℕ) → Option Stop
at_pin None = None
at_pin (Some p) = Some (unjoined p.0 p.1)

abbrev pub unjoined_stop : Board → Option Stop
unjoined_stop b = at_pin (first_unjoined b.circuit)

-- unstable: 3 if there is no such signal, then 5
abbrev pub unstable_stop : Board → Signal → Option Stop
unstable_stop b signal = first_stop (unless (has_signal b.circuit signal) 3 ∷ unjoined_stop b ∷ [])

-- a signal is unstable if its value differs from its excitation
abbrev pub is_unstable : Board → Signal → Bool
is_unstable b signal = not (beq (slice_index_or b.state (place b.circuit signal) false) (excitation (λ bit. bit) (λ f bits. f bits) b.kinds b.circuit b.state signal))

-- run: 5
abbrev pub run_stop : Board → Option Stop
run_stop b = first_stop (unjoined_stop b ∷ [])

-- marks: 3 if there is no such signal, 9 if no marks stand
abbrev pub marks_stop : Board → Signal → Option Stop
marks_stop b signal = first_stop (unless (has_signal b.circuit signal) 3 ∷ unless (is_some b.marks) 9 ∷ [])

abbrev pub mark_at : Board → List Mark → Signal → Mark
mark_at b marks signal = slice_index_or marks (place b.circuit signal) Zero

-- a signal's first and second mark
abbrev pub mark_pair : Board → Signal → Mark × Mark
mark_pair b signal = (mark_at b (unwrap_or b.marks ([], [])).0 signal, mark_at b (unwrap_or b.marks ([], [])).1 signal)

-- the sheet of the standing marks
abbrev pub sheet_of : Board → List ℕ
sheet_of b = sheet (length b.circuit.applied) (length b.circuit.gates) (unwrap_or b.marks ([], [])).0 (unwrap_or b.marks ([], [])).1

-- sheet: 9 if no marks stand, 11 if the buffer is shorter than the sheet
abbrev pub sheet_stop : Board → ℕ → Option Stop
sheet_stop b room = first_stop (unless (is_some b.marks) 9 ∷ unless (not (nat_lt room (length (sheet_of b)))) 11 ∷ [])
