-- How far a list is entered, and what each part of the replay does.
use Rattle.std.specs.Prelude.{◌≡◌, ℕ, ◌-◌, ◌<◌, false, List, [], ◌++◌, length, take, drop, replicate, None}
use Rattle.circuit.specs.declared.Signal.{Signal}
use Rattle.circuit.specs.declared.Signal.TheVariants as signal
use Rattle.record.specs.Boards.{Board}
use Rattle.record.specs.Calls.{add_input_stop, input_added, add_gate_stop, gate_added, join_stop, joined, set_input_stop, input_set, set_signal_stop, signal_set}
use Rattle.gate_list_format.specs.Lists.{GateList, Input, Gate, Pin, Lawful, LawfulGate, wires, write_gate, written}
use Rattle.gate_list.specs.Laws.{gate_number}
use Rattle.gate_list.specs.Tables.{input_entries, gate_entries}
use Rattle.gate_list_names.specs.declared.Names.{Names}
use Rattle.list_record.specs.ListBoards.{list_kinds, applied_values, input_starts, gate_starts, pin_starts, pins_in, gate_rows, pin_sources}

-- the text writes a lawful list
pub record Listed (b : GateList) (text : List ℕ) : Type 0 where
  pub lawful : Lawful b
  pub written : text ≡ written b

-- the text writes a lawful list, and the tables hold its names
pub record Lists (names : Names) (b : GateList) : Type 0 where
  pub listed : Listed b names.text.now
  pub inputs : names.inputs.now ≡ input_entries b
  pub gates : names.gates.now ≡ gate_entries b

-- at a place of the text stands the line of a gate
abbrev pub GateStands : GateList → List ℕ → ℕ → ℕ → Type 0
GateStands b text gate place = (gate < length b.gates) × (rest : List ℕ) × LawfulGate (gate_number b gate) × (drop place text ≡ write_gate (gate_number b gate) rest)

-- these inputs and gates are entered, and these pins joined; so many more pins are not
abbrev pub entered : GateList → List Input → List Gate → List Pin → ℕ → Board
entered b is gs ps more = record {
  kinds = list_kinds;
  circuit = record {
    applied = applied_values is;
    gates = gate_rows 0 gs;
    sources = pin_sources b ps ++ replicate more None;
  };
  state = input_starts is ++ (gate_starts gs ++ (pin_starts ps ++ replicate more false));
  marks = None;
}

-- the board after so many inputs; after all inputs and so many gates; after all gates and these pins
abbrev pub inputs_in : GateList → ℕ → Board
inputs_in b k = entered b (take k b.inputs) [] [] 0

abbrev pub gates_in : GateList → ℕ → Board
gates_in b k = entered b b.inputs (take k b.gates) [] (wires (take k b.gates))

abbrev pub pins_joined : GateList → List Pin → Board
pins_joined b ps = entered b b.inputs b.gates ps (wires b.gates - length ps)

-- the pins before a gate's pin, by gate and then by pin
abbrev pub pins_before : GateList → ℕ → ℕ → List Pin
pins_before b gate pin = pins_in (take gate b.gates) ++ take pin (gate_number b gate).pins

-- calls in a row that nothing stops
abbrev pub InputEntered : Board → ℕ → ℕ → ℕ → Board → Type 0
InputEntered old number applied start new =
    add_input_stop old ≡ None
    → set_input_stop (input_added old) number applied ≡ None
    → set_signal_stop (input_set (input_added old) number applied) (signal.Input number) start ≡ None
    → new ≡ signal_set (input_set (input_added old) number applied) (signal.Input number) start

abbrev pub GateEntered : Board → ℕ → ℕ → ℕ → Board → Type 0
GateEntered old number kind start new =
    add_gate_stop old kind ≡ None
    → set_signal_stop (gate_added old kind) (signal.Gate number) start ≡ None
    → new ≡ signal_set (gate_added old kind) (signal.Gate number) start

abbrev pub PinEntered : Board → ℕ → ℕ → Signal → ℕ → ℕ → Board → Type 0
PinEntered old gate pin source wire start new =
    join_stop old gate pin source ≡ None
    → set_signal_stop (joined old gate pin source) (signal.Wire wire) start ≡ None
    → new ≡ signal_set (joined old gate pin source) (signal.Wire wire) start
