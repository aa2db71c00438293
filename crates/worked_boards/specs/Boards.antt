-- The twelve worked boards.
use Rattle.std.specs.Prelude.{ℕ, Bool, true, false, List, [], ◌∷◌, Some}
use Rattle.std.specs.List.{AllByRecursion}
use Rattle.gates.specs.declared.Mark.{Mark}
use Rattle.gates.specs.declared.Mark.TheVariants.{Zero, One, Unknown}
use Rattle.plain_gates.specs.Plain.{plain}
use Rattle.table_cells.specs.Cells.{cell_kind}
use Rattle.circuit.specs.declared.Source.TheVariants as source
use Rattle.circuit.specs.Circuits.{Circuit}
use Rattle.circuit.specs.Changes.{empty}
use Rattle.worked_boards.specs.Cases.{CircuitCase, ExtensionCase, Case, of_circuit, of_extension, AsSaid}

abbrev pub empty_board : CircuitCase
empty_board = record { circuit = empty; start = []; first_steps = 0; second_steps = 0; open_signals = 0; firsts = []; seconds = []; sheet_length = 25 }

abbrev pub rising_input : CircuitCase
rising_input = record {
  circuit = record { applied = true ∷ []; gates = []; sources = [] };
  start = false ∷ [];
  first_steps = 1;
  second_steps = 1;
  open_signals = 0;
  firsts = Unknown ∷ [];
  seconds = One ∷ [];
  sheet_length = 28;
}

-- a gate of one pin that feeds itself
abbrev pub ring : ℕ → Circuit
ring kind = record { applied = []; gates = (record { kind = kind; first = 0; pins = 1 }) ∷ []; sources = Some (source.Gate 0) ∷ [] }

abbrev pub inverter_ring : CircuitCase
inverter_ring = record {
  circuit = ring 1;
  start = false ∷ false ∷ [];
  first_steps = 2;
  second_steps = 0;
  open_signals = 2;
  firsts = Unknown ∷ Unknown ∷ [];
  seconds = Unknown ∷ Unknown ∷ [];
  sheet_length = 31;
}

abbrev pub resting_buffer_ring : CircuitCase
resting_buffer_ring = record {
  circuit = ring 0;
  start = false ∷ false ∷ [];
  first_steps = 0;
  second_steps = 0;
  open_signals = 0;
  firsts = Zero ∷ Zero ∷ [];
  seconds = Zero ∷ Zero ∷ [];
  sheet_length = 31;
}

abbrev pub unsettled_buffer_ring : CircuitCase
unsettled_buffer_ring = record {
  circuit = ring 0;
  start = true ∷ false ∷ [];
  first_steps = 1;
  second_steps = 0;
  open_signals = 2;
  firsts = Unknown ∷ Unknown ∷ [];
  seconds = Unknown ∷ Unknown ∷ [];
  sheet_length = 31;
}

-- two NOR gates, each fed by an input and by the other
abbrev pub latch : Bool → Circuit
latch set = record {
  applied = set ∷ false ∷ [];
  gates = (record { kind = 19; first = 0; pins = 2 }) ∷ (record { kind = 19; first = 2; pins = 2 }) ∷ [];
  sources = Some (source.Input 0) ∷ Some (source.Gate 1) ∷ Some (source.Input 1) ∷ Some (source.Gate 0) ∷ [];
}

-- both lines high, so both outputs low
abbrev pub both_high : List Bool
both_high = true ∷ true ∷ false ∷ false ∷ true ∷ false ∷ true ∷ false ∷ []

abbrev pub latch_released : CircuitCase
latch_released = record {
  circuit = latch false;
  start = both_high;
  first_steps = 4;
  second_steps = 2;
  open_signals = 4;
  firsts = Unknown ∷ Unknown ∷ Unknown ∷ Unknown ∷ Unknown ∷ Unknown ∷ Unknown ∷ Unknown ∷ [];
  seconds = Zero ∷ Zero ∷ Unknown ∷ Unknown ∷ Zero ∷ Unknown ∷ Zero ∷ Unknown ∷ [];
  sheet_length = 49;
}

abbrev pub latch_kept_set : CircuitCase
latch_kept_set = record {
  circuit = latch true;
  start = both_high;
  first_steps = 4;
  second_steps = 4;
  open_signals = 0;
  firsts = One ∷ Unknown ∷ Zero ∷ Unknown ∷ One ∷ Unknown ∷ Unknown ∷ Zero ∷ [];
  seconds = One ∷ Zero ∷ Zero ∷ One ∷ One ∷ One ∷ Zero ∷ Zero ∷ [];
  sheet_length = 49;
}

-- XOR with both pins on one input: its wires race
abbrev pub xor_of_one_input : CircuitCase
xor_of_one_input = record {
  circuit = record {
    applied = true ∷ [];
    gates = (record { kind = 34; first = 0; pins = 2 }) ∷ [];
    sources = Some (source.Input 0) ∷ Some (source.Input 0) ∷ [];
  };
  start = false ∷ false ∷ false ∷ false ∷ [];
  first_steps = 3;
  second_steps = 3;
  open_signals = 0;
  firsts = Unknown ∷ Unknown ∷ Unknown ∷ Unknown ∷ [];
  seconds = One ∷ Zero ∷ One ∷ One ∷ [];
  sheet_length = 37;
}

-- a cell that picks pin 1 while pin 0 is high, and else pin 2: the pins that it passes over may be unknown
abbrev pub selecting_cell : List Mark → Mark → ExtensionCase
selecting_cell pins output = record { kinds = cell_kind 3 228 ∷ []; kind = 0; pins = pins; output = output }

abbrev pub plain_gate : ℕ → List Mark → Mark → ExtensionCase
plain_gate kind pins output = record { kinds = plain; kind = kind; pins = pins; output = output }

abbrev pub boards : List Case
boards =
    of_circuit empty_board
    ∷ of_circuit rising_input
    ∷ of_circuit inverter_ring
    ∷ of_circuit resting_buffer_ring
    ∷ of_circuit unsettled_buffer_ring
    ∷ of_circuit latch_released
    ∷ of_circuit latch_kept_set
    ∷ of_circuit xor_of_one_input
    ∷ of_extension (selecting_cell (Unknown ∷ One ∷ One ∷ []) One)
    ∷ of_extension (selecting_cell (Unknown ∷ Zero ∷ One ∷ []) Unknown)
    ∷ of_extension (plain_gate 24 (Unknown ∷ One ∷ One ∷ []) One)
    ∷ of_extension (plain_gate 17 (Unknown ∷ Unknown ∷ []) Unknown)
    ∷ []

-- every board is as said
abbrev pub BoardsAsSaid : Type 0
BoardsAsSaid = AllByRecursion AsSaid boards
