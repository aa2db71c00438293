-- The board that a gate list describes.
use Rattle.std.specs.Prelude.{◌≡◌, ℕ, suc, ◌+◌, Bool, cond, List, [], ◌∷◌, ◌++◌, map, length, Some, None, Option}
use Rattle.std.specs.Option.{option_map}
use Rattle.std.specs.Str.{bytes_eq}
use Rattle.gates.specs.Kinds.{Kind, complementing}
use Rattle.plain_gates.specs.Plain.{plain}
use Rattle.circuit.specs.declared.Gate as circuit
use Rattle.circuit.specs.declared.Source.{Source}
use Rattle.circuit.specs.declared.Source.TheVariants as source
use Rattle.circuit.specs.Wiring.{first_unjoined}
use Rattle.record.specs.Boards.{Board, opened}
use Rattle.record.specs.Calls.{bit_of}
use Rattle.gate_list_format.specs.Slots.{Outcome, accepted, refused}
use Rattle.gate_list_format.specs.Lists.{GateList, Input, Pin, Gate, Lawful, kind_of, input_names, gate_names}

-- gate lists are for records over the complementing library on plain gates
abbrev pub list_kinds : List Kind
list_kinds = complementing plain

abbrev pub applied_values : List Input → List Bool
applied_values is = map (λ i. bit_of i.applied) is

abbrev pub input_starts : List Input → List Bool
input_starts is = map (λ i. bit_of i.start) is

abbrev pub gate_starts : List Gate → List Bool
gate_starts gs = map (λ g. bit_of g.start) gs

abbrev pub pin_starts : List Pin → List Bool
pin_starts ps = map (λ p. bit_of p.start) ps

-- all pins, by gate and then by pin
abbrev pub pins_in : List Gate → List Pin
pins_in [] = []
pins_in (g ∷ gs) = g.pins ++ pins_in gs

-- a gate of the circuit, whose wires are numbered from first on
abbrev pub gate_row : ℕ → Gate → circuit.Gate
gate_row first g = record { kind = kind_of g.word (length g.pins); first = first; pins = length g.pins }

abbrev pub gate_rows : ℕ → List Gate → List circuit.Gate
gate_rows first [] = []
gate_rows first (g ∷ gs) = gate_row first g ∷ gate_rows (first + length g.pins) gs

-- the number of the first name that is f
abbrev pub position : List ℕ → List (List ℕ) → Option ℕ
position f [] = None
position f (n ∷ ns) = cond (bytes_eq f n) (Some 0) (option_map suc (position f ns))

abbrev pub source_at : Option ℕ → Option ℕ → Option Source
source_at (Some i) gate = Some (source.Input i)
source_at None (Some g) = Some (source.Gate g)
source_at None None = None

-- the input of a name, or else the gate
abbrev pub source_named : GateList → List ℕ → Option Source
source_named b f = source_at (position f (input_names b.inputs)) (position f (gate_names b.gates))

abbrev pub pin_sources : GateList → List Pin → List (Option Source)
pin_sources b ps = map (λ p. source_named b p.source) ps

-- each signal has its start value; no marks stand
abbrev pub board_of_list : GateList → Board
board_of_list b = record {
  kinds = list_kinds;
  circuit = record {
    applied = applied_values b.inputs;
    gates = gate_rows 0 b.gates;
    sources = pin_sources b (pins_in b.gates);
  };
  state = input_starts b.inputs ++ (gate_starts b.gates ++ pin_starts (pins_in b.gates));
  marks = None;
}

-- an accepted list replaces whatever the record held; after a refused one the record is as newly opened
abbrev pub board_after : Outcome GateList → Board
board_after (accepted b) = board_of_list b
board_after (refused n line) = opened list_kinds

-- every pin of a lawful list is joined
abbrev pub PinsJoined : Type 0
PinsJoined = (b : GateList) → Lawful b → first_unjoined (board_of_list b).circuit ≡ None
