-- What the entries of a written list give: the names, and where each line stands.
use Rattle.std.specs.Prelude.{◌≡◌, ℕ, ◌<◌, List, [], length, get_or, drop, slice_index_or}
use Rattle.gate_list_format.specs.Slots.{accepted}
use Rattle.gate_list_format.specs.Lists.{GateList, Input, Gate, input_names, gate_names, write_input, write_gate, written}
use Rattle.gate_list_names.specs.declared.InputEntry.{InputEntry}
use Rattle.gate_list_names.specs.declared.GateEntry.{GateEntry}
use Rattle.gate_list_names.specs.Names.{input_names_in, gate_names_in}
use Rattle.gate_list.specs.Tables.{input_entries, gate_entries, input_table, gate_table, no_input, no_gate}

-- the entries name the inputs and the gates
abbrev pub EntriesName : Type 0
EntriesName = (b : GateList) → (input_names_in (written b) (input_entries b) ≡ input_names b.inputs) × (gate_names_in (written b) (gate_entries b) ≡ gate_names b.gates)

-- an input and a gate by number
abbrev pub input_number : GateList → ℕ → Input
input_number b k = slice_index_or b.inputs k (record { name = []; applied = 0; start = 0 })

abbrev pub gate_number : GateList → ℕ → Gate
gate_number b k = slice_index_or b.gates k (record { name = []; word = 0; start = 0; pins = [] })

-- the text begins with a line at the place of its entry
pub record Stands (b : GateList) (inputs : List InputEntry) (gates : List GateEntry) : Type 0 where
  pub input : (k : ℕ) → k < length b.inputs → (rest : List ℕ) × (drop (get_or (input_table inputs (accepted b)) k no_input).place (written b) ≡ write_input (input_number b k) rest)
  pub gate : (k : ℕ) → k < length b.gates → (rest : List ℕ) × (drop (get_or (gate_table gates (accepted b)) k no_gate).place (written b) ≡ write_gate (gate_number b k) rest)

abbrev pub EntriesStand : Type 0
EntriesStand = (b : GateList) (inputs : List InputEntry) (gates : List GateEntry) → Stands b inputs gates
