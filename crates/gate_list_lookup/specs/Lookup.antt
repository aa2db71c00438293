-- The line that a text begins with, if it is lawful by itself, and the pins in it.
use Rattle.std.specs.Prelude.{◌≡◌, ℕ, ◌<◌, ◌≤◌, List, [], length, Some, None, Option, ◌≢◌, slice_index_or}
use Rattle.gate_list_format.specs.Lists.{Input, Pin, Gate, LawfulInput, LawfulGate, write_input, write_gate}
use Rattle.gate_list_lines.specs.Lines.{IsInputFields, IsGateFields, IsPin}
use Rattle.gate_list_lines.specs.declared.InputFields.{InputFields}
use Rattle.gate_list_lines.specs.declared.GateFields.{GateFields}
use Rattle.gate_list_lines.specs.declared.PinFields.{PinFields}

abbrev pub InputAt : List ℕ → Option InputFields → Type 0
InputAt text None = (i : Input) (rest : List ℕ) → LawfulInput i → text ≢ write_input i rest
InputAt text (Some fields) = (i : Input) × (rest : List ℕ) × LawfulInput i × (text ≡ write_input i rest) × IsInputFields fields i

abbrev pub GateAt : List ℕ → Option GateFields → Type 0
GateAt text None = (g : Gate) (rest : List ℕ) → LawfulGate g → text ≢ write_gate g rest
GateAt text (Some fields) = (g : Gate) × (rest : List ℕ) × LawfulGate g × (text ≡ write_gate g rest) × IsGateFields fields g

-- a pin by its number
abbrev pub pin_number : List Pin → ℕ → Pin
pin_number ps p = slice_index_or ps p (record { source = []; start = 0 })

abbrev pub PinOf : List Pin → ℕ → Option PinFields → Type 0
PinOf ps p None = length ps ≤ p
PinOf ps p (Some fields) = (p < length ps) × IsPin fields (pin_number ps p)

abbrev pub PinAt : List ℕ → ℕ → Option PinFields → Type 0
PinAt text p None = (g : Gate) (rest : List ℕ) → LawfulGate g → text ≡ write_gate g rest → length g.pins ≤ p
PinAt text p (Some fields) = (g : Gate) × (rest : List ℕ) × LawfulGate g × (text ≡ write_gate g rest) × PinOf g.pins p (Some fields)
