-- Where the lines of a written list stand.
use Rattle.std.specs.Prelude.{ℕ, ◌+◌, List, [], ◌∷◌, length, codes}
use Rattle.gate_list_format.specs.Lists.{GateList, write_heading, write_input, writes}

-- lines follow one another from a place on: what is made of each and its place
abbrev pub laid : {A E : Type 0} → (A → List ℕ → List ℕ) → (ℕ → A → E) → ℕ → List A → List E
laid write make place [] = []
laid write make place (x ∷ xs) = make place x ∷ laid write make (place + length (write x [])) xs

-- where the first input line and the first gate line stand
abbrev pub inputs_place : GateList → ℕ
inputs_place b = length (write_heading (codes "inputs") (length b.inputs) [])

abbrev pub gates_place : GateList → ℕ
gates_place b = length (write_heading (codes "inputs") (length b.inputs) (writes write_input b.inputs (write_heading (codes "gates") (length b.gates) [])))
