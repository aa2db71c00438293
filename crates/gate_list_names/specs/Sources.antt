-- The input or gate that has a name.
use Rattle.std.specs.Prelude.{ℕ, List, Some, None, Option}
use Rattle.gate_list_names.specs.Names.{First}
use Rattle.circuit.specs.declared.Source.{Source}
use Rattle.circuit.specs.declared.Source.TheVariants.{Input, Gate}

-- the first input of the name, or the first gate if no input has it
abbrev pub FirstSource : List ℕ → List (List ℕ) → List (List ℕ) → Option Source → Type 0
FirstSource f inputs gates None = First f inputs None × First f gates None
FirstSource f inputs gates (Some (Input i)) = First f inputs (Some i)
FirstSource f inputs gates (Some (Gate i)) = First f inputs None × First f gates (Some i)
