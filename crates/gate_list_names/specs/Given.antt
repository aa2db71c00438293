-- The names that a text and its tables give.
use Rattle.std.specs.Prelude.{ℕ, List, ◌++◌}
use Rattle.gate_list_names.specs.Names.{input_names_in, gate_names_in}
use Rattle.gate_list_names.specs.declared.Names.{Names}

abbrev pub input_names : Names → List (List ℕ)
input_names n = input_names_in n.text.now n.inputs.now

abbrev pub gate_names : Names → List (List ℕ)
gate_names n = gate_names_in n.text.now n.gates.now

-- all the names that are given
abbrev pub all_names : Names → List (List ℕ)
all_names n = input_names n ++ gate_names n
