-- The number and the line of each refusal of a gate list, whether a record refuses it, and its words.
use Rattle.std.specs.Prelude.{◌≡◌, ℕ, Bool, cond, List, ◌++◌, Ok, Err, codes, decimal, Result, ◌==◌}
use Rattle.gate_list_format.specs.Slots.{Outcome, refused}
use Rattle.gate_list_format.specs.Lists.{GateList}
use Rattle.gate_list_fields.specs.declared.Fault.{Fault}
use Rattle.gate_list_fields.specs.Faults.{number_of}
use Rattle.gate_list.specs.declared.Refusal.{Refusal}
use Rattle.gate_list.specs.declared.Refusal.TheVariants.{Size, At}

abbrev pub refusal_number : Refusal → ℕ
refusal_number Size = 14
refusal_number (At fault line) = number_of fault

-- from 1; a size has none
abbrev pub refusal_line : Refusal → ℕ
refusal_line Size = 0
refusal_line (At fault line) = line

-- a wire too many is the record's to refuse, all else the text's
abbrev pub from_record : Refusal → Bool
from_record refusal = refusal_number refusal == 2

-- the record's refusals have the number 2
abbrev pub refuser : ℕ → List ℕ
refuser n = cond (n == 2) (codes " record line ") (codes " text line ")

-- a refusal's number, who refuses, and the line
abbrev pub refusal_words : ℕ → ℕ → List ℕ
refusal_words n line = codes "refused " ++ (decimal n ++ (refuser n ++ decimal line))

-- a reading, whose fault is at a line
abbrev pub tied : {X : Type 0} → ℕ → Result X Fault → Result X Refusal
tied line (Ok x) = Ok x
tied line (Err fault) = Err (At fault line)

-- an outcome is the refusal at a line
abbrev pub RefusedAt : Outcome GateList → Refusal → Type 0
RefusedAt o Size = ⊥
RefusedAt o (At fault line) = o ≡ refused (number_of fault) line
