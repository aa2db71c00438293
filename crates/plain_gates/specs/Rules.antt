-- What the four rules of plain gates mean, and what marks tell of the number of ones.
use Rattle.std.specs.Prelude.{ℕ, suc, ◌*◌, ◌%◌, Bool, List, [], ◌∷◌, ◌==◌, nat_lt}
use Rattle.gates.specs.declared.Mark.{Mark}
use Rattle.gates.specs.declared.Mark.TheVariants.{Zero, One, Unknown}
use Rattle.gates.specs.Kinds.{Kind}
use Rattle.plain_gates.specs.declared.rules.Rule.{Rule}
use Rattle.plain_gates.specs.declared.rules.Rule.TheVariants.{And, Or, Xor, Majority}
use Rattle.plain_gates.specs.Plain.{and_of, or_of, xor_of, majority_of, gate}

abbrev pub function_of : Rule → List Bool → Bool
function_of And = and_of
function_of Or = or_of
function_of Xor = xor_of
function_of Majority = majority_of

-- the kind with a rule and a pin count
abbrev pub ruled : Rule × ℕ → Kind
ruled s = gate s.1 (function_of s.0)

-- a rule's output when a number of its pins carry 1
abbrev pub output_at : Rule → ℕ → ℕ → Bool
output_at And n pins = n == pins
output_at Or n pins = nat_lt 0 n
output_at Xor n pins = n % 2 == 1
output_at Majority n pins = nat_lt pins (2 * n)

-- the number of marks that are 1
abbrev pub sure_ones : List Mark → ℕ
sure_ones [] = 0
sure_ones (Zero ∷ marks) = sure_ones marks
sure_ones (One ∷ marks) = suc (sure_ones marks)
sure_ones (Unknown ∷ marks) = sure_ones marks

abbrev pub unknowns : List Mark → ℕ
unknowns [] = 0
unknowns (Zero ∷ marks) = unknowns marks
unknowns (One ∷ marks) = unknowns marks
unknowns (Unknown ∷ marks) = suc (unknowns marks)
