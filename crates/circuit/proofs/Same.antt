-- What `==` says of marks.
use Rattle.std.proofs.Common.{◌≡◌, Bool, List, Decides, rules}
use Rattle.std.specs.Cmp.Lexicographic.{pointwise}
use Rattle.std.proofs.lemmas.Slice.Eq.{slice_eq-Decides}
use denote.Enum.Bare.{sameb, same_true}
use Rattle.gates.specs.declared.Mark.{Mark}
use Rattle.gates.specs.contracts.Mark.{the_type}

pub marks_same : (ms ns : List Mark) (r : Bool) → r ≡ pointwise (sameb the_type) ms ns → Decides r (ms ≡ ns)
marks_same = slice_eq-Decides (λ m n. (same_true the_type (search rules) m n, search rules))
