use Rattle.std.proofs.Common.{ℕ, ◌<◌, get_or}
use Rattle.gates.specs.declared.Mark.TheVariants.{Zero}
use Rattle.circuit.proofs.passes.fill_by.Given as goal

abbrev pub invariant-loop-k : goal.invariant-loop-k
invariant-loop-k g l = (i : ℕ) → i < l.k → goal.F-post g l.mark_at i (get_or l.marks i Zero)
