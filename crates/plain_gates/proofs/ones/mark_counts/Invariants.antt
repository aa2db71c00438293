use Rattle.std.proofs.Common.{◌≡◌, ◌+◌, ◌≤◌, drop}
use Rattle.plain_gates.specs.Rules.{sure_ones, unknowns}
use Rattle.plain_gates.proofs.ones.mark_counts.Given as goal

abbrev pub invariant-loop-mark : goal.invariant-loop-mark
invariant-loop-mark l =
    (l.sure + l.unknown ≤ l.mark-index)
    × (l.sure + sure_ones (drop l.mark-index l.marks) ≡ sure_ones l.marks)
    × (l.unknown + unknowns (drop l.mark-index l.marks) ≡ unknowns l.marks)
