use Rattle.std.proofs.Common.{◌≡◌, ℕ, ◌+◌, ◌<◌, ◌≤◌, length}
use Rattle.circuit.specs.declared.passes.Pass.TheVariants.{Second}
use Rattle.circuit.specs.Passes.{stepped, iterate, Shrinks}
use Rattle.circuit.proofs.Falls.{weight, total}
use Rattle.circuit.proofs.passes.Network.settle.Given as goal

abbrev pub invariant-loop-pass : goal.invariant-loop-pass
invariant-loop-pass g l =
    let ks = g.L.GateLibrary.kinds l.self.library.now in
    let circuit = l.self.tables.now in
    let f = stepped l.pass ks circuit in
    (l.marks ≡ iterate f l.steps l.initial.marks)
    × ((k : ℕ) → k < l.steps → f (iterate f k l.initial.marks) ≡ iterate f k l.initial.marks → ⊥)
    × (l.pass ≡ Second → Shrinks ks circuit l.marks)
    × (l.steps + total (weight l.pass) l.marks ≤ length l.initial.marks)

abbrev pub decreases-loop-pass : goal.decreases-loop-pass
decreases-loop-pass g l = total (weight l.pass) l.marks
