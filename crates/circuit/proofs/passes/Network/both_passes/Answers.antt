use Rattle.std.proofs.Common.{sym, subst, arith}
use Rattle.circuit.specs.Passes.{Shrinks}
use Rattle.circuit.proofs.Falls.{shrinks_from}
use Rattle.circuit.proofs.passes.Network.both_passes.Goals as goal

pub settle-second_steps-requires-clause-shrinks : goal.settle-second_steps-requires-clause-shrinks
settle-second_steps-requires-clause-shrinks g c =
    let ks = g.L.GateLibrary.kinds c.args.self.now.library.now in
    let circuit = c.args.self.now.tables.now in
    λ _. subst (λ ms. Shrinks ks circuit ms) (sym c.copy_from_slice.ensures.after) (shrinks_from ks circuit c.settle-first_steps.new.marks (omega arith) c.settle-first_steps.ensures.still)
