use Rattle.std.proofs.Common.{length, vec_items, ap, arith}
use Rattle.circuit.specs.Circuits.{Circuit}
use Rattle.circuit.proofs.Wired.{fits}
use Rattle.circuit.proofs.tables.Tables.gate.Goals as goal

pub returns-clause-wires : goal.returns-clause-wires
returns-clause-wires c =
    let t = c.self.inside in
    let gates = ap (λ (x : Circuit). length x.gates) c.self.view_is in
    let sources = ap (λ (x : Circuit). length x.sources) c.self.view_is in
    omega (arith, fits (vec_items t.gates) _ c.args.number _ c.self.invariant.kept.wired.numbered (omega arith) c.index.ensures)
