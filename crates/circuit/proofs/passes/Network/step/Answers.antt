use Rattle.std.proofs.Common.{arith, rules}
use Rattle.circuit.proofs.Sections.{stepped_by}
use Rattle.circuit.proofs.passes.Network.step.Goals as goal

pub returns : goal.returns
returns g c =
    let circuit = c.args.self.now.tables.now in
    stepped_by c.args.pass (g.L.GateLibrary.kinds c.args.self.now.library.now) circuit c.args.before.now
    c.fill_by.new.marks c.fill_by-2.new.marks c.fill_by-3.new.marks
    (omega arith) (omega arith) (omega arith)
    (λ k h. let is = c.fill_by.ensures k h in search rules)
    (λ k h. let is = c.fill_by-2.ensures k h in search rules)
    (λ k h. let is = c.fill_by-3.ensures k h in search rules)
