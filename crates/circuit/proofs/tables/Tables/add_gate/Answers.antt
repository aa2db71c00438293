use Rattle.std.proofs.Common.{◌≡◌, ◌+◌, ◌≤◌, true, is_ok, vec_len, vec_capacity, ap, ◌∙◌, arith}
use Rattle.std.proofs.lemmas.Bool.{le-leb, cond-true}
use Rattle.circuit.specs.Views.{circuit_of}
use Rattle.circuit.proofs.Wired.{kept_gate}
use Rattle.circuit.proofs.tables.Tables.add_gate.Goals as goal

pub invariant_of-self : goal.invariant_of-self
invariant_of-self c =
    let t = c.self.inside in
    let reserved = c.self.invariant.reserved in
    let room : vec_len t.sources + c.args.pins ≤ vec_capacity t.sources = omega arith in
    let done : is_ok c.push_all.result ≡ true = ap is_ok (c.push_all.ensures.answer ∙ cond-true _ _ _ (le-leb _ _ room)) in
    record {
      reserved = (omega arith, omega arith, omega arith);
      kept =
          kept_gate (circuit_of t) _ _ _ _ c.push_reserved.ensures.items done c.push_all.ensures.items
          (omega (arith, t.sources.ok.0)) (omega (arith, t.gates.ok.0)) (omega (arith, t.sources.ok.0)) c.self.invariant.kept;
    }
