use Rattle.std.proofs.Common.{◌≡◌, Bool, true, false, cond, Ok, Err, vec_items, sym, subst}
use Rattle.circuit.specs.declared.tables.changes.Misfit.{Misfit}
use Rattle.circuit.specs.Circuits.{Circuit}
use Rattle.record.specs.Boards.{Filled}
use Rattle.record.proofs.record.Record.join.Goals as goal

-- a refused change leaves the circuit
left : {A : Type 0} (t : Bool) (n : A) (e m : Misfit) (new old changed : Circuit) → Err e ≡ cond t (Ok n) (Err m) → new ≡ cond t changed old → new ≡ old
left true n e m new old changed is after = absurd (cc)
left false n e m new old changed is after = after

pub invariant_of-self : goal.invariant_of-self
invariant_of-self g c =
    let r = c.self.inside in
    let same = left _ _ _ _ _ r.tables _ c.in_err-join.ensures.answer c.join.ensures.after in
    (subst (λ (circuit : Circuit). Filled circuit (vec_items r.values) r.marking) (sym same) c.self.invariant.0, c.self.invariant.1)
