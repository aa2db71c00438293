use Rattle.std.proofs.Common.{length, ap, ◌∙◌, arith}
use Rattle.circuit.specs.Circuits.{Circuit}
use Rattle.circuit.specs.Views.{circuit_of}
use Rattle.circuit.proofs.Wired.{fits_read}
use Rattle.circuit.proofs.Unjoined.{part_read, gate_passed}
use Rattle.circuit.proofs.tables.Tables.first_unjoined.Goals as goal

pub overflow_add-sources : goal.overflow_add-sources
overflow_add-sources c =
    let t = circuit_of c.self.inside in
    let kept = c.self.invariant.kept in
    omega (arith, kept.few.2, fits_read t.gates _ _ c.loop-number.number c.deref-gate-items.ensures.value kept.wired.numbered (omega arith))

pub offset_bounds-deref-gate : goal.offset_bounds-deref-gate
offset_bounds-deref-gate c =
    let t = circuit_of c.self.inside in
    let kept = c.self.invariant.kept in
    omega (arith, kept.few.2, fits_read t.gates _ _ c.loop-number.number c.deref-gate-items.ensures.value kept.wired.numbered (omega arith))

pub slice_bounds-sources-end : goal.slice_bounds-sources-end
slice_bounds-sources-end c =
    let t = circuit_of c.self.inside in
    let kept = c.self.invariant.kept in
    omega (arith, ap length c.deref.ensures.value, fits_read t.gates _ _ c.loop-number.number c.deref-gate-items.ensures.value kept.wired.numbered (omega arith))

pub loop-number-preserved : goal.loop-number-preserved
loop-number-preserved c =
    let circuit = c.args.self.now in
    let gates = c.deref-gate-items.ensures.value ∙ ap (λ (x : Circuit). x.gates) c.self.view_is in
    let sources = c.deref.ensures.value ∙ ap (λ (x : Circuit). x.sources) c.self.view_is in
    gate_passed circuit.gates circuit.sources c.loop-number.number (omega (arith, ap length gates)) _
    (part_read circuit.gates _ circuit.sources _ c.loop-number.number gates sources) c.loop-pin.pin c.loop-pin-test.false c.loop-pin.invariant
    ∙ c.loop-number.invariant
