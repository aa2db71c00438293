use Rattle.std.proofs.Common.{◌≡◌, ◌<◌, sym, refl, ap, ◌∙◌, subst, add-one, arith, below_more}
use Rattle.std.proofs.lemmas.Bool.{false≢true}
use Rattle.circuit.specs.declared.passes.Pass.TheVariants.{Second}
use Rattle.circuit.specs.Passes.{stepped, iterate, Shrinks}
use Rattle.circuit.proofs.Same.{marks_same}
use Rattle.circuit.proofs.Falls.{weight, total, total_le, falls, shrinks_on}
use Rattle.circuit.proofs.passes.Network.settle.Goals as goal

pub loop-pass-init : goal.loop-pass-init
loop-pass-init g c = (refl, (λ k h. absurd (omega arith)), c.requires.shrinks, omega (arith, total_le c.args.pass c.args.marks.now))

pub loop-pass-smaller : goal.loop-pass-smaller
loop-pass-smaller g c =
    let ks = g.L.GateLibrary.kinds c.args.self.now.library.now in
    let circuit = c.args.self.now.tables.now in
    let marks = c.loop-pass.marks in
    let new = c.copy_from_slice.ensures.after ∙ c.step.ensures in
    let fall = falls ks circuit marks (c.loop-pass.auto.marks ∙ c.requires.marks) c.args.pass c.loop-pass.invariant.2 (λ e. false≢true ((marks_same _ _ _ c.if-eq.ensures).1 (c.step.ensures ∙ e))) in
    subst (λ ms. total (weight c.args.pass) ms < total (weight c.args.pass) marks) (sym new) fall

pub loop-pass-preserved : goal.loop-pass-preserved
loop-pass-preserved g c =
    let pass = c.args.pass in
    let ks = g.L.GateLibrary.kinds c.args.self.now.library.now in
    let circuit = c.args.self.now.tables.now in
    let f = stepped pass ks circuit in
    let start = c.args.marks.now in
    let marks = c.loop-pass.marks in
    let n = c.loop-pass.steps in
    let long = c.loop-pass.auto.marks ∙ c.requires.marks in
    let new = c.copy_from_slice.ensures.after ∙ c.step.ensures in
    let at = c.loop-pass.invariant.0 in
    let moved : f marks ≡ marks → ⊥ = λ e. false≢true ((marks_same _ _ _ c.if-eq.ensures).1 (c.step.ensures ∙ e)) in
    let fall = falls ks circuit marks long pass c.loop-pass.invariant.2 moved in
    let less : total (weight pass) c.copy_from_slice.new.self < total (weight pass) marks = subst (λ ms. total (weight pass) ms < total (weight pass) marks) (sym new) fall in
    let so = c.loop-pass.invariant.3 in (
      new ∙ ap f at ∙ sym (ap (λ k. iterate f k start) (add-one n)),
      below_more (λ k. f (iterate f k start) ≡ iterate f k start → ⊥) n c.loop-pass.invariant.1 (λ e. moved (ap f at ∙ e ∙ sym at)),
      (λ (second : pass ≡ Second).
          let next = shrinks_on ks circuit marks long (c.loop-pass.invariant.2 second) in
          subst (λ ms. Shrinks ks circuit ms) (sym (new ∙ ap (λ p. stepped p ks circuit marks) second)) next),
      omega arith,
    )

pub returns-then-eq : goal.returns-then-eq
returns-then-eq g c = record { reached = c.loop-pass.invariant.0; still = sym c.step.ensures ∙ (marks_same _ _ _ c.if-eq.ensures).0 refl; moved = c.loop-pass.invariant.1 }
