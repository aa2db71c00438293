use Rattle.std.proofs.Common.{[], ◌∷◌, ◌++◌, replicate, vec_items, ap, ◌∙◌, append_assoc, arith}
use Rattle.std.proofs.lemmas.List.{replicate_more}
use Rattle.circuit.proofs.reserved.push_all.Goals as goal

pub loop-preserved : goal.loop-preserved
loop-preserved g c =
    let old = vec_items c.args.vec.now in
    let value = c.args.value in (
      c.push_reserved.ensures.items
          ∙ ap (λ xs. xs ++ value ∷ []) c.loop.invariant.0
          ∙ append_assoc old (replicate c.loop.counter value) (value ∷ [])
          ∙ ap (λ xs. old ++ xs) (replicate_more c.loop.counter value),
      omega arith,
      omega arith,
    )
