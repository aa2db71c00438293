use Rattle.std.proofs.Common.{◌≡◌, ◌+◌, ◌++◌, replicate, vec_items, vec_len, vec_capacity}
use Rattle.circuit.proofs.reserved.push_all.Given as goal

abbrev pub invariant-loop : goal.invariant-loop
invariant-loop g l =
    (vec_items l.vec ≡ vec_items l.initial.vec ++ replicate l.counter l.value)
    × (vec_len l.vec ≡ vec_len l.initial.vec + l.counter)
    × (vec_capacity l.vec ≡ vec_capacity l.initial.vec)
