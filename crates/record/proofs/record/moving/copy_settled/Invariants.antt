use Rattle.std.proofs.Common.{◌≡◌, map, take}
use Rattle.record.specs.Moves.{settled_value}
use Rattle.record.proofs.record.moving.copy_settled.Given as goal

abbrev pub invariant-loop-place : goal.invariant-loop-place
invariant-loop-place l = take l.place l.values ≡ map settled_value (take l.place l.marks)
