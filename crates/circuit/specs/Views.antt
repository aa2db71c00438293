-- The circuit that the code's tables stand for, and what the tables keep.
use Rattle.std.specs.Prelude.{◌≤◌, vec_items, vec_capacity}
use Rattle.circuit.specs.declared.tables.Tables.TheInside.{Inside}
use Rattle.circuit.specs.Circuits.{Circuit}
use Rattle.circuit.specs.Wiring.{Kept}

abbrev pub circuit_of : Inside → Circuit
circuit_of t = record { applied = vec_items t.applied; gates = vec_items t.gates; sources = vec_items t.sources }

-- memory for every circuit that fits is reserved, and the circuit is one that fits
pub record Keeps (t : Inside) : Type 0 where
  pub reserved : (32 ≤ vec_capacity t.applied) × (96 ≤ vec_capacity t.gates) × (384 ≤ vec_capacity t.sources)
  pub kept : Kept (circuit_of t)
