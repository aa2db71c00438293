-- What may be added to a circuit, and what it then is.
use Rattle.std.specs.Prelude.{ℕ, ◌+◌, Bool, false, cond, ◌&&◌, [], ◌∷◌, ◌++◌, length, replicate, is_some, Some, None, Option, nat_le, nat_lt, slice_index_or, slice_set}
use Rattle.circuit.specs.declared.Source.{Source}
use Rattle.circuit.specs.declared.Source.TheVariants as source
use Rattle.circuit.specs.declared.Signal.{Signal}
use Rattle.circuit.specs.declared.Signal.TheVariants as signal
use Rattle.circuit.specs.Circuits.{Circuit, no_gate}

abbrev pub empty : Circuit
empty = record { applied = []; gates = []; sources = [] }

-- there are at most 32 inputs, 96 gates and 384 wires
abbrev pub input_fits : Circuit → Bool
input_fits c = nat_lt (length c.applied) 32

abbrev pub gate_fits : Circuit → ℕ → Bool
gate_fits c pins = nat_lt (length c.gates) 96 && nat_le (length c.sources + pins) 384

-- a new input has the applied value 0
abbrev pub with_input : Circuit → Circuit
with_input c = record { applied = c.applied ++ false ∷ []; gates = c.gates; sources = c.sources }

-- a new gate's wires come last, and its pins are not joined
abbrev pub with_gate : Circuit → ℕ → ℕ → Circuit
with_gate c kind pins = record {
  applied = c.applied;
  gates = c.gates ++ (record { kind = kind; first = length c.sources; pins = pins }) ∷ [];
  sources = c.sources ++ replicate pins None;
}

abbrev pub has_input : Circuit → ℕ → Bool
has_input c i = nat_lt i (length c.applied)

abbrev pub has_gate : Circuit → ℕ → Bool
has_gate c g = nat_lt g (length c.gates)

-- the circuit has the signal
abbrev pub has_signal : Circuit → Signal → Bool
has_signal c (signal.Input i) = has_input c i
has_signal c (signal.Gate g) = has_gate c g
has_signal c (signal.Wire w) = nat_lt w (length c.sources)

abbrev pub has_pin : Circuit → ℕ → ℕ → Bool
has_pin c g p = has_gate c g && nat_lt p (slice_index_or c.gates g no_gate).pins

-- what a signal is as a source: an input or a gate that is there
abbrev pub source_of : Circuit → Signal → Option Source
source_of c (signal.Input i) = cond (has_input c i) (Some (source.Input i)) None
source_of c (signal.Gate g) = cond (has_gate c g) (Some (source.Gate g)) None
source_of c (signal.Wire w) = None

abbrev pub join_fits : Circuit → ℕ → ℕ → Signal → Bool
join_fits c g p s = has_pin c g p && is_some (source_of c s)

-- a pin is joined, or joined anew
abbrev pub with_joined : Circuit → ℕ → ℕ → Signal → Circuit
with_joined c g p s = record {
  applied = c.applied;
  gates = c.gates;
  sources = slice_set c.sources ((slice_index_or c.gates g no_gate).first + p) (source_of c s);
}

abbrev pub with_applied : Circuit → ℕ → Bool → Circuit
with_applied c i bit = record { applied = slice_set c.applied i bit; gates = c.gates; sources = c.sources }
