-- A circuit, its signals in sheet order, and what each signal is driven to, for bits and for marks alike.
use Rattle.std.specs.Prelude.{ℕ, ◌+◌, ◌-◌, ◌<◌, Bool, false, cond, List, length, get_or, take, drop, Some, None, Option, nat_lt, slice_index_or}
use Rattle.std.specs.Option.{unwrap_or}
use Rattle.gates.specs.Kinds.{Kind, value_of}
use Rattle.circuit.specs.declared.Gate.{Gate}
use Rattle.circuit.specs.declared.Source.{Source}
use Rattle.circuit.specs.declared.Source.TheVariants as source
use Rattle.circuit.specs.declared.Signal.{Signal}
use Rattle.circuit.specs.declared.Signal.TheVariants as signal

-- the applied value of each input, the gates, and for each wire the source that its pin is joined to, if any
pub record Circuit : Type 0 where
  pub applied : List Bool
  pub gates : List Gate
  pub sources : List (Option Source)

-- how many signals there are
abbrev pub size : Circuit → ℕ
size c = length c.applied + length c.gates + length c.sources

-- signals lie in sheet order: inputs, gates, wires; this is where a signal stands
abbrev pub place : Circuit → Signal → ℕ
place c (signal.Input i) = i
place c (signal.Gate g) = length c.applied + g
place c (signal.Wire w) = length c.applied + length c.gates + w

-- the signal that stands at a place
abbrev pub signal_at : Circuit → ℕ → Signal
signal_at c n =
    cond (nat_lt n (length c.applied)) (signal.Input n)
    (cond (nat_lt n (length c.applied + length c.gates)) (signal.Gate (n - length c.applied))
    (signal.Wire (n - (length c.applied + length c.gates))))

-- the circuit has the signal
abbrev pub Has : Circuit → Signal → Type 0
Has c (signal.Input i) = i < length c.applied
Has c (signal.Gate g) = g < length c.gates
Has c (signal.Wire w) = w < length c.sources

-- a source is an input or a gate
abbrev pub tapped : Source → Signal
tapped (source.Input i) = signal.Input i
tapped (source.Gate g) = signal.Gate g

abbrev pub no_gate : Gate
no_gate = record { kind = 0; first = 0; pins = 0 }

-- the function of a gate: its kind's where the library has that kind with as many pins, else 0
abbrev pub gate_function : List Kind → ℕ → List Bool → Bool
gate_function ks kind bits = unwrap_or (value_of ks kind bits) false

-- V is what signals carry: `bit` makes one of a bit, `give` applies a Boolean function to several
module _ {V : Type 0} (bit : Bool → V) (give : (List Bool → Bool) → List V → V) (ks : List Kind) where
  -- what the wires of a gate carry, pin by pin
  abbrev pub wires_of : Circuit → Gate → List V → List V
  wires_of c g state = take g.pins (drop (length c.applied + length c.gates + g.first) state)

  abbrev pub source_value : Circuit → Option Source → List V → V
  source_value c None state = bit false
  source_value c (Some s) state = slice_index_or state (place c (tapped s)) (bit false)

  -- an input is driven to its applied value, a gate to its function of its wires, a wire to the value of its source
  abbrev pub excitation : Circuit → List V → Signal → V
  excitation c state (signal.Input i) = bit (slice_index_or c.applied i false)
  excitation c state (signal.Gate g) = give (gate_function ks (get_or c.gates g no_gate).kind) (wires_of c (slice_index_or c.gates g no_gate) state)
  excitation c state (signal.Wire w) = source_value c (slice_index_or c.sources w None) state
