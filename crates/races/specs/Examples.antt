-- Two small circuits, to see that races, rounds and outcomes are what they should be.
use Rattle.std.specs.Prelude.{◌≡◌, Bool, true, false, not, ◌⊎◌, ◌↔◌, List, [], ◌∷◌, Some, slice_index_or}
use Rattle.gates.specs.Kinds.{Kind}
use Rattle.circuit.specs.declared.Source.TheVariants as source
use Rattle.circuit.specs.declared.Signal.TheVariants as signal
use Rattle.circuit.specs.Circuits.{Circuit}
use Rattle.races.specs.Races.{State, value, Reachable, Outcome}
use Rattle.races.specs.Exact.{Open}

-- an input with the value 0, to which 1 is applied
abbrev pub rise : Circuit
rise = record { applied = true ∷ []; gates = []; sources = [] }

abbrev pub low : State
low = false ∷ []

abbrev pub high : State
high = true ∷ []

-- beside such an input, an inverter that feeds itself
abbrev pub inverter : List Kind
inverter = (record { pins = 1; output = λ bits. not (slice_index_or bits 0 false) }) ∷ []

abbrev pub beside : Circuit
beside = record {
  applied = true ∷ [];
  gates = (record { kind = 0; first = 0; pins = 1 }) ∷ [];
  sources = Some (source.Gate 0) ∷ [];
}

abbrev pub all_low : State
all_low = false ∷ false ∷ false ∷ []

pub record Examples : Type 0 where
  -- the input is first 0 and then 1, and in the end it is 1
  pub rise_along : (s : State) → Reachable [] rise low s ↔ ((s ≡ low) ⊎ (s ≡ high))
  pub rise_lastly : (s : State) → Outcome [] rise low s ↔ (s ≡ high)
  -- the inverter oscillates for ever; that it does so while the input is 0 is transient, so that in the end the input is 1
  pub beside_oscillates : (v : Bool) → Open beside (Outcome inverter beside all_low) (signal.Gate 0) v
  pub beside_rises : (s : State) → Outcome inverter beside all_low s → value beside s (signal.Input 0) ≡ true
