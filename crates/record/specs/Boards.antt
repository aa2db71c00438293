-- What a record stands for: a circuit over a library's kinds, with its values and its marks.
use Rattle.std.specs.Prelude.{◌≡◌, Bool, List, [], length, Some, None, Option}
use Rattle.gates.specs.declared.Mark.{Mark}
use Rattle.gates.specs.Kinds.{Kind}
use Rattle.circuit.specs.Circuits.{Circuit, size}
use Rattle.circuit.specs.Changes.{empty}
use Rattle.circuit.specs.Wiring.{Kept}

pub record Board : Type 0 where
  pub kinds : List Kind
  pub circuit : Circuit
  -- the value of each signal, in sheet order: the passes start from these
  pub state : List Bool
  -- the first and the second mark of each signal, if marks stand
  pub marks : Option (List Mark × List Mark)

-- what a record holds: a library in place of its kinds, which are functions
pub record Held (L : Type 0) : Type 0 where
  pub library : L
  pub circuit : Circuit
  pub state : List Bool
  pub marks : Option (List Mark × List Mark)

-- what every record keeps
pub record Filled (c : Circuit) (state : List Bool) (marks : Option (List Mark × List Mark)) : Type 0 where
  -- every signal has a value
  pub valued : length state ≡ size c
  -- and, where marks stand, a mark of each pass
  pub marked : (firsts seconds : List Mark) → marks ≡ Some (firsts, seconds) → (length firsts ≡ size c) × (length seconds ≡ size c)

-- what holds of the board of every record
pub record Sound (b : Board) : Type 0 where
  -- the circuit is one that the tables keep
  pub kept : Kept b.circuit
  -- every signal has a value
  pub valued : length b.state ≡ size b.circuit
  -- and, where marks stand, a mark of each pass
  pub marked : (firsts seconds : List Mark) → b.marks ≡ Some (firsts, seconds) → (length firsts ≡ size b.circuit) × (length seconds ≡ size b.circuit)

-- a newly opened record has no signals and no marks
abbrev pub opened : List Kind → Board
opened ks = record { kinds = ks; circuit = empty; state = []; marks = None }

-- another circuit with other values; marks no longer stand
abbrev pub changed : Board → Circuit → List Bool → Board
changed b c state = record { kinds = b.kinds; circuit = c; state = state; marks = None }

-- new marks stand
abbrev pub marked : Board → List Mark → List Mark → Board
marked b firsts seconds = record { kinds = b.kinds; circuit = b.circuit; state = b.state; marks = Some (firsts, seconds) }
