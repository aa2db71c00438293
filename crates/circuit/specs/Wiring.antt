-- How wires are numbered and joined: what every circuit keeps, and the first pin that is not joined yet.
use Rattle.std.specs.Prelude.{◌≡◌, ℕ, suc, ◌+◌, ◌<◌, ◌≤◌, List, [], ◌∷◌, length, get_or, take, drop, Some, None, Option, ◌≢◌, slice_index_or}
use Rattle.circuit.specs.declared.Gate.{Gate}
use Rattle.circuit.specs.declared.Source.{Source}
use Rattle.circuit.specs.declared.Source.TheVariants as source
use Rattle.circuit.specs.Circuits.{Circuit, no_gate}

-- how many pins the gates have together
abbrev pub pin_total : List Gate → ℕ
pin_total [] = 0
pin_total (g ∷ gs) = g.pins + pin_total gs

-- every pin has its own wire, numbered by gate and then by pin
abbrev pub Numbered : List Gate → ℕ → Type 0
Numbered gates wires =
    ((g : ℕ) → g < length gates → (get_or gates g no_gate).first ≡ pin_total (take g gates))
    × (wires ≡ pin_total gates)

-- what a pin is joined to is there
abbrev pub Sourced : ℕ → ℕ → List (Option Source) → Type 0
Sourced inputs gates sources =
    ((w i : ℕ) → slice_index_or sources w None ≡ Some (source.Input i) → i < inputs)
    × ((w g : ℕ) → slice_index_or sources w None ≡ Some (source.Gate g) → g < gates)

-- what every circuit keeps
pub record Wired (c : Circuit) : Type 0 where
  pub numbered : Numbered c.gates (length c.sources)
  pub sourced : Sourced (length c.applied) (length c.gates) c.sources

-- what every circuit in tables keeps: there are at most 32 inputs, 96 gates and 384 wires, and they are wired
pub record Kept (c : Circuit) : Type 0 where
  pub few : (length c.applied ≤ 32) × (length c.gates ≤ 96) × (length c.sources ≤ 384)
  pub wired : Wired c

-- every pin is joined
abbrev pub Joined : Circuit → Type 0
Joined c = (w : ℕ) → w < length c.sources → slice_index_or c.sources w None ≢ None

-- the first of some pins that is not joined, counted from p
abbrev pub unjoined_pin : ℕ → List (Option Source) → Option ℕ
unjoined_pin p [] = None
unjoined_pin p (None ∷ sources) = Some p
unjoined_pin p (Some s ∷ sources) = unjoined_pin (suc p) sources

-- gate g's pin, if there is one, else what the later gates have
abbrev pub at_gate : ℕ → Option ℕ → Option (ℕ × ℕ) → Option (ℕ × ℕ)
at_gate g None later = later
at_gate g (Some p) later = Some (g, p)

-- the first unjoined pin by gate and then by pin, of gates numbered from g on
abbrev pub unjoined_from : ℕ → List Gate → List (Option Source) → Option (ℕ × ℕ)
unjoined_from g [] sources = None
unjoined_from g (gate ∷ gates) sources = at_gate g (unjoined_pin 0 (take gate.pins (drop gate.first sources))) (unjoined_from (suc g) gates sources)

abbrev pub first_unjoined : Circuit → Option (ℕ × ℕ)
first_unjoined c = unjoined_from 0 c.gates c.sources

-- what pin p of gate g is joined to
abbrev pub pin_source : Circuit → ℕ → ℕ → Option Source
pin_source c g p = slice_index_or c.sources ((get_or c.gates g no_gate).first + p) None

-- pin p of gate g is not joined, and every pin before it, by gate and then by pin, is
pub record UnjoinedFirst (c : Circuit) (g p : ℕ) : Type 0 where
  pub gate : g < length c.gates
  pub pin : p < (get_or c.gates g no_gate).pins
  pub unjoined : pin_source c g p ≡ None
  pub gates_before : (h q : ℕ) → h < g → q < (get_or c.gates h no_gate).pins → pin_source c h q ≢ None
  pub pins_before : (q : ℕ) → q < p → pin_source c g q ≢ None

pub record FirstUnjoinedSays (c : Circuit) : Type 0 where
  pub none : first_unjoined c ≡ None → Joined c
  pub some : (g p : ℕ) → first_unjoined c ≡ Some (g, p) → UnjoinedFirst c g p

-- where wires are numbered by gate and then by pin, `first_unjoined` is the first pin that is not joined, and nothing if all are
abbrev pub FirstUnjoinedExact : Type 0
FirstUnjoinedExact = (c : Circuit) → Numbered c.gates (length c.sources) → FirstUnjoinedSays c
