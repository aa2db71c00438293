-- What it means that marks are exact: they tell the values that signals take along the races and in the outcome.
use Rattle.std.specs.Prelude.{◌≡◌, ℕ, Bool, true, false, not, ◌↔◌, List, length, slice_index_or}
use Rattle.gates.specs.declared.Mark.{Mark}
use Rattle.gates.specs.declared.Mark.TheVariants.{Zero, Unknown}
use Rattle.gates.specs.Marks.{settled}
use Rattle.gates.specs.Kinds.{Kind}
use Rattle.circuit.specs.declared.Signal.{Signal}
use Rattle.circuit.specs.Circuits.{Circuit, Has, size, place}
use Rattle.circuit.specs.Wiring.{Wired, Joined}
use Rattle.circuit.specs.Passes.{Run}
use Rattle.races.specs.Races.{State, value, Reachable, Outcome}

abbrev pub mark : Circuit → List Mark → Signal → Mark
mark c ms x = slice_index_or ms (place c x) Zero

-- v is an open value of a signal in the states of P: one that it takes there
abbrev pub Open : Circuit → (State → Type 0) → Signal → Bool → Type 0
Open c P x v = (s : State) × P s × (value c s x ≡ v)

-- a mark is 0 or 1 exactly if that is the only open value, and unknown exactly if both are open
pub record Tells (O : Bool → Type 0) (m : Mark) : Type 0 where
  pub one : (v : Bool) → (m ≡ settled v) ↔ (O v × (¬ O (not v)))
  pub both : (m ≡ Unknown) ↔ (O false × O true)

-- a signal's first mark tells its open values along the races, its second mark those in the outcome
pub record Exact (ks : List Kind) (c : Circuit) (start : State) (firsts seconds : List Mark) (x : Signal) : Type 0 where
  pub races : Tells (Open c (Reachable ks c start) x) (mark c firsts x)
  pub outcome : Tells (Open c (Outcome ks c start) x) (mark c seconds x)

-- a circuit with wires numbered by gate and then by pin, each pin joined, and a start state with a value for each signal
pub record Whole (c : Circuit) (start : State) : Type 0 where
  pub wired : Wired c
  pub joined : Joined c
  pub long : length start ≡ size c

-- both passes leave exact marks, whatever the library
abbrev pub MarksExact : Type 0
MarksExact =
    (ks : List Kind) (c : Circuit) (start : State) (n k : ℕ) (firsts seconds : List Mark)
    → Whole c start → Run ks c start n firsts k seconds → (x : Signal) → Has c x → Exact ks c start firsts seconds x

-- the outcome is never empty
abbrev pub OutcomeSome : Type 0
OutcomeSome = (ks : List Kind) (c : Circuit) (start : State) → Whole c start → (o : State) × Outcome ks c start o
