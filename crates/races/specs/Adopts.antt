-- Where no second mark is unknown, the races come to one state.
use Rattle.std.specs.Prelude.{◌≡◌, ℕ, List, map}
use Rattle.gates.specs.declared.Mark.{Mark}
use Rattle.gates.specs.Marks.{settled}
use Rattle.gates.specs.Kinds.{Kind}
use Rattle.circuit.specs.declared.Signal.{Signal}
use Rattle.circuit.specs.Circuits.{Circuit, Has}
use Rattle.circuit.specs.Passes.{Run, open_count}
use Rattle.races.specs.Races.{State, Stable, Outcome}
use Rattle.races.specs.Exact.{Whole}

-- every state of the outcome is the one that the second marks give, and is stable
pub record Lands (ks : List Kind) (c : Circuit) (start : State) (seconds : List Mark) : Type 0 where
  pub one : (o : State) → Outcome ks c start o → map settled o ≡ seconds
  pub stable : (o : State) → Outcome ks c start o → (x : Signal) → Has c x → Stable ks c o x

abbrev pub AdoptLands : Type 0
AdoptLands =
    (ks : List Kind) (c : Circuit) (start : State) (n k : ℕ) (firsts seconds : List Mark)
    → Whole c start → Run ks c start n firsts k seconds → open_count seconds ≡ 0 → Lands ks c start seconds
