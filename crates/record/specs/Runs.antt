-- What a run answers and leaves.
use Rattle.std.specs.Prelude.{◌≡◌, ℕ, List, Some, None, Option}
use Rattle.gates.specs.declared.Mark.{Mark}
use Rattle.gates.specs.Kinds.{Kind}
use Rattle.gates.specs.Told.{Stop, Told, answer, refused}
use Rattle.circuit.specs.declared.Signal.{Signal}
use Rattle.circuit.specs.Circuits.{Circuit, Has}
use Rattle.circuit.specs.Passes.{Run, FewSteps, open_count}
use Rattle.races.specs.Races.{State, Outcome}
use Rattle.races.specs.Exact.{Exact}
use Rattle.record.specs.Boards.{Board, marked}

-- both passes were run from a state: the step counts and the open count, and the marks that stand
pub record Marked (ks : List Kind) (c : Circuit) (start : State) (counts : ℕ × ℕ × ℕ) (marks : Option (List Mark × List Mark)) : Type 0 where
  pub firsts : List Mark
  pub seconds : List Mark
  pub stand : marks ≡ Some (firsts, seconds)
  pub run : Run ks c start counts.0 firsts counts.1 seconds
  pub open_signals : counts.2 ≡ open_count seconds

-- both passes were run on the board
pub record Ran (old : Board) (told : Told (ℕ × ℕ × ℕ)) (new : Board) : Type 0 where
  pub first_steps : ℕ
  pub second_steps : ℕ
  pub firsts : List Mark
  pub seconds : List Mark
  -- so many steps of each pass changed something, and led to these marks
  pub run : Run old.kinds old.circuit old.state first_steps firsts second_steps seconds
  -- the step counts and the open count are answered
  pub counts : told ≡ answer (first_steps, second_steps, open_count seconds)
  -- the marks stand, and nothing else has changed
  pub marks : new ≡ marked old firsts seconds
  -- the step counts are within their bounds
  pub few : FewSteps old.circuit first_steps firsts second_steps seconds
  -- every first mark tells the signal's open values along the races, every second mark those in the outcome
  pub exact : (x : Signal) → Has old.circuit x → Exact old.kinds old.circuit old.state firsts seconds x
  -- the races come to something
  pub outcome : (o : State) × Outcome old.kinds old.circuit old.state o

-- a run that a check stops tells that and changes nothing
abbrev pub RunOrStop : Option Stop → Board → Told (ℕ × ℕ × ℕ) → Board → Type 0
RunOrStop (Some s) old told new = (told ≡ refused s) × (new ≡ old)
RunOrStop None old told new = Ran old told new
