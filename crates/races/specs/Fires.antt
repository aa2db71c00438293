-- Firing: some unstable signals are complemented at once, which is a race step.
use Rattle.std.specs.Prelude.{◌≡◌, not, ◌⊎◌, List, [], ◌∷◌, length, slice_set}
use Rattle.std.specs.List.{AllByRecursion}
use Rattle.gates.specs.Kinds.{Kind}
use Rattle.circuit.specs.declared.Signal.{Signal}
use Rattle.circuit.specs.Circuits.{Circuit, Has, size, place}
use Rattle.races.specs.Races.{State, value, Stable, Rest, Step}

-- each signal of a list is complemented
abbrev pub fired : Circuit → List Signal → State → State
fired c [] s = s
fired c (x ∷ xs) s = fired c xs (slice_set s (place c x) (not (value c s x)))

-- no entry equals another
abbrev pub Apart : List Signal → Type 0
Apart [] = Unit {0}
Apart (x ∷ xs) = AllByRecursion (λ y. ¬ (x ≡ y)) xs × Apart xs

-- what may be fired: at least one signal, none twice, each there and unstable
pub record Fires (ks : List Kind) (c : Circuit) (s : State) (xs : List Signal) : Type 0 where
  pub some : ¬ (xs ≡ [])
  pub apart : Apart xs
  pub there : AllByRecursion (Has c) xs
  pub unstable : AllByRecursion (λ x. ¬ Stable ks c s x) xs

-- firing is a race step
abbrev pub FireSteps : Type 0
FireSteps =
    (ks : List Kind) (c : Circuit) (s : State) (xs : List Signal)
    → length s ≡ size c → Fires ks c s xs → Step ks c s (fired c xs s)

-- every race step is a firing, but for that of a state without unstable signals
abbrev pub StepsFire : Type 0
StepsFire =
    (ks : List Kind) (c : Circuit) (s t : State) → length s ≡ size c → Step ks c s t
    → ((xs : List Signal) × Fires ks c s xs × (t ≡ fired c xs s)) ⊎ Rest ks c s t
