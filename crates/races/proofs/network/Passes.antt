-- The two passes of marks over a network, and the values that a signal takes.
use Rattle.std.proofs.Common.{◌≡◌, ℕ, zero, suc, Bool, true}
use Rattle.gates.specs.Marks.{settled, lub}
use Rattle.races.proofs.network.Networks.{Network, Signal, State, Marking, excited, present}

-- the first pass from the state b, after h steps
abbrev pub first : Network → State → ℕ → Marking
first n b zero σ = settled (b σ)
first n b (suc h) σ = lub (first n b h σ) (excited n (first n b h) σ)

-- the second pass from the marks a, after h steps
abbrev pub second : Network → Marking → ℕ → Marking
second n a zero σ = a σ
second n a (suc h) σ = excited n (second n a h) σ

-- one more step changes no present signal
abbrev pub FirstEnds : Network → State → ℕ → Type 0
FirstEnds n b h = (σ : Signal) → present n σ ≡ true → first n b (suc h) σ ≡ first n b h σ

abbrev pub SecondEnds : Network → Marking → ℕ → Type 0
SecondEnds n a k = (σ : Signal) → present n σ ≡ true → second n a (suc k) σ ≡ second n a k σ

-- σ takes the value v in some state of P
abbrev pub Takes : (State → Type 0) → Signal → Bool → Type 0
Takes P σ v = (s : State) × P s × (s σ ≡ v)
