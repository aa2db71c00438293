-- Races of a network: what it may do when unstable signals change in any order.
use Rattle.std.proofs.Common.{◌≡◌, Bool, not, ◌≢◌, ◌⊎◌}
use Rattle.races.proofs.network.Networks.{Network, Signal, State, excitation}

abbrev pub Stable : Network → State → Signal → Type 0
Stable n s σ = excitation n s σ ≡ s σ

-- a signal keeps its value, or is unstable and is complemented
abbrev pub Moves : Network → State → State → Signal → Type 0
Moves n s t σ = (t σ ≡ s σ) ⊎ ((¬ Stable n s σ) × (t σ ≡ not (s σ)))

-- one step: some unstable signals are complemented, at least one; or all signals are stable and nothing changes
pub data Step (n : Network) (s t : State) : Type 0 where
  race : ((σ : Signal) → Moves n s t σ) → (σ : Signal) → t σ ≢ s σ → Step n s t
  rest : ((σ : Signal) → Stable n s σ) → t ≡ s → Step n s t

-- zero or more steps
pub data Walk (n : Network) : State → State → Type 0 where
  stay : {s : State} → Walk n s s
  step : {s t u : State} → Step n s t → Walk n t u → Walk n s u

-- x is a state of the walk
abbrev pub On : (n : Network) (x : State) {s t : State} → Walk n s t → Type 0
On n x (stay {s}) = x ≡ s
On n x (step {s} h w) = (x ≡ s) ⊎ On n x w

-- a walk of at least one step that ends where it began
pub record Round (n : Network) (s : State) : Type 0 where
  pub next : State
  pub begin : Step n s next
  pub back : Walk n next s

-- the round as a walk
abbrev pub turn : (n : Network) (s : State) → Round n s → Walk n s s
turn n s r = step r.begin r.back

-- one signal keeps its value and is unstable in all the states of the round
pub record Transient (n : Network) (s : State) (r : Round n s) : Type 0 where
  pub signal : Signal
  pub value : Bool
  pub keeps : (x : State) → On n x (turn n s r) → x signal ≡ value
  pub unstable : (x : State) → On n x (turn n s r) → ¬ Stable n x signal

-- o is reached from a round that is not transient and can be reached from b
pub record Outcome (n : Network) (b : State) (o : State) : Type 0 where
  pub base : State
  pub reached : Walk n b base
  pub round : Round n base
  pub lasting : ¬ Transient n base round
  pub after : Walk n base o
