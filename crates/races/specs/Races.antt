-- Races of a circuit: the states that it may pass, and those that it comes to in the end, when unstable signals change in any order.
use Rattle.std.specs.Prelude.{◌≡◌, Bool, false, not, ◌⊎◌, List, [], ◌∷◌, length, slice_index_or}
use Rattle.gates.specs.Kinds.{Kind}
use Rattle.circuit.specs.declared.Signal.{Signal}
use Rattle.circuit.specs.Circuits.{Circuit, Has, size, place, excitation}

-- one value for each signal of a circuit, in sheet order
abbrev pub State : Type 0
State = List Bool

abbrev pub value : Circuit → State → Signal → Bool
value c s x = slice_index_or s (place c x) false

-- s is one of the states
abbrev pub Among : State → List State → Type 0
Among s [] = ⊥
Among s (t ∷ ts) = (s ≡ t) ⊎ Among s ts

-- the last of one or more states
abbrev pub last : State → List State → State
last s [] = s
last s (t ∷ ts) = last t ts

module _ (ks : List Kind) (c : Circuit) where
  -- what a signal is driven to
  abbrev pub driven : State → Signal → Bool
  driven s x = excitation (λ bit. bit) (λ f bits. f bits) ks c s x

  -- a signal is stable where it has the value that it is driven to, and else unstable
  abbrev pub Stable : State → Signal → Type 0
  Stable s x = value c s x ≡ driven s x

  abbrev pub Kept : State → State → Signal → Type 0
  Kept s t x = value c t x ≡ value c s x

  -- unstable in s, and complemented in t
  abbrev pub Complemented : State → State → Signal → Type 0
  Complemented s t x = (¬ Stable s x) × (value c t x ≡ not (value c s x))

  -- from s to t, a set of unstable signals with at least one member is complemented, and the other signals keep their values
  pub record Race (s t : State) : Type 0 where
    pub long : length t ≡ size c
    pub each : (x : Signal) → Has c x → Kept s t x ⊎ Complemented s t x
    pub some : (x : Signal) × Has c x × Complemented s t x

  -- s has no unstable signal, and t is s
  pub record Rest (s t : State) : Type 0 where
    pub stable : (x : Signal) → Has c x → Stable s x
    pub same : t ≡ s

  -- one step of a race
  abbrev pub Step : State → State → Type 0
  Step s t = Race s t ⊎ Rest s t

  -- each state is one step from the state before it, the first from s
  abbrev pub Walk : State → List State → Type 0
  Walk s [] = Unit {0}
  Walk s (t ∷ ts) = Step s t × Walk t ts

  -- zero or more steps lead from s to t
  abbrev pub Reachable : State → State → Type 0
  Reachable s t = (ts : List State) × Walk s ts × (last s ts ≡ t)

  -- a walk of one or more steps that ends in its first state; it may pass a state more than once
  pub record Round : Type 0 where
    pub first : State
    pub next : State
    pub others : List State
    pub walk : Walk first (next ∷ others)
    pub closed : last next others ≡ first

  abbrev pub states : Round → List State
  states r = r.first ∷ r.next ∷ r.others

  -- one signal keeps its value and is unstable in all states of the round
  pub record Transient (r : Round) : Type 0 where
    pub signal : Signal
    pub there : Has c signal
    pub bit : Bool
    pub keeps : (s : State) → Among s (states r) → value c s signal ≡ bit
    pub unstable : (s : State) → Among s (states r) → ¬ Stable s signal

  -- o is reachable, in zero or more steps, from a reachable state of a round that is not transient
  pub record Outcome (start o : State) : Type 0 where
    pub round : Round
    pub lasting : ¬ Transient round
    pub from : State
    pub within : Among from (states round)
    pub reached : Reachable start from
    pub after : Reachable from o
