-- Networks of gates, with a wire of its own to each pin, and what drives each signal, for bits and for marks alike.
use Rattle.std.proofs.Common.{◌≡◌, ℕ, zero, suc, Bool, true, false, cond, ◌&&◌, ltb, List, [], ◌∷◌, refl}
use Rattle.std.proofs.lemmas.Bool.{cond-false}
use Rattle.gates.specs.declared.Mark.{Mark}
use Rattle.gates.specs.Marks.{settled, extended}

-- inputs and gates: what a wire may follow
pub data Core : Type 0 where
  input : ℕ → Core
  gate : ℕ → Core

-- a wire is known by its gate and pin
pub data Signal : Type 0 where
  core : Core → Signal
  wire : ℕ → ℕ → Signal

pub record Network : Type 0 where
  pub inputs : ℕ
  pub gates : ℕ
  pub applied : ℕ → Bool
  pub pins : ℕ → ℕ
  pub function : ℕ → List Bool → Bool
  pub source : ℕ → ℕ → Core

abbrev pub State : Type 0
State = Signal → Bool

abbrev pub Marking : Type 0
Marking = Signal → Mark

abbrev pub present : Network → Signal → Bool
present n (core (input i)) = ltb i n.inputs
present n (core (gate j)) = ltb j n.gates
present n (wire j p) = ltb j n.gates && ltb p (n.pins j)

-- the first m values of w
abbrev pub row : {A : Type 0} → ℕ → (ℕ → A) → List A
row zero w = []
row (suc m) w = w zero ∷ row m (λ p. w (suc p))

module _ {V : Type 0} (bit : Bool → V) (give : (List Bool → Bool) → List V → V) where
  abbrev pub driven : Network → (Signal → V) → Signal → V
  driven n s (core (input i)) = bit (n.applied i)
  driven n s (core (gate j)) = give (n.function j) (row (n.pins j) (λ p. s (wire j p)))
  driven n s (wire j p) = s (core (n.source j p))

  -- an absent signal keeps what it has
  abbrev pub drive : Network → (Signal → V) → Signal → V
  drive n s σ = cond (present n σ) (driven n s σ) (s σ)

-- the excitation of each signal in a state, and its extension to marks
abbrev pub excitation : Network → State → State
excitation = drive (λ b. b) (λ f bits. f bits)

abbrev pub excited : Network → Marking → Marking
excited = drive settled extended

-- what the wire at pin p of gate j follows: its source; an absent wire follows itself
abbrev pub lead : Network → ℕ → ℕ → Signal
lead n j p = cond (present n (wire j p)) (core (n.source j p)) (wire j p)

follows : {V : Type 0} (s : Signal → V) (q : Bool) (σ τ : Signal) → cond q (s σ) (s τ) ≡ s (cond q σ τ)
follows s true σ τ = refl
follows s false σ τ = refl

pub wire_follows : (n : Network) (s : State) (j p : ℕ) → excitation n s (wire j p) ≡ s (lead n j p)
wire_follows n s j p = follows s (present n (wire j p)) (core (n.source j p)) (wire j p)

pub wire_excited : (n : Network) (a : Marking) (j p : ℕ) → excited n a (wire j p) ≡ a (lead n j p)
wire_excited n a j p = follows a (present n (wire j p)) (core (n.source j p)) (wire j p)

pub absent_excited : (n : Network) (a : Marking) (σ : Signal) → present n σ ≡ false → excited n a σ ≡ a σ
absent_excited n a σ e = cond-false _ _ _ e
