-- Along the races, upper bound: what can be reached is covered by the marks of the first pass.
use Rattle.std.proofs.Common.{◌≡◌, ℕ, zero, suc, Bool, true, false, cond, sym, ap, ◌∙◌, subst, inl, inr}
use Rattle.gates.specs.declared.Mark.{Mark}
use Rattle.gates.specs.Marks.{settled, lub, extended}
use Rattle.gates.proofs.Exact.{covers_itself}
use Rattle.races.proofs.network.Bits.{by_bit}
use Rattle.races.proofs.network.Networks.{Network, State, Marking, Signal, core, wire, input, gate, present, driven, excitation, excited, absent_excited}
use Rattle.races.proofs.network.Marks.{Covers, ◌⊑◌, lub_left, lub_right, lub_same, extended_covers, extended_mono}
use Rattle.races.proofs.network.Races.{race, rest, Walk, stay, step}
use Rattle.races.proofs.network.Passes.{first, FirstEnds}
use Rattle.races.proofs.network.Choice.{moved}

-- a state each of whose values is covered
abbrev pub Within : Marking → State → Type 0
Within a s = (σ : Signal) → Covers (a σ) (s σ)

cond_covers : (q : Bool) (m k : Mark) (u v : Bool) → Covers m u → Covers k v → Covers (cond q m k) (cond q u v)
cond_covers true m k u v c d = c
cond_covers false m k u v c d = d

cond_mono : (q : Bool) (m k x y : Mark) → m ⊑ x → k ⊑ y → cond q m k ⊑ cond q x y
cond_mono true m k x y c d = c
cond_mono false m k x y c d = d

driven_within : (n : Network) (a : Marking) (s : State) → Within a s → Within (driven settled extended n a) (driven (λ b. b) (λ f bits. f bits) n s)
driven_within n a s c (core (input i)) = covers_itself (n.applied i)
driven_within n a s c (core (gate j)) = extended_covers (n.pins j) (n.function j) (λ p. a (wire j p)) (λ p. s (wire j p)) (λ p. c (wire j p))
driven_within n a s c (wire j p) = c (core (n.source j p))

pub excitation_within : (n : Network) (a : Marking) (s : State) → Within a s → Within (excited n a) (excitation n s)
excitation_within n a s c σ = cond_covers (present n σ) _ (a σ) _ (s σ) (driven_within n a s c σ) (c σ)

driven_mono : (n : Network) (a b : Marking) → ((σ : Signal) → a σ ⊑ b σ) → (σ : Signal) → driven settled extended n a σ ⊑ driven settled extended n b σ
driven_mono n a b le (core (input i)) v c = c
driven_mono n a b le (core (gate j)) v c = extended_mono (n.pins j) (n.function j) (λ p. a (wire j p)) (λ p. b (wire j p)) (λ p. le (wire j p)) v c
driven_mono n a b le (wire j p) v c = le (core (n.source j p)) v c

pub excited_mono : (n : Network) (a b : Marking) → ((σ : Signal) → a σ ⊑ b σ) → (σ : Signal) → excited n a σ ⊑ excited n b σ
excited_mono n a b le σ = cond_mono (present n σ) _ (a σ) _ (b σ) (driven_mono n a b le σ) (le σ)

-- marks that cover their excitation cover every state that can be reached from one they cover
stays_within : (n : Network) (a : Marking) → ((σ : Signal) → excited n a σ ⊑ a σ) → {s t : State} → Walk n s t → Within a s → Within a t
stays_within n a closed stay c = c
stays_within n a closed (step {s} {t} (race r σ₀ d) w) c =
    stays_within n a closed w (λ σ. elim (moved n s t σ (r σ)) [ inl e ↦ subst (Covers (a σ)) (sym e) (c σ) | inr e ↦ subst (Covers (a σ)) (sym e) (closed σ _ (excitation_within n a s c σ)) ])
stays_within n a closed (step (rest r e) w) c = stays_within n a closed w (subst (λ x. Within a x) (sym e) c)

module _ (n : Network) (b : State) where
  pub first_start : (h : ℕ) → Within (first n b h) b
  first_start zero σ = covers_itself (b σ)
  first_start (suc h) σ = lub_left (first n b h σ) (excited n (first n b h) σ) (b σ) (first_start h σ)

  first_still : (h : ℕ) → FirstEnds n b h → (σ : Signal) → first n b (suc h) σ ≡ first n b h σ
  first_still h ends σ = by_bit (present n σ) (ends σ) (λ e. ap (λ m. lub (first n b h σ) m) (absent_excited n (first n b h) σ e) ∙ lub_same (first n b h σ))

  pub first_closed : (h : ℕ) → FirstEnds n b h → (σ : Signal) → excited n (first n b h) σ ⊑ first n b h σ
  first_closed h ends σ = subst (λ m. excited n (first n b h) σ ⊑ m) (first_still h ends σ) (lub_right (first n b h σ) (excited n (first n b h) σ))

  pub races_upper : (h : ℕ) → FirstEnds n b h → (s : State) → Walk n b s → Within (first n b h) s
  races_upper h ends s w = stays_within n (first n b h) (first_closed h ends) w (first_start h)
