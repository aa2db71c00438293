-- Walks, and the choice of which signals change.
use Rattle.std.proofs.Common.{◌≡◌, ℕ, zero, suc, ◌<◌, true, false, ◌⊎◌, sym, refl, ◌∙◌, subst, inl, inr, arith}
use mathlib.Core.Path.{fun_ext}
use mathlib.Core.Bool.{Bool-discrete}
use native.Mathlib.Decide.{ℕ_discrete}
use Rattle.std.proofs.lemmas.Bool.{cond-false, and_parts, ltb-true}
use Rattle.races.proofs.network.Bits.{by_bit, other}
use Rattle.races.proofs.network.Networks.{Network, State, Signal, core, wire, input, gate, present, excitation}
use Rattle.races.proofs.network.Races.{Stable, Moves, race, Walk, stay, step, On}

unfoldable pub joined : {n : Network} {s t u : State} → Walk n s t → Walk n t u → Walk n s u
joined stay w = w
joined (step h v) w = step h (joined v w)

-- a state of a walk lies between its first state and its last
pub on_from : {n : Network} {x s t : State} (w : Walk n s t) → On n x w → Walk n s x
on_from {n} {x} (stay {s}) e = subst (λ y. Walk n s y) (sym e) stay
on_from {n} {x} (step {s} h w) (inl e) = subst (λ y. Walk n s y) (sym e) stay
on_from (step h w) (inr o) = step h (on_from w o)

pub on_to : {n : Network} {x s t : State} (w : Walk n s t) → On n x w → Walk n x t
on_to {n} {x} (stay {s}) e = subst (λ y. Walk n y s) (sym e) stay
on_to {n} {x} (step {s} {t} {u} h w) (inl e) = subst (λ y. Walk n y u) (sym e) (step h w)
on_to (step h w) (inr o) = on_to w o

on_first : {n : Network} {s t : State} (w : Walk n s t) → On n s w
on_first stay = refl
on_first (step h w) = inl refl

-- where two walks meet
pub on_meet : {n : Network} {s t u : State} (w : Walk n s t) (v : Walk n t u) → On n t (joined w v)
unfolding joined
on_meet stay v = on_first v
on_meet (step h w) v = inr (on_meet w v)

-- an absent signal is stable
pub absent_stable : (n : Network) (s : State) (σ : Signal) → present n σ ≡ false → Stable n s σ
absent_stable n s σ e = cond-false _ _ _ e

-- to take the excitation is to stay, or to be unstable and be complemented
may_move : (n : Network) (s t : State) (σ : Signal) → (t σ ≡ s σ) ⊎ (t σ ≡ excitation n s σ) → Moves n s t σ
may_move n s t σ (inl e) = inl e
may_move n s t σ (inr e) = elim (Bool-discrete (excitation n s σ) (s σ)) [ yes q ↦ inl (e ∙ q) | no q ↦ inr (q, e ∙ other (excitation n s σ) (s σ) q) ]

pub moved : (n : Network) (s t : State) (σ : Signal) → Moves n s t σ → (t σ ≡ s σ) ⊎ (t σ ≡ excitation n s σ)
moved n s t σ (inl e) = inl e
moved n s t σ (inr r) = inr (r.1 ∙ sym (other (excitation n s σ) (s σ) r.0))

-- a search below a number
search_next : {A : Type 0} (P : ℕ → Type 0) (m : ℕ) → (A ⊎ P m) → (A ⊎ ((k : ℕ) → k < m → P k)) → A ⊎ ((k : ℕ) → k < suc m → P k)
search_next P m (inl a) r = inl a
search_next P m (inr p) (inl a) = inl a
search_next P m (inr p) (inr q) = inr (λ k h. elim (ℕ_discrete k m) [ yes e ↦ subst P (sym e) p | no e ↦ q k (omega arith) ])

search_below : {A : Type 0} (P : ℕ → Type 0) → ((k : ℕ) → A ⊎ P k) → (m : ℕ) → A ⊎ ((k : ℕ) → k < m → P k)
search_below P d zero = inr (λ k h. absurd (omega arith))
search_below P d (suc m) = search_next P m (d m) (search_below P d m)

module _ (n : Network) (s t : State) where
  abbrev Same : Signal → Type 0
  Same σ = t σ ≡ s σ

  abbrev Changed : Type 0
  Changed = (σ : Signal) × (¬ Same σ)

  changed_at : (σ : Signal) → Changed ⊎ Same σ
  changed_at σ = elim (Bool-discrete (t σ) (s σ)) [ yes e ↦ inr e | no e ↦ inl (σ, e) ]

  changed_or_same : ((σ : Signal) → Same σ ⊎ (t σ ≡ excitation n s σ)) → Changed ⊎ ((σ : Signal) → Same σ)
  changed_or_same ok =
      go
      (search_below (λ i. Same (core (input i))) (λ i. changed_at (core (input i))) n.inputs)
      (search_below (λ j. Same (core (gate j))) (λ j. changed_at (core (gate j))) n.gates)
      (search_below (λ j. (p : ℕ) → p < n.pins j → Same (wire j p)) (λ j. search_below (λ p. Same (wire j p)) (λ p. changed_at (wire j p)) (n.pins j)) n.gates)
    where
      by_present : (σ : Signal) → (present n σ ≡ true → Same σ) → Same σ
      by_present σ f = by_bit (present n σ) f (λ e. elim (ok σ) [ inl q ↦ q | inr q ↦ q ∙ absent_stable n s σ e ])

      all : ((i : ℕ) → i < n.inputs → Same (core (input i))) → ((j : ℕ) → j < n.gates → Same (core (gate j))) → ((j : ℕ) → j < n.gates → (p : ℕ) → p < n.pins j → Same (wire j p)) → (σ : Signal) → Same σ
      all a b c (core (input i)) = by_present (core (input i)) (λ e. a i (ltb-true i _ e))
      all a b c (core (gate j)) = by_present (core (gate j)) (λ e. b j (ltb-true j _ e))
      all a b c (wire j p) = by_present (wire j p) (λ e. c j (ltb-true j _ (and_parts _ _ e).0) p (ltb-true p _ (and_parts _ _ e).1))

      go : Changed ⊎ ((i : ℕ) → i < n.inputs → Same (core (input i))) → Changed ⊎ ((j : ℕ) → j < n.gates → Same (core (gate j))) → Changed ⊎ ((j : ℕ) → j < n.gates → (p : ℕ) → p < n.pins j → Same (wire j p)) → Changed ⊎ ((σ : Signal) → Same σ)
      go (inl x) b c = inl x
      go (inr a) (inl x) c = inl x
      go (inr a) (inr b) (inl x) = inl x
      go (inr a) (inr b) (inr c) = inr (all a b c)

  -- whatever signals take their excitation, the rest as they are: none or one step
  pub choice : ((σ : Signal) → (t σ ≡ s σ) ⊎ (t σ ≡ excitation n s σ)) → Walk n s t
  choice ok = elim (changed_or_same ok) [ inl x ↦ step (race (λ σ. may_move n s t σ (ok σ)) x.0 x.1) stay | inr same ↦ subst (λ x. Walk n s x) (sym (fun_ext same)) stay ]
