-- Two choices in a row: the wires of some gates are set, then some inputs and gates flip, and the wires that follow these take their old values.
use Rattle.std.proofs.Common.{◌≡◌, ℕ, Bool, true, false, cond, not, ◌⊎◌, sym, refl, ◌∙◌, subst, inl, inr}
use Rattle.std.proofs.lemmas.Bool.{cond-true, cond-false}
use Rattle.races.proofs.network.Bits.{by_bit, bit_clash}
use Rattle.races.proofs.network.Networks.{Network, State, Core, Signal, core, wire, gate, present, excitation, lead, wire_follows}
use Rattle.races.proofs.network.Races.{Walk}
use Rattle.races.proofs.network.Choice.{joined, choice}

-- what a wire follows is a core signal, or the wire itself if it is absent
pub lead_is : (n : Network) (k p : ℕ) (P : Signal → Type 0) → ((c : Core) → P (core c)) → (present n (wire k p) ≡ false → P (wire k p)) → P (lead n k p)
lead_is n k p P f g = by_bit (present n (wire k p)) (λ e. subst P (sym (cond-true _ _ _ e)) (f (n.source k p))) (λ e. subst P (sym (cond-false _ _ _ e)) (g e))

-- from s, the wires of the fresh gates take the given bits
unfoldable pub prepared : (s : State) (fresh : Signal → Bool) (bits : ℕ → ℕ → Bool) → State
prepared s fresh bits (core k) = s (core k)
prepared s fresh bits (wire k p) = cond (fresh (core (gate k))) (bits k p) (s (wire k p))

-- then the fresh core signals flip, and their wires take what they were
unfoldable pub flipped : (n : Network) (s : State) (fresh : Signal → Bool) (bits : ℕ → ℕ → Bool) → State
flipped n s fresh bits (core k) = cond (fresh (core k)) (not (s (core k))) (s (core k))
flipped n s fresh bits (wire k p) = cond (fresh (lead n k p)) (s (lead n k p)) (cond (fresh (core (gate k))) (bits k p) (s (wire k p)))

-- no absent wire is fresh
abbrev pub Calm : Network → (Signal → Bool) → Type 0
Calm n fresh = (k p : ℕ) → present n (wire k p) ≡ false → fresh (wire k p) ≡ false

module _ (n : Network) (s : State) (fresh : Signal → Bool) (bits : ℕ → ℕ → Bool) where
  -- a wire of a fresh gate has its bit, or follows something that has
  abbrev Free : Type 0
  Free = (k p : ℕ) → fresh (core (gate k)) ≡ true → (bits k p ≡ s (wire k p)) ⊎ (bits k p ≡ s (lead n k p))

  -- with these bits the fresh core signals are unstable
  abbrev Ripe : Type 0
  Ripe = (k : Core) → fresh (core k) ≡ true → excitation n (prepared s fresh bits) (core k) ≡ not (s (core k))

  prepared_lead : Calm n fresh → (k p : ℕ) → fresh (lead n k p) ≡ true → prepared s fresh bits (lead n k p) ≡ s (lead n k p)
  unfolding prepared
  prepared_lead calm k p = lead_is n k p (λ σ. fresh σ ≡ true → prepared s fresh bits σ ≡ s σ) (λ i e. refl) (λ a e. bit_clash e (calm k p a))

  to_prepared : Free → (σ : Signal) → (prepared s fresh bits σ ≡ s σ) ⊎ (prepared s fresh bits σ ≡ excitation n s σ)
  unfolding prepared
  to_prepared free (core k) = inl refl
  to_prepared free (wire k p) =
      by_bit
      (fresh (core (gate k)))
      (λ e. elim (free k p e) [ inl q ↦ inl (cond-true _ _ _ e ∙ q) | inr q ↦ inr (cond-true _ _ _ e ∙ q ∙ sym (wire_follows n s k p)) ])
      (λ e. inl (cond-false _ _ _ e))

  to_flipped : Calm n fresh → Ripe → (σ : Signal) → (flipped n s fresh bits σ ≡ prepared s fresh bits σ) ⊎ (flipped n s fresh bits σ ≡ excitation n (prepared s fresh bits) σ)
  unfolding prepared flipped
  to_flipped calm ripe (core k) = by_bit (fresh (core k)) (λ e. inr (cond-true _ _ _ e ∙ sym (ripe k e))) (λ e. inl (cond-false _ _ _ e))
  to_flipped calm ripe (wire k p) = by_bit (fresh (lead n k p)) (λ e. inr (cond-true _ _ _ e ∙ sym (wire_follows n (prepared s fresh bits) k p ∙ prepared_lead calm k p e))) (λ e. inl (cond-false _ _ _ e))

  pub flip_walk : Calm n fresh → Free → Ripe → Walk n s (flipped n s fresh bits)
  flip_walk calm free ripe = joined (choice n s (prepared s fresh bits) (to_prepared free)) (choice n (prepared s fresh bits) (flipped n s fresh bits) (to_flipped calm ripe))

  -- what became of each signal
  pub prepared_set : (k p : ℕ) → fresh (core (gate k)) ≡ true → prepared s fresh bits (wire k p) ≡ bits k p
  unfolding prepared
  prepared_set k p e = cond-true _ _ _ e

  pub core_flipped : (k : Core) → flipped n s fresh bits (core k) ≡ cond (fresh (core k)) (not (s (core k))) (s (core k))
  unfolding flipped
  core_flipped k = refl

  pub lead_fresh : Calm n fresh → (k p : ℕ) → fresh (lead n k p) ≡ true → flipped n s fresh bits (lead n k p) ≡ not (s (lead n k p))
  unfolding flipped
  lead_fresh calm k p = lead_is n k p (λ σ. fresh σ ≡ true → flipped n s fresh bits σ ≡ not (s σ)) (λ i e. cond-true _ _ _ e) (λ a e. bit_clash e (calm k p a))

  pub lead_calm : (k p : ℕ) → fresh (core (gate k)) ≡ false → fresh (lead n k p) ≡ false → flipped n s fresh bits (lead n k p) ≡ s (lead n k p)
  unfolding flipped
  lead_calm k p d e = lead_is n k p (λ σ. fresh σ ≡ false → flipped n s fresh bits σ ≡ s σ) (λ i g. cond-false _ _ _ g) (λ a g. cond-false _ _ _ e ∙ cond-false _ _ _ d) e

  pub wire_fresh : (k p : ℕ) → fresh (lead n k p) ≡ true → flipped n s fresh bits (wire k p) ≡ s (lead n k p)
  unfolding flipped
  wire_fresh k p e = cond-true _ _ _ e

  pub wire_calm : (k p : ℕ) → fresh (core (gate k)) ≡ false → fresh (lead n k p) ≡ false → flipped n s fresh bits (wire k p) ≡ s (wire k p)
  unfolding flipped
  wire_calm k p d e = cond-false _ _ _ e ∙ cond-false _ _ _ d
