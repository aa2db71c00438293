-- The second pass can be followed: from a state that the first marks cover, a walk leads to one that the second marks cover.
use Rattle.std.proofs.Common.{◌≡◌, ℕ, zero, suc, true, cond, sym, refl, ◌∙◌, subst, inl, inr}
use Rattle.std.proofs.lemmas.Bool.{cond-true, cond-false}
use Rattle.races.proofs.network.Networks.{Network, State, Marking, Signal, present, excitation, excited, absent_excited}
use Rattle.races.proofs.network.Races.{Walk, stay}
use Rattle.races.proofs.network.Passes.{second, SecondEnds}
use Rattle.races.proofs.network.Bits.{by_bit}
use Rattle.races.proofs.network.Marks.{Covers, ◌⊑◌, unk, unk_covers, unk_below}
use Rattle.races.proofs.network.Choice.{joined, choice}
use Rattle.races.proofs.network.RacesUpper.{Within, excitation_within, excited_mono}

module _ (n : Network) (a : Marking) (closed : (σ : Signal) → excited n a σ ⊑ a σ) where
  falls : (k : ℕ) (σ : Signal) → second n a (suc k) σ ⊑ second n a k σ
  falls zero σ = closed σ
  falls (suc k) σ = excited_mono n (second n a (suc k)) (second n a k) (falls k) σ

  pub below_first : (k : ℕ) (σ : Signal) → second n a k σ ⊑ a σ
  below_first zero σ v c = c
  below_first (suc k) σ v c = below_first k σ v (falls k σ v c)

  pub second_still : (k : ℕ) → SecondEnds n a k → (σ : Signal) → excited n (second n a k) σ ≡ second n a k σ
  second_still k ends σ = by_bit (present n σ) (ends σ) (λ e. absent_excited n (second n a k) σ e)

  -- a state that has followed k steps, and is as s where the marks are unknown
  pub record Followed (s : State) (k : ℕ) (t : State) : Type 0 where
    pub walk : Walk n s t
    pub within : Within (second n a k) t
    pub same : (σ : Signal) → unk (second n a k σ) ≡ true → t σ ≡ s σ

  unfoldable calmer : ℕ → State → State
  calmer k t σ = cond (unk (second n a (suc k) σ)) (t σ) (excitation n t σ)

  followed_next : (s : State) (k : ℕ) (t : State) → Followed s k t → Followed s (suc k) (calmer k t)
  unfolding calmer
  followed_next s k t f = record {
    walk = joined f.walk (choice n t (calmer k t) (λ σ. by_bit (unk (second n a (suc k) σ)) (λ e. inl (cond-true _ _ _ e)) (λ e. inr (cond-false _ _ _ e))));
    within = λ σ.
        by_bit
        (unk (second n a (suc k) σ))
        (λ e. unk_covers (second n a (suc k) σ) (calmer k t σ) e)
        (λ e. subst (λ v. Covers (second n a (suc k) σ) v) (sym (cond-false _ _ _ e)) (excitation_within n (second n a k) t f.within σ));
    same = λ σ e. cond-true _ _ _ e ∙ f.same σ (unk_below (second n a (suc k) σ) (second n a k σ) (falls k σ) e);
  }

  pub followed : (s : State) → Within a s → (k : ℕ) → (t : State) × Followed s k t
  followed s c zero = (s, record { walk = stay; within = c; same = λ σ e. refl })
  followed s c (suc k) = let (t, f) = followed s c k in (calmer k t, followed_next s k t f)
