-- Outcome, upper bound: what the races come to is covered by the marks of the second pass.
use Rattle.std.proofs.Common.{◌≡◌, ℕ, zero, suc, Bool, not, ◌⊎◌, sym, ap, ◌∙◌, subst, inl, inr}
use mathlib.Core.Bool.{Bool-discrete}
use Rattle.gates.specs.declared.Mark.{Mark}
use Rattle.races.proofs.network.Networks.{Network, State, Signal, excitation}
use Rattle.races.proofs.network.Races.{race, rest, Walk, stay, step, On, turn, Outcome}
use Rattle.races.proofs.network.Passes.{first, FirstEnds, second}
use Rattle.races.proofs.network.Bits.{by_bit, other}
use Rattle.races.proofs.network.Marks.{Covers, covers_only, unk, unk_covers, unk_settled}
use Rattle.races.proofs.network.Choice.{joined, moved, on_from}
use Rattle.races.proofs.network.RacesUpper.{Within, excitation_within, races_upper}

module _ (n : Network) (σ : Signal) (v : Bool) where
  -- σ is driven to v in every state from here on
  Driven : State → Type 0
  Driven s = (x : State) → Walk n s x → excitation n x σ ≡ v

  -- a state of a walk where it is v, with the way on; or it is v in none
  Found : State → State → Type 0
  Found s t = (x : State) × Walk n s x × Walk n x t × (x σ ≡ v)

  hit : {s t : State} (w : Walk n s t) → Found s t ⊎ ((x : State) → On n x w → ¬ (x σ ≡ v))
  unfolding Found
  hit (stay {s}) = elim (Bool-discrete (s σ) v) [ yes e ↦ inl (s, stay, stay, e) | no e ↦ inr (λ x o q. e (sym (ap (λ y. y σ) o) ∙ q)) ]
  hit (step {s} {t} {u} h w) = go (Bool-discrete (s σ) v) (hit w)
    where
      go : Dec (s σ ≡ v) → (Found t u) ⊎ ((x : State) → On n x w → ¬ (x σ ≡ v)) → (Found s u) ⊎ ((x : State) → On n x (step h w) → ¬ (x σ ≡ v))
      go (yes e) r = inl (s, stay, step h w, e)
      go (no e) (inl r) = inl (r.0, step h r.1, r.2, r.3)
      go (no e) (inr r) = inr (λ x o q. elim o [ inl p ↦ e (sym (ap (λ y. y σ) p) ∙ q) | inr p ↦ r x p q ])

  -- once it is v it stays so
  holds : {s t : State} → Walk n s t → Driven s → s σ ≡ v → t σ ≡ v
  unfolding Driven
  holds stay d e = e
  holds (step {s} {t} (race r σ₀ c) w) d e = holds w (λ x q. d x (step (race r σ₀ c) q)) (elim (moved n s t σ (r σ)) [ inl a ↦ a ∙ e | inr a ↦ a ∙ d s stay ])
  holds (step {s} {t} (rest r p) w) d e = holds w (λ x q. d x (step (rest r p) q)) (ap (λ x. x σ) p ∙ e)

  outcome_driven : (b o : State) (r : Outcome n b o) → Driven r.base → o σ ≡ v
  unfolding Driven Found
  outcome_driven b o r d =
      let w : Walk n r.base r.base = turn n r.base r.round in
      elim (hit w) [
        | inl found ↦ holds (joined found.2 r.after) (λ y q. d y (joined found.1 q)) found.3
        | inr none ↦
            absurd (r.lasting (record {
              signal = σ;
              value = not v;
              keeps = λ x q. other (x σ) v (none x q);
              unstable = λ x q stable. none x q (sym stable ∙ d x (on_from w q));
            }))
      ]

module _ (n : Network) (b : State) (h : ℕ) (ends : FirstEnds n b h) where
  -- an outcome's way on leads to outcomes
  onward : {o x : State} (r : Outcome n b o) → Walk n r.base x → Outcome n b x
  onward r w = record { base = r.base; reached = r.reached; round = r.round; lasting = r.lasting; after = w }

  pub outcome_upper : (k : ℕ) (o : State) → Outcome n b o → Within (second n (first n b h) k) o
  unfolding Driven
  outcome_upper zero o r σ = races_upper n b h ends o (joined r.reached r.after) σ
  outcome_upper (suc k) o r σ = go (second n (first n b h) (suc k) σ) (λ x w. excitation_within n (second n (first n b h) k) x (outcome_upper k x (onward r w)) σ)
    where
      -- a settled mark, at the value to which the signal is driven in the round's first state
      go : (m : Mark) → ((x : State) → Walk n r.base x → Covers m (excitation n x σ)) → Covers m (o σ)
      go m d =
          by_bit
          (unk m)
          (unk_covers m (o σ))
          (λ e.
          let is = unk_settled m (excitation n r.base σ) (d r.base stay) e in
          subst (Covers m) (sym (outcome_driven n σ (excitation n r.base σ) b o r (λ x w. covers_only m _ _ is (d x w)))) (d r.base stay))
