-- States as lists and as functions of the network's signals, and single steps.
use Rattle.std.proofs.Common.{◌≡◌, ℕ, ◌<◌, true, false, cond, not, ◌⊎◌, List, map, length, get_or, sym, ap, ◌∙◌, subst, inl, inr, ⊎_elim, arith}
use mathlib.Core.Path.{fun_ext}
use Rattle.std.specs.List.{range_with_len}
use Rattle.std.proofs.lemmas.Bool.{cond-true, cond-false}
use Rattle.std.proofs.lemmas.List.{ext_get_or}
use Rattle.std.proofs.lemmas.List.FromFn.{get_or-map-range_with_len, length-map-range_with_len}
use Rattle.gates.specs.Kinds.{Kind}
use Rattle.circuit.specs.declared.Signal.{Signal}
use Rattle.circuit.specs.Circuits.{Circuit, Has, size, place, signal_at}
use Rattle.circuit.specs.Wiring.{Wired, Joined}
use Rattle.races.specs.Races.{State, value, driven, Stable, Kept, Complemented, Race, Step}
use Rattle.races.proofs.Places.{place_in, signal_place, placed}
use Rattle.races.proofs.Named.{network, named, numbered, has, there, back, forth}
use Rattle.races.proofs.Agreed.{excitation_agrees}
use Rattle.races.proofs.network.Bits.{by_bit, not_same}
use Rattle.races.proofs.network.Networks.{present}
use Rattle.races.proofs.network.Networks as net
use Rattle.races.proofs.network.Races as net_races
use Rattle.races.proofs.network.Choice.{absent_stable}

-- the state that a list of values gives; what is not there is 0
abbrev pub state : List Kind → Circuit → State → net.State
state ks c s σ = cond (present (network ks c) σ) (value c s (numbered c σ)) false

abbrev pub Long : Circuit → State → Type 0
Long c s = length s ≡ size c

module _ (ks : List Kind) (c : Circuit) (wired : Wired c) (joined : Joined c) where
  pub value_is : (s : State) (σ : net.Signal) → present (network ks c) σ ≡ true → state ks c s σ ≡ value c s (numbered c σ)
  value_is s σ q = cond-true _ _ _ q

  pub value_at : (s : State) (x : Signal) → Has c x → state ks c s (named c x) ≡ value c s x
  value_at s x h = value_is s (named c x) (there ks c wired x h) ∙ ap (value c s) (back ks c wired x h)

  -- stable in the list is stable in the network
  module _ (s : State) (long : Long c s) where
    excitation_is : (σ : net.Signal) → present (network ks c) σ ≡ true → net.excitation (network ks c) (state ks c s) σ ≡ driven ks c s (numbered c σ)
    excitation_is σ q = sym (excitation_agrees ks c wired joined (λ b. b) (λ f bits. f bits) s (state ks c s) long (λ τ p. sym (value_is s τ p)) σ q)

    pub stable_up : (σ : net.Signal) → present (network ks c) σ ≡ true → Stable ks c s (numbered c σ) → net_races.Stable (network ks c) (state ks c s) σ
    stable_up σ q e = excitation_is σ q ∙ sym e ∙ sym (value_is s σ q)

    stable_down : (σ : net.Signal) → present (network ks c) σ ≡ true → net_races.Stable (network ks c) (state ks c s) σ → Stable ks c s (numbered c σ)
    stable_down σ q e = sym (value_is s σ q) ∙ sym e ∙ excitation_is σ q

    pub stable_at : (x : Signal) → Has c x → net_races.Stable (network ks c) (state ks c s) (named c x) → Stable ks c s x
    stable_at x h e = subst (Stable ks c s) (back ks c wired x h) (stable_down (named c x) (there ks c wired x h) e)

    stable_to : (x : Signal) → Has c x → Stable ks c s x → net_races.Stable (network ks c) (state ks c s) (named c x)
    stable_to x h e = stable_up (named c x) (there ks c wired x h) (subst (Stable ks c s) (sym (back ks c wired x h)) e)

  -- the list of a state
  pub listed : net.State → State
  listed t = map (λ k. t (named c (signal_at c k))) (range_with_len 0 (size c))

  pub listed_long : (t : net.State) → Long c (listed t)
  unfolding listed
  listed_long t = length-map-range_with_len (λ k. t (named c (signal_at c k))) 0 (size c)

  listed_get : (t : net.State) (k : ℕ) → k < size c → get_or (listed t) k false ≡ t (named c (signal_at c k))
  unfolding listed
  listed_get t k h = get_or-map-range_with_len (λ i. t (named c (signal_at c i))) 0 (size c) k k false h (omega arith)

  listed_value : (t : net.State) (x : Signal) → Has c x → value c (listed t) x ≡ t (named c x)
  listed_value t x h = listed_get t (place c x) (place_in c x h) ∙ ap (λ y. t (named c y)) (signal_place c x h)

  listed_state : (s : State) → Long c s → listed (state ks c s) ≡ s
  listed_state s long =
      let l = listed_long (state ks c s) in
      ext_get_or false (listed (state ks c s)) s (l ∙ sym long)
      (λ k h. let low : k < size c = omega arith in
      let at = placed c k low in
      listed_get (state ks c s) k low ∙ value_at s (signal_at c k) at.1 ∙ ap (λ i. get_or s i false) at.0)

  pub state_same : (s t : State) → Long c s → Long c t → state ks c s ≡ state ks c t → s ≡ t
  state_same s t ls lt e = sym (listed_state s ls) ∙ ap listed e ∙ listed_state t lt

  -- what is not there is 0
  abbrev Clean : net.State → Type 0
  Clean t = (σ : net.Signal) → present (network ks c) σ ≡ false → t σ ≡ false

  state_listed : (t : net.State) → Clean t → t ≡ state ks c (listed t)
  state_listed t clean = fun_ext (λ σ. by_bit (present (network ks c) σ)
      (λ q. sym (value_is (listed t) σ q ∙ listed_value t (numbered c σ) (has ks c wired σ q) ∙ ap t (forth ks c wired σ q)))
      (λ q. clean σ q ∙ sym (cond-false _ _ _ q)))

  pub step_long : (s t : State) → Long c s → Step ks c s t → Long c t
  step_long s t l (inl r) = r.long
  step_long s t l (inr r) = ap length r.same ∙ l

  -- a step of the lists is a step of the network
  module _ (s t : State) (ls : Long c s) where
    moves_up : (σ : net.Signal) → present (network ks c) σ ≡ true → Kept ks c s t (numbered c σ) ⊎ Complemented ks c s t (numbered c σ) → net_races.Moves (network ks c) (state ks c s) (state ks c t) σ
    moves_up σ q (inl e) = inl (value_is t σ q ∙ e ∙ sym (value_is s σ q))
    moves_up σ q (inr r) = inr ((λ st. r.0 (stable_down s ls σ q st)), value_is t σ q ∙ r.1 ∙ ap not (sym (value_is s σ q)))

    pub step_up : Step ks c s t → net_races.Step (network ks c) (state ks c s) (state ks c t)
    step_up (inl r) =
        let x = r.some.0 in
        let h = r.some.1 in
        net_races.race
        (λ σ. by_bit (present (network ks c) σ) (λ q. moves_up σ q (r.each (numbered c σ) (has ks c wired σ q))) (λ q. inl (cond-false _ _ _ q ∙ sym (cond-false _ _ _ q))))
        (named c x)
        (λ e. not_same (value c s x) (sym r.some.2.1 ∙ sym (value_at t x h) ∙ e ∙ value_at s x h))
    step_up (inr r) =
        net_races.rest
        (λ σ. by_bit (present (network ks c) σ) (λ q. stable_up s ls σ q (r.stable (numbered c σ) (has ks c wired σ q))) (λ q. absent_stable (network ks c) (state ks c s) σ q))
        (ap (state ks c) r.same)

  -- and the other way round
  module _ (s : State) (t : net.State) (ls : Long c s) where
    clean_step : net_races.Step (network ks c) (state ks c s) t → Clean t
    clean_step (net_races.race moves σ d) τ q = ⊎_elim (λ e. e ∙ cond-false _ _ _ q) (λ r. absurd (r.0 (absent_stable (network ks c) (state ks c s) τ q))) (moves τ)
    clean_step (net_races.rest st e) τ q = ap (λ u. u τ) e ∙ cond-false _ _ _ q

    moves_down : (x : Signal) → Has c x → net_races.Moves (network ks c) (state ks c s) t (named c x) → Kept ks c s (listed t) x ⊎ Complemented ks c s (listed t) x
    moves_down x h (inl e) = inl (listed_value t x h ∙ e ∙ value_at s x h)
    moves_down x h (inr r) = inr ((λ st. r.0 (stable_to s ls x h st)), listed_value t x h ∙ r.1 ∙ ap not (value_at s x h))

    race_down : ((σ : net.Signal) → net_races.Moves (network ks c) (state ks c s) t σ) → (σ : net.Signal) → present (network ks c) σ ≡ true → ¬ (t σ ≡ state ks c s σ) → Race ks c s (listed t)
    race_down moves σ q d =
        let x = numbered c σ in
        let h = has ks c wired σ q in
        let each = λ (y : Signal) (k : Has c y). moves_down y k (moves (named c y)) in
        record {
          long = listed_long t;
          each = each;
          some =
              ⊎_elim
              (λ e. absurd (d (sym (listed_value t x h ∙ ap t (forth ks c wired σ q)) ∙ e ∙ sym (value_is s σ q))))
              (λ r. (x, h, r))
              (each x h);
        }

    step_listed : net_races.Step (network ks c) (state ks c s) t → Step ks c s (listed t)
    step_listed (net_races.race moves σ d) =
        by_bit (present (network ks c) σ)
        (λ q. inl (race_down moves σ q d))
        (λ q. absurd (d (clean_step (net_races.race moves σ d) σ q ∙ sym (cond-false _ _ _ q))))
    step_listed (net_races.rest st e) = inr (record { stable = λ x h. stable_at s ls x h (st (named c x)); same = ap listed e ∙ listed_state s ls })

    pub step_down : net_races.Step (network ks c) (state ks c s) t → Step ks c s (listed t) × (t ≡ state ks c (listed t))
    step_down h = (step_listed h, state_listed t (clean_step h))
