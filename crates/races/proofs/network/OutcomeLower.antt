-- Outcome, lower bound: each value that a second mark covers is seen in the outcome.
use Rattle.std.proofs.Common.{◌≡◌, ℕ, Bool, true, false, not, ◌⊎◌, sym, refl, ap, ◌∙◌, inl, inr}
use mathlib.Core.Bool.{Bool-discrete}
use Rattle.races.proofs.network.Networks.{Network, State, Marking, Core, Signal, core, wire, gate, excited, lead, wire_follows}
use Rattle.races.proofs.network.Races.{Stable, Step, rest, Walk, stay, step, Round, Transient, Outcome}
use Rattle.races.proofs.network.Passes.{first, FirstEnds, second, SecondEnds, Takes}
use Rattle.races.proofs.network.Bits.{by_bit, bit_clash, not_same, other}
use Rattle.races.proofs.network.Marks.{Covers, covers_only, unk_below}
use Rattle.races.proofs.network.Choice.{joined, on_meet}
use Rattle.races.proofs.network.RacesUpper.{Within, excitation_within, races_upper, first_closed}
use Rattle.races.proofs.network.Turned.{turned}
use Rattle.races.proofs.network.RacesLower.{Front, front, follow, follow_walk, follow_wire}
use Rattle.races.proofs.network.Followed.{below_first, second_still, Followed, followed}
use Rattle.races.proofs.network.Flips.{lead_is}
use Rattle.races.proofs.network.Wave.{live, Ready, live_wire, live_here, dead_is, swept, swept_core, swept_lead, swept_ready, swept_walk, swept_back}

-- a walk goes nowhere, or begins with a step
moves : {n : Network} {s t : State} → Walk n s t → (t ≡ s) ⊎ ((u : State) × Step n s u × Walk n u t)
moves stay = inl refl
moves (step {t = t} h w) = inr (t, h, w)

module _ (n : Network) (b : State) (h : ℕ) (a : Marking) (fixed : (σ : Signal) → excited n a σ ≡ a σ) (found : (σ : Signal) → live a σ ≡ true → turned n b h σ ≡ true) where
  abbrev F : State → State
  F = swept n b h a fixed found

  -- a signal that is not live is stable
  dead_stable : (s : State) → Within a s → (σ : Signal) → live a σ ≡ false → Stable n s σ
  dead_stable s c σ e = covers_only _ _ _ (fixed σ ∙ dead_is n b h a fixed found s c σ e) (excitation_within n a s c σ)

  module _ (s : State) (ready : Ready n b h a s) (walk : Walk n b s) where
    -- after one wave; two more lead back to it
    r : State
    r = F s

    r_ready : Ready n b h a r
    unfolding r
    r_ready = swept_ready n b h a fixed found s ready

    forth : Walk n r (F r)
    forth = swept_walk n b h a fixed found r r_ready

    back : Walk n (F r) r
    unfolding r
    back = swept_back n b h a fixed found s ready

    -- a live signal is not unstable at one value in both r and F r
    restless : (σ : Signal) (v : Bool) → live a σ ≡ true → (r σ ≡ v) × (¬ Stable n r σ) → (F r σ ≡ v) × (¬ Stable n (F r) σ) → ⊥
    restless (core c) v l x y = not_same (r (core c)) (sym (swept_core n b h a fixed found r c l) ∙ y.0 ∙ sym x.0)
    restless (wire k p) v l x y =
        let i : live a (lead n k p) ≡ true = sym (live_wire n b h a fixed found k p) ∙ l in
        let at-r : r (lead n k p) ≡ not v = other _ _ (λ e. x.1 (wire_follows n r k p ∙ e ∙ sym x.0)) in
        let at-F : F r (lead n k p) ≡ not v = other _ _ (λ e. y.1 (wire_follows n (F r) k p ∙ e ∙ sym y.0)) in
        not_same (r (lead n k p)) (sym (swept_lead n b h a fixed found r k p i) ∙ at-F ∙ sym at-r)

    no_live_core : F r ≡ r → (c : Core) → live a (core c) ≡ false
    no_live_core e c = by_bit (live a (core c)) (λ l. absurd (not_same (r (core c)) (sym (swept_core n b h a fixed found r c l) ∙ ap (λ x. x (core c)) e))) (λ l. l)

    no_live : F r ≡ r → (σ : Signal) → live a σ ≡ false
    no_live e (core c) = no_live_core e c
    no_live e (wire k p) = live_wire n b h a fixed found k p ∙ lead_is n k p (λ σ. live a σ ≡ false) (no_live_core e) (λ q. by_bit (live a (wire k p)) (λ l. bit_clash (live_here n b h a fixed found (wire k p) l) q) (λ l. l))

    -- the round from r: r itself if nothing moves, else two waves
    turn_still : F r ≡ r → (rd : Round n r) × (¬ Transient n r rd)
    turn_still e =
        let calm : (σ : Signal) → Stable n r σ = λ σ. dead_stable r r_ready.within σ (no_live e σ) in
        (record { next = r; begin = rest calm refl; back = stay }, λ t. t.unstable r (inl refl) (calm t.signal))

    turn_moving : (u : State) → Step n r u → Walk n u (F r) → (rd : Round n r) × (¬ Transient n r rd)
    turn_moving u st w = (record { next = u; begin = st; back = joined w back }, lasting)
      where
        lasting : ¬ Transient n r (record { next = u; begin = st; back = joined w back })
        lasting t =
            let σ : Signal = t.signal in
            by_bit
            (live a σ)
            (λ l. restless σ t.value l (t.keeps r (inl refl), t.unstable r (inl refl)) (t.keeps (F r) (inr (on_meet w back)), t.unstable (F r) (inr (on_meet w back))))
            (λ l. t.unstable r (inl refl) (dead_stable r r_ready.within σ l))

    turn : (rd : Round n r) × (¬ Transient n r rd)
    turn = elim (moves forth) [ inl e ↦ turn_still e | inr m ↦ turn_moving m.0 m.1 m.2 ]

    outcome : (o : State) → Walk n r o → Outcome n b o
    unfolding r
    outcome o w = record { base = r; reached = joined walk (swept_walk n b h a fixed found s ready); round = turn.0; lasting = turn.1; after = w }

    -- each value that a mark covers is seen in an outcome
    seen : (σ : Signal) (v : Bool) → Covers (a σ) v → Takes (Outcome n b) σ v
    seen σ v c = by_bit (live a σ) (alive σ) (λ l. (r, outcome r stay, sym (covers_only _ _ _ (dead_is n b h a fixed found r r_ready.within σ l) c)))
      where
        flipped : (x y : Bool) → y ≡ not x → ¬ (x ≡ v) → y ≡ v
        flipped x y e d = e ∙ sym (other v x (λ q. d (sym q)))

        alive : (σ : Signal) → live a σ ≡ true → Takes (Outcome n b) σ v
        alive (core c) l = elim (Bool-discrete (r (core c)) v) [
          | yes e ↦ (r, outcome r stay, e)
          | no e ↦ (F r, outcome (F r) forth, flipped (r (core c)) (F r (core c)) (swept_core n b h a fixed found r c l) e)
        ]
        alive (wire k p) l = elim (Bool-discrete (r (lead n k p)) v) [
          | yes e ↦ (follow n r, outcome (follow n r) (follow_walk n r), follow_wire n r k p ∙ e)
          | no e ↦
              (follow n (F r), outcome (follow n (F r)) (joined forth (follow_walk n (F r))), follow_wire n (F r) k p ∙ flipped (r (lead n k p)) (F r (lead n k p)) (swept_lead n b h a fixed found r k p (sym (live_wire n b h a fixed found k p) ∙ l)) e)
        ]

module _ (n : Network) (b : State) (h k : ℕ) (ends : FirstEnds n b h) (end : SecondEnds n (first n b h) k) where
  abbrev last : Marking
  last = second n (first n b h) k

  last_fixed : (σ : Signal) → excited n last σ ≡ last σ
  last_fixed = second_still n (first n b h) (first_closed n b h ends) k end

  last_found : (σ : Signal) → live last σ ≡ true → turned n b h σ ≡ true
  unfolding live turned
  last_found σ l = unk_below (last σ) (first n b h σ) (below_first n (first n b h) (first_closed n b h ends) k σ) l

  last_ready : (s : State) (f : Front n b h s) (t : State) → Followed n (first n b h) (first_closed n b h ends) s k t → Ready n b h last t
  unfolding live
  last_ready s f t g = record {
    within = g.within;
    late = λ j p l q o. g.same (wire j p) (live_wire n b h last last_fixed last_found j p ∙ l) ∙ f.late j p (last_found (lead n j p) l) (last_found (core (gate j)) q) o ∙ ap not (sym (g.same (lead n j p) l));
  }

  pub outcome_lower : (σ : Signal) (v : Bool) → Covers (last σ) v → Takes (Outcome n b) σ v
  outcome_lower =
      let (s, f) = front n b h in
      let (t, g) = followed n (first n b h) (first_closed n b h ends) s (races_upper n b h ends s f.walk) k in
      seen n b h last last_fixed last_found t (last_ready s f t g) (joined f.walk g.walk)
