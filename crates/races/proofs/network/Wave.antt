-- A wave: every gate that the second pass leaves unknown flips, in the order in which the first pass found them.
use Rattle.std.proofs.Common.{◌≡◌, ℕ, zero, suc, Bool, true, false, cond, not, ◌&&◌, ◌||◌, ◌⊎◌, sym, refl, ap, ◌∙◌, subst, ap₂, inl}
use mathlib.Core.Path.{fun_ext}
use mathlib.Core.Bool.{false≢true}
use Rattle.std.proofs.lemmas.Bool.{cond-true, cond-false, and_parts, and_right}
use Rattle.gates.specs.Marks.{settled}
use Rattle.races.proofs.network.Networks.{Network, State, Marking, Core, Signal, core, wire, input, gate, present, excitation, excited, lead, wire_excited}
use Rattle.races.proofs.network.Races.{Walk, stay}
use Rattle.races.proofs.network.Bits.{by_bit, bit_clash, one_of, flip_next, not_not}
use Rattle.races.proofs.network.Marks.{Covers, covers_only, unk, unk_covers, unk_settled, settled_unk, witness, witness_covers}
use Rattle.races.proofs.network.Choice.{joined}
use Rattle.races.proofs.network.RacesUpper.{Within}
use Rattle.races.proofs.network.Flips.{prepared, flipped, Calm, flip_walk, lead_is, prepared_set}
use Rattle.races.proofs.network.Turned.{turned, older, turned_start, turned_grows, turned_absent, older_turned, older_not}
use Rattle.races.proofs.network.RacesLower.{fresh, fresh_was, fresh_is, fresh_not, gate_driven}

-- the marks leave σ open
unfoldable pub live : Marking → Signal → Bool
live a σ = unk (a σ)

-- bits at the wires of gate k, covered by the marks, that would flip it
abbrev turning : Network → Marking → State → ℕ → ℕ → Bool
turning n a s k = witness (n.pins k) (n.function k) (λ q. a (wire k q)) (not (s (core (gate k))))

-- the wave from s after m steps
unfoldable wave : Network → State → Marking → State → ℕ → State
wave n b a s m (core c) = cond (live a (core c) && turned n b m (core c)) (not (s (core c))) (s (core c))
wave n b a s m (wire k p) =
    cond
    (live a (lead n k p))
    (cond (live a (core (gate k)) && (turned n b m (core (gate k)) && (not (turned n b m (lead n k p)) || older n b m (lead n k p) (core (gate k))))) (turning n a s k p) (cond (turned n b m (lead n k p)) (s (lead n k p)) (s (wire k p))))
    (s (wire k p))

flip_live : (l u v x : Bool) → (u ≡ true → v ≡ true) → cond (l && (not u && v)) (not (cond (l && u) (not x) x)) (cond (l && u) (not x) x) ≡ cond (l && v) (not x) x
flip_live true u v x g = flip_next u v x g
flip_live false u v x g = refl

at_end : (g u i o : Bool) (r x z : Bool) → i ≡ true → (g ≡ true → u ≡ true) → cond (g && (u && (not i || o))) r (cond i x z) ≡ cond (g && o) r x
at_end true true true o r x z e f = refl
at_end true true false o r x z e f = absurd (false≢true e)
at_end true false i o r x z e f = absurd (false≢true (f refl))
at_end false u true o r x z e f = refl
at_end false u false o r x z e f = absurd (false≢true e)

cond_left : (q : Bool) (x y z : Bool) → (q ≡ true → x ≡ y) → cond q x z ≡ cond q y z
cond_left true x y z f = f refl
cond_left false x y z f = refl

-- a gate that is not live takes no part
dull : (i j : Bool) (r x z : Bool) → (i ≡ true → j ≡ true) → cond (not i && j) x (cond i x z) ≡ cond j x z
dull true true r x z g = refl
dull true false r x z g = absurd (false≢true (g refl))
dull false true r x z g = refl
dull false false r x z g = refl

-- the wire's source had turned before
after_source : (u v o : Bool) (r x : Bool) → (u ≡ true → v ≡ true) → cond (not u && v) r (cond (u && o) r x) ≡ cond (v && (o || not u)) r x
after_source true true true r x g = refl
after_source true true false r x g = refl
after_source true false o r x g = absurd (false≢true (g refl))
after_source false true true r x g = refl
after_source false true false r x g = refl
after_source false false o r x g = refl

-- the wire's source turns now
with_source : (v x r : Bool) → x ≡ cond (v && (false || (false || false))) r x
with_source true x r = refl
with_source false x r = refl

-- the wire's source has not turned
before_source : (u v : Bool) (r z : Bool) → (u ≡ true → v ≡ true) → cond (not u && v) r (cond (u && true) r z) ≡ cond (v && true) r z
before_source true true r z g = refl
before_source true false r z g = absurd (false≢true (g refl))
before_source false true r z g = refl
before_source false false r z g = refl

wire_next : (g i j u v o : Bool) (r x z : Bool) → (i ≡ true → j ≡ true) → (u ≡ true → v ≡ true) → (o ≡ true → i ≡ true) → cond (not i && j) x (cond (g && (not u && v)) r (cond (g && (u && (not i || o))) r (cond i x z))) ≡ cond (g && (v && (not j || (o || (i && not u))))) r (cond j x z)
wire_next false i j u v o r x z a c d = dull i j r x z a
wire_next true true true u v o r x z a c d = after_source u v o r x c
wire_next true true false u v o r x z a c d = absurd (false≢true (a refl))
wire_next true false j u v true r x z a c d = absurd (false≢true (d refl))
wire_next true false true u v false r x z a c d = with_source v x r
wire_next true false false u v false r x z a c d = before_source u v r z c

-- the live signals that turn unknown in step m + 1
unfoldable awake : Network → State → Marking → ℕ → Signal → Bool
awake n b a m σ = live a σ && fresh n b m σ

-- a state from which a wave can run
pub record Ready (n : Network) (b : State) (h : ℕ) (a : Marking) (s : State) : Type 0 where
  pub within : Within a s
  pub late : (k p : ℕ) → live a (lead n k p) ≡ true → live a (core (gate k)) ≡ true → older n b h (lead n k p) (core (gate k)) ≡ false → s (wire k p) ≡ not (s (lead n k p))

module _ (n : Network) (b : State) (h : ℕ) (a : Marking) (fixed : (σ : Signal) → excited n a σ ≡ a σ) (found : (σ : Signal) → live a σ ≡ true → turned n b h σ ≡ true) where
  pub live_wire : (k p : ℕ) → live a (wire k p) ≡ live a (lead n k p)
  unfolding live
  live_wire k p = ap unk (sym (fixed (wire k p)) ∙ wire_excited n a k p)

  pub live_here : (σ : Signal) → live a σ ≡ true → present n σ ≡ true
  live_here σ e = by_bit (present n σ) (λ q. q) (λ q. bit_clash (found σ e) (turned_absent n b h σ q))

  live_input : (i : ℕ) → live a (core (input i)) ≡ false
  unfolding live
  live_input i = by_bit (live a (core (input i))) (λ e. settled_unk _ (n.applied i) (sym (fixed (core (input i))) ∙ cond-true _ _ _ (live_here (core (input i)) e))) (λ e. e)

  live_covers : (σ : Signal) (v : Bool) → live a σ ≡ true → Covers (a σ) v
  unfolding live
  live_covers σ v e = unk_covers (a σ) v e

  pub dead_is : (s : State) → Within a s → (σ : Signal) → live a σ ≡ false → a σ ≡ settled (s σ)
  unfolding live
  dead_is s c σ e = unk_settled (a σ) (s σ) (c σ) e

  -- what a live wire follows is a core signal
  live_lead : (k p : ℕ) (P : Signal → Type 0) → ((c : Core) → live a (core c) ≡ true → P (core c)) → live a (lead n k p) ≡ true → P (lead n k p)
  live_lead k p P f = lead_is n k p (λ σ. live a σ ≡ true → P σ) f (λ q e. bit_clash (live_here (wire k p) e) q)

  wave_lead : (s : State) (m k p : ℕ) → live a (lead n k p) ≡ true → wave n b a s m (lead n k p) ≡ cond (turned n b m (lead n k p)) (not (s (lead n k p))) (s (lead n k p))
  unfolding wave
  wave_lead s m k p = live_lead k p (λ σ. wave n b a s m σ ≡ cond (turned n b m σ) (not (s σ)) (s σ)) (λ c e. ap (λ q. cond (q && turned n b m (core c)) (not (s (core c))) (s (core c))) e)

  module _ (s : State) (r : Ready n b h a s) (m : ℕ) where
    awake_live : (σ : Signal) → awake n b a m σ ≡ true → live a σ ≡ true
    unfolding awake
    awake_live σ e = (and_parts (live a σ) (fresh n b m σ) e).0

    awake_fresh : (σ : Signal) → awake n b a m σ ≡ true → fresh n b m σ ≡ true
    unfolding awake
    awake_fresh σ e = (and_parts (live a σ) (fresh n b m σ) e).1

    quiet : Calm n (awake n b a m)
    unfolding awake
    quiet k p q = and_right (live a (wire k p)) (fresh n b m (wire k p)) (fresh_not n b m (wire k p) (turned_absent n b (suc m) (wire k p) q))

    -- where the source is not live, the wire is as it must be
    turning_dead : (k p : ℕ) → live a (lead n k p) ≡ false → turning n a s k p ≡ s (wire k p)
    turning_dead k p e = covers_only _ _ _ (dead_is s r.within (wire k p) (live_wire k p ∙ e)) (witness_covers (n.pins k) (n.function k) (λ q. a (wire k q)) (not (s (core (gate k)))) p)

    wave_dead : (k p : ℕ) → live a (lead n k p) ≡ false → wave n b a s m (wire k p) ≡ s (wire k p)
    unfolding wave
    wave_dead k p e = cond-false _ _ _ e

    -- a wire of a gate that turns now, with a live source, is unstable
    wave_unlike : (k p : ℕ) → awake n b a m (core (gate k)) ≡ true → live a (lead n k p) ≡ true → wave n b a s m (wire k p) ≡ not (wave n b a s m (lead n k p))
    unfolding wave
    wave_unlike k p e l =
        let u = fresh_was n b m (core (gate k)) (awake_fresh (core (gate k)) e) in
        cond-true _ _ _ l
        ∙ cond-false _ _ _ (and_right (live a (core (gate k))) _ (ap (λ q. q && (not (turned n b m (lead n k p)) || older n b m (lead n k p) (core (gate k)))) u))
        ∙ by_bit
        (turned n b m (lead n k p))
        (λ t. cond-true _ _ _ t ∙ sym (ap not (wave_lead s m k p l ∙ cond-true _ _ _ t) ∙ not_not _))
        (λ t. cond-false _ _ _ t ∙ r.late k p l (awake_live (core (gate k)) e) (older_not n b m (lead n k p) (core (gate k)) t (fresh_is n b m (core (gate k)) (awake_fresh (core (gate k)) e)) h) ∙ sym (ap not (wave_lead s m k p l ∙ cond-false _ _ _ t)))

    free : (k p : ℕ) → awake n b a m (core (gate k)) ≡ true → (turning n a s k p ≡ wave n b a s m (wire k p)) ⊎ (turning n a s k p ≡ wave n b a s m (lead n k p))
    free k p e = by_bit (live a (lead n k p)) (λ l. one_of _ _ _ (wave_unlike k p e l)) (λ l. inl (turning_dead k p l ∙ sym (wave_dead k p l)))

    flips : (c : Core) → awake n b a m (core c) ≡ true → excitation n (prepared (wave n b a s m) (awake n b a m) (turning n a s)) (core c) ≡ not (wave n b a s m (core c))
    unfolding wave
    flips (input i) e = bit_clash (awake_live (core (input i)) e) (live_input i)
    flips (gate k) e =
        gate_driven
        n
        a
        (prepared (wave n b a s m) (awake n b a m) (turning n a s))
        k
        (not (s (core (gate k))))
        (live_here (core (gate k)) (awake_live (core (gate k)) e))
        (subst (λ q. Covers q (not (s (core (gate k))))) (sym (fixed (core (gate k)))) (live_covers (core (gate k)) _ (awake_live (core (gate k)) e)))
        (λ p. prepared_set n (wave n b a s m) (awake n b a m) (turning n a s) k p e)
        ∙ ap not (sym (cond-false _ _ _ (and_right (live a (core (gate k))) (turned n b m (core (gate k))) (fresh_was n b m (core (gate k)) (awake_fresh (core (gate k)) e)))))

    next_core : (c : Core) → flipped n (wave n b a s m) (awake n b a m) (turning n a s) (core c) ≡ wave n b a s (suc m) (core c)
    unfolding wave flipped awake fresh
    next_core c = flip_live (live a (core c)) (turned n b m (core c)) (turned n b (suc m) (core c)) (s (core c)) (turned_grows n b m (core c))

    next_live : (k p : ℕ) → live a (lead n k p) ≡ true → flipped n (wave n b a s m) (awake n b a m) (turning n a s) (wire k p) ≡ wave n b a s (suc m) (wire k p)
    unfolding wave flipped awake fresh older
    next_live k p l =
        let g = live a (core (gate k)) in
        let i = turned n b m (lead n k p) in
        let j = turned n b (suc m) (lead n k p) in
        let u = turned n b m (core (gate k)) in
        let v = turned n b (suc m) (core (gate k)) in
        let o = older n b m (lead n k p) (core (gate k)) in
        let Q : Bool → Type 0 = λ q. cond (q && (not i && j)) (s (lead n k p)) (cond (g && (not u && v)) (turning n a s k p) (cond q (cond (g && (u && (not i || o))) (turning n a s k p) (cond i (s (lead n k p)) (s (wire k p)))) (s (wire k p)))) ≡ cond q (cond (g && (v && (not j || (o || (i && not u))))) (turning n a s k p) (cond j (s (lead n k p)) (s (wire k p)))) (s (wire k p)) in
        cond_left (awake n b a m (lead n k p)) _ _ _ (λ e. wave_lead s m k p l ∙ cond-false _ _ _ (fresh_was n b m (lead n k p) (awake_fresh (lead n k p) e)))
        ∙ subst Q (sym l) (wire_next g i j u v o (turning n a s k p) (s (lead n k p)) (s (wire k p)) (turned_grows n b m (lead n k p)) (turned_grows n b m (core (gate k))) (older_turned n b m (lead n k p) (core (gate k))))

    next_dead : (k p : ℕ) → live a (lead n k p) ≡ false → flipped n (wave n b a s m) (awake n b a m) (turning n a s) (wire k p) ≡ wave n b a s (suc m) (wire k p)
    unfolding wave flipped awake
    next_dead k p l =
        cond-false _ _ _ (ap (λ q. q && fresh n b m (lead n k p)) l)
        ∙ by_bit (awake n b a m (core (gate k))) (λ e. cond-true _ _ _ e ∙ turning_dead k p l) (λ e. cond-false _ _ _ e ∙ wave_dead k p l)
        ∙ sym (cond-false _ _ _ l)

    next : (σ : Signal) → flipped n (wave n b a s m) (awake n b a m) (turning n a s) σ ≡ wave n b a s (suc m) σ
    next (core c) = next_core c
    next (wire k p) = by_bit (live a (lead n k p)) (next_live k p) (next_dead k p)

    wave_next : Walk n (wave n b a s m) (wave n b a s (suc m))
    wave_next = subst (λ x. Walk n (wave n b a s m) x) (fun_ext next) (flip_walk n (wave n b a s m) (awake n b a m) (turning n a s) quiet free flips)

  wave_start : (s : State) (σ : Signal) → wave n b a s zero σ ≡ s σ
  unfolding wave
  wave_start s (core c) = cond-false _ _ _ (and_right (live a (core c)) _ (turned_start n b (core c)))
  wave_start s (wire k p) =
      by_bit
      (live a (lead n k p))
      (λ l.
      cond-true _ _ _ l
      ∙ cond-false _ _ _ (and_right (live a (core (gate k))) _ (ap (λ q. q && (not (turned n b zero (lead n k p)) || older n b zero (lead n k p) (core (gate k)))) (turned_start n b (core (gate k)))))
      ∙ cond-false _ _ _ (turned_start n b (lead n k p)))
      (λ l. cond-false _ _ _ l)

  wave_walk : (s : State) → Ready n b h a s → (m : ℕ) → Walk n s (wave n b a s m)
  wave_walk s r zero = subst (λ x. Walk n s x) (sym (fun_ext (wave_start s))) stay
  wave_walk s r (suc m) = joined (wave_walk s r m) (wave_next s r m)

  -- the state after the whole wave
  pub swept : State → State
  swept s = wave n b a s h

  pub swept_core : (s : State) (c : Core) → live a (core c) ≡ true → swept s (core c) ≡ not (s (core c))
  unfolding swept wave
  swept_core s c l = cond-true _ _ _ (ap (λ q. q && turned n b h (core c)) l ∙ found (core c) l)

  swept_dead_core : (s : State) (c : Core) → live a (core c) ≡ false → swept s (core c) ≡ s (core c)
  unfolding swept wave
  swept_dead_core s c l = cond-false _ _ _ (ap (λ q. q && turned n b h (core c)) l)

  pub swept_lead : (s : State) (k p : ℕ) → live a (lead n k p) ≡ true → swept s (lead n k p) ≡ not (s (lead n k p))
  swept_lead s k p l = live_lead k p (λ σ. swept s σ ≡ not (s σ)) (λ c e. swept_core s c e) l

  swept_dead_wire : (s : State) (k p : ℕ) → live a (lead n k p) ≡ false → swept s (wire k p) ≡ s (wire k p)
  unfolding swept wave
  swept_dead_wire s k p l = cond-false _ _ _ l

  swept_live_wire : (s : State) (k p : ℕ) → live a (lead n k p) ≡ true → swept s (wire k p) ≡ cond (live a (core (gate k)) && older n b h (lead n k p) (core (gate k))) (turning n a s k p) (s (lead n k p))
  unfolding swept wave
  swept_live_wire s k p l =
      cond-true _ _ _ l
      ∙ at_end (live a (core (gate k))) (turned n b h (core (gate k))) (turned n b h (lead n k p)) (older n b h (lead n k p) (core (gate k))) (turning n a s k p) (s (lead n k p)) (s (wire k p)) (found (lead n k p) l) (found (core (gate k)))

  -- a wave can run after a wave
  pub swept_ready : (s : State) → Ready n b h a s → Ready n b h a (swept s)
  swept_ready s r = record {
    within = λ σ. by_bit (live a σ) (live_covers σ (swept s σ)) (λ e. subst (λ v. Covers (a σ) v) (sym (swept_dead σ e)) (r.within σ));
    late = λ k p l g o. swept_live_wire s k p l ∙ cond-false _ _ _ (and_right (live a (core (gate k))) _ o) ∙ sym (ap not (swept_lead s k p l) ∙ not_not _);
  }
    where
      swept_dead : (σ : Signal) → live a σ ≡ false → swept s σ ≡ s σ
      swept_dead (core c) e = swept_dead_core s c e
      swept_dead (wire k p) e = swept_dead_wire s k p (sym (live_wire k p) ∙ e)

  twice_core : (s : State) (c : Core) → swept (swept s) (core c) ≡ s (core c)
  twice_core s c = by_bit (live a (core c)) (λ l. swept_core (swept s) c l ∙ ap not (swept_core s c l) ∙ not_not _) (λ l. swept_dead_core (swept s) c l ∙ swept_dead_core s c l)

  twice_lead : (s : State) (k p : ℕ) → live a (lead n k p) ≡ true → swept (swept s) (lead n k p) ≡ s (lead n k p)
  twice_lead s k p l = live_lead k p (λ σ. swept (swept s) σ ≡ s σ) (λ c e. twice_core s c) l

  thrice : (s : State) (σ : Signal) → swept (swept (swept s)) σ ≡ swept s σ
  thrice s (core c) = twice_core (swept s) c
  thrice s (wire k p) =
      by_bit
      (live a (lead n k p))
      (λ l.
      swept_live_wire (swept (swept s)) k p l
      ∙ ap₂ (λ x y. cond (live a (core (gate k)) && older n b h (lead n k p) (core (gate k))) x y) (ap (λ v. witness (n.pins k) (n.function k) (λ q. a (wire k q)) (not v) p) (twice_core s (gate k))) (twice_lead s k p l)
      ∙ sym (swept_live_wire s k p l))
      (λ l. swept_dead_wire (swept (swept s)) k p l ∙ swept_dead_wire (swept s) k p l)

  -- two waves lead from the end of a wave back to it
  pub swept_walk : (s : State) → Ready n b h a s → Walk n s (swept s)
  unfolding swept
  swept_walk s r = wave_walk s r h

  pub swept_back : (s : State) → Ready n b h a s → Walk n (swept (swept s)) (swept s)
  swept_back s r = subst (λ x. Walk n (swept (swept s)) x) (fun_ext (thrice s)) (swept_walk (swept (swept s)) (swept_ready (swept s) (swept_ready s r)))
