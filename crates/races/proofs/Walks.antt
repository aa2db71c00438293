-- Walks, rounds and outcomes of the lists are those of the network.
use Rattle.std.proofs.Common.{◌≡◌, List, [], ◌∷◌, length, sym, refl, ap, ◌∙◌, subst, inl, inr, ⊎_elim}
use mathlib.Core.Path.{subst_refl, path_j}
use Rattle.gates.specs.Kinds.{Kind}
use Rattle.circuit.specs.Circuits.{Circuit}
use Rattle.circuit.specs.Wiring.{Wired, Joined}
use Rattle.races.specs.Races.{State, Among, last, Step, Walk, Reachable, Round, states, Transient, Outcome}
use Rattle.races.proofs.Named.{network, named, numbered, has}
use Rattle.races.proofs.States.{state, Long, value_is, value_at, stable_up, stable_at, listed, listed_long, state_same, step_long, step_up, step_down}
use Rattle.races.proofs.network.Bits.{by_bit}
use Rattle.races.proofs.network.Networks.{Network, present}
use Rattle.races.proofs.network.Networks as net
use Rattle.races.proofs.network.Races.{On, turn}
use Rattle.races.proofs.network.Races as net_races
use Rattle.races.proofs.network.Choice.{joined, on_from, on_to, absent_stable}

module _ (ks : List Kind) (c : Circuit) (wired : Wired c) (all_joined : Joined c) where
  abbrev n : Network
  n = network ks c

  abbrev up : State → net.State
  up = state ks c

  abbrev down : net.State → State
  down = listed ks c wired all_joined

  step_keeps : (s t : State) → Long c s → Step ks c s t → Long c t
  step_keeps = step_long ks c wired all_joined

  among_long : (s : State) (ts : List State) → Long c s → Walk ks c s ts → (t : State) → Among t (s ∷ ts) → Long c t
  among_long s [] l w t h = ⊎_elim (λ e. ap length e ∙ l) absurd h
  among_long s (u ∷ ts) l w t h = ⊎_elim (λ e. ap length e ∙ l) (λ r. among_long u ts (step_keeps s u l w.0) w.1 t r) h

  last_long : (s : State) (ts : List State) → Long c s → Walk ks c s ts → Long c (last s ts)
  last_long s [] l w = l
  last_long s (t ∷ ts) l w = last_long t ts (step_keeps s t l w.0) w.1

  -- from one long state of a walk on, all are
  onward_long : (s : State) (ts : List State) → Walk ks c s ts → (t : State) → Among t (s ∷ ts) → Long c t → Long c (last s ts)
  onward_long s [] w t h l = ⊎_elim (λ e. sym (ap length e) ∙ l) absurd h
  onward_long s (u ∷ ts) w t h l = ⊎_elim (λ e. last_long s (u ∷ ts) (sym (ap length e) ∙ l) w) (λ r. onward_long u ts w.1 t r l) h

  reach_long : (s t : State) → Long c s → Reachable ks c s t → Long c t
  reach_long s t l r = subst (Long c) r.2 (last_long s r.0 l r.1)

  -- a state of the network that is one of some lists
  abbrev Met : List State → net.State → Type 0
  Met ts x = (t : State) × Among t ts × (x ≡ up t)

  -- a walk of the lists in the network
  abbrev walk_up : (s : State) (ts : List State) → Long c s → Walk ks c s ts → net_races.Walk n (up s) (up (last s ts))
  walk_up s [] l w = net_races.stay
  walk_up s (t ∷ ts) l w = net_races.step (step_up ks c wired all_joined s t l w.0) (walk_up t ts (step_keeps s t l w.0) w.1)

  on_up : (s : State) (ts : List State) (l : Long c s) (w : Walk ks c s ts) (t : State) → Among t (s ∷ ts) → On n (up t) (walk_up s ts l w)
  on_up s [] l w t h = ⊎_elim (λ e. ap up e) absurd h
  on_up s (u ∷ ts) l w t h = ⊎_elim (λ e. inl (ap up e)) (λ r. inr (on_up u ts (step_keeps s u l w.0) w.1 t r)) h

  -- a walk of the network in the lists
  record Down {a z : net.State} (w : net_races.Walk n a z) (s : State) : Type 0 where
    states : List State
    walk : Walk ks c s states
    ends : z ≡ up (last s states)
    met : (x : net.State) → On n x w → Met (s ∷ states) x

  walk_down : {a z : net.State} (w : net_races.Walk n a z) (s : State) → a ≡ up s → Long c s → Down w s
  walk_down net_races.stay s e l = record { states = []; walk = tt; ends = e; met = λ x h. (s, inl refl, h ∙ e) }
  walk_down (net_races.step {t = b} h w) s e l =
      let d = step_down ks c wired all_joined s b l (subst (λ u. net_races.Step n u b) e h) in
      let r = walk_down w (down b) d.1 (listed_long ks c wired all_joined b) in
      record {
        states = down b ∷ r.states;
        walk = (d.0, r.walk);
        ends = r.ends;
        met = λ x. ⊎_elim (λ q. (s, inl refl, q ∙ e)) (λ q. let m = r.met x q in (m.0, inr m.1, m.2));
      }

  pub reach_up : (s t : State) → Long c s → Reachable ks c s t → net_races.Walk n (up s) (up t)
  reach_up s t l r = subst (λ u. net_races.Walk n (up s) (up u)) r.2 (walk_up s r.0 l r.1)

  pub reach_down : (s : State) (z : net.State) → Long c s → net_races.Walk n (up s) z → (t : State) × Reachable ks c s t × (z ≡ up t)
  reach_down s z l w = let d = walk_down w s refl l in (last s d.states, (d.states, d.walk, refl), d.ends)

  -- the end of a walk may be moved along a path
  on_moved : {a : net.State} {t u : State} (e : t ≡ u) (w : net_races.Walk n a (up t)) (x : net.State) → On n x w ≡ On n x (subst (λ y. net_races.Walk n a (up y)) e w)
  on_moved {a} {t} e w x = path_j (λ y p. On n x w ≡ On n x (subst (λ v. net_races.Walk n a (up v)) p w)) (ap (On n x) (sym (subst_refl (λ v. net_races.Walk n a (up v)) w))) e

  -- a round of the lists in the network
  module _ (r : Round ks c) (l : Long c r.first) where
    next_long : Long c r.next
    next_long = step_keeps r.first r.next l r.walk.0

    abbrev round_up : net_races.Round n (up r.first)
    round_up = record {
      next = up r.next;
      begin = step_up ks c wired all_joined r.first r.next l r.walk.0;
      back = subst (λ u. net_races.Walk n (up r.next) (up u)) r.closed (walk_up r.next r.others next_long r.walk.1);
    }

    in_up : (t : State) → Among t (states ks c r) → On n (up t) (turn n (up r.first) round_up)
    in_up t = ⊎_elim (λ e. inl (ap up e)) (λ h. inr (subst (λ A. A) (on_moved r.closed (walk_up r.next r.others next_long r.walk.1) (up t)) (on_up r.next r.others next_long r.walk.1 t h)))

    transient_down : net_races.Transient n (up r.first) round_up → Transient ks c r
    transient_down h =
        let σ = h.signal in
        by_bit (present n σ)
        (λ q. record {
          signal = numbered c σ;
          there = has ks c wired σ q;
          bit = h.value;
          keeps = λ t m. sym (value_is ks c wired all_joined t σ q) ∙ h.keeps (up t) (in_up t m);
          unstable = λ t m st. h.unstable (up t) (in_up t m) (stable_up ks c wired all_joined t (among_long r.first (r.next ∷ r.others) l r.walk t m) σ q st);
        })
        (λ q. absurd (h.unstable (up r.first) (inl refl) (absent_stable n (up r.first) σ q)))

  pub outcome_up : (start o : State) → Long c start → Outcome ks c start o → net_races.Outcome n (up start) (up o)
  outcome_up start o l w =
      let r = w.round in
      let from-long = reach_long start w.from l w.reached in
      let first-long : Long c r.first = subst (Long c) r.closed (onward_long r.first (r.next ∷ r.others) r.walk w.from w.within from-long) in
      let round = turn n (up r.first) (round_up r first-long) in
      let on = in_up r first-long w.from w.within in
      record {
        base = up r.first;
        reached = joined (reach_up start w.from l w.reached) (on_to round on);
        round = round_up r first-long;
        lasting = λ h. w.lasting (transient_down r first-long h);
        after = joined (on_from round on) (reach_up w.from o from-long w.after);
      }

  -- a round of the network in the lists
  module _ (base : State) (l : Long c base) (b : net.State) (e : b ≡ up base) (r : net_races.Round n b) where
    first_down : Step ks c base (down r.next) × (r.next ≡ up (down r.next))
    first_down = step_down ks c wired all_joined base r.next l (subst (λ u. net_races.Step n u r.next) e r.begin)

    next_down : Long c (down r.next)
    next_down = listed_long ks c wired all_joined r.next

    rest_down : Down r.back (down r.next)
    rest_down = walk_down r.back (down r.next) first_down.1 next_down

    abbrev round_down : Round ks c
    round_down = record {
      first = base;
      next = down r.next;
      others = rest_down.states;
      walk = (first_down.0, rest_down.walk);
      closed = state_same ks c wired all_joined _ base (last_long _ rest_down.states next_down rest_down.walk) l (sym rest_down.ends ∙ e);
    }

    met_down : (x : net.State) → On n x (turn n b r) → Met (states ks c round_down) x
    met_down x h = ⊎_elim (λ q. (base, inl refl, q ∙ e)) (λ q. let m = rest_down.met x q in (m.0, inr m.1, m.2)) h

    round_long : (t : State) → Among t (states ks c round_down) → Long c t
    round_long = among_long base (round_down.next ∷ round_down.others) l round_down.walk

    transient_up : Transient ks c round_down → net_races.Transient n b r
    transient_up h =
        let x = h.signal in
        record {
          signal = named c x;
          value = h.bit;
          keeps = λ s i. let m = met_down s i in ap (λ u. u (named c x)) m.2 ∙ value_at ks c wired all_joined m.0 x h.there ∙ h.keeps m.0 m.1;
          unstable = λ s i st.
              let m = met_down s i in
              h.unstable m.0 m.1 (stable_at ks c wired all_joined m.0 (round_long m.0 m.1) x h.there (subst (λ u. net_races.Stable n u (named c x)) m.2 st));
        }

  pub outcome_down : (start : State) (o : net.State) → Long c start → net_races.Outcome n (up start) o → (t : State) × Outcome ks c start t × (o ≡ up t)
  outcome_down start o l w =
      let d = reach_down start w.base l w.reached in
      let base = d.0 in
      let base-long = reach_long start base l d.1 in
      let a = reach_down base o base-long (subst (λ u. net_races.Walk n u o) d.2 w.after) in (
        a.0,
        record {
          round = round_down base base-long w.base d.2 w.round;
          lasting = λ h. w.lasting (transient_up base base-long w.base d.2 w.round h);
          from = base;
          within = inl refl;
          reached = d.1;
          after = a.1;
        },
        a.2,
      )

  pub outcome_long : (start o : State) → Long c start → Outcome ks c start o → Long c o
  outcome_long start o l w = reach_long w.from o (reach_long start w.from l w.reached) w.after
