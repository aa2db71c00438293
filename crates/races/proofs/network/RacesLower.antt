-- Along the races, lower bound: each value that a first mark covers is reached.
use Rattle.std.proofs.Common.{◌≡◌, ℕ, zero, suc, Bool, true, false, cond, not, ◌&&◌, ◌⊎◌, sym, refl, ap, ◌∙◌, subst, inl, inr}
use mathlib.Core.Path.{fun_ext}
use mathlib.Core.Bool.{beq, Bool-discrete}
use Rattle.std.proofs.lemmas.Bool.{cond-true, cond-false, and_right}
use Rattle.gates.proofs.Exact.{covers_settled}
use Rattle.races.proofs.network.Networks.{Network, State, Marking, Core, Signal, core, wire, input, gate, present, excitation, excited, row, lead, wire_follows}
use Rattle.races.proofs.network.Races.{Walk, stay}
use Rattle.races.proofs.network.Passes.{first, Takes}
use Rattle.races.proofs.network.Bits.{by_bit, bit_clash, one_of, flip_next, fresh_old, fresh_new, not_fresh, and_not, not_not, beq_true, beq_false, other}
use Rattle.races.proofs.network.Marks.{Covers, covers_only, witness, witness_covers, witness_right}
use Rattle.races.proofs.network.Choice.{joined, choice}
use Rattle.races.proofs.network.Flips.{prepared, flipped, Calm, flip_walk, lead_is, lead_fresh, lead_calm, wire_fresh, wire_calm, core_flipped, prepared_set}
use Rattle.races.proofs.network.Turned.{turned, older, loose, turned_settled, turned_start, turned_grows, turned_next, turned_absent, turned_before, turned_loose, loose_turned, loose_same, loose_lead, loose_start, older_none}

-- wires set to a witness drive their gate to what was wanted
pub gate_driven : (n : Network) (a : Marking) (x : State) (j : ℕ) (v : Bool) → present n (core (gate j)) ≡ true → Covers (excited n a (core (gate j))) v → ((p : ℕ) → x (wire j p) ≡ witness (n.pins j) (n.function j) (λ q. a (wire j q)) v p) → excitation n x (core (gate j)) ≡ v
gate_driven n a x j v here c set =
    cond-true _ _ _ here ∙ ap (λ w. n.function j (row (n.pins j) w)) (fun_ext set) ∙ witness_right (n.pins j) (n.function j) (λ q. a (wire j q)) v (subst (λ m. Covers m v) (cond-true _ _ _ here) c)

input_driven : (n : Network) (a : Marking) (x : State) (i : ℕ) (v : Bool) → present n (core (input i)) ≡ true → Covers (excited n a (core (input i))) v → excitation n x (core (input i)) ≡ v
input_driven n a x i v here c = cond-true _ _ _ here ∙ covers_settled (n.applied i) v (subst (λ m. Covers m v) (cond-true _ _ _ here) c)

-- a reached state in which just the core signals that are unknown after h steps have flipped, and which can go on
pub record Front (n : Network) (b : State) (h : ℕ) (s : State) : Type 0 where
  pub walk : Walk n b s
  pub cores : (c : Core) → s (core c) ≡ cond (turned n b h (core c)) (not (b (core c))) (b (core c))
  -- a settled gate's wires: the loose ones are unstable, and so free to move, the others as at the start
  pub ready : (k p : ℕ) → turned n b h (core (gate k)) ≡ false → s (wire k p) ≡ cond (loose n b h k p) (not (s (lead n k p))) (b (wire k p))
  -- an unknown gate's wires are unstable where their source did not turn unknown before the gate
  pub late : (k p : ℕ) → turned n b h (lead n k p) ≡ true → turned n b h (core (gate k)) ≡ true → older n b h (lead n k p) (core (gate k)) ≡ false → s (wire k p) ≡ not (s (lead n k p))

front_start : (n : Network) (b : State) → Front n b zero b
front_start n b = record {
  walk = stay;
  cores = λ c. sym (cond-false _ _ _ (turned_start n b (core c)));
  ready = λ k p e. loose_start n b k p;
  late = λ k p e d o. bit_clash e (turned_start n b (lead n k p));
}

-- the signals that turn unknown in step h + 1
unfoldable pub fresh : Network → State → ℕ → Signal → Bool
fresh n b h σ = not (turned n b h σ) && turned n b (suc h) σ

-- bits at which gate k would flip
abbrev chosen : Network → State → ℕ → ℕ → ℕ → Bool
chosen n b h k = witness (n.pins k) (n.function k) (λ p. first n b h (wire k p)) (not (b (core (gate k))))

module _ (n : Network) (b : State) (h : ℕ) where
  pub fresh_was : (σ : Signal) → fresh n b h σ ≡ true → turned n b h σ ≡ false
  unfolding fresh
  fresh_was σ e = fresh_old (turned n b h σ) (turned n b (suc h) σ) e

  pub fresh_is : (σ : Signal) → fresh n b h σ ≡ true → turned n b (suc h) σ ≡ true
  unfolding fresh
  fresh_is σ e = fresh_new (turned n b h σ) (turned n b (suc h) σ) e

  fresh_no : (σ : Signal) → fresh n b h σ ≡ false → turned n b (suc h) σ ≡ turned n b h σ
  unfolding fresh
  fresh_no σ e = not_fresh (turned n b h σ) (turned n b (suc h) σ) (turned_grows n b h σ) e

  pub fresh_not : (σ : Signal) → turned n b (suc h) σ ≡ false → fresh n b h σ ≡ false
  unfolding fresh
  fresh_not σ e = and_right (not (turned n b h σ)) (turned n b (suc h) σ) e

  fresh_past : (σ : Signal) → turned n b h σ ≡ true → fresh n b h σ ≡ false
  unfolding fresh
  fresh_past σ e = ap (λ q. not q && turned n b (suc h) σ) e

  module _ (s : State) (f : Front n b h s) where
    calm : Calm n (fresh n b h)
    calm k p a = fresh_not (wire k p) (turned_absent n b (suc h) (wire k p) a)

    free : (k p : ℕ) → fresh n b h (core (gate k)) ≡ true → (chosen n b h k p ≡ s (wire k p)) ⊎ (chosen n b h k p ≡ s (lead n k p))
    free k p e =
        let r = f.ready k p (fresh_was (core (gate k)) e) in
        by_bit
        (loose n b h k p)
        (λ l. one_of _ _ _ (r ∙ cond-true _ _ _ l))
        (λ l.
        inl (covers_only _ _ _ (turned_settled n b h (wire k p) (tight l)) (witness_covers (n.pins k) (n.function k) (λ q. first n b h (wire k q)) (not (b (core (gate k)))) p) ∙ sym (r ∙ cond-false _ _ _ l)))
      where
        tight : loose n b h k p ≡ false → turned n b h (wire k p) ≡ false
        tight l = by_bit (turned n b h (wire k p)) (λ t. bit_clash (turned_loose n b h k p t) l) (λ t. t)

    was : (c : Core) → fresh n b h (core c) ≡ true → s (core c) ≡ b (core c)
    was c e = f.cores c ∙ cond-false _ _ _ (fresh_was (core c) e)

    here : (c : Core) → fresh n b h (core c) ≡ true → present n (core c) ≡ true
    here c e = by_bit (present n (core c)) (λ a. a) (λ a. bit_clash (fresh_is (core c) e) (turned_absent n b (suc h) (core c) a))

    flips : (c : Core) → fresh n b h (core c) ≡ true → excitation n (prepared s (fresh n b h) (chosen n b h)) (core c) ≡ not (s (core c))
    flips (input i) e = input_driven n (first n b h) (prepared s (fresh n b h) (chosen n b h)) i _ (here (input i) e) (turned_next n b h (core (input i)) (fresh_was _ e) (fresh_is _ e)) ∙ ap not (sym (was (input i) e))
    flips (gate j) e =
        gate_driven n (first n b h) (prepared s (fresh n b h) (chosen n b h)) j _ (here (gate j) e) (turned_next n b h (core (gate j)) (fresh_was _ e) (fresh_is _ e)) (λ p. prepared_set n s (fresh n b h) (chosen n b h) j p e) ∙ ap not (sym (was (gate j) e))

    abbrev after : State
    after = flipped n s (fresh n b h) (chosen n b h)

    next_cores : (c : Core) → after (core c) ≡ cond (turned n b (suc h) (core c)) (not (b (core c))) (b (core c))
    unfolding fresh
    next_cores c =
        core_flipped n s (fresh n b h) (chosen n b h) c
        ∙ ap (λ q. cond (fresh n b h (core c)) (not q) q) (f.cores c)
        ∙ flip_next (turned n b h (core c)) (turned n b (suc h) (core c)) (b (core c)) (turned_grows n b h (core c))

    next_ready : (k p : ℕ) → turned n b (suc h) (core (gate k)) ≡ false → after (wire k p) ≡ cond (loose n b (suc h) k p) (not (after (lead n k p))) (b (wire k p))
    next_ready k p e =
        let g = fresh_not (core (gate k)) e in
        by_bit
        (fresh n b h (lead n k p))
        (λ d.
        wire_fresh n s (fresh n b h) (chosen n b h) k p d
        ∙ sym (cond-true _ _ _ (loose_turned n b (suc h) k p (fresh_is (lead n k p) d)) ∙ ap not (lead_fresh n s (fresh n b h) (chosen n b h) calm k p d) ∙ not_not _))
        (λ d.
        wire_calm n s (fresh n b h) (chosen n b h) k p g d
        ∙ f.ready k p (turned_before n b h (core (gate k)) e)
        ∙ ap (λ q. cond q (not (s (lead n k p))) (b (wire k p))) (sym (loose_same n b h k p (fresh_no (lead n k p) d)))
        ∙ ap (λ q. cond (loose n b (suc h) k p) (not q) (b (wire k p))) (sym (lead_calm n s (fresh n b h) (chosen n b h) k p g d)))

    next_late : (k p : ℕ) → turned n b (suc h) (lead n k p) ≡ true → turned n b (suc h) (core (gate k)) ≡ true → older n b (suc h) (lead n k p) (core (gate k)) ≡ false → after (wire k p) ≡ not (after (lead n k p))
    next_late k p e _ o =
        by_bit
        (fresh n b h (lead n k p))
        (λ d.
        wire_fresh n s (fresh n b h) (chosen n b h) k p d ∙ sym (ap not (lead_fresh n s (fresh n b h) (chosen n b h) calm k p d) ∙ not_not _))
        (λ d.
        let (young, order) = older_none n b h (lead n k p) (core (gate k)) o in
        let i : turned n b h (lead n k p) ≡ true = sym (fresh_no (lead n k p) d) ∙ e in
        let g : turned n b h (core (gate k)) ≡ true = and_not _ _ order i in
        let q = fresh_past (core (gate k)) g in
        wire_calm n s (fresh n b h) (chosen n b h) k p q d ∙ f.late k p i g young ∙ ap not (sym (lead_calm n s (fresh n b h) (chosen n b h) k p q d)))

    front_next : Front n b (suc h) after
    front_next = record {
      walk = joined f.walk (flip_walk n s (fresh n b h) (chosen n b h) calm free flips);
      cores = next_cores;
      ready = next_ready;
      late = next_late;
    }

-- there is such a state after each step
pub front : (n : Network) (b : State) (h : ℕ) → (s : State) × Front n b h s
front n b zero = (b, front_start n b)
front n b (suc h) = let (s, f) = front n b h in (_, front_next n b h s f)

-- all wires take what they follow
unfoldable pub follow : Network → State → State
follow n s (core c) = s (core c)
follow n s (wire k p) = s (lead n k p)

pub follow_walk : (n : Network) (s : State) → Walk n s (follow n s)
unfolding follow
follow_walk n s = choice n s (follow n s) ok
  where
    ok : (σ : Signal) → (follow n s σ ≡ s σ) ⊎ (follow n s σ ≡ excitation n s σ)
    ok (core c) = inl refl
    ok (wire k p) = inr (sym (wire_follows n s k p))

pub follow_wire : (n : Network) (s : State) (k p : ℕ) → follow n s (wire k p) ≡ s (lead n k p)
unfolding follow
follow_wire n s k p = refl

-- each value that a mark covers is reached
module _ (n : Network) (b : State) (h : ℕ) where
  front_lead : (s : State) → Front n b h s → (k p : ℕ) → turned n b h (lead n k p) ≡ true → s (lead n k p) ≡ not (b (lead n k p))
  front_lead s f k p = lead_is n k p (λ σ. turned n b h σ ≡ true → s σ ≡ not (b σ)) (λ c e. f.cores c ∙ cond-true _ _ _ e) (λ a e. bit_clash e (turned_absent n b h (wire k p) a))

  reached : (σ : Signal) → turned n b h σ ≡ true → Takes (λ s. Walk n b s) σ (not (b σ))
  reached (core c) e = let (s, f) = front n b h in (s, f.walk, f.cores c ∙ cond-true _ _ _ e)
  reached (wire k p) e =
      by_bit
      (beq (b (wire k p)) (b (lead n k p)))
      (λ q.
      let (s, f) = front n b h in
      let i = loose_lead n b h k p (turned_loose n b h k p e) q in
      (follow n s, joined f.walk (follow_walk n s), follow_wire n s k p ∙ front_lead s f k p i ∙ ap not (sym (beq_true _ _ q))))
      (λ q. (follow n b, follow_walk n b, follow_wire n b k p ∙ sym (ap not (beq_false _ _ q) ∙ not_not _)))

  pub races_lower : (σ : Signal) (v : Bool) → Covers (first n b h σ) v → Takes (λ s. Walk n b s) σ v
  races_lower σ v c =
      by_bit
      (turned n b h σ)
      (λ e. elim (Bool-discrete v (b σ)) [ yes q ↦ (b, stay, sym q) | no q ↦ let (s, w, is) = reached σ e in (s, w, is ∙ sym (other v (b σ) q)) ])
      (λ e. (b, stay, sym (covers_only _ _ _ (turned_settled n b h σ e) c)))
