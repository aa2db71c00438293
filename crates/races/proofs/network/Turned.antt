-- Which signals have turned unknown in the first pass, and which before which.
use Rattle.std.proofs.Common.{◌≡◌, ℕ, zero, suc, ◌≤◌, Bool, true, false, cond, not, ◌&&◌, ◌||◌, sym, refl, ap, ◌∙◌, subst, inl, inr, arith}
use mathlib.Core.Bool.{beq, false≢true}
use native.Mathlib.Decide.{ℕ_discrete, dec_le}
use Rattle.std.proofs.lemmas.Bool.{and_parts, or_cases, or_parts, or_from, or_right}
use Rattle.gates.specs.declared.Mark.{Mark}
use Rattle.gates.specs.declared.Mark.TheVariants.{Zero, One, Unknown}
use Rattle.gates.specs.Marks.{settled, lub}
use Rattle.races.proofs.network.Networks.{Network, State, Signal, wire, present, excited, absent_excited, lead, wire_excited}
use Rattle.races.proofs.network.Passes.{first}
use Rattle.races.proofs.network.Bits.{by_bit, bit_clash, and_never, beq_not}
use Rattle.races.proofs.network.Marks.{Covers, covers_only, lub_same, unk, unk_settled, settled_unk}
use Rattle.races.proofs.network.RacesUpper.{first_start}

unk_lub : (m k : Mark) → unk m ≡ true → unk (lub m k) ≡ true
unk_lub Zero k e = absurd (false≢true e)
unk_lub One k e = absurd (false≢true e)
unk_lub Unknown k e = refl

-- a settled mark that turns unknown is driven to the other value too
unk_next : (m k : Mark) (v : Bool) → m ≡ settled v → unk (lub m k) ≡ true → Covers k (not v)
unk_next m k v e u = go v k (subst (λ x. unk (lub x k) ≡ true) e u)
  where
    go : (v : Bool) (k : Mark) → unk (lub (settled v) k) ≡ true → Covers k (not v)
    go true Zero u = refl
    go true One u = u
    go false Zero u = u
    go false One u = refl
    go true Unknown u = refl
    go false Unknown u = refl

-- σ is unknown after h steps of the first pass
unfoldable pub turned : Network → State → ℕ → Signal → Bool
turned n b h σ = unk (first n b h σ)

-- i was unknown before k was, within h steps
unfoldable pub older : Network → State → ℕ → Signal → Signal → Bool
older n b zero i k = false
older n b (suc h) i k = older n b h i k || (turned n b h i && not (turned n b h k))

-- the wire at pin p of gate k began unlike what it follows, or that is unknown
unfoldable pub loose : Network → State → ℕ → ℕ → ℕ → Bool
loose n b h k p = turned n b h (lead n k p) || not (beq (b (wire k p)) (b (lead n k p)))

module _ (n : Network) (b : State) where
  pub turned_settled : (h : ℕ) (σ : Signal) → turned n b h σ ≡ false → first n b h σ ≡ settled (b σ)
  unfolding turned
  turned_settled h σ e = unk_settled (first n b h σ) (b σ) (first_start n b h σ) e

  pub turned_start : (σ : Signal) → turned n b zero σ ≡ false
  unfolding turned
  turned_start σ = settled_unk _ (b σ) refl

  pub turned_grows : (h : ℕ) (σ : Signal) → turned n b h σ ≡ true → turned n b (suc h) σ ≡ true
  unfolding turned
  turned_grows h σ e = unk_lub (first n b h σ) (excited n (first n b h) σ) e

  pub turned_next : (h : ℕ) (σ : Signal) → turned n b h σ ≡ false → turned n b (suc h) σ ≡ true → Covers (excited n (first n b h) σ) (not (b σ))
  unfolding turned
  turned_next h σ e d = unk_next (first n b h σ) (excited n (first n b h) σ) (b σ) (turned_settled h σ e) d

  pub turned_absent : (h : ℕ) (σ : Signal) → present n σ ≡ false → turned n b h σ ≡ false
  unfolding turned
  turned_absent zero σ a = turned_start σ
  turned_absent (suc h) σ a = ap unk (ap (λ m. lub (first n b h σ) m) (absent_excited n (first n b h) σ a) ∙ lub_same (first n b h σ)) ∙ turned_absent h σ a

  pub older_turned : (h : ℕ) (i k : Signal) → older n b h i k ≡ true → turned n b h i ≡ true
  unfolding older
  older_turned zero i k e = absurd (false≢true e)
  older_turned (suc h) i k e =
      turned_grows h i (elim (or_cases (older n b h i k) (turned n b h i && not (turned n b h k)) e) [ inl o ↦ older_turned h i k o | inr o ↦ (and_parts (turned n b h i) (not (turned n b h k)) o).0 ])

  pub turned_before : (h : ℕ) (σ : Signal) → turned n b (suc h) σ ≡ false → turned n b h σ ≡ false
  turned_before h σ d = by_bit (turned n b h σ) (λ e. bit_clash (turned_grows h σ e) d) (λ e. e)

  -- a wire that is unknown is loose
  loose_began : (h k p : ℕ) → beq (b (wire k p)) (b (lead n k p)) ≡ false → loose n b h k p ≡ true
  unfolding loose
  loose_began h k p e = or_right (turned n b h (lead n k p)) (not (beq (b (wire k p)) (b (lead n k p)))) (ap not e)

  pub loose_turned : (h k p : ℕ) → turned n b h (lead n k p) ≡ true → loose n b h k p ≡ true
  unfolding loose
  loose_turned h k p d = ap (λ q. q || not (beq (b (wire k p)) (b (lead n k p)))) d

  loose_grows : (h k p : ℕ) → loose n b h k p ≡ true → loose n b (suc h) k p ≡ true
  unfolding loose
  loose_grows h k p e = elim (or_cases (turned n b h (lead n k p)) (not (beq (b (wire k p)) (b (lead n k p)))) e) [ inl d ↦ loose_turned (suc h) k p (turned_grows h (lead n k p) d) | inr d ↦ or_right (turned n b (suc h) (lead n k p)) (not (beq (b (wire k p)) (b (lead n k p)))) d ]

  pub turned_loose : (h k p : ℕ) → turned n b h (wire k p) ≡ true → loose n b h k p ≡ true
  turned_loose zero k p e = bit_clash e (turned_start (wire k p))
  turned_loose (suc h) k p e =
      by_bit
      (turned n b h (wire k p))
      (λ d. loose_grows h k p (turned_loose h k p d))
      (λ d.
      by_bit
      (turned n b h (lead n k p))
      (λ g. loose_turned (suc h) k p (turned_grows h (lead n k p) g))
      (λ g. loose_began (suc h) k p (beq_not _ _ (covers_only _ _ _ (wire_excited n (first n b h) k p ∙ turned_settled h (lead n k p) g) (turned_next h (wire k p) d e)))))

  pub older_none : (h : ℕ) (i k : Signal) → older n b (suc h) i k ≡ false → (older n b h i k ≡ false) × ((turned n b h i && not (turned n b h k)) ≡ false)
  unfolding older
  older_none h i k e = or_parts (older n b h i k) (turned n b h i && not (turned n b h k)) e

  pub loose_same : (h : ℕ) (k p : ℕ) → turned n b (suc h) (lead n k p) ≡ turned n b h (lead n k p) → loose n b (suc h) k p ≡ loose n b h k p
  unfolding loose
  loose_same h k p e = ap (λ q. q || not (beq (b (wire k p)) (b (lead n k p)))) e

  pub loose_lead : (h k p : ℕ) → loose n b h k p ≡ true → beq (b (wire k p)) (b (lead n k p)) ≡ true → turned n b h (lead n k p) ≡ true
  unfolding loose
  loose_lead h k p l q = elim (or_cases (turned n b h (lead n k p)) (not (beq (b (wire k p)) (b (lead n k p)))) l) [ inl d ↦ d | inr d ↦ bit_clash d (ap not q) ]

  pub loose_start : (k p : ℕ) → b (wire k p) ≡ cond (loose n b zero k p) (not (b (lead n k p))) (b (wire k p))
  unfolding loose
  loose_start k p = go (b (wire k p)) (b (lead n k p)) ∙ ap (λ q. cond (q || not (beq (b (wire k p)) (b (lead n k p)))) (not (b (lead n k p))) (b (wire k p))) (sym (turned_start (lead n k p)))
    where
      go : (x y : Bool) → x ≡ cond (not (beq x y)) (not y) x
      go true true = refl
      go true false = refl
      go false true = refl
      go false false = refl

  turned_later : (σ : Signal) (a c : ℕ) → a ≤ c → turned n b a σ ≡ true → turned n b c σ ≡ true
  turned_later σ a zero le e = subst (λ x. turned n b x σ ≡ true) (eq_zero a le) e
    where
      eq_zero : (a : ℕ) → a ≤ zero → a ≡ zero
      eq_zero a le = omega arith
  turned_later σ a (suc c) le e = elim (ℕ_discrete a (suc c)) [ yes q ↦ subst (λ x. turned n b x σ ≡ true) q e | no q ↦ turned_grows c σ (turned_later σ a c (omega arith) e) ]

  -- k has turned by the time that i can
  pub older_not : (m : ℕ) (i k : Signal) → turned n b m i ≡ false → turned n b (suc m) k ≡ true → (h : ℕ) → older n b h i k ≡ false
  unfolding older
  older_not m i k e d zero = refl
  older_not m i k e d (suc h) = or_from (older n b h i k) (turned n b h i && not (turned n b h k)) (older_not m i k e d h) (by_bit (turned n b h i) (λ t. and_never (turned n b h i) (turned n b h k) (turned_later k (suc m) h (later t) d)) (λ t. ap (λ q. q && not (turned n b h k)) t))
    where
      later : turned n b h i ≡ true → suc m ≤ h
      later t = elim (dec_le (suc m) h) [ yes q ↦ q | no q ↦ bit_clash (turned_later i h m (omega arith) t) e ]
