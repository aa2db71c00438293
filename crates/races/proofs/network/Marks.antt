-- What marks cover: their order, and bits that make a function take a value its extension covers.
use Rattle.std.proofs.Common.{◌≡◌, ℕ, zero, suc, Bool, true, false, List, [], ◌∷◌, sym, refl, ap, ◌∙◌, subst, true≢false}
use mathlib.Core.Bool.{false≢true}
use Rattle.std.proofs.lemmas.Bool.{or_left, or_right}
use Rattle.gates.specs.declared.Mark.{Mark}
use Rattle.gates.specs.declared.Mark.TheVariants.{Zero, One, Unknown}
use Rattle.gates.specs.Marks.{settled, covers, lub, extended, Covered}
use Rattle.gates.proofs.Exact.{covers_settled, covers_lub, taken, covers_taken}
use Rattle.races.proofs.network.Bits.{by_bit, bit_clash}
use Rattle.races.proofs.network.Networks.{row}

abbrev pub Covers : Mark → Bool → Type 0
Covers m v = covers m v ≡ true

-- the order of marks: whatever the first covers the second covers
abbrev pub ◌⊑◌ : Mark → Mark → Type 0
m ⊑ k = (v : Bool) → Covers m v → Covers k v

infix 40 ◌⊑◌
pub lub_left : (m k : Mark) → m ⊑ lub m k
lub_left m k v c = covers_lub m k v ∙ or_left _ _ c

pub lub_right : (m k : Mark) → k ⊑ lub m k
lub_right m k v c = covers_lub m k v ∙ or_right _ _ c

pub lub_same : (m : Mark) → lub m m ≡ m
lub_same Zero = refl
lub_same One = refl
lub_same Unknown = refl

-- a settled mark covers its value alone
pub covers_only : (m : Mark) (a v : Bool) → m ≡ settled a → Covers m v → v ≡ a
covers_only m a v e c = sym (covers_settled a v (sym (ap (λ k. covers k v) e) ∙ c))

-- whether a mark is unknown
abbrev pub unk : Mark → Bool
unk Zero = false
unk One = false
unk Unknown = true

unk_unknown : (m : Mark) → unk m ≡ true → m ≡ Unknown
unk_unknown Zero e = absurd (false≢true e)
unk_unknown One e = absurd (false≢true e)
unk_unknown Unknown e = refl

pub unk_covers : (m : Mark) (v : Bool) → unk m ≡ true → Covers m v
unk_covers m v e = ap (λ k. covers k v) (unk_unknown m e)

-- a mark that covers both values is unknown
both_unk : (m : Mark) → Covers m true → Covers m false → unk m ≡ true
both_unk Zero p q = p
both_unk One p q = q
both_unk Unknown p q = refl

pub unk_below : (m k : Mark) → m ⊑ k → unk m ≡ true → unk k ≡ true
unk_below m k le e = both_unk k (le true (unk_covers m true e)) (le false (unk_covers m false e))

-- a mark that is not unknown is settled at the value that it covers
pub unk_settled : (m : Mark) (v : Bool) → Covers m v → unk m ≡ false → m ≡ settled v
unk_settled Zero true c e = absurd (false≢true c)
unk_settled Zero false c e = refl
unk_settled One true c e = refl
unk_settled One false c e = absurd (false≢true c)
unk_settled Unknown v c e = absurd (true≢false e)

unk_settled_no : (v : Bool) → unk (settled v) ≡ false
unk_settled_no true = refl
unk_settled_no false = refl

pub settled_unk : (m : Mark) (v : Bool) → m ≡ settled v → unk m ≡ false
settled_unk m v e = ap unk e ∙ unk_settled_no v

-- some bit that a mark covers
pub some_bit : (m : Mark) → (v : Bool) × Covers m v
some_bit Zero = (false, refl)
some_bit One = (true, refl)
some_bit Unknown = (true, refl)

-- bits for the first places, and then some that are covered
abbrev filled : List Bool → (ℕ → Mark) → ℕ → Bool
filled [] w p = (some_bit (w p)).0
filled (b ∷ bits) w zero = b
filled (b ∷ bits) w (suc p) = filled bits (λ q. w (suc q)) p

filled_covers : (m : ℕ) (w : ℕ → Mark) (bits : List Bool) → Covered (row m w) bits → (p : ℕ) → Covers (w p) (filled bits w p)
filled_covers m w [] c p = (some_bit (w p)).1
filled_covers zero w (b ∷ bits) c p = absurd c
filled_covers (suc m) w (b ∷ bits) c zero = c.0
filled_covers (suc m) w (b ∷ bits) c (suc p) = filled_covers m (λ q. w (suc q)) bits c.1 p

filled_row : (m : ℕ) (w : ℕ → Mark) (bits : List Bool) → Covered (row m w) bits → row m (filled bits w) ≡ bits
filled_row zero w [] c = refl
filled_row zero w (b ∷ bits) c = absurd c
filled_row (suc m) w [] c = absurd c
filled_row (suc m) w (b ∷ bits) c = ap (λ l. b ∷ l) (filled_row m (λ q. w (suc q)) bits c.1)

-- bits that the marks cover, and at which f is v if there are any
record Witness (m : ℕ) (f : List Bool → Bool) (w : ℕ → Mark) (v : Bool) : Type 0 where
  bits : ℕ → Bool
  within : (p : ℕ) → Covers (w p) (bits p)
  right : Covers (extended f (row m w)) v → f (row m bits) ≡ v

witnessed : (m : ℕ) (f : List Bool → Bool) (w : ℕ → Mark) (v : Bool) → Witness m f w v
witnessed m f w v =
    by_bit
    (covers (extended f (row m w)) v)
    (λ c.
    let t = taken f (row m w) v c in
    record { bits = filled t.0 w; within = filled_covers m w t.0 t.1; right = λ _. ap f (filled_row m w t.0 t.1) ∙ t.2 })
    (λ e. record { bits = λ p. (some_bit (w p)).0; within = λ p. (some_bit (w p)).1; right = λ c. bit_clash c e })

pub witness : ℕ → (List Bool → Bool) → (ℕ → Mark) → Bool → ℕ → Bool
witness m f w v = (witnessed m f w v).bits

module _ (m : ℕ) (f : List Bool → Bool) (w : ℕ → Mark) (v : Bool) where
  pub witness_covers : (p : ℕ) → Covers (w p) (witness m f w v p)
  unfolding witness
  witness_covers = (witnessed m f w v).within

  pub witness_right : Covers (extended f (row m w)) v → f (row m (witness m f w v)) ≡ v
  unfolding witness
  witness_right = (witnessed m f w v).right

row_covered : (m : ℕ) (w : ℕ → Mark) (u : ℕ → Bool) → ((p : ℕ) → Covers (w p) (u p)) → Covered (row m w) (row m u)
row_covered zero w u c = tt
row_covered (suc m) w u c = (c zero, row_covered m (λ p. w (suc p)) (λ p. u (suc p)) (λ p. c (suc p)))

-- the extension covers what f gives on covered bits
pub extended_covers : (m : ℕ) (f : List Bool → Bool) (w : ℕ → Mark) (u : ℕ → Bool) → ((p : ℕ) → Covers (w p) (u p)) → Covers (extended f (row m w)) (f (row m u))
extended_covers m f w u c = covers_taken f (row m w) (row m u) (row_covered m w u c)

-- the extension is monotone
pub extended_mono : (m : ℕ) (f : List Bool → Bool) (w x : ℕ → Mark) → ((p : ℕ) → w p ⊑ x p) → extended f (row m w) ⊑ extended f (row m x)
extended_mono m f w x le v c =
    let u : ℕ → Bool = witness m f w v in
    subst (Covers (extended f (row m x))) (witness_right m f w v c) (extended_covers m f x u (λ p. le p (u p) (witness_covers m f w v p)))
