-- Cases on bits.
use Rattle.std.proofs.Common.{◌≡◌, Bool, true, false, cond, not, ◌&&◌, ◌⊎◌, sym, refl, ap, ◌∙◌, inl, inr, true≢false}
use mathlib.Core.Bool.{beq, false≢true}

pub by_bit : {A : Type 0} (b : Bool) → (b ≡ true → A) → (b ≡ false → A) → A
by_bit true t f = t refl
by_bit false t f = f refl

pub bit_clash : {A : Type 0} {b : Bool} → b ≡ true → b ≡ false → A
bit_clash t f = absurd (true≢false (sym t ∙ f))

pub not_not : (b : Bool) → not (not b) ≡ b
not_not true = refl
not_not false = refl

pub not_same : (b : Bool) → ¬ (not b ≡ b)
not_same true e = false≢true e
not_same false e = true≢false e

-- two bits that differ
pub other : (a b : Bool) → ¬ (a ≡ b) → a ≡ not b
other true true e = absurd (e refl)
other true false e = refl
other false true e = refl
other false false e = absurd (e refl)

-- a bit is one of two that differ
pub one_of : (a b c : Bool) → b ≡ not c → (a ≡ b) ⊎ (a ≡ c)
one_of true true c e = inl refl
one_of true false true e = inr refl
one_of true false false e = inl (sym e)
one_of false true true e = inl (sym e)
one_of false true false e = inr refl
one_of false false c e = inl refl

pub and_not : (a b : Bool) → (a && not b) ≡ false → a ≡ true → b ≡ true
and_not true true e f = refl
and_not true false e f = absurd (true≢false e)
and_not false b e f = absurd (false≢true f)

pub and_never : (a b : Bool) → b ≡ true → (a && not b) ≡ false
and_never true b e = ap not e
and_never false b e = refl

pub beq_true : (a b : Bool) → beq a b ≡ true → a ≡ b
beq_true true true e = refl
beq_true true false e = sym e
beq_true false true e = e
beq_true false false e = refl

pub beq_false : (a b : Bool) → beq a b ≡ false → a ≡ not b
beq_false true true e = e
beq_false true false e = refl
beq_false false true e = refl
beq_false false false e = sym e

pub beq_not : (a b : Bool) → not a ≡ b → beq a b ≡ false
beq_not true true e = sym e
beq_not true false e = refl
beq_not false true e = refl
beq_not false false e = e

-- a bit u that turns into v, and never back
pub fresh_old : (u v : Bool) → (not u && v) ≡ true → u ≡ false
fresh_old true v e = absurd (false≢true e)
fresh_old false v e = refl

pub fresh_new : (u v : Bool) → (not u && v) ≡ true → v ≡ true
fresh_new true v e = absurd (false≢true e)
fresh_new false v e = e

pub not_fresh : (u v : Bool) → (u ≡ true → v ≡ true) → (not u && v) ≡ false → v ≡ u
not_fresh true true m e = refl
not_fresh true false m e = absurd (false≢true (m refl))
not_fresh false true m e = e
not_fresh false false m e = refl

pub flip_next : (u v x : Bool) → (u ≡ true → v ≡ true) → cond (not u && v) (not (cond u (not x) x)) (cond u (not x) x) ≡ cond v (not x) x
flip_next true true x m = refl
flip_next true false x m = absurd (false≢true (m refl))
flip_next false true x m = refl
flip_next false false x m = refl
