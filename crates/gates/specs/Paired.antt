-- The complementing library's list of kinds.
use Rattle.std.specs.Prelude.{◌≡◌, ℕ, zero, suc, ◌*◌, ◌/◌, ◌%◌, ◌<◌, ◌≤◌, min, Bool, true, false, cond, not, List, [], ◌∷◌, length, take, Some, None, Option, ◌==◌, ◌≢◌, nat_lt, refl}
use Rattle.std.proofs.Common.{ap, ◌∙◌, arith, length-take}
use Rattle.std.proofs.lemmas.Bool.{ltb-true, ltb-false, eqb-true, eqb-false}
use Rattle.std.specs.Option.{option_map}
use Rattle.std.specs.Bool.{then_some}
use Rattle.std.specs.List.{slice_get, AllByRecursion}
use Rattle.std.proofs.lemmas.Option.{slice_get_past}
use Rattle.std.proofs.ByRecursion.{All-take}
use Rattle.gates.specs.Kinds.{Kind, Lawful, paired, complement, complementing, turned, IsPaired, given_by}

length-paired : (ks : List Kind) → length (paired ks) ≡ 2 * length ks
length-paired [] = refl
length-paired (k ∷ ks) = omega (arith, length-paired ks)

nth_even : (ks : List Kind) (j : ℕ) → slice_get (paired ks) (2 * j) ≡ slice_get ks j
nth_even [] j = refl
nth_even (k ∷ ks) zero = refl
nth_even (k ∷ ks) (suc j) =
    let e : 2 * suc j ≡ suc (suc (2 * j)) = omega arith in
    ap (slice_get (paired (k ∷ ks))) e ∙ nth_even ks j

nth_odd : (ks : List Kind) (j : ℕ) → slice_get (paired ks) (suc (2 * j)) ≡ option_map complement (slice_get ks j)
nth_odd [] j = refl
nth_odd (k ∷ ks) zero = refl
nth_odd (k ∷ ks) (suc j) =
    let e : suc (2 * suc j) ≡ suc (suc (suc (2 * j))) = omega arith in
    ap (slice_get (paired (k ∷ ks))) e ∙ nth_odd ks j

nth_take : (n : ℕ) (ks : List Kind) (j : ℕ) → j < n → slice_get (take n ks) j ≡ slice_get ks j
nth_take zero ks j h = absurd (omega arith)
nth_take (suc n) [] j h = refl
nth_take (suc n) (k ∷ ks) zero h = refl
nth_take (suc n) (k ∷ ks) (suc j) h = nth_take n ks j (omega arith)

pub length-complementing : (ks : List Kind) → length (complementing ks) ≡ 2 * min (length ks) 2048
length-complementing ks = omega (arith, length-paired (take 2048 ks), length-take 2048 ks)

pub past : (ks : List Kind) (k : ℕ) → 4096 ≤ k → slice_get (complementing ks) k ≡ None
past ks k h = slice_get_past (complementing ks) k (omega (arith, length-complementing ks))

pub even : (ks : List Kind) (k : ℕ) → k < 4096 → k % 2 ≡ 0 → slice_get (complementing ks) k ≡ slice_get ks (k / 2)
even ks k h e =
    let whole : k ≡ 2 * (k / 2) = omega arith in
    let low : k / 2 < 2048 = omega arith in
    ap (slice_get (complementing ks)) whole ∙ nth_even (take 2048 ks) (k / 2) ∙ nth_take 2048 ks (k / 2) low

pub odd : (ks : List Kind) (k : ℕ) → k < 4096 → (k % 2 ≢ 0) → slice_get (complementing ks) k ≡ option_map complement (slice_get ks (k / 2))
odd ks k h e =
    let whole : k ≡ suc (2 * (k / 2)) = omega arith in
    let low : k / 2 < 2048 = omega arith in
    ap (slice_get (complementing ks)) whole ∙ nth_odd (take 2048 ks) (k / 2) ∙ ap (option_map complement) (nth_take 2048 ks (k / 2) low)

unmapped : {B : Type 0} (o : Option B) → o ≡ option_map (λ v. v) o
unmapped None = refl
unmapped (Some v) = refl

-- what a complement gives, by what the kind gives
pub given_turned : {A B : Type 0} (give : (List Bool → Bool) → List A → B) (turn : B → B) (t : Bool) (o : Option Kind) (xs : List A) → ((f : List Bool → Bool) → give (λ bs. not (f bs)) xs ≡ turn (give f xs)) → given_by give (turned t o) xs ≡ option_map (λ v. cond t (turn v) v) (given_by give o xs)
given_turned give turn false o xs h = unmapped (given_by give o xs)
given_turned give turn true None xs h = refl
given_turned give turn true (Some kind) xs h = by (length xs == kind.pins)
  where
    by : (t : Bool) → cond t (Some (give (λ bs. not (kind.output bs)) xs)) None ≡ option_map turn (cond t (Some (give kind.output xs)) None)
    by true = ap Some (h kind.output)
    by false = refl

abbrev Narrow : Kind → Type 0
Narrow k = (1 ≤ k.pins) × (k.pins ≤ 8)

all_paired : (ks : List Kind) → AllByRecursion Narrow ks → AllByRecursion Narrow (paired ks)
all_paired [] h = tt
all_paired (k ∷ ks) (h, hs) = (h, (h, all_paired ks hs))

pub lawful_complementing : (ks : List Kind) → Lawful ks → Lawful (complementing ks)
lawful_complementing ks l = record {
  few = omega (arith, length-complementing ks);
  narrow = all_paired (take 2048 ks) (All-take Narrow 2048 ks l.narrow);
}

pub pins_turned : (t : Bool) (o : Option Kind) → option_map (λ (d : Kind). d.pins) (turned t o) ≡ option_map (λ (d : Kind). d.pins) o
pins_turned false o = refl
pins_turned true None = refl
pins_turned true (Some d) = refl

-- the kind below a kind, and whether it is complemented
pub paired_kind : (k : ℕ) → IsPaired k (then_some (nat_lt k 4096) (k / 2, k % 2 == 1))
paired_kind k = by (nat_lt k 4096) refl (k % 2 == 1) refl
  where
    by : (low : Bool) → nat_lt k 4096 ≡ low → (complemented : Bool) → (k % 2 == 1) ≡ complemented → IsPaired k (then_some low (k / 2, complemented))
    by false h complemented e = λ ks. past ks k (ltb-false k 4096 h)
    by true h true e = λ ks. odd ks k (ltb-true k 4096 h) (let one : k % 2 ≡ 1 = eqb-true (k % 2) 1 e in λ z. omega arith)
    by true h false e = λ ks. even ks k (ltb-true k 4096 h) (let other : k % 2 ≢ 1 = eqb-false (k % 2) 1 e in omega arith)

-- what the complementing library gives, by what the library below gives
module _ {A B : Type 0} (give : (List Bool → Bool) → List A → B) (turn : B → B) (xs : List A) (turns : (f : List Bool → Bool) → give (λ bs. not (f bs)) xs ≡ turn (give f xs)) (ks : List Kind) (k : ℕ) where
  pub paired_none : IsPaired k None → given_by give (slice_get (complementing ks) k) xs ≡ None
  paired_none h = ap (λ o. given_by give o xs) (h ks)

  pub paired_given : (j : ℕ) (t : Bool) → IsPaired k (Some (j, t)) → given_by give (slice_get (complementing ks) k) xs ≡ option_map (λ v. cond t (turn v) v) (given_by give (slice_get ks j) xs)
  paired_given j t h = ap (λ o. given_by give o xs) (h ks) ∙ given_turned give turn t (slice_get ks j) xs turns
