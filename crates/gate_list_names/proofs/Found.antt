-- The name that an entry gives, as code reads it, and what a search says of membership.
use Rattle.std.proofs.Common.{◌≡◌, ℕ, zero, suc, ◌<◌, Bool, true, false, ◌||◌, List, [], ◌∷◌, ◌++◌, length, get_or, is_some, Some, None, Option, map, subst, sym, refl, ap, ◌∙◌, arith}
use Rattle.std.specs.Str.{bytes_eq}
use Rattle.std.specs.List.{AllWithin, HoldsAt}
use Rattle.std.specs.Option.{MatchOption, option_map}
use Rattle.std.proofs.lemmas.Slice.Eq.{bytes_eq-Decides}
use Rattle.std.proofs.lemmas.List.{get_or-map, length-map}
use Rattle.std.proofs.lemmas.Bool.{or_left, or_right, or_from, both_ways, false_from_ne_true}
use Rattle.gate_list_format.specs.Reading.{member}
use Rattle.gate_list_names.specs.Names.{First}
use Rattle.gate_list_names.specs.Sources.{FirstSource}
use Rattle.circuit.specs.declared.Source.{Source}
use Rattle.circuit.specs.declared.Source.TheVariants.{Input, Gate}

named : {E : Type 0} (h : E → List ℕ) (table : List E) (k : ℕ) → k < length table → (P : List ℕ → Type 0) → HoldsAt (λ y. P (h y)) table k → P (get_or (map h table) k [])
named h [] k l P holds = absurd (omega arith)
named h (x ∷ xs) k l P holds = subst P (sym (get_or-map h (x ∷ xs) k x [] l)) (holds x)

differs : (n f : List ℕ) → bytes_eq n f ≡ false → n ≡ f → ⊥
differs n f h e = both_ways (bytes_eq n f) h ((bytes_eq-Decides n f).1 e)

-- the first entry that passes the test of a name, as the first of the names
pub first_named : {E : Type 0} (f : List ℕ) (h : E → List ℕ) (table : List E) (r : Option ℕ) → MatchOption r (AllWithin (λ y. bytes_eq (h y) f ≡ false) table 0 (length table)) (λ i. (i < length table) × HoldsAt (λ y. bytes_eq (h y) f ≡ true) table i × AllWithin (λ y. bytes_eq (h y) f ≡ false) table 0 i) → First f (map h table) r
first_named f h table None a = λ k l.
    let here : k < length table = omega (arith, length-map table h) in
    named h table k here (λ n. n ≡ f → ⊥) (λ d. differs (h (get_or table k d)) f (a k d (omega arith) here))
first_named f h table (Some i) a = (
  omega (arith, length-map table h, a.0),
  named h table i a.0 (λ n. n ≡ f) (λ d. (bytes_eq-Decides (h (get_or table i d)) f).0 (a.1 d)),
  λ k l. named h table k (omega (arith, a.0)) (λ n. n ≡ f → ⊥) (λ d. differs (h (get_or table k d)) f (a.2 k d (omega arith) l)),
)

-- a name that is another fails the test
pub same_not : (f n : List ℕ) → (n ≡ f → ⊥) → bytes_eq f n ≡ false
same_not f n h = false_from_ne_true (bytes_eq f n) (λ e. h (sym ((bytes_eq-Decides f n).0 e)))

pub first_none : (f : List ℕ) (ns : List (List ℕ)) → First f ns None → member f ns ≡ false
first_none f [] h = refl
first_none f (n ∷ ns) h = or_from (bytes_eq f n) (member f ns) (same_not f n (h 0 (omega arith))) (first_none f ns (λ k l. h (suc k) (omega arith)))

at_member : (f : List ℕ) (ns : List (List ℕ)) (i : ℕ) → i < length ns → get_or ns i [] ≡ f → member f ns ≡ true
at_member f [] i l h = absurd (omega arith)
at_member f (n ∷ ns) zero l h = or_left (bytes_eq f n) (member f ns) ((bytes_eq-Decides f n).1 (sym h))
at_member f (n ∷ ns) (suc i) l h = or_right (bytes_eq f n) (member f ns) (at_member f ns i (omega arith) h)

pub first_some : (f : List ℕ) (ns : List (List ℕ)) (i : ℕ) → First f ns (Some i) → member f ns ≡ true
first_some f ns i h = at_member f ns i h.0 h.1

member_append : (f : List ℕ) (xs ys : List (List ℕ)) → member f (xs ++ ys) ≡ (member f xs || member f ys)
member_append f [] ys = refl
member_append f (x ∷ xs) ys = ap (λ t. bytes_eq f x || t) (member_append f xs ys) ∙ or_assoc (bytes_eq f x) (member f xs) (member f ys)
  where
    or_assoc : (a b c : Bool) → (a || (b || c)) ≡ ((a || b) || c)
    or_assoc true b c = refl
    or_assoc false b c = refl

-- a source is found exactly if one of the inputs or gates has the name
pub source_member : (f : List ℕ) (ins outs : List (List ℕ)) (r : Option Source) → FirstSource f ins outs r → member f (ins ++ outs) ≡ is_some r
source_member f ins outs None h = member_append f ins outs ∙ or_from (member f ins) (member f outs) (first_none f ins h.0) (first_none f outs h.1)
source_member f ins outs (Some (Input i)) h = member_append f ins outs ∙ or_left (member f ins) (member f outs) (first_some f ins i h)
source_member f ins outs (Some (Gate i)) h = member_append f ins outs ∙ or_right (member f ins) (member f outs) (first_some f outs i h.1)

-- an input is found, or else a gate
pub source_found : (f : List ℕ) (ins outs : List (List ℕ)) (r : Option ℕ) (m o : Option Source) → First f ins r → m ≡ option_map Input r → MatchOption m ((s : Option ℕ) × First f outs s × (o ≡ option_map Gate s)) (λ x. o ≡ Some x) → FirstSource f ins outs o
source_found f ins outs None m o h e a =
    let b : (s : Option ℕ) × First f outs s × (o ≡ option_map Gate s) = rw e at a in
    gate_found b.0 b.1 b.2
  where
    gate_found : (s : Option ℕ) → First f outs s → o ≡ option_map Gate s → FirstSource f ins outs o
    gate_found None k q = subst (FirstSource f ins outs) (sym q) (h, k)
    gate_found (Some j) k q = subst (FirstSource f ins outs) (sym q) (h, k)
source_found f ins outs (Some i) m o h e a =
    let b : o ≡ Some (Input i) = rw e at a in
    subst (FirstSource f ins outs) (sym b) h
