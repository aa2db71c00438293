-- Both passes end, at one place.
use Rattle.std.proofs.Common.{◌≡◌, ℕ, zero, suc, ◌<◌, ◌≤◌, Bool, true, false, Decides, List, map, length, sym, refl, ap, ◌∙◌, subst, arith}
use Rattle.std.specs.Cmp.Lexicographic.{pointwise}
use Rattle.std.proofs.lemmas.Bool.{false≢true}
use denote.Enum.Bare.{sameb}
use lib.ListN.{length-map}
use Rattle.gates.specs.declared.Mark.{Mark}
use Rattle.gates.specs.contracts.Mark.{the_type}
use Rattle.gates.specs.Marks.{settled}
use Rattle.gates.specs.Kinds.{Kind}
use Rattle.circuit.specs.Circuits.{Circuit, size}
use Rattle.circuit.specs.declared.passes.Pass.{Pass}
use Rattle.circuit.specs.declared.passes.Pass.TheVariants.{First, Second}
use Rattle.circuit.specs.Passes.{stepped, iterate, Ends, Shrinks, RunExists, RunUnique}
use Rattle.circuit.proofs.Falls.{weight, total, falls, shrinks_on, shrinks_from, length-stepped}
use Rattle.circuit.proofs.Steps.{clash}
use Rattle.circuit.proofs.Same.{marks_same}

-- ends are where they are
module _ {A : Type 0} (f : A → A) (from : A) where
  not_before : (n n' : ℕ) (to to' : A) → Ends f from n to → Ends f from n' to' → n < n' → ⊥
  not_before n n' to to' e e' h = e'.moved n h (ap f (sym e.reached) ∙ e.still ∙ e.reached)

  ends_unique : (n n' : ℕ) (to to' : A) → Ends f from n to → Ends f from n' to' → (n ≡ n') × (to ≡ to')
  ends_unique n n' to to' e e' =
      let a : n < n' → ⊥ = not_before n n' to to' e e' in
      let b : n' < n → ⊥ = not_before n' n to' to e' e in
      let s : n ≡ n' = omega (arith, a, b) in
      (s, e.reached ∙ ap (λ k. iterate f k from) s ∙ sym e'.reached)

pub run_unique : RunUnique
run_unique ks c start n n' k k' f f' g g' r r' =
    let one = ends_unique (stepped First ks c) (map settled start) n n' f f' r.first r'.first in
    let two = ends_unique (stepped Second ks c) f' k k' g g' (subst (λ ms. Ends (stepped Second ks c) ms k g) one.1 r.second) r'.second in
    (one.0, one.1, two.0, two.1)

marks_discrete : (ms ns : List Mark) → Dec (ms ≡ ns)
marks_discrete ms ns = by (pointwise (sameb the_type) ms ns) (marks_same ms ns _ refl)
  where
    by : (b : Bool) → Decides b (ms ≡ ns) → Dec (ms ≡ ns)
    by true same = yes (same.0 refl)
    by false same = no (λ e. false≢true (same.1 e))

-- one step before
module _ {A : Type 0} (f : A → A) where
  shift : (n : ℕ) (x : A) → iterate f n (f x) ≡ f (iterate f n x)
  shift zero x = refl
  shift (suc n) x = ap f (shift n x)

  ends_more : (x : A) (n : ℕ) (to : A) → (f x ≡ x → ⊥) → Ends f (f x) n to → Ends f x (suc n) to
  ends_more x n to moves e = record {
    reached = e.reached ∙ shift n x;
    still = e.still;
    moved = go;
  }
    where
      go : (k : ℕ) → k < suc n → f (iterate f k x) ≡ iterate f k x → ⊥
      go zero h q = moves q
      go (suc k) h q = e.moved k (omega arith) (ap f (shift k x) ∙ q ∙ sym (shift k x))

module _ (ks : List Kind) (c : Circuit) (p : Pass) where
  ends_within : (fuel : ℕ) (ms : List Mark) → length ms ≡ size c → (p ≡ Second → Shrinks ks c ms) → total (weight p) ms ≤ fuel → (n : ℕ) × ((to : List Mark) × Ends (stepped p ks c) ms n to)
  ends_within zero ms long shr h = elim (marks_discrete (stepped p ks c ms) ms) [
    | yes e ↦ (0, (ms, record { reached = refl; still = e; moved = λ k l. absurd (omega arith) }))
    | no e ↦ let fall = falls ks c ms long p shr e in absurd (omega arith)
  ]
  ends_within (suc fuel) ms long shr h = elim (marks_discrete (stepped p ks c ms) ms) [
    | yes e ↦ (0, (ms, record { reached = refl; still = e; moved = λ k l. absurd (omega arith) }))
    | no e ↦
        let fall = falls ks c ms long p shr e in
        let r = ends_within fuel (stepped p ks c ms) (length-stepped ks c p ms) (λ q. subst (λ u. Shrinks ks c (stepped u ks c ms)) (sym q) (shrinks_on ks c ms long (shr q))) (omega arith) in
        (suc r.0, (r.1.0, ends_more (stepped p ks c) ms r.0 r.1.0 e r.1.1))
  ]

pub ends_long : (ks : List Kind) (c : Circuit) (p : Pass) (n : ℕ) (from to : List Mark) → length from ≡ size c → Ends (stepped p ks c) from n to → length to ≡ size c
ends_long ks c p n from to l e = ap length e.reached ∙ at n
  where
    at : (n : ℕ) → length (iterate (stepped p ks c) n from) ≡ size c
    at zero = l
    at (suc n) = length-stepped ks c p (iterate (stepped p ks c) n from)

pub run_exists : RunExists
run_exists ks c start long =
    let from = map settled start in
    let long' : length from ≡ size c = length-map start settled ∙ long in
    let one = ends_within ks c First (total (weight First) from) from long' clash (omega arith) in
    let f = one.1.0 in
    let lf : length f ≡ size c = ends_long ks c First one.0 from f long' one.1.1 in
    let two = ends_within ks c Second (total (weight Second) f) f lf (λ _. shrinks_from ks c f lf one.1.1.still) (omega arith) in
    (one.0, two.0, (f, two.1.0, record { first = one.1.1; second = two.1.1 }))
