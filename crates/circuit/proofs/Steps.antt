-- The passes take few steps.
use Rattle.std.proofs.Common.{◌≡◌, ℕ, zero, suc, ◌+◌, ◌<◌, ◌≤◌, List, [], ◌∷◌, map, length, sym, refl, ◌∙◌, subst, arith}
use lib.ListN.{length-map}
use Rattle.gates.specs.declared.Mark.{Mark}
use Rattle.gates.specs.declared.Mark.TheVariants.{Zero, One, Unknown}
use Rattle.gates.specs.Marks.{settled}
use Rattle.gates.specs.Kinds.{Kind}
use Rattle.circuit.specs.Circuits.{Circuit, size}
use Rattle.circuit.specs.declared.passes.Pass.{Pass}
use Rattle.circuit.specs.declared.passes.Pass.TheVariants.{First, Second}
use Rattle.circuit.specs.Passes.{stepped, iterate, Ends, Shrinks, open_count, settled_count, StepsFew}
use Rattle.circuit.proofs.Falls.{weight, total, total_le, falls, shrinks_on, shrinks_from, length-stepped}

open_first : (ms : List Mark) → open_count ms + total (weight First) ms ≡ length ms
open_first [] = refl
open_first (Zero ∷ ms) = let h = open_first ms in omega arith
open_first (One ∷ ms) = let h = open_first ms in omega arith
open_first (Unknown ∷ ms) = let h = open_first ms in omega arith

open_second : (ms : List Mark) → open_count ms ≡ total (weight Second) ms
open_second [] = refl
open_second (Zero ∷ ms) = let h = open_second ms in omega arith
open_second (One ∷ ms) = let h = open_second ms in omega arith
open_second (Unknown ∷ ms) = let h = open_second ms in omega arith

open_settled : (ms ns : List Mark) → length ms ≡ length ns → open_count ms ≤ settled_count ms ns + open_count ns
open_settled [] ns l = omega arith
open_settled (m ∷ ms) [] l = absurd (omega arith)
open_settled (m ∷ ms) (n ∷ ns) l = one m n (open_settled ms ns (omega arith))
  where
    one : (m n : Mark) → open_count ms ≤ settled_count ms ns + open_count ns → open_count (m ∷ ms) ≤ settled_count (m ∷ ms) (n ∷ ns) + open_count (n ∷ ns)
    one Zero Zero h = omega arith
    one Zero One h = omega arith
    one Zero Unknown h = omega arith
    one One Zero h = omega arith
    one One One h = omega arith
    one One Unknown h = omega arith
    one Unknown Zero h = omega arith
    one Unknown One h = omega arith
    one Unknown Unknown h = omega arith

module _ (ks : List Kind) (c : Circuit) (p : Pass) where
  record Sunk (from : List Mark) (k : ℕ) (to : List Mark) : Type 0 where
    long : length to ≡ size c
    shrinks : p ≡ Second → Shrinks ks c to
    less : k + total (weight p) to ≤ total (weight p) from

  -- each step that changes something leaves less to change
  sunk : (from : List Mark) → length from ≡ size c → (p ≡ Second → Shrinks ks c from) → (k : ℕ) → ((i : ℕ) → i < k → stepped p ks c (iterate (stepped p ks c) i from) ≡ iterate (stepped p ks c) i from → ⊥) → Sunk from k (iterate (stepped p ks c) k from)
  sunk from long shr zero moved = record { long = long; shrinks = shr; less = omega arith }
  sunk from long shr (suc k) moved =
      let ms = iterate (stepped p ks c) k from in
      let r = sunk from long shr k (λ i h. moved i (omega arith)) in
      let fall = falls ks c ms r.long p r.shrinks (moved k (omega arith)) in
      let l = r.less in
      record {
        long = length-stepped ks c p ms;
        shrinks = λ e. subst (λ q. Shrinks ks c (stepped q ks c ms)) (sym e) (shrinks_on ks c ms r.long (r.shrinks e));
        less = omega arith;
      }

  ends_sunk : (from : List Mark) (n : ℕ) (to : List Mark) → length from ≡ size c → (p ≡ Second → Shrinks ks c from) → Ends (stepped p ks c) from n to → Sunk from n to
  ends_sunk from n to long shr e = subst (Sunk from n) (sym e.reached) (sunk from long shr n e.moved)

pub clash : {A : Type 0} → First ≡ Second → A
clash e = absurd (subst IsFirst e tt)
  where
    IsFirst : Pass → Type 0
    IsFirst First = Unit {0}
    IsFirst Second = ⊥

pub steps_few : StepsFew
steps_few ks c start n k f g long run =
    let from = map settled start in
    let long' : length from ≡ size c = length-map start settled ∙ long in
    let one = ends_sunk ks c First from n f long' clash run.first in
    let two = ends_sunk ks c Second f k g one.long (λ _. shrinks_from ks c f one.long run.first.still) run.second in
    let a = one.less in
    let b = two.less in
    let lf = one.long in
    let lg = two.long in
    let e1 = open_first f in
    let e2 = open_second f in
    let e3 = open_second g in
    let e4 = open_settled f g (lf ∙ sym lg) in
    let e5 = total_le First from in
    let e6 = total_le Second f in
    record { first = omega arith; second = omega arith; first_size = omega arith; second_size = omega arith }
