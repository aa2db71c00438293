-- Each step of a pass that changes something leaves less to change.
use Rattle.std.proofs.Common.{◌≡◌, ℕ, ◌+◌, ◌<◌, ◌≤◌, List, [], ◌∷◌, length, get_or, sym, refl, ap, ◌∙◌, subst, ⊎_elim, arith}
use Rattle.std.specs.List.{AllZip}
use Rattle.std.proofs.lemmas.List.FromFn.{get_or-map-range_with_len, length-map-range_with_len}
use Rattle.std.proofs.lemmas.Bool.{cases_lt}
use Rattle.gates.specs.declared.Mark.{Mark}
use Rattle.gates.specs.declared.Mark.TheVariants.{Zero, One, Unknown}
use Rattle.gates.specs.Marks.{lub}
use Rattle.gates.specs.Kinds.{Kind}
use Rattle.circuit.specs.Circuits.{Circuit, size, signal_at}
use Rattle.circuit.specs.declared.passes.Pass.{Pass}
use Rattle.circuit.specs.declared.passes.Pass.TheVariants.{First, Second}
use Rattle.circuit.specs.Passes.{excitation_at, next_at, stepped, Below, Shrinks}
use Rattle.circuit.proofs.Orders.{each_from, excitation_below}

-- what a mark still allows a pass to change
abbrev pub weight : Pass → Mark → ℕ
weight First Zero = 1
weight First One = 1
weight First Unknown = 0
weight Second Zero = 0
weight Second One = 0
weight Second Unknown = 1

abbrev pub total : (Mark → ℕ) → List Mark → ℕ
total w [] = 0
total w (m ∷ ms) = w m + total w ms

pub total_le : (p : Pass) (ms : List Mark) → total (weight p) ms ≤ length ms
total_le p [] = omega arith
total_le p (m ∷ ms) = let h = total_le p ms in let k = one p m in omega arith
  where
    one : (p : Pass) (m : Mark) → weight p m ≤ 1
    one First Zero = omega arith
    one First One = omega arith
    one First Unknown = omega arith
    one Second Zero = omega arith
    one Second One = omega arith
    one Second Unknown = omega arith

-- y weighs no more than x, and as much only if it is x
abbrev Tame : (Mark → ℕ) → Mark → Mark → Type 0
Tame w x y = (w y ≤ w x) × (w y ≡ w x → y ≡ x)

tame_total : (w : Mark → ℕ) (xs ys : List Mark) → AllZip (Tame w) xs ys → (total w ys ≤ total w xs) × (total w ys ≡ total w xs → ys ≡ xs)
tame_total w [] [] h = (omega arith, λ _. refl)
tame_total w [] (y ∷ ys) h = absurd h
tame_total w (x ∷ xs) [] h = absurd h
tame_total w (x ∷ xs) (y ∷ ys) h =
    let rest = tame_total w xs ys h.1 in
    let a = h.0.0 in
    let b = rest.0 in (
      omega arith,
      λ e.
          let p : w y ≡ w x = omega arith in
          let q : total w ys ≡ total w xs = omega arith in
          ap (λ z. z ∷ ys) (h.0.1 p) ∙ ap (λ zs. x ∷ zs) (rest.1 q),
    )

tame_first : (x e : Mark) → Tame (weight First) x (lub x e)
tame_first Zero Zero = (omega arith, λ _. refl)
tame_first Zero One = (omega arith, λ p. absurd (omega arith))
tame_first Zero Unknown = (omega arith, λ p. absurd (omega arith))
tame_first One Zero = (omega arith, λ p. absurd (omega arith))
tame_first One One = (omega arith, λ _. refl)
tame_first One Unknown = (omega arith, λ p. absurd (omega arith))
tame_first Unknown e = (omega arith, λ _. refl)

tame_second : (x e : Mark) → Below e x → Tame (weight Second) x e
tame_second Zero e h = subst (λ y. Tame (weight Second) Zero y) (sym h) (omega arith, λ _. refl)
tame_second One e h = subst (λ y. Tame (weight Second) One y) (sym h) (omega arith, λ _. refl)
tame_second Unknown Zero h = (omega arith, λ p. absurd (omega arith))
tame_second Unknown One h = (omega arith, λ p. absurd (omega arith))
tame_second Unknown Unknown h = (omega arith, λ _. refl)

module _ (ks : List Kind) (c : Circuit) where
  pub length-stepped : (p : Pass) (ms : List Mark) → length (stepped p ks c ms) ≡ size c
  unfolding stepped
  length-stepped p ms = length-map-range_with_len (next_at p ks c ms) 0 (size c)

  pub getD_stepped : (p : Pass) (ms : List Mark) (k : ℕ) → k < size c → get_or (stepped p ks c ms) k Zero ≡ next_at p ks c ms k
  unfolding stepped
  getD_stepped p ms k h = get_or-map-range_with_len (next_at p ks c ms) 0 (size c) k k Zero h (omega arith)

  module _ (ms : List Mark) (long : length ms ≡ size c) where
    each_tame : (p : Pass) → (p ≡ Second → Shrinks ks c ms) → AllZip (Tame (weight p)) ms (stepped p ks c ms)
    each_tame p shrinks =
        let l = length-stepped p ms in
        each_from (Tame (weight p)) Zero ms (stepped p ks c ms) (omega arith)
        (λ k h. let low : k < size c = omega arith in subst (Tame (weight p) (get_or ms k Zero)) (sym (getD_stepped p ms k low)) (by p shrinks k low))
      where
        by : (p : Pass) → (p ≡ Second → Shrinks ks c ms) → (k : ℕ) → k < size c → Tame (weight p) (get_or ms k Zero) (next_at p ks c ms k)
        by First s k h = tame_first (get_or ms k Zero) (excitation_at ks c ms k)
        by Second s k h = tame_second (get_or ms k Zero) (excitation_at ks c ms k) (s refl k h)

    pub falls : (p : Pass) → (p ≡ Second → Shrinks ks c ms) → (stepped p ks c ms ≡ ms → ⊥) → total (weight p) (stepped p ks c ms) < total (weight p) ms
    falls p shrinks moved =
        let t = tame_total (weight p) ms (stepped p ks c ms) (each_tame p shrinks) in
        let b = t.0 in
        ⊎_elim
        (λ (low : total (weight p) (stepped p ks c ms) < total (weight p) ms). low)
        (λ (high : total (weight p) ms ≤ total (weight p) (stepped p ks c ms)). let e : total (weight p) (stepped p ks c ms) ≡ total (weight p) ms = omega arith in absurd (moved (t.1 e)))
        (cases_lt (total (weight p) (stepped p ks c ms)) (total (weight p) ms))

    -- the second pass goes on downwards
    pub shrinks_on : Shrinks ks c ms → Shrinks ks c (stepped Second ks c ms)
    shrinks_on s n h =
        let l = length-stepped Second ms in
        let under = each_from Below Zero (stepped Second ks c ms) ms (omega arith)
        (λ k low. let in' : k < size c = omega arith in subst (λ x. Below x (get_or ms k Zero)) (sym (getD_stepped Second ms k in')) (s k in')) in
        subst (Below (excitation_at ks c (stepped Second ks c ms) n)) (sym (getD_stepped Second ms n h))
        (excitation_below ks c (stepped Second ks c ms) ms under (signal_at c n))

    -- where the first pass ends, the second may begin
    pub shrinks_from : stepped First ks c ms ≡ ms → Shrinks ks c ms
    shrinks_from still n h = below_join (get_or ms n Zero) (excitation_at ks c ms n) (sym (getD_stepped First ms n h) ∙ ap (λ xs. get_or xs n Zero) still)
      where
        unlike : (m : Mark) → Unknown ≡ m → Below Unknown m
        unlike Zero q = q
        unlike One q = q
        unlike Unknown q = tt

        below_join : (m e : Mark) → lub m e ≡ m → Below e m
        below_join Zero Zero p = refl
        below_join Zero One p = let z : One ≡ Zero = cc in z
        below_join Zero Unknown p = unlike Zero p
        below_join One Zero p = let z : Zero ≡ One = cc in z
        below_join One One p = refl
        below_join One Unknown p = unlike One p
        below_join Unknown e p = tt
