-- The exact extension of a function that takes its bits one by one.
use Rattle.std.proofs.Common.{◌≡◌, suc, Bool, true, false, List, [], ◌∷◌, ◌++◌, map, length, sym, refl, ap, ap₂, ◌∙◌}
use Rattle.std.proofs.lemmas.Simd.{map-map}
use Rattle.std.proofs.lemmas.List.{map-append}
use Rattle.gates.specs.declared.Mark.{Mark}
use Rattle.gates.specs.declared.Mark.TheVariants.{Zero, One, Unknown}
use Rattle.gates.specs.Marks.{settled, lub, covered, lub_all, least, extended}

-- with at least one element
abbrev Filled : {X : Type 0} → List X → Type 0
Filled [] = ⊥
Filled (x ∷ xs) = Unit {0}

filled_map : {X Y : Type 0} (f : X → Y) (xs : List X) → Filled xs → Filled (map f xs)
filled_map f (x ∷ xs) h = tt
filled_map f [] h = h

filled_append : {X : Type 0} (xs ys : List X) → Filled xs → Filled (xs ++ ys)
filled_append (x ∷ xs) ys h = tt
filled_append [] ys h = absurd h

covered_filled : (ms : List Mark) → Filled (covered ms)
covered_filled [] = tt
covered_filled (Zero ∷ ms) = filled_map (λ bs. false ∷ bs) (covered ms) (covered_filled ms)
covered_filled (One ∷ ms) = filled_map (λ bs. true ∷ bs) (covered ms) (covered_filled ms)
covered_filled (Unknown ∷ ms) = filled_append _ _ (filled_map (λ bs. false ∷ bs) (covered ms) (covered_filled ms))

lub_assoc : (a b c : Mark) → lub (lub a b) c ≡ lub a (lub b c)
lub_assoc Unknown b c = refl
lub_assoc Zero Unknown c = refl
lub_assoc One Unknown c = refl
lub_assoc Zero Zero Zero = refl
lub_assoc Zero Zero One = refl
lub_assoc Zero Zero Unknown = refl
lub_assoc Zero One Zero = refl
lub_assoc Zero One One = refl
lub_assoc Zero One Unknown = refl
lub_assoc One Zero Zero = refl
lub_assoc One Zero One = refl
lub_assoc One Zero Unknown = refl
lub_assoc One One Zero = refl
lub_assoc One One One = refl
lub_assoc One One Unknown = refl

lub_all_lub : (m n : Mark) (bs : List Bool) → lub_all (lub m n) bs ≡ lub m (lub_all n bs)
lub_all_lub m n [] = refl
lub_all_lub m n (b ∷ bs) = ap (λ k. lub_all k bs) (lub_assoc m n (settled b)) ∙ lub_all_lub m (lub n (settled b)) bs

lub_all_append : (m : Mark) (as' bs : List Bool) → lub_all m (as' ++ bs) ≡ lub_all (lub_all m as') bs
lub_all_append m [] bs = refl
lub_all_append m (a ∷ as') bs = lub_all_append (lub m (settled a)) as' bs

least_append : (as' bs : List Bool) → Filled as' → Filled bs → least (as' ++ bs) ≡ lub (least as') (least bs)
least_append [] bs h k = absurd h
least_append (a ∷ as') [] h k = absurd k
least_append (a ∷ as') (b ∷ bs) h k = lub_all_append (settled a) as' (b ∷ bs) ∙ lub_all_lub (lub_all (settled a) as') (settled b) bs

-- a function of one bit, at a mark
abbrev pub lift1 : (Bool → Bool) → Mark → Mark
lift1 g Zero = settled (g false)
lift1 g One = settled (g true)
lift1 g Unknown = lub (settled (g false)) (settled (g true))

-- a function of two bits, at two marks
abbrev pub lift2 : (Bool → Bool → Bool) → Mark → Mark → Mark
lift2 op Zero n = lift1 (op false) n
lift2 op One n = lift1 (op true) n
lift2 op Unknown n = lub (lift1 (op false) n) (lift1 (op true) n)

settled_twice : (x : Bool) → lub (settled x) (settled x) ≡ settled x
settled_twice true = refl
settled_twice false = refl

settled_turned : (x y : Bool) → lub (settled x) (settled y) ≡ lub (settled y) (settled x)
settled_turned true true = refl
settled_turned true false = refl
settled_turned false true = refl
settled_turned false false = refl

settled_left : (x y : Bool) → lub (lub (settled x) (settled y)) (settled x) ≡ lub (settled x) (settled y)
settled_left true true = refl
settled_left true false = refl
settled_left false true = refl
settled_left false false = refl

settled_right : (x y : Bool) → lub (lub (settled x) (settled y)) (settled y) ≡ lub (settled x) (settled y)
settled_right true true = refl
settled_right true false = refl
settled_right false true = refl
settled_right false false = refl

lift1_lub : (g : Bool → Bool) (m : Mark) (b : Bool) → lub (lift1 g m) (settled (g b)) ≡ lift1 g (lub m (settled b))
lift1_lub g Zero false = settled_twice (g false)
lift1_lub g Zero true = refl
lift1_lub g One false = settled_turned (g true) (g false)
lift1_lub g One true = settled_twice (g true)
lift1_lub g Unknown false = settled_left (g false) (g true)
lift1_lub g Unknown true = settled_right (g false) (g true)

lift1_settled : (g : Bool → Bool) (b : Bool) → settled (g b) ≡ lift1 g (settled b)
lift1_settled g true = refl
lift1_settled g false = refl

module _ {X : Type 0} (g : Bool → Bool) (f : X → Bool) where
  lift1_all : (m : Mark) (xs : List X) → lub_all (lift1 g m) (map (λ x. g (f x)) xs) ≡ lift1 g (lub_all m (map f xs))
  lift1_all m [] = refl
  lift1_all m (x ∷ xs) = ap (λ n. lub_all n (map (λ y. g (f y)) xs)) (lift1_lub g m (f x)) ∙ lift1_all (lub m (settled (f x))) xs

  least_lift1 : (xs : List X) → Filled xs → least (map (λ x. g (f x)) xs) ≡ lift1 g (least (map f xs))
  least_lift1 [] h = absurd h
  least_lift1 (x ∷ xs) h = ap (λ n. lub_all n (map (λ y. g (f y)) xs)) (lift1_settled g (f x)) ∙ lift1_all (settled (f x)) xs

-- a function whose first bit is joined to what the others give
module _ (op : Bool → Bool → Bool) (f : List Bool → Bool) (unfolds : (b : Bool) (bs : List Bool) → f (b ∷ bs) ≡ op b (f bs)) where
  map_cons : (b : Bool) (xs : List (List Bool)) → map f (map (λ bs. b ∷ bs) xs) ≡ map (λ bs. op b (f bs)) xs
  map_cons b [] = refl
  map_cons b (x ∷ xs) = ap (λ y. y ∷ map f (map (λ bs. b ∷ bs) xs)) (unfolds b x) ∙ ap (λ ys. op b (f x) ∷ ys) (map_cons b xs)

  one_way : (b : Bool) (ms : List Mark) → least (map f (map (λ bs. b ∷ bs) (covered ms))) ≡ lift1 (op b) (extended f ms)
  one_way b ms = ap least (map_cons b (covered ms)) ∙ least_lift1 (op b) f (covered ms) (covered_filled ms)

  pub extended_cons : (m : Mark) (ms : List Mark) → extended f (m ∷ ms) ≡ lift2 op m (extended f ms)
  extended_cons Zero ms = one_way false ms
  extended_cons One ms = one_way true ms
  extended_cons Unknown ms =
      let low = map (λ (bs : List Bool). false ∷ bs) (covered ms) in
      let high = map (λ (bs : List Bool). true ∷ bs) (covered ms) in
      ap least (map-append f low high)
      ∙ least_append (map f low) (map f high)
      (filled_map f low (filled_map (λ bs. false ∷ bs) (covered ms) (covered_filled ms)))
      (filled_map f high (filled_map (λ bs. true ∷ bs) (covered ms) (covered_filled ms)))
      ∙ ap (λ n. lub n (least (map f high))) (one_way false ms)
      ∙ ap (λ n. lub (lift1 (op false) (extended f ms)) n) (one_way true ms)

-- any function, by its first mark
module _ (f : List Bool → Bool) where
  pub extended_zero : (ms : List Mark) → extended f (Zero ∷ ms) ≡ extended (λ bs. f (false ∷ bs)) ms
  extended_zero ms = ap least (map-map f (λ (bs : List Bool). false ∷ bs) (covered ms))

  pub extended_one : (ms : List Mark) → extended f (One ∷ ms) ≡ extended (λ bs. f (true ∷ bs)) ms
  extended_one ms = ap least (map-map f (λ (bs : List Bool). true ∷ bs) (covered ms))

  pub extended_unknown : (ms : List Mark) → extended f (Unknown ∷ ms) ≡ lub (extended (λ bs. f (false ∷ bs)) ms) (extended (λ bs. f (true ∷ bs)) ms)
  extended_unknown ms =
      let low = map (λ (bs : List Bool). false ∷ bs) (covered ms) in
      let high = map (λ (bs : List Bool). true ∷ bs) (covered ms) in
      ap least (map-append f low high)
      ∙ least_append (map f low) (map f high)
      (filled_map f low (filled_map (λ bs. false ∷ bs) (covered ms) (covered_filled ms)))
      (filled_map f high (filled_map (λ bs. true ∷ bs) (covered ms) (covered_filled ms)))
      ∙ ap (λ n. lub n (least (map f high))) (extended_zero ms)
      ∙ ap (λ n. lub (extended (λ bs. f (false ∷ bs)) ms) n) (extended_one ms)

-- functions that agree at the bit lists that are as long as the marks have the same extension
pub extended_same : (f h : List Bool → Bool) (ms : List Mark) → ((bits : List Bool) → length bits ≡ length ms → f bits ≡ h bits) → extended f ms ≡ extended h ms
extended_same f h [] e = ap settled (e [] refl)
extended_same f h (Zero ∷ ms) e = extended_zero f ms ∙ extended_same (λ bits. f (false ∷ bits)) (λ bits. h (false ∷ bits)) ms (λ bits l. e (false ∷ bits) (ap suc l)) ∙ sym (extended_zero h ms)
extended_same f h (One ∷ ms) e = extended_one f ms ∙ extended_same (λ bits. f (true ∷ bits)) (λ bits. h (true ∷ bits)) ms (λ bits l. e (true ∷ bits) (ap suc l)) ∙ sym (extended_one h ms)
extended_same f h (Unknown ∷ ms) e =
    extended_unknown f ms
    ∙ ap₂ lub (extended_same (λ bits. f (false ∷ bits)) (λ bits. h (false ∷ bits)) ms (λ bits l. e (false ∷ bits) (ap suc l))) (extended_same (λ bits. f (true ∷ bits)) (λ bits. h (true ∷ bits)) ms (λ bits l. e (true ∷ bits) (ap suc l)))
    ∙ sym (extended_unknown h ms)
