-- What fits each slot.
use Rattle.std.proofs.Common.{◌≡◌, ℕ, zero, suc, ◌+◌, ◌%◌, ◌^◌, ◌<◌, ◌≤◌, Bool, true, false, cond, ◌&&◌, ◌||◌, eqb, leb, List, [], ◌∷◌, ◌++◌, length, decimal, sym, refl, ap, ◌∙◌, subst, inl, inr, ⊎_elim, arith}
use Rattle.std.specs.Str.{bytes_eq}
use Rattle.std.proofs.lemmas.Fmt.{decimal_by_steps, decimal_injective}
use Rattle.std.proofs.lemmas.Slice.Eq.{bytes_eq-Decides}
use Rattle.std.proofs.lemmas.List.{length-append}
use Rattle.std.proofs.lemmas.Bool.{and_parts, and_from, or_from, or_cases, or_parts, or_left, or_right, cond-true, cond-false, both_ways, eqb-true, ne_eqb, leb-true, le-leb, not_from_false}
use Rattle.gate_list_format.specs.Slots.{solid, solids, Judged, fits, fault, verdict}
use Rattle.gate_list_format.specs.Lists.{Name, In, NotIn, is_name, letter, name_byte, name_bytes, word_text, least_pins, most_pins}
use Rattle.gate_list_format.specs.Reading.{pick, heading, gate_word, source_name, member, new_name, pins_of, pin_count}

-- a judgement is one of the two
pub fits_not : {v n : ℕ} → fault n ≡ fits v → ⊥
fits_not h = let z : ◌≡◌ {A = ℕ} 0 1 = cc in omega arith

pub same_fits : {v w : ℕ} → fits v ≡ fits w → v ≡ w
same_fits h = cc

pub verdict_judge : (judge : List ℕ → Judged) (f : List ℕ) (v : ℕ) → verdict judge f ≡ fits v → judge f ≡ fits v
verdict_judge judge [] v h = absurd (fits_not h)
verdict_judge judge (b ∷ bs) v h = h

pub judge_verdict : (judge : List ℕ → Judged) (f : List ℕ) (v : ℕ) → judge f ≡ fits v → 0 < length f → verdict judge f ≡ fits v
judge_verdict judge [] v h l = absurd (omega arith)
judge_verdict judge (b ∷ bs) v h l = h

-- bytes of fields
pub solid_from : (b : ℕ) → (b ≡ 32 → ⊥) → (b ≡ 10 → ⊥) → solid b ≡ true
solid_from b p q = not_from_false _ (or_from (eqb b 32) (eqb b 10) (ne_eqb b 32 p) (ne_eqb b 10 q))

solids_push : (ds : List ℕ) (b : ℕ) → solids ds ≡ true → solid b ≡ true → solids (ds ++ (b ∷ [])) ≡ true
solids_push [] b h l = and_from (solid b) true l refl
solids_push (d ∷ ds) b h l =
    let both = and_parts (solid d) (solids ds) h in
    and_from (solid d) _ both.0 (solids_push ds b both.1 l)

pub decimal_field : (n : ℕ) → n < 2 ^ 64 → (solids (decimal n) ≡ true) × (0 < length (decimal n))
decimal_field = decimal_by_steps (λ n ds. (solids ds ≡ true) × (0 < length ds))
    (λ n h. (and_from (solid (48 + n)) true (solid_from (48 + n) (λ e. omega arith) (λ e. omega arith)) refl, omega arith))
    (λ n ds h more. (solids_push ds (48 + n % 10) more.0 (solid_from (48 + n % 10) (λ e. omega arith) (λ e. omega arith)), omega (arith, length-append ds ((48 + n % 10) ∷ []))))

-- a field that is one of k texts
pub pick_sound : (n : ℕ) (text : ℕ → List ℕ) (v k : ℕ) (f : List ℕ) (w : ℕ) → pick n text v k f ≡ fits w → (v ≤ w) × (w < v + k) × (f ≡ text w)
pick_sound n text v zero f w h = absurd (fits_not h)
pick_sound n text v (suc k) f w h = go (bytes_eq f (text v)) refl h (pick_sound n text (suc v) k f w)
  where
    go : (t : Bool) → bytes_eq f (text v) ≡ t → cond t (fits v) (pick n text (suc v) k f) ≡ fits w → (pick n text (suc v) k f ≡ fits w → (suc v ≤ w) × (w < suc v + k) × (f ≡ text w)) → (v ≤ w) × (w < v + suc k) × (f ≡ text w)
    go true p q more =
        let e : v ≡ w = same_fits q in
        (omega arith, omega arith, (bytes_eq-Decides f (text v)).0 p ∙ ap text e)
    go false p q more =
        let r = more q in
        (omega (arith, r.0), omega (arith, r.1), r.2)

pub pick_complete : (n : ℕ) (text : ℕ → List ℕ) (v k w : ℕ) → v ≤ w → w < v + k → ((a : ℕ) → v ≤ a → a < w → text w ≡ text a → ⊥) → pick n text v k (text w) ≡ fits w
pick_complete n text v zero w low high apart = absurd (omega arith)
pick_complete n text v (suc k) w low high apart = go (bytes_eq (text w) (text v)) refl (pick_complete n text (suc v) k w)
  where
    go : (t : Bool) → bytes_eq (text w) (text v) ≡ t → (suc v ≤ w → w < suc v + k → ((a : ℕ) → suc v ≤ a → a < w → text w ≡ text a → ⊥) → pick n text (suc v) k (text w) ≡ fits w) → cond t (fits v) (pick n text (suc v) k (text w)) ≡ fits w
    go true p more =
        let same = (bytes_eq-Decides (text w) (text v)).0 p in
        let up : ¬ (v < w) = λ l. apart v (omega arith) l same in
        let e : v ≡ w = omega (arith, up) in
        ap fits e
    go false p more =
        let ne : v ≡ w → ⊥ = λ e. both_ways _ p ((bytes_eq-Decides (text w) (text v)).1 (ap text (sym e))) in
        let l : suc v ≤ w = omega (arith, ne) in
        more l (omega arith) (λ a h. apart a (omega arith))

-- numbers
pub number_fits : (n low k v : ℕ) → low ≤ v → v < low + k → v < 2 ^ 64 → (solids (decimal v) ≡ true) × (verdict (pick n decimal low k) (decimal v) ≡ fits v)
number_fits n low k v a b small =
    let d = decimal_field v small in
    (d.0, judge_verdict (pick n decimal low k) (decimal v) v (pick_complete n decimal low k v a b (λ c p q e. let z = decimal_injective v c small (omega arith) e in omega arith)) d.1)

pub number_read : (n low k v : ℕ) (f : List ℕ) → verdict (pick n decimal low k) f ≡ fits v → (low ≤ v) × (v < low + k) × (f ≡ decimal v)
number_read n low k v f h = pick_sound n decimal low k f v (verdict_judge (pick n decimal low k) f v h)

pub heading_is : (word f : List ℕ) (v : ℕ) → verdict (heading word) f ≡ fits v → f ≡ word
heading_is word f v h = (pick_sound 15 (λ _. word) 0 1 f v (verdict_judge (heading word) f v h)).2

pub heading_fits : (word : List ℕ) → 0 < length word → verdict (heading word) word ≡ fits 0
heading_fits word l = judge_verdict (heading word) word 0 (pick_complete 15 (λ _. word) 0 1 0 (omega arith) (omega arith) (λ a p q e. omega arith)) l

-- words
pub below_ten : (P : ℕ → Type 0) → P 0 × P 1 × P 2 × P 3 × P 4 × P 5 × P 6 × P 7 × P 8 × P 9 → (w : ℕ) → w < 10 → P w
below_ten P h zero l = h.0
below_ten P h (suc zero) l = h.1
below_ten P h (suc (suc zero)) l = h.2
below_ten P h (suc (suc (suc zero))) l = h.3
below_ten P h (suc (suc (suc (suc zero)))) l = h.4
below_ten P h (suc (suc (suc (suc (suc zero))))) l = h.5
below_ten P h (suc (suc (suc (suc (suc (suc zero)))))) l = h.6
below_ten P h (suc (suc (suc (suc (suc (suc (suc zero))))))) l = h.7
below_ten P h (suc (suc (suc (suc (suc (suc (suc (suc zero)))))))) l = h.8
below_ten P h (suc (suc (suc (suc (suc (suc (suc (suc (suc zero))))))))) l = h.9
below_ten P h (suc (suc (suc (suc (suc (suc (suc (suc (suc (suc w)))))))))) l = absurd (omega arith)

pub word_fits : (w : ℕ) → w < 10 → (solids (word_text w) ≡ true) × (verdict gate_word (word_text w) ≡ fits w)
word_fits = below_ten (λ w. (solids (word_text w) ≡ true) × (verdict gate_word (word_text w) ≡ fits w)) ((refl, refl), (refl, refl), (refl, refl), (refl, refl), (refl, refl), (refl, refl), (refl, refl), (refl, refl), (refl, refl), (refl, refl))

pub word_read : (f : List ℕ) (w : ℕ) → verdict gate_word f ≡ fits w → (w < 10) × (f ≡ word_text w)
word_read f w h = let r = pick_sound 18 word_text 0 10 f w (verdict_judge gate_word f w h) in (r.1, r.2)

pub pin_range : (w : ℕ) → w < 10 → (1 ≤ least_pins w) × (most_pins w ≤ 8)
pin_range = below_ten (λ w. (1 ≤ least_pins w) × (most_pins w ≤ 8)) ((omega arith, omega arith), (omega arith, omega arith), (omega arith, omega arith), (omega arith, omega arith), (omega arith, omega arith), (omega arith, omega arith), (omega arith, omega arith), (omega arith, omega arith), (omega arith, omega arith), (omega arith, omega arith))

-- names
letter_solid : (b : ℕ) → letter b ≡ true → solid b ≡ true
letter_solid b h =
    let r = and_parts (leb 97 b) (leb b 122) h in
    let l = leb-true 97 b r.0 in
    solid_from b (λ e. omega arith) (λ e. omega arith)

name_byte_solid : (b : ℕ) → name_byte b ≡ true → solid b ≡ true
name_byte_solid b h = ⊎_elim
    (λ p. ⊎_elim (letter_solid b)
    (λ q. let l = leb-true 48 b (and_parts (leb 48 b) (leb b 57) q).0 in solid_from b (λ e. omega arith) (λ e. omega arith))
    (or_cases (letter b) (leb 48 b && leb b 57) p))
    (λ p. let l = eqb-true b 95 p in solid_from b (λ e. omega arith) (λ e. omega arith))
    (or_cases (letter b || (leb 48 b && leb b 57)) (eqb b 95) h)

name_bytes_solid : (bs : List ℕ) → name_bytes bs ≡ true → solids bs ≡ true
name_bytes_solid [] h = refl
name_bytes_solid (b ∷ bs) h =
    let r = and_parts (name_byte b) (name_bytes bs) h in
    and_from (solid b) (solids bs) (name_byte_solid b r.0) (name_bytes_solid bs r.1)

pub name_field : (f : List ℕ) → Name f → (solids f ≡ true) × (0 < length f)
name_field [] h = let z : ◌≡◌ {A = ℕ} 0 1 = cc in absurd (omega arith)
name_field (b ∷ bs) h =
    let r = and_parts (letter b && name_bytes bs) (leb (length bs) 15) h in
    let s = and_parts (letter b) (name_bytes bs) r.0 in
    (and_from (solid b) (solids bs) (letter_solid b s.0) (name_bytes_solid bs s.1), omega arith)

pub member_not : (f : List ℕ) (ns : List (List ℕ)) → member f ns ≡ false → NotIn f ns
member_not f [] h = tt
member_not f (n ∷ ns) h =
    let r = or_parts (bytes_eq f n) (member f ns) h in
    ((λ e. both_ways _ r.0 ((bytes_eq-Decides f n).1 e)), member_not f ns r.1)

pub not_member : (f : List ℕ) (ns : List (List ℕ)) → NotIn f ns → member f ns ≡ false
not_member f [] h = refl
not_member f (n ∷ ns) h = or_from (bytes_eq f n) (member f ns) (go (bytes_eq f n) refl) (not_member f ns h.1)
  where
    go : (t : Bool) → bytes_eq f n ≡ t → t ≡ false
    go true p = absurd (h.0 ((bytes_eq-Decides f n).0 p))
    go false p = refl

pub member_in : (f : List ℕ) (ns : List (List ℕ)) → member f ns ≡ true → In f ns
member_in f [] h = let z : ◌≡◌ {A = ℕ} 0 1 = cc in absurd (omega arith)
member_in f (n ∷ ns) h = ⊎_elim (λ p. inl ((bytes_eq-Decides f n).0 p)) (λ p. inr (member_in f ns p)) (or_cases (bytes_eq f n) (member f ns) h)

pub in_member : (f : List ℕ) (ns : List (List ℕ)) → In f ns → member f ns ≡ true
in_member f [] h = absurd h
in_member f (n ∷ ns) h = ⊎_elim (λ p. or_left (bytes_eq f n) (member f ns) ((bytes_eq-Decides f n).1 p)) (λ p. or_right (bytes_eq f n) (member f ns) (in_member f ns p)) h

pub source_fits : (f : List ℕ) → Name f → (solids f ≡ true) × (verdict source_name f ≡ fits 0)
source_fits f h = let r = name_field f h in (r.0, judge_verdict source_name f 0 (cond-true (is_name f) (fits 0) (fault 15) h) r.1)

pub source_read : (f : List ℕ) (v : ℕ) → verdict source_name f ≡ fits v → Name f
source_read f v h = go (is_name f) (verdict_judge source_name f v h)
  where
    go : (t : Bool) → cond t (fits 0) (fault 15) ≡ fits v → t ≡ true
    go true p = refl
    go false p = absurd (fits_not p)

pub name_fits : (seen : List (List ℕ)) (f : List ℕ) → Name f → NotIn f seen → (solids f ≡ true) × (verdict (new_name seen) f ≡ fits 0)
name_fits seen f h new =
    let r = name_field f h in
    (r.0, judge_verdict (new_name seen) f 0 (cond-true (is_name f) _ (fault 15) h ∙ cond-false (member f seen) (fault 17) (fits 0) (not_member f seen new)) r.1)

pub name_read : (seen : List (List ℕ)) (f : List ℕ) (v : ℕ) → verdict (new_name seen) f ≡ fits v → Name f × NotIn f seen
name_read seen f v h = go (is_name f) (member f seen) refl refl (verdict_judge (new_name seen) f v h)
  where
    go : (t u : Bool) → is_name f ≡ t → member f seen ≡ u → cond t (cond u (fault 17) (fits 0)) (fault 15) ≡ fits v → Name f × NotIn f seen
    go true true p q r = absurd (fits_not r)
    go true false p q r = (p, member_not f seen q)
    go false u p q r = absurd (fits_not r)

-- pin counts
pub pins_fit : (word wires p : ℕ) → word < 10 → least_pins word ≤ p → p ≤ most_pins word → wires + p ≤ 384 → (solids (decimal p) ≡ true) × (verdict (pin_count word wires) (decimal p) ≡ fits p)
pins_fit word wires p w low high room =
    let range = pin_range word w in
    let small : p < 2 ^ 64 = omega arith in
    let d = decimal_field p small in
    let n = number_fits 16 1 8 p (omega arith) (omega arith) small in
    let i = verdict_judge (pick 16 decimal 1 8) (decimal p) p n.1 in (
      d.0,
      judge_verdict (pin_count word wires) (decimal p) p
          (ap (pins_of word wires) i
          ∙ cond-true (leb (least_pins word) p && leb p (most_pins word)) _ (fault 18) (and_from _ _ (le-leb (least_pins word) p low) (le-leb p (most_pins word) high))
          ∙ cond-true (leb (wires + p) 384) (fits p) (fault 2) (le-leb (wires + p) 384 room))
          d.1,
    )

pub pins_read : (word wires : ℕ) (f : List ℕ) (p : ℕ) → verdict (pin_count word wires) f ≡ fits p → (f ≡ decimal p) × (least_pins word ≤ p) × (p ≤ most_pins word) × (wires + p ≤ 384)
pins_read word wires f p h = go (pick 16 decimal 1 8 f) refl (verdict_judge (pin_count word wires) f p h)
  where
    held : (q : ℕ) (t u : Bool) → pick 16 decimal 1 8 f ≡ fits q → (leb (least_pins word) q && leb q (most_pins word)) ≡ t → leb (wires + q) 384 ≡ u → cond t (cond u (fits q) (fault 2)) (fault 18) ≡ fits p → (f ≡ decimal p) × (least_pins word ≤ p) × (p ≤ most_pins word) × (wires + p ≤ 384)
    held q true true i a b r =
        let e : q ≡ p = same_fits r in
        let both = and_parts (leb (least_pins word) q) (leb q (most_pins word)) a in
        subst (λ s. (f ≡ decimal s) × (least_pins word ≤ s) × (s ≤ most_pins word) × (wires + s ≤ 384)) e
        ((pick_sound 16 decimal 1 8 f q i).2, leb-true (least_pins word) q both.0, leb-true q (most_pins word) both.1, leb-true (wires + q) 384 b)
    held q true false i a b r = absurd (fits_not r)
    held q false u i a b r = absurd (fits_not r)

    go : (j : Judged) → pick 16 decimal 1 8 f ≡ j → pins_of word wires j ≡ fits p → (f ≡ decimal p) × (least_pins word ≤ p) × (p ≤ most_pins word) × (wires + p ≤ 384)
    go (fault n) i r = absurd (fits_not r)
    go (fits q) i r = held q _ _ i refl refl r
