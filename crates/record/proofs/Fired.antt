-- Which lists of signals can be fired.
use Rattle.std.proofs.Common.{◌≡◌, ℕ, ◌+◌, ◌<◌, Bool, true, false, cond, not, ◌||◌, eqb, List, [], ◌∷◌, ◌++◌, length, get_or, take, drop, Some, None, Option, sym, refl, ap, ◌∙◌, subst, ap₂, inl, inr, ⊎_elim, arith}
use mathlib.Core.Bool.{beq, false≢true}
use Rattle.std.specs.List.{AllByRecursion, list_any}
use Rattle.std.proofs.ByRecursion.{All-weaker}
use Rattle.std.proofs.lemmas.List.{at_drop_more, take_more}
use Rattle.std.specs.Cmp.{booleans_Decides}
use Rattle.std.proofs.lemmas.Bool.{not-true, not_from_false, or_parts, false_from_ne_true, lt-ltb, ltb-true, eqb-true, eq-eqb}
use Rattle.gates.specs.Told.{Stop, answer, refused, first_stop, told_by, left_by}
use Rattle.circuit.specs.declared.Signal.{Signal}
use Rattle.circuit.specs.declared.Signal.TheVariants as signal
use Rattle.circuit.specs.contracts.SignalPartialEq.TheImpl.{ghosts}
use Rattle.circuit.specs.Circuits.{Circuit, Has, size, no_gate}
use Rattle.circuit.specs.Changes.{has_signal}
use Rattle.circuit.specs.Wiring.{Numbered, Joined, first_unjoined}
use Rattle.circuit.proofs.Wired.{fits_at}
use Rattle.gates.specs.Kinds.{Kind}
use Rattle.races.specs.Races.{State, Stable, Race, Step}
use Rattle.races.specs.Fires.{fired, Apart, Fires}
use Rattle.races.proofs.Fires.{fire_steps, steps_fire}
use Rattle.circuit.proofs.Unjoined.{first_unjoined_exact}
use Rattle.record.specs.Boards.{Board}
use Rattle.record.specs.Calls.{unless, is_unstable, unjoined_stop, at_pin}
use Rattle.record.specs.Moves.{same_signal, listed, entry_stop, entry_stops, fire_stop, FireRaces}

-- what an answer tells of the check behind it
pub told_none : {A : Type 0} (s : Option Stop) (a x : A) → answer x ≡ told_by s a → s ≡ None
told_none None a x e = refl
told_none (Some s) a x e = absurd (cc)

pub told_some : {A : Type 0} (s : Option Stop) (a : A) (t : Stop) → refused t ≡ told_by s a → s ≡ Some t
told_some None a t e = absurd (cc)
told_some (Some s) a t e = let z : s ≡ t = cc in ap Some z

-- checks in a row
pub first_passed : (s : Option Stop) (rest : List (Option Stop)) → s ≡ None → first_stop (s ∷ rest) ≡ first_stop rest
first_passed None rest e = refl
first_passed (Some s) rest e = absurd (cc)

pub first_stopped : (s : Option Stop) (rest : List (Option Stop)) (t : Stop) → s ≡ Some t → first_stop (s ∷ rest) ≡ Some t
first_stopped None rest t e = absurd (cc)
first_stopped (Some s) rest t e = e

pub none_first : (s : Option Stop) (rest : List (Option Stop)) → first_stop (s ∷ rest) ≡ None → (s ≡ None) × (first_stop rest ≡ None)
none_first None rest e = (refl, e)
none_first (Some s) rest e = absurd (cc)

pub unless_none : (t : Bool) (n : ℕ) → unless t n ≡ None → t ≡ true
unless_none true n e = refl
unless_none false n e = absurd (cc)

pub unless_true : (t : Bool) (n : ℕ) → t ≡ true → unless t n ≡ None
unless_true true n e = refl
unless_true false n e = absurd (false≢true e)

-- the same signal
same_is : (x y : Signal) → same_signal x y ≡ true → x ≡ y
same_is (signal.Input i) (signal.Input j) e = ap signal.Input (eqb-true i j e)
same_is (signal.Input i) (signal.Gate j) e = absurd (false≢true e)
same_is (signal.Input i) (signal.Wire j) e = absurd (false≢true e)
same_is (signal.Gate i) (signal.Input j) e = absurd (false≢true e)
same_is (signal.Gate i) (signal.Gate j) e = ap signal.Gate (eqb-true i j e)
same_is (signal.Gate i) (signal.Wire j) e = absurd (false≢true e)
same_is (signal.Wire i) (signal.Input j) e = absurd (false≢true e)
same_is (signal.Wire i) (signal.Gate j) e = absurd (false≢true e)
same_is (signal.Wire i) (signal.Wire j) e = ap signal.Wire (eqb-true i j e)

same_itself : (x : Signal) → same_signal x x ≡ true
same_itself (signal.Input i) = eq-eqb i i refl
same_itself (signal.Gate i) = eq-eqb i i refl
same_itself (signal.Wire i) = eq-eqb i i refl

unlisted_push : (ys : List Signal) (x y : Signal) → listed (ys ++ x ∷ []) y ≡ false → (listed ys y ≡ false) × (same_signal x y ≡ false)
unlisted_push [] x y e = (refl, (or_parts (same_signal x y) false e).0)
unlisted_push (z ∷ ys) x y e =
    let a = or_parts (same_signal z y) (listed (ys ++ x ∷ []) y) e in
    let r = unlisted_push ys x y a.1 in
    (ap (λ t. t || listed ys y) a.0 ∙ r.0, r.1)

push_unlisted : (ys : List Signal) (x y : Signal) → listed ys y ≡ false → same_signal x y ≡ false → listed (ys ++ x ∷ []) y ≡ false
push_unlisted [] x y e f = ap (λ t. t || false) f
push_unlisted (z ∷ ys) x y e f =
    let a = or_parts (same_signal z y) (listed ys y) e in
    ap (λ t. t || listed (ys ++ x ∷ []) y) a.0 ∙ push_unlisted ys x y a.1 f

-- there, and unstable
pub has_is : (c : Circuit) (x : Signal) → has_signal c x ≡ true → Has c x
has_is c (signal.Input i) e = ltb-true i (length c.applied) e
has_is c (signal.Gate g) e = ltb-true g (length c.gates) e
has_is c (signal.Wire w) e = ltb-true w (length c.sources) e

pub is_has : (c : Circuit) (x : Signal) → Has c x → has_signal c x ≡ true
is_has c (signal.Input i) h = lt-ltb i (length c.applied) h
is_has c (signal.Gate g) h = lt-ltb g (length c.gates) h
is_has c (signal.Wire w) h = lt-ltb w (length c.sources) h

unlike_is : (a b : Bool) → not (beq a b) ≡ true → a ≡ b → ⊥
unlike_is a b e q = false≢true (sym (not-true (beq a b) e) ∙ (booleans_Decides a b).1 q)

is_unlike : (a b : Bool) → (a ≡ b → ⊥) → not (beq a b) ≡ true
is_unlike a b h = not_from_false (beq a b) (false_from_ne_true (beq a b) (λ e. h ((booleans_Decides a b).0 e)))

module _ (b : Board) where
  abbrev Unstable : Signal → Type 0
  Unstable x = ¬ Stable b.kinds b.circuit b.state x

  entries_more : (xs : List Signal) (i : ℕ) (d : Signal) → i < length xs → entry_stops b (take i xs) (drop i xs) ≡ entry_stop b (take i xs) (get_or xs i d) ∷ entry_stops b (take (i + 1) xs) (drop (i + 1) xs)
  entries_more xs i d h =
      at_drop_more (entry_stops b (take i xs)) xs i d h
      ∙ ap (λ earlier. entry_stop b (take i xs) (get_or xs i d) ∷ entry_stops b earlier (drop (i + 1) xs)) (sym (take_more xs i d h))

  -- one entry more was let pass, or was not
  pub entry_passed : (xs : List Signal) (i : ℕ) (d : Signal) → i < length xs → entry_stop b (take i xs) (get_or xs i d) ≡ None → first_stop (entry_stops b (take (i + 1) xs) (drop (i + 1) xs)) ≡ first_stop (entry_stops b (take i xs) (drop i xs))
  entry_passed xs i d h e = sym (ap first_stop (entries_more xs i d h) ∙ first_passed (entry_stop b (take i xs) (get_or xs i d)) (entry_stops b (take (i + 1) xs) (drop (i + 1) xs)) e)

  pub entry_stopped : (xs : List Signal) (i : ℕ) (d : Signal) (s : Stop) → i < length xs → entry_stop b (take i xs) (get_or xs i d) ≡ Some s → first_stop (entry_stops b (take i xs) (drop i xs)) ≡ Some s
  entry_stopped xs i d s h e = ap first_stop (entries_more xs i d h) ∙ first_stopped (entry_stop b (take i xs) (get_or xs i d)) (entry_stops b (take (i + 1) xs) (drop (i + 1) xs)) s e

  -- what the checks of the entries let pass
  pub record Passed (earlier xs : List Signal) : Type 0 where
    pub there : AllByRecursion (Has b.circuit) xs
    pub unstable : AllByRecursion Unstable xs
    pub new : AllByRecursion (λ x. listed earlier x ≡ false) xs
    pub apart : Apart xs

  pub entries_pass : (earlier xs : List Signal) → first_stop (entry_stops b earlier xs) ≡ None → Passed earlier xs
  entries_pass earlier [] e = record { there = tt; unstable = tt; new = tt; apart = tt }
  entries_pass earlier (x ∷ xs) e =
      let one = none_first (entry_stop b earlier x) (entry_stops b (earlier ++ x ∷ []) xs) e in
      let r = entries_pass (earlier ++ x ∷ []) xs one.1 in
      let a = none_first (unless (has_signal b.circuit x) 3) (unless (not (listed earlier x)) 7 ∷ unless (is_unstable b x) 8 ∷ []) one.0 in
      let l = none_first (unless (not (listed earlier x)) 7) (unless (is_unstable b x) 8 ∷ []) a.1 in
      let u = none_first (unless (is_unstable b x) 8) [] l.1 in
      record {
        there = (has_is b.circuit x (unless_none _ 3 a.0), r.there);
        unstable = (unlike_is _ _ (unless_none (is_unstable b x) 8 u.0), r.unstable);
        new = (not-true (listed earlier x) (unless_none _ 7 l.0), All-weaker (λ y. listed (earlier ++ x ∷ []) y ≡ false) (λ y. listed earlier y ≡ false) (λ y h. (unlisted_push earlier x y h).0) xs r.new);
        apart = (All-weaker (λ y. listed (earlier ++ x ∷ []) y ≡ false) (λ y. ¬ (x ≡ y)) (λ y h q. false≢true (sym (unlisted_push earlier x y h).1 ∙ subst (λ z. same_signal x z ≡ true) q (same_itself x))) xs r.new, r.apart);
      }

  entries_none : (earlier xs : List Signal) → Passed earlier xs → first_stop (entry_stops b earlier xs) ≡ None
  entries_none earlier [] p = refl
  entries_none earlier (x ∷ xs) p =
      let new = p.new.1 in
      let apart = p.apart.0 in
      first_passed (entry_stop b earlier x) (entry_stops b (earlier ++ x ∷ []) xs) (
      first_passed (unless (has_signal b.circuit x) 3) (unless (not (listed earlier x)) 7 ∷ unless (is_unstable b x) 8 ∷ []) (unless_true _ 3 (is_has b.circuit x p.there.0))
      ∙ first_passed (unless (not (listed earlier x)) 7) (unless (is_unstable b x) 8 ∷ []) (unless_true _ 7 (ap not p.new.0))
      ∙ first_passed (unless (is_unstable b x) 8) [] (unless_true (is_unstable b x) 8 (is_unlike _ _ p.unstable.0)))
      ∙ entries_none (earlier ++ x ∷ []) xs (record { there = p.there.1; unstable = p.unstable.1; new = both earlier xs new apart; apart = p.apart.1 })
    where
      both : (earlier ys : List Signal) → AllByRecursion (λ y. listed earlier y ≡ false) ys → AllByRecursion (λ y. ¬ (x ≡ y)) ys → AllByRecursion (λ y. listed (earlier ++ x ∷ []) y ≡ false) ys
      both earlier [] m n = tt
      both earlier (y ∷ ys) m n = (push_unlisted earlier x y m.0 (false_from_ne_true (same_signal x y) (λ e. n.0 (same_is x y e))), both earlier ys m.1 n.1)

  pub fire_passes : (xs : List Signal) → fire_stop b xs ≡ None → Fires b.kinds b.circuit b.state xs
  fire_passes xs e =
      let pins = none_first (unjoined_stop b) (unless (not (eqb (length xs) 0)) 6 ∷ entry_stops b [] xs) e in
      let some = none_first (unless (not (eqb (length xs) 0)) 6) (entry_stops b [] xs) pins.1 in
      let p = entries_pass [] xs some.1 in
      record { some = λ q. false≢true (sym (not-true (eqb (length xs) 0) (unless_none _ 6 some.0)) ∙ eq-eqb (length xs) 0 (ap length q)); apart = p.apart; there = p.there; unstable = p.unstable }

  passes_fire : (xs : List Signal) → unjoined_stop b ≡ None → Fires b.kinds b.circuit b.state xs → fire_stop b xs ≡ None
  passes_fire xs none f =
      first_passed (unjoined_stop b) (unless (not (eqb (length xs) 0)) 6 ∷ entry_stops b [] xs) none
      ∙ first_passed (unless (not (eqb (length xs) 0)) 6) (entry_stops b [] xs) (unless_true _ 6 (more xs f.some))
      ∙ entries_none [] xs (record { there = f.there; unstable = f.unstable; new = All-weaker (Has b.circuit) (λ y. listed [] y ≡ false) (λ y h. refl) xs f.there; apart = f.apart })
    where
      more : (ys : List Signal) → ¬ (ys ≡ []) → not (eqb (length ys) 0) ≡ true
      more [] h = absurd (h refl)
      more (y ∷ ys) h = ap not (false_from_ne_true (eqb (length (y ∷ ys)) 0) (λ e. let z = eqb-true (length (y ∷ ys)) 0 e in omega arith))

-- where every pin is joined, no pin stops a call
pub joined_passes : (c : Circuit) → Numbered c.gates (length c.sources) → Joined c → at_pin (first_unjoined c) ≡ None
joined_passes c n j = by (first_unjoined c) refl
  where
    by : (o : Option (ℕ × ℕ)) → first_unjoined c ≡ o → at_pin o ≡ None
    by None e = refl
    by (Some p) e =
        let u = (first_unjoined_exact c n).some p.0 p.1 e in
        let g = u.gate in
        let fit = fits_at c.gates (length c.sources) p.0 n g in
        let pin = u.pin in
        absurd (j ((get_or c.gates p.0 no_gate).first + p.1) (omega arith) u.unjoined)

race_of : (ks : List Kind) (c : Circuit) (s t : State) (xs : List Signal) → Fires ks c s xs → Step ks c s t → Race ks c s t
race_of ks c s t [] f h = absurd (f.some refl)
race_of ks c s t (x ∷ xs) f (inl race) = race
race_of ks c s t (x ∷ xs) f (inr rest) = absurd (f.unstable.0 (rest.stable x f.there.0))

pub fired_race : (b : Board) (xs : List Signal) → length b.state ≡ size b.circuit → fire_stop b xs ≡ None → Race b.kinds b.circuit b.state (fired b.circuit xs b.state)
fired_race b xs long e =
    let f = fire_passes b xs e in
    race_of b.kinds b.circuit b.state (fired b.circuit xs b.state) xs f (fire_steps b.kinds b.circuit b.state xs long f)

-- no check stops firing where every pin is joined, the list is not empty, and each entry passes
pub fire_unstopped : (b : Board) (xs : List Signal) → unjoined_stop b ≡ None → eqb (length xs) 0 ≡ false → first_stop (entry_stops b [] xs) ≡ None → fire_stop b xs ≡ None
fire_unstopped b xs pins some entries =
    first_passed (unjoined_stop b) (unless (not (eqb (length xs) 0)) 6 ∷ entry_stops b [] xs) pins
    ∙ first_passed (unless (not (eqb (length xs) 0)) 6) (entry_stops b [] xs) (unless_true _ 6 (ap not some))
    ∙ entries

pub fire_races : FireRaces
fire_races b whole = record {
  steps = λ xs e. fired_race b xs whole.long e;
  all = λ t race. ⊎_elim
      (λ r. (r.0, passes_fire b r.0 (joined_passes b.circuit whole.wired.numbered whole.joined) r.1, sym r.2))
      (λ rest. let x = race.some in absurd (x.2.0 (rest.stable x.0 x.1)))
      (steps_fire b.kinds b.circuit b.state t whole.long (inl race));
}

-- what a call leaves that no check stops
pub left_passed : {A : Type 0} (s : Option Stop) (old new : A) → s ≡ None → left_by s old new ≡ new
left_passed None old new e = refl
left_passed (Some s) old new e = absurd (cc)

-- what a derived comparison tells
eq_same : (x y : Signal) → ghosts.eq x y ≡ same_signal x y
eq_same (signal.Input i) (signal.Input j) = refl
eq_same (signal.Input i) (signal.Gate j) = refl
eq_same (signal.Input i) (signal.Wire j) = refl
eq_same (signal.Gate i) (signal.Input j) = refl
eq_same (signal.Gate i) (signal.Gate j) = refl
eq_same (signal.Gate i) (signal.Wire j) = refl
eq_same (signal.Wire i) (signal.Input j) = refl
eq_same (signal.Wire i) (signal.Gate j) = refl
eq_same (signal.Wire i) (signal.Wire j) = refl

pub equal_tells : (x y : Signal) (t : Bool) → (t ≡ ghosts.eq x y) → cond t (x ≡ y) (x ≡ y → ⊥)
equal_tells x y true e = same_is x y (sym (e ∙ eq_same x y))
equal_tells x y false e = λ q. false≢true (e ∙ eq_same x y ∙ ap (same_signal x) (sym q) ∙ same_itself x)

pub listed_any : (xs : List Signal) (x : Signal) → listed xs x ≡ list_any (λ y. ghosts.eq y x) xs
listed_any [] x = refl
listed_any (y ∷ ys) x = ap₂ (λ s t. s || t) (sym (eq_same y x)) (listed_any ys x)
