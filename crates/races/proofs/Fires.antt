-- Firing is a race step, and every race step that changes something is a firing.
use Rattle.std.proofs.Common.{◌≡◌, ℕ, zero, suc, ◌<◌, ◌≤◌, Bool, true, false, cond, not, ◌⊎◌, List, [], ◌∷◌, length, get_or, set, sym, refl, ap, ◌∙◌, subst, inl, inr, ⊎_elim, arith, length-set}
use mathlib.Core.Bool.{Bool-discrete}
use native.Mathlib.Decide.{ℕ_discrete}
use Rattle.std.specs.List.{AllByRecursion}
use Rattle.std.proofs.lemmas.Bool.{cond_both, cond-true}
use Rattle.std.proofs.lemmas.List.{get_or-set_same, get_or-set_other, ext_get_or}
use Rattle.std.proofs.ByRecursion.{All-weaker}
use Rattle.gates.specs.Kinds.{Kind}
use Rattle.circuit.specs.declared.Signal.{Signal}
use Rattle.circuit.specs.Circuits.{Circuit, Has, size, place, signal_at}
use Rattle.races.specs.Races.{State, value, Stable, Race}
use Rattle.races.specs.Fires.{fired, Apart, Fires, FireSteps, StepsFire}
use Rattle.races.proofs.Places.{place_in, signal_place, place_same, placed}
use Rattle.races.proofs.network.Bits.{not_same, other}

-- one of the list
abbrev One : Signal → List Signal → Type 0
One y [] = ⊥
One y (x ∷ xs) = (x ≡ y) ⊎ One y xs

one_all : (P : Signal → Type 0) (xs : List Signal) (y : Signal) → AllByRecursion P xs → One y xs → P y
one_all P [] y a o = absurd o
one_all P (x ∷ xs) y a o = ⊎_elim (λ e. subst P e a.0) (λ r. one_all P xs y a.1 r) o

-- a signal is in the list and complemented, or is not and keeps its value
abbrev Told : Circuit → State → List Signal → Signal → Type 0
Told c s xs y = ((¬ One y xs) × (value c (fired c xs s) y ≡ value c s y)) ⊎ (One y xs × (value c (fired c xs s) y ≡ not (value c s y)))

module _ (c : Circuit) where
  fired_long : (xs : List Signal) (s : State) → length (fired c xs s) ≡ length s
  fired_long [] s = refl
  fired_long (x ∷ xs) s = fired_long xs (set s (place c x) (not (value c s x))) ∙ length-set s (place c x) (not (value c s x))

  fired_told : (xs : List Signal) (s : State) → length s ≡ size c → AllByRecursion (Has c) xs → Apart xs → (y : Signal) → Has c y → Told c s xs y
  fired_told [] s l there apart y h = inl ((λ o. o), refl)
  fired_told (x ∷ xs) s l there apart y h =
      let t : State = set s (place c x) (not (value c s x)) in
      by (ℕ_discrete (place c x) (place c y)) (fired_told xs t (length-set s (place c x) (not (value c s x)) ∙ l) there.1 apart.1 y h)
    where
      off : ¬ (place c x ≡ place c y) → value c (set s (place c x) (not (value c s x))) y ≡ value c s y
      off e = get_or-set_other s (place c x) (place c y) (not (value c s x)) false (λ q. e (sym q))

      by : Dec (place c x ≡ place c y) → Told c (set s (place c x) (not (value c s x))) xs y → Told c s (x ∷ xs) y
      by (yes e) (inl r) =
          let same = place_same c x y there.0 h e in
          inr (
            inl same,
            r.1
                ∙ ap (λ i. get_or (set s (place c x) (not (value c s x))) i false) (sym e)
                ∙ get_or-set_same s (place c x) (not (value c s x)) false (subst (λ m. place c x < m) (sym l) (place_in c x there.0))
                ∙ ap (λ i. not (get_or s i false)) e,
          )
      by (yes e) (inr r) = let same = place_same c x y there.0 h e in absurd (one_all (λ z. ¬ (x ≡ z)) xs y apart.0 r.0 same)
      by (no e) (inl r) = inl (⊎_elim (λ q. e (ap (place c) q)) r.0, r.1 ∙ off e)
      by (no e) (inr r) = inr (inr r.0, r.1 ∙ ap not (off e))

fire_races : (ks : List Kind) (c : Circuit) (s : State) (xs : List Signal) → length s ≡ size c → Fires ks c s xs → Race ks c s (fired c xs s)
fire_races ks c s [] l f = absurd (f.some refl)
fire_races ks c s (x ∷ xs) l f =
    let told = fired_told c (x ∷ xs) s l f.there f.apart in
    record {
      long = fired_long c (x ∷ xs) s ∙ l;
      each = λ y h. ⊎_elim (λ r. inl r.1) (λ r. inr (one_all (λ z. ¬ Stable ks c s z) (x ∷ xs) y f.unstable r.0, r.1)) (told y h);
      some = (x, f.there.0, (f.unstable.0, ⊎_elim (λ r. absurd (r.0 (inl refl))) (λ r. r.1) (told x f.there.0)));
    }

pub fire_steps : FireSteps
fire_steps ks c s xs l f = inl (fire_races ks c s xs l f)

-- the signals at which two states differ
abbrev unlike : Bool → Bool → Bool
unlike true b = not b
unlike false b = b

unlike_is : (a b : Bool) → unlike a b ≡ true → a ≡ b → ⊥
unlike_is true b e q = not_same b (e ∙ q)
unlike_is false b e q = not_same b (ap not (sym q) ∙ sym e)

unlike_from : (a b : Bool) → (a ≡ b → ⊥) → unlike a b ≡ true
unlike_from true true d = absurd (d refl)
unlike_from true false d = refl
unlike_from false true d = refl
unlike_from false false d = absurd (d refl)

module _ (c : Circuit) (s t : State) where
  -- of those at the places below m
  abbrev changed : ℕ → List Signal
  changed zero = []
  changed (suc m) = cond (unlike (get_or t m false) (get_or s m false)) (signal_at c m ∷ changed m) (changed m)

  abbrev Changed : ℕ → Signal → Type 0
  Changed m y = Has c y × (place c y < m) × (value c t y ≡ value c s y → ⊥)

  changed_all : (m : ℕ) → m ≤ size c → AllByRecursion (Changed m) (changed m)
  changed_all zero h = tt
  changed_all (suc m) h =
      let at = placed c m (omega arith) in
      let p = at.0 in
      let rest = All-weaker (Changed m) (Changed (suc m)) (λ y k. let l = k.1 in (k.0, omega arith, k.2)) (changed m) (changed_all m (omega arith)) in
      cond_both (unlike (get_or t m false) (get_or s m false)) (signal_at c m ∷ changed m) (changed m) (AllByRecursion (Changed (suc m)))
      (λ e. ((at.1, omega arith, λ q. unlike_is (get_or t m false) (get_or s m false) e (sym (ap (λ i. get_or t i false) p) ∙ q ∙ ap (λ i. get_or s i false) p)), rest))
      (λ e. rest)

  changed_apart : (m : ℕ) → m ≤ size c → Apart (changed m)
  changed_apart zero h = tt
  changed_apart (suc m) h =
      let p = (placed c m (omega arith)).0 in
      cond_both (unlike (get_or t m false) (get_or s m false)) (signal_at c m ∷ changed m) (changed m) Apart
      (λ e. (All-weaker (Changed m) (λ y. ¬ (signal_at c m ≡ y)) (λ y k q. let l = k.1 in let r = ap (place c) q in omega arith) (changed m) (changed_all m (omega arith)), changed_apart m (omega arith)))
      (λ e. changed_apart m (omega arith))

  changed_one : (m : ℕ) → m ≤ size c → (y : Signal) → Has c y → place c y < m → (value c t y ≡ value c s y → ⊥) → One y (changed m)
  changed_one zero h y k low d = absurd (omega arith)
  changed_one (suc m) h y k low d = elim (ℕ_discrete (place c y) m) [
    | yes e ↦ subst (One y) (sym (cond-true _ _ _ (subst (λ i. unlike (get_or t i false) (get_or s i false) ≡ true) e (unlike_from (value c t y) (value c s y) d)))) (inl (ap (signal_at c) (sym e) ∙ signal_place c y k))
    | no e ↦ let r = changed_one m (omega arith) y k (omega arith) d in cond_both (unlike (get_or t m false) (get_or s m false)) (signal_at c m ∷ changed m) (changed m) (One y) (λ _. inr r) (λ _. r)
  ]

module _ (ks : List Kind) (c : Circuit) (s t : State) (ls : length s ≡ size c) (race : Race ks c s t) where
  abbrev xs : List Signal
  xs = changed c s t (size c)

  all : AllByRecursion (Changed c s t (size c)) xs
  all = changed_all c s t (size c) (omega arith)

  there : AllByRecursion (Has c) xs
  there = All-weaker (Changed c s t (size c)) (Has c) (λ y k. k.0) xs all

  complete : (y : Signal) → Has c y → (value c t y ≡ value c s y → ⊥) → One y xs
  complete y h d = changed_one c s t (size c) (omega arith) y h (place_in c y h) d

  race_fires : Fires ks c s xs
  race_fires = record {
    some = λ e. let x = race.some in subst (One x.0) e (complete x.0 x.1 (λ q. not_same (value c s x.0) (sym x.2.1 ∙ q)));
    apart = changed_apart c s t (size c) (omega arith);
    there = there;
    unstable = All-weaker (Changed c s t (size c)) (λ y. ¬ Stable ks c s y) (λ y k. ⊎_elim (λ e. absurd (k.2 e)) (λ r. r.0) (race.each y k.0)) xs all;
  }

  race_is : t ≡ fired c xs s
  race_is =
      let fl = fired_long c xs s in
      let lt = race.long in
      ext_get_or false t (fired c xs s) (lt ∙ sym ls ∙ sym fl)
      (λ k h. let low : k < size c = omega arith in
      let at = placed c k low in
      let p = at.0 in
      let y = signal_at c k in
      sym (ap (λ i. get_or t i false) p)
      ∙ ⊎_elim
      (λ r. elim (Bool-discrete (value c t y) (value c s y)) [ yes e ↦ e ∙ sym r.1 | no e ↦ absurd (r.0 (complete y at.1 e)) ])
      (λ r. other (value c t y) (value c s y) (one_all (Changed c s t (size c)) xs y all r.0).2 ∙ sym r.1)
      (fired_told c xs s ls there (changed_apart c s t (size c) (omega arith)) y at.1)
      ∙ ap (λ i. get_or (fired c xs s) i false) p)

pub steps_fire : StepsFire
steps_fire ks c s t l (inl race) = inl (changed c s t (size c), race_fires ks c s t l race, race_is ks c s t l race)
steps_fire ks c s t l (inr rest) = inr rest
