-- Two sheets are equal exactly if the boards are alike.
use Rattle.std.proofs.Common.{◌≡◌, ℕ, ◌<◌, ◌≤◌, Bool, true, false, ◌↔◌, List, length, get_or, sym, refl, ap, ◌∙◌, subst, ap₂, arith}
use mathlib.Core.Bool.{false≢true}
use Rattle.std.proofs.lemmas.List.{ext_get_or}
use Rattle.gates.specs.declared.Mark.{Mark}
use Rattle.gates.specs.declared.Mark.TheVariants.{Zero, One, Unknown}
use Rattle.gates.specs.Marks.{covers}
use Rattle.circuit.specs.declared.Signal.{Signal}
use Rattle.circuit.specs.declared.Signal.TheVariants as signal
use Rattle.circuit.specs.Circuits.{Circuit, Has, size, place, signal_at}
use Rattle.races.specs.Exact.{mark, Tells, Whole, Exact}
use Rattle.races.proofs.Exact.{marks_exact}
use Rattle.races.proofs.Places.{placed}
use Rattle.sheet.specs.Sheets as text
use Rattle.sheet.proofs.Sheets.{sheet_injective}
use Rattle.record.specs.Boards.{Board}
use Rattle.calls.specs.Effects.{first_marks, second_marks}
use Rattle.calls.specs.Promises.{Along, Lastly, Alike}
use Rattle.calls.proofs.Marking.{marks_run, firsts_long, seconds_long}

-- a mark covers the open values that it tells
tells_covers : (O : Bool → Type 0) (m : Mark) → Tells O m → (v : Bool) → (covers m v ≡ true) ↔ O v
tells_covers O Zero t true = ((λ e. absurd (false≢true e)), λ o. absurd (((t.one false).0 refl).1 o))
tells_covers O Zero t false = ((λ _. ((t.one false).0 refl).0), λ _. refl)
tells_covers O One t true = ((λ _. ((t.one true).0 refl).0), λ _. refl)
tells_covers O One t false = ((λ e. absurd (false≢true e)), λ o. absurd (((t.one true).0 refl).1 o))
tells_covers O Unknown t true = ((λ _. (t.both.0 refl).1), λ _. refl)
tells_covers O Unknown t false = ((λ _. (t.both.0 refl).0), λ _. refl)

-- a mark is what it covers
covers_same : (m n : Mark) → ((v : Bool) → (covers m v ≡ true) ↔ (covers n v ≡ true)) → m ≡ n
covers_same Zero Zero h = refl
covers_same Zero One h = absurd (false≢true ((h false).0 refl))
covers_same Zero Unknown h = absurd (false≢true ((h true).1 refl))
covers_same One Zero h = absurd (false≢true ((h true).0 refl))
covers_same One One h = refl
covers_same One Unknown h = absurd (false≢true ((h false).1 refl))
covers_same Unknown Zero h = absurd (false≢true ((h true).0 refl))
covers_same Unknown One h = absurd (false≢true ((h false).0 refl))
covers_same Unknown Unknown h = refl

both : {A B C : Type 0} → A ↔ B → B ↔ C → A ↔ C
both p q = ((λ a. q.0 (p.0 a)), (λ z. p.1 (q.1 z)))

back : {A B : Type 0} → A ↔ B → B ↔ A
back p = (p.1, p.0)

-- equal marks tell the same open values, and the same open values make equal marks
tell_same : (O P : Bool → Type 0) (m n : Mark) → Tells O m → Tells P n → m ≡ n → (v : Bool) → O v ↔ P v
tell_same O P m n t u e v = both (back (tells_covers O m t v)) (both (subst (λ k. covers k v ≡ true) e, subst (λ k. covers k v ≡ true) (sym e)) (tells_covers P n u v))

same_tell : (O P : Bool → Type 0) (m n : Mark) → Tells O m → Tells P n → ((v : Bool) → O v ↔ P v) → m ≡ n
same_tell O P m n t u h = covers_same m n (λ v. both (tells_covers O m t v) (both (h v) (back (tells_covers P n u v))))

-- a board with every pin joined
pub record Ready (b : Board) : Type 0 where
  pub whole : Whole b.circuit b.state
  pub few : size b.circuit ≤ 512

abbrev pub sheet_text : Board → List ℕ
sheet_text b = text.sheet (length b.circuit.applied) (length b.circuit.gates) (first_marks b) (second_marks b)

module _ (b : Board) (r : Ready b) where
  pub sheeted : text.Sheeted (length b.circuit.applied) (length b.circuit.gates) (first_marks b) (second_marks b)
  sheeted =
      let f = firsts_long b r.whole.long in
      let s = seconds_long b r.whole.long in
      let few = r.few in
      record { enough = omega arith; level = f ∙ sym s; few = omega arith }

  pub exact : (x : Signal) → Has b.circuit x → Exact b.kinds b.circuit b.state (first_marks b) (second_marks b) x
  exact = let run = marks_run b r.whole.long in marks_exact b.kinds b.circuit b.state run.0 run.1 (first_marks b) (second_marks b) r.whole run.2

pub record SameCounts (c d : Circuit) : Type 0 where
  pub inputs : length c.applied ≡ length d.applied
  pub gates : length c.gates ≡ length d.gates
  pub wires : length c.sources ≡ length d.sources

place_same : (c d : Circuit) → SameCounts c d → (x : Signal) → place c x ≡ place d x
place_same c d s (signal.Input i) = refl
place_same c d s (signal.Gate j) = let a = s.inputs in omega arith
place_same c d s (signal.Wire w) = let a = s.inputs in let b = s.gates in omega arith

has_same : (c d : Circuit) → SameCounts c d → (x : Signal) → Has c x → Has d x
has_same c d s (signal.Input i) h = let a = s.inputs in omega arith
has_same c d s (signal.Gate j) h = let a = s.gates in omega arith
has_same c d s (signal.Wire w) h = let a = s.wires in omega arith

marks_same : (c d : Circuit) → SameCounts c d → (f g : List Mark) → length f ≡ size c → length g ≡ size d → ((x : Signal) → Has c x → mark c f x ≡ mark d g x) → f ≡ g
marks_same c d s f g l m e =
    let a = s.inputs in
    let b = s.gates in
    let w = s.wires in
    ext_get_or Zero f g (omega arith)
    (λ k h. let low : k < size c = omega arith in
    let at = placed c k low in
    ap (λ i. get_or f i Zero) (sym at.0) ∙ e (signal_at c k) at.1 ∙ ap (λ i. get_or g i Zero) (sym (place_same c d s (signal_at c k)) ∙ at.0))

module _ (a b : Board) (r : Ready a) (q : Ready b) where
  alike : sheet_text a ≡ sheet_text b → Alike a b
  alike e =
      let t = (sheet_injective _ _ _ _ (first_marks a) (second_marks a) (first_marks b) (second_marks b) (sheeted a r) (sheeted b q)).0 e in
      let p = ap length t.2 in
      let i = t.0 in
      let g = t.1 in
      let l = firsts_long a r.whole.long in
      let m = firsts_long b q.whole.long in
      let s : SameCounts a.circuit b.circuit = record { inputs = t.0; gates = t.1; wires = omega arith } in
      record {
        inputs = t.0;
        gates = t.1;
        wires = s.wires;
        along = λ x h. tell_same (Along a x) (Along b x) _ _ (exact a r x h).races (exact b q x (has_same _ _ s x h)).races (ap₂ (λ ms n. get_or ms n Zero) t.2 (place_same _ _ s x));
        lastly = λ x h. tell_same (Lastly a x) (Lastly b x) _ _ (exact a r x h).outcome (exact b q x (has_same _ _ s x h)).outcome (ap₂ (λ ms n. get_or ms n Zero) t.3 (place_same _ _ s x));
      }

  same_text : Alike a b → sheet_text a ≡ sheet_text b
  same_text t =
      let s : SameCounts a.circuit b.circuit = record { inputs = t.inputs; gates = t.gates; wires = t.wires } in
      (sheet_injective _ _ _ _ (first_marks a) (second_marks a) (first_marks b) (second_marks b) (sheeted a r) (sheeted b q)).1 (
        t.inputs,
        t.gates,
        marks_same a.circuit b.circuit s (first_marks a) (first_marks b) (firsts_long a r.whole.long) (firsts_long b q.whole.long)
            (λ x h. same_tell (Along a x) (Along b x) _ _ (exact a r x h).races (exact b q x (has_same _ _ s x h)).races (t.along x h)),
        marks_same a.circuit b.circuit s (second_marks a) (second_marks b) (seconds_long a r.whole.long) (seconds_long b q.whole.long)
            (λ x h. same_tell (Lastly a x) (Lastly b x) _ _ (exact a r x h).outcome (exact b q x (has_same _ _ s x h)).outcome (t.lastly x h)),
      )

  pub sheets_alike : (sheet_text a ≡ sheet_text b) ↔ Alike a b
  sheets_alike = (alike, same_text)
