-- The first unjoined pin, searched gate by gate and pin by pin.
use Rattle.std.proofs.Common.{◌≡◌, ℕ, zero, suc, ◌+◌, ◌-◌, ◌<◌, ◌≤◌, List, [], ◌∷◌, length, get_or, take, drop, Some, None, Option, sym, refl, ap, ◌∙◌, subst, ⊎_elim, arith}
use Rattle.std.proofs.lemmas.Bool.{cases_lt}
use Rattle.std.proofs.lemmas.List.{at_drop_more, at_drop_all, get_or-take, get_or-drop, length-take-le, length-drop}
use Rattle.circuit.specs.declared.Gate.{Gate}
use Rattle.circuit.specs.declared.Source.{Source}
use Rattle.circuit.specs.Circuits.{no_gate}
use Rattle.circuit.specs.Wiring.{pin_total, unjoined_pin, at_gate, unjoined_from, UnjoinedFirst, FirstUnjoinedExact}
use Rattle.circuit.proofs.Wired.{fits_at}

-- the sources of a gate's pins
abbrev pub pins_part : List (Option Source) → Gate → List (Option Source)
pins_part sources gate = take gate.pins (drop gate.first sources)

part_at : (sources : List (Option Source)) (gate : Gate) (p : ℕ) → p < gate.pins → get_or (pins_part sources gate) p None ≡ get_or sources (gate.first + p) None
part_at sources gate p h = get_or-take gate.pins (drop gate.first sources) p None h ∙ get_or-drop gate.first sources p None

part_length : (sources : List (Option Source)) (gate : Gate) → gate.first + gate.pins ≤ length sources → length (pins_part sources gate) ≡ gate.pins
part_length sources gate h = length-take-le gate.pins (drop gate.first sources) (omega (arith, length-drop gate.first sources))

pin_none : (part : List (Option Source)) (p : ℕ) → length part ≤ p → unjoined_pin p (drop p part) ≡ None
pin_none part p h = at_drop_all (unjoined_pin p) part p h

-- one gate on
gate_more : (gates : List Gate) (sources : List (Option Source)) (g : ℕ) → g < length gates
    → unjoined_from g (drop g gates) sources ≡ at_gate g (unjoined_pin 0 (pins_part sources (get_or gates g no_gate))) (unjoined_from (g + 1) (drop (g + 1) gates) sources)
gate_more gates sources g h =
    let e : suc g ≡ g + 1 = omega arith in
    at_drop_more (λ gs. unjoined_from g gs sources) gates g no_gate h
    ∙ ap (λ n. at_gate g (unjoined_pin 0 (pins_part sources (get_or gates g no_gate))) (unjoined_from n (drop (g + 1) gates) sources)) e

-- the sources of the pins of a gate that was read
pub part_read : (gates gates' : List Gate) (sources sources' : List (Option Source)) (g : ℕ) → gates' ≡ gates → sources' ≡ sources
    → take ((get_or gates' g no_gate).first + (get_or gates' g no_gate).pins - (get_or gates' g no_gate).first) (drop (get_or gates' g no_gate).first sources') ≡ pins_part sources (get_or gates g no_gate)
part_read gates gates' sources sources' g e e' =
    ap (λ n. take n (drop (get_or gates' g no_gate).first sources')) (omega arith)
    ∙ ap (λ l. pins_part l (get_or gates' g no_gate)) e'
    ∙ ap (λ gs. pins_part sources (get_or gs g no_gate)) e

-- a gate whose pins were read, all of them joined
pub gate_passed : (gates : List Gate) (sources : List (Option Source)) (g : ℕ) → g < length gates → (part : List (Option Source)) → part ≡ pins_part sources (get_or gates g no_gate)
    → (p : ℕ) → length part ≤ p → unjoined_pin p (drop p part) ≡ unjoined_pin 0 part → unjoined_from (g + 1) (drop (g + 1) gates) sources ≡ unjoined_from g (drop g gates) sources
gate_passed gates sources g low part is p past so =
    let none = sym (ap (unjoined_pin 0) is) ∙ sym so ∙ pin_none part p past in
    sym (gate_more gates sources g low ∙ ap (λ o. at_gate g o (unjoined_from (g + 1) (drop (g + 1) gates) sources)) none)

some_none : {X : Type 0} (x : X) → Some x ≡ None → ⊥
some_none x e = let z : ◌≡◌ {A = ℕ} 0 1 = cc in omega arith

-- what the search finds among some pins
pin_none_says : (p : ℕ) (pins : List (Option Source)) → unjoined_pin p pins ≡ None → (q : ℕ) → q < length pins → get_or pins q None ≡ None → ⊥
pin_none_says p [] e q h = absurd (omega arith)
pin_none_says p (None ∷ pins) e q h = absurd (some_none p e)
pin_none_says p (Some s ∷ pins) e zero h = some_none s
pin_none_says p (Some s ∷ pins) e (suc q) h = pin_none_says (suc p) pins e q (omega arith)

record FoundPin (pins : List (Option Source)) (p k : ℕ) : Type 0 where
  offset : ℕ
  is : k ≡ p + offset
  within : offset < length pins
  unjoined : get_or pins offset None ≡ None
  before : (q : ℕ) → q < offset → get_or pins q None ≡ None → ⊥

one_more : (s : Source) (pins : List (Option Source)) (offset : ℕ) → ((q : ℕ) → q < offset → get_or pins q None ≡ None → ⊥) → (q : ℕ) → q < suc offset → get_or (Some s ∷ pins) q None ≡ None → ⊥
one_more s pins offset before zero h = some_none s
one_more s pins offset before (suc q) h = before q (omega arith)

pin_some_says : (p : ℕ) (pins : List (Option Source)) (k : ℕ) → unjoined_pin p pins ≡ Some k → FoundPin pins p k
pin_some_says p [] k e = absurd (some_none k (sym e))
pin_some_says p (None ∷ pins) k e = let z : p ≡ k = cc in record { offset = 0; is = omega arith; within = omega arith; unjoined = refl; before = λ q h. absurd (omega arith) }
pin_some_says p (Some s ∷ pins) k e =
    let r = pin_some_says (suc p) pins k e in
    let i = r.is in
    let w = r.within in
    record { offset = suc r.offset; is = omega arith; within = omega arith; unjoined = r.unjoined; before = one_more s pins r.offset r.before }

-- what the search finds among some gates, whose wires are all there
abbrev Fit : List Gate → ℕ → Type 0
Fit gates wires = (g : ℕ) → g < length gates → (get_or gates g no_gate).first + (get_or gates g no_gate).pins ≤ wires

abbrev joined_at : List Gate → List (Option Source) → ℕ → ℕ → Option Source
joined_at gates sources g p = get_or sources ((get_or gates g no_gate).first + p) None

at_gate_none : (g : ℕ) (o : Option ℕ) (later : Option (ℕ × ℕ)) → at_gate g o later ≡ None → (o ≡ None) × (later ≡ None)
at_gate_none g None later e = (refl, e)
at_gate_none g (Some p) later e = absurd (some_none (g, p) e)

gates_none_says : (g : ℕ) (gates : List Gate) (sources : List (Option Source)) → Fit gates (length sources) → unjoined_from g gates sources ≡ None → (h q : ℕ) → h < length gates → q < (get_or gates h no_gate).pins → joined_at gates sources h q ≡ None → ⊥
gates_none_says g [] sources fit e h q low in' is = absurd (omega arith)
gates_none_says g (gate ∷ gates) sources fit e zero q low in' is =
    let wide = part_length sources gate (fit zero (omega arith)) in
    pin_none_says 0 (pins_part sources gate) (at_gate_none g _ _ e).0 q (omega arith) (part_at sources gate q in' ∙ is)
gates_none_says g (gate ∷ gates) sources fit e (suc h) q low in' is =
    gates_none_says (suc g) gates sources (λ j l. fit (suc j) (omega arith)) (at_gate_none g (unjoined_pin 0 (pins_part sources gate)) _ e).1 h q (omega arith) in' is

record FoundGate (gates : List Gate) (sources : List (Option Source)) (g k p : ℕ) : Type 0 where
  offset : ℕ
  is : k ≡ g + offset
  within : offset < length gates
  pin : p < (get_or gates offset no_gate).pins
  unjoined : joined_at gates sources offset p ≡ None
  gates_before : (h q : ℕ) → h < offset → q < (get_or gates h no_gate).pins → joined_at gates sources h q ≡ None → ⊥
  pins_before : (q : ℕ) → q < p → joined_at gates sources offset q ≡ None → ⊥

-- the first of the gates has the pin
found_here : (g k p : ℕ) (gate : Gate) (gates : List Gate) (sources : List (Option Source)) → gate.first + gate.pins ≤ length sources → k ≡ g → unjoined_pin 0 (pins_part sources gate) ≡ Some p → FoundGate (gate ∷ gates) sources g k p
found_here g k p gate gates sources fit same e =
    let r = pin_some_says 0 (pins_part sources gate) p e in
    let wide = part_length sources gate fit in
    let i = r.is in
    let w = r.within in
    let here : p ≡ r.offset = omega arith in
    let in' : p < gate.pins = omega arith in
    record {
      offset = 0;
      is = omega arith;
      within = omega arith;
      pin = in';
      unjoined = sym (part_at sources gate p in') ∙ ap (λ n. get_or (pins_part sources gate) n None) here ∙ r.unjoined;
      gates_before = λ h q l. absurd (omega arith);
      pins_before = λ q l is. r.before q (omega arith) (part_at sources gate q (omega arith) ∙ is);
    }

-- all its pins are joined, and a later one has the pin
before_more : (gate : Gate) (gates : List Gate) (sources : List (Option Source)) (offset : ℕ)
    → ((q : ℕ) → q < gate.pins → get_or sources (gate.first + q) None ≡ None → ⊥)
    → ((h q : ℕ) → h < offset → q < (get_or gates h no_gate).pins → joined_at gates sources h q ≡ None → ⊥)
    → (h q : ℕ) → h < suc offset → q < (get_or (gate ∷ gates) h no_gate).pins → joined_at (gate ∷ gates) sources h q ≡ None → ⊥
before_more gate gates sources offset here later zero q l = here q
before_more gate gates sources offset here later (suc h) q l = later h q (omega arith)

found_later : (g k p : ℕ) (gate : Gate) (gates : List Gate) (sources : List (Option Source)) → gate.first + gate.pins ≤ length sources → unjoined_pin 0 (pins_part sources gate) ≡ None → FoundGate gates sources (suc g) k p → FoundGate (gate ∷ gates) sources g k p
found_later g k p gate gates sources fit none r =
    let wide = part_length sources gate fit in
    let i = r.is in
    let w = r.within in
    record {
      offset = suc r.offset;
      is = omega arith;
      within = omega arith;
      pin = r.pin;
      unjoined = r.unjoined;
      gates_before = before_more gate gates sources r.offset (λ q l is. pin_none_says 0 (pins_part sources gate) none q (omega arith) (part_at sources gate q l ∙ is)) r.gates_before;
      pins_before = r.pins_before;
    }

gates_some_says : (g : ℕ) (gates : List Gate) (sources : List (Option Source)) → Fit gates (length sources) → (k p : ℕ) → unjoined_from g gates sources ≡ Some (k, p) → FoundGate gates sources g k p
gates_some_says g [] sources fit k p e = absurd (some_none (k, p) (sym e))
gates_some_says g (gate ∷ gates) sources fit k p e =
    by g k p gate gates sources (fit zero (omega arith)) (unjoined_pin 0 (pins_part sources gate)) refl e
    (λ later. gates_some_says (suc g) gates sources (λ j l. fit (suc j) (omega arith)) k p later)
  where
    by : (g k p : ℕ) (gate : Gate) (gates : List Gate) (sources : List (Option Source)) → gate.first + gate.pins ≤ length sources
        → (o : Option ℕ) → unjoined_pin 0 (pins_part sources gate) ≡ o → at_gate g o (unjoined_from (suc g) gates sources) ≡ Some (k, p)
        → (unjoined_from (suc g) gates sources ≡ Some (k, p) → FoundGate gates sources (suc g) k p) → FoundGate (gate ∷ gates) sources g k p
    by g k p gate gates sources fit None is e later = found_later g k p gate gates sources fit is (later e)
    by g k p gate gates sources fit (Some q) is e later =
        let both : ◌≡◌ {A = ℕ × ℕ} (g, q) (k, p) = cc in
        let a : g ≡ k = ap (λ (x : ℕ × ℕ). x.0) both in
        let b : q ≡ p = ap (λ (x : ℕ × ℕ). x.1) both in
        found_here g k p gate gates sources fit (sym a) (is ∙ ap Some b)

-- the gate and pin of a wire
wire_owner : (gates : List Gate) (w : ℕ) → w < pin_total gates → (g p : ℕ) × ((g < length gates) × (p < (get_or gates g no_gate).pins) × (pin_total (take g gates) + p ≡ w))
wire_owner [] w h = absurd (omega arith)
wire_owner (gate ∷ gates) w h =
    ⊎_elim
    (λ (low : w < gate.pins). (0, w, (omega arith, low, omega arith)))
    (λ (high : gate.pins ≤ w).
    let r = wire_owner gates (w - gate.pins) (omega arith) in
    let a = r.2.0 in
    let b = r.2.2 in
    (suc r.0, r.1, (omega arith, r.2.1, omega arith)))
    (cases_lt w gate.pins)

pub first_unjoined_exact : FirstUnjoinedExact
first_unjoined_exact c numbered = record {
  none = λ e w h is.
      let all = numbered.1 in
      let r = wire_owner c.gates w (omega arith) in
      let at = numbered.0 r.0 r.2.0 in
      let b = r.2.2 in
      let here : (get_or c.gates r.0 no_gate).first + r.1 ≡ w = omega arith in
      gates_none_says 0 c.gates c.sources fit e r.0 r.1 r.2.0 r.2.1 (ap (λ n. get_or c.sources n None) here ∙ is);
  some = λ g p e.
      let r = gates_some_says 0 c.gates c.sources fit g p e in
      let i = r.is in
      let here : r.offset ≡ g = omega arith in
      subst (λ n. UnjoinedFirst c n p) here (record { gate = r.within; pin = r.pin; unjoined = r.unjoined; gates_before = r.gates_before; pins_before = r.pins_before });
}
  where
    fit : Fit c.gates (length c.sources)
    fit g h = fits_at c.gates (length c.sources) g numbered h
