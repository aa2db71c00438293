-- The network that a circuit stands for: each signal of the one is a signal of the other.
use Rattle.std.proofs.Common.{◌≡◌, ℕ, zero, suc, ◌+◌, ◌-◌, ◌<◌, ◌≤◌, true, false, cond, ltb, List, [], ◌∷◌, length, get_or, take, Some, None, Option, refl, ap, ◌∙◌, ap₂, inl, inr, arith}
use Rattle.std.proofs.lemmas.Bool.{cases_Bool, and_from, and_parts, lt-ltb, le-ltb, ltb-true, ltb-false, cond-true, cond-false}
use Rattle.gates.specs.Kinds.{Kind}
use Rattle.circuit.specs.declared.Gate.{Gate}
use Rattle.circuit.specs.declared.Source.{Source}
use Rattle.circuit.specs.declared.Source.TheVariants as source
use Rattle.circuit.specs.declared.Signal.{Signal}
use Rattle.circuit.specs.declared.Signal.TheVariants as signal
use Rattle.circuit.specs.Circuits.{Circuit, Has, no_gate, gate_function}
use Rattle.circuit.specs.Wiring.{pin_total, Numbered, Wired}
use Rattle.circuit.proofs.Wired.{fits_at}
use Rattle.races.proofs.network.Networks.{Network, Core, input, gate, core, wire, present}
use Rattle.races.proofs.network.Networks as net

abbrev pub gate_at : Circuit → ℕ → Gate
gate_at c j = get_or c.gates j no_gate

-- an unjoined pin hangs on input 0
abbrev pub joined_to : Option Source → Core
joined_to None = input 0
joined_to (Some (source.Input i)) = input i
joined_to (Some (source.Gate g)) = gate g

abbrev pub network : List Kind → Circuit → Network
network ks c = record {
  inputs = length c.applied;
  gates = length c.gates;
  applied = λ i. get_or c.applied i false;
  pins = λ j. (gate_at c j).pins;
  function = λ j. gate_function ks (gate_at c j).kind;
  source = λ j p. joined_to (get_or c.sources ((gate_at c j).first + p) None);
}

-- the section and number of a signal: the wires of a gate are numbered from its first on
abbrev pub numbered : Circuit → net.Signal → Signal
numbered c (core (input i)) = signal.Input i
numbered c (core (gate j)) = signal.Gate j
numbered c (wire j p) = signal.Wire ((gate_at c j).first + p)

-- wire w of the gates from number j on, by gate and pin
abbrev owned : List Gate → ℕ → ℕ → net.Signal
owned [] j w = wire j w
owned (g ∷ gs) j w = cond (ltb w g.pins) (wire j w) (owned gs (suc j) (w - g.pins))

-- a signal by section and number, as the network names it
abbrev pub named : Circuit → Signal → net.Signal
named c (signal.Input i) = core (input i)
named c (signal.Gate j) = core (gate j)
named c (signal.Wire w) = owned c.gates 0 w

-- the wires of the gates, from number `from` on, stand one behind the other up to the last
abbrev Packed : ℕ → List Gate → ℕ → Type 0
Packed from [] wires = from ≡ wires
Packed from (g ∷ gs) wires = (g.first ≡ from) × Packed (from + g.pins) gs wires

packed_from : (from : ℕ) (gs : List Gate) (wires : ℕ) → ((g : ℕ) → g < length gs → (get_or gs g no_gate).first ≡ from + pin_total (take g gs)) → from + pin_total gs ≡ wires → Packed from gs wires
packed_from from [] wires at all = omega arith
packed_from from (g ∷ gs) wires at all =
    let here = at 0 (omega arith) in
    (omega arith, packed_from (from + g.pins) gs wires (λ i h. let e = at (suc i) (omega arith) in omega arith) (omega arith))

packed_of : (gates : List Gate) (wires : ℕ) → Numbered gates wires → Packed 0 gates wires
packed_of gates wires n = let all = n.1 in packed_from 0 gates wires (λ g h. let e = n.0 g h in omega arith) (omega arith)

packed_first : (from : ℕ) (gs : List Gate) (wires : ℕ) → Packed from gs wires → (j : ℕ) → j < length gs → from ≤ (get_or gs j no_gate).first
packed_first from [] wires h j low = absurd (omega arith)
packed_first from (g ∷ gs) wires h zero low = let e = h.0 in omega arith
packed_first from (g ∷ gs) wires h (suc j) low = let r = packed_first (from + g.pins) gs wires h.1 j (omega arith) in omega arith

-- the gate and pin of a wire
record OwnedAt (gs : List Gate) (from j w : ℕ) : Type 0 where
  offset : ℕ
  pin : ℕ
  is : owned gs j w ≡ wire (j + offset) pin
  within : offset < length gs
  narrow : pin < (get_or gs offset no_gate).pins
  at : (get_or gs offset no_gate).first + pin ≡ from + w

owned_there : (from : ℕ) (gs : List Gate) (wires j w : ℕ) → Packed from gs wires → from + w < wires → OwnedAt gs from j w
owned_there from [] wires j w h low = absurd (omega arith)
owned_there from (g ∷ gs) wires j w h low = elim (cases_Bool (ltb w g.pins)) [
  | inl t ↦ let e = h.0 in record {
    offset = 0;
    pin = w;
    is = cond-true _ _ _ t ∙ ap (λ x. wire x w) (omega arith);
    within = omega arith;
    narrow = ltb-true w g.pins t;
    at = omega arith;
  }
  | inr t ↦
      let high : g.pins ≤ w = ltb-false w g.pins t in
      let r = owned_there (from + g.pins) gs wires (suc j) (w - g.pins) h.1 (omega arith) in
      let i = r.offset in
      let p = r.pin in
      let in' = r.within in
      let at' = r.at in
      record {
        offset = suc i;
        pin = p;
        is = cond-false _ _ _ t ∙ r.is ∙ ap (λ x. wire x p) (omega arith);
        within = omega arith;
        narrow = r.narrow;
        at = omega arith;
      }
]

owned_forth : (from : ℕ) (gs : List Gate) (wires j i p w : ℕ) → Packed from gs wires → i < length gs → p < (get_or gs i no_gate).pins → from + w ≡ (get_or gs i no_gate).first + p → owned gs j w ≡ wire (j + i) p
owned_forth from [] wires j i p w h low in' e = absurd (omega arith)
owned_forth from (g ∷ gs) wires j zero p w h low in' e =
    let f = h.0 in
    let s : w ≡ p = omega arith in
    cond-true _ _ _ (lt-ltb w g.pins (omega arith)) ∙ ap₂ wire (omega arith) s
owned_forth from (g ∷ gs) wires j (suc i) p w h low in' e =
    let f = packed_first (from + g.pins) gs wires h.1 i (omega arith) in
    cond-false _ _ _ (le-ltb w g.pins (omega arith))
    ∙ owned_forth (from + g.pins) gs wires (suc j) i p (w - g.pins) h.1 (omega arith) in' (omega arith)
    ∙ ap (λ x. wire x p) (omega arith)

module _ (ks : List Kind) (c : Circuit) (wired : Wired c) where
  abbrev n : Network
  n = network ks c

  packed : Packed 0 c.gates (length c.sources)
  packed = packed_of c.gates (length c.sources) wired.numbered

  pub gate_wires : (j : ℕ) → j < length c.gates → (gate_at c j).first + (gate_at c j).pins ≤ length c.sources
  gate_wires j h = fits_at c.gates (length c.sources) j wired.numbered h

  pub has : (σ : net.Signal) → present n σ ≡ true → Has c (numbered c σ)
  has (core (input i)) q = ltb-true i _ q
  has (core (gate j)) q = ltb-true j _ q
  has (wire j p) q =
      let two = and_parts (ltb j (length c.gates)) (ltb p (gate_at c j).pins) q in
      let low = gate_wires j (ltb-true j _ two.0) in
      let in' : p < (gate_at c j).pins = ltb-true p (gate_at c j).pins two.1 in
      omega arith

  owner : (w : ℕ) → w < length c.sources → OwnedAt c.gates 0 0 w
  owner w h = owned_there 0 c.gates (length c.sources) 0 w packed (omega arith)

  owner_is : (w : ℕ) (h : w < length c.sources) → owned c.gates 0 w ≡ wire (owner w h).offset (owner w h).pin
  owner_is w h = (owner w h).is ∙ ap (λ x. wire x (owner w h).pin) (omega arith)

  pub there : (x : Signal) → Has c x → present n (named c x) ≡ true
  there (signal.Input i) h = lt-ltb i _ h
  there (signal.Gate j) h = lt-ltb j _ h
  there (signal.Wire w) h = ap (present n) (owner_is w h) ∙ and_from _ _ (lt-ltb (owner w h).offset _ (owner w h).within) (lt-ltb (owner w h).pin _ (owner w h).narrow)

  pub back : (x : Signal) → Has c x → numbered c (named c x) ≡ x
  back (signal.Input i) h = refl
  back (signal.Gate j) h = refl
  back (signal.Wire w) h = let at = (owner w h).at in ap (numbered c) (owner_is w h) ∙ ap signal.Wire (omega arith)

  pub forth : (σ : net.Signal) → present n σ ≡ true → named c (numbered c σ) ≡ σ
  forth (core (input i)) q = refl
  forth (core (gate j)) q = refl
  forth (wire j p) q =
      let two = and_parts (ltb j (length c.gates)) (ltb p (gate_at c j).pins) q in
      owned_forth 0 c.gates (length c.sources) 0 j p ((gate_at c j).first + p) packed (ltb-true j _ two.0) (ltb-true p _ two.1) (omega arith)
      ∙ ap (λ x. wire x p) (omega arith)
