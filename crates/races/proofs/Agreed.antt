-- Values and marks in lists agree with those of the network: excitations, and both passes.
use Rattle.std.proofs.Common.{◌≡◌, ℕ, zero, suc, ◌+◌, ◌<◌, ◌≤◌, Bool, true, false, List, [], ◌∷◌, length, get_or, take, drop, Some, None, Option, sym, refl, ap, ◌∙◌, subst, ap₂, arith}
use Rattle.std.proofs.lemmas.Bool.{lt-ltb, ltb-true, and_from, cond-true}
use Rattle.std.proofs.lemmas.List.{length-drop, get_or-drop}
use Rattle.gates.specs.declared.Mark.{Mark}
use Rattle.gates.specs.Marks.{settled, extended}
use Rattle.gates.specs.Kinds.{Kind}
use Rattle.circuit.specs.declared.Source.{Source}
use Rattle.circuit.specs.declared.Source.TheVariants as source
use Rattle.circuit.specs.declared.Signal.TheVariants as signal
use Rattle.circuit.specs.declared.passes.Pass.{Pass}
use Rattle.circuit.specs.Circuits.{Circuit, Has, size, place, tapped, gate_function, source_value, excitation}
use Rattle.circuit.specs.Wiring.{Wired, Joined}
use Rattle.circuit.specs.Passes.{next, stepped, iterate, Ends}
use Rattle.circuit.proofs.Wired.{sourced_at}
use Rattle.circuit.proofs.Falls.{length-stepped, getD_stepped}
use Rattle.races.specs.Exact.{mark}
use Rattle.races.proofs.Places.{place_in, signal_place}
use Rattle.races.proofs.Named.{network, gate_at, joined_to, numbered, gate_wires, has}
use Rattle.races.proofs.network.Networks.{input, gate, core, wire, present, row}
use Rattle.races.proofs.network.Networks as net

-- a part of a list, place by place
take_row : {A : Type 0} (d : A) (m : ℕ) (xs : List A) → m ≤ length xs → take m xs ≡ row m (λ p. get_or xs p d)
take_row d zero xs h = refl
take_row d (suc m) [] h = absurd (omega arith)
take_row d (suc m) (x ∷ xs) h = ap (λ l. x ∷ l) (take_row d m xs (omega arith))

row_same : {A : Type 0} (m : ℕ) (w u : ℕ → A) → ((p : ℕ) → p < m → w p ≡ u p) → row m w ≡ row m u
row_same zero w u e = refl
row_same (suc m) w u e = ap₂ (λ x l. x ∷ l) (e zero (omega arith)) (row_same m (λ p. w (suc p)) (λ p. u (suc p)) (λ p h. e (suc p) (omega arith)))

part_row : {A : Type 0} (d : A) (k m : ℕ) (xs : List A) (u : ℕ → A) → k + m ≤ length xs → ((p : ℕ) → p < m → get_or xs (k + p) d ≡ u p) → take m (drop k xs) ≡ row m u
part_row d k m xs u h e =
    let l = length-drop k xs in
    take_row d m (drop k xs) (omega arith)
    ∙ row_same m (λ p. get_or (drop k xs) p d) u (λ p low. get_or-drop k xs p d ∙ e p low)

-- the values of a list are those of a function of the network's signals
abbrev pub Agrees : {V : Type 0} → (Bool → V) → List Kind → Circuit → List V → (net.Signal → V) → Type 0
Agrees bit ks c xs a = (σ : net.Signal) → present (network ks c) σ ≡ true → get_or xs (place c (numbered c σ)) (bit false) ≡ a σ

module _ (ks : List Kind) (c : Circuit) (wired : Wired c) (joined : Joined c) where
  module _ {V : Type 0} (bit : Bool → V) (give : (List Bool → Bool) → List V → V) (xs : List V) (a : net.Signal → V) (long : length xs ≡ size c) (agrees : Agrees bit ks c xs a) where
    gate_agrees : (j : ℕ) → j < length c.gates → excitation bit give ks c xs (signal.Gate j) ≡ net.driven bit give (network ks c) a (core (gate j))
    gate_agrees j h =
        let g = gate_at c j in
        let from : ℕ = length c.applied + length c.gates + g.first in
        let low = gate_wires ks c wired j h in
        ap (give (gate_function ks g.kind)) (part_row (bit false) from g.pins xs (λ p. a (wire j p)) (omega arith)
        (λ p in'. ap (λ i. get_or xs i (bit false)) (omega arith) ∙ agrees (wire j p) (and_from _ _ (lt-ltb j _ h) (lt-ltb p _ in'))))

    wire_agrees : (o : Option Source) → ¬ (o ≡ None) → ((s : Source) → o ≡ Some s → Has c (tapped s)) → source_value bit give ks c o xs ≡ a (core (joined_to o))
    wire_agrees None some at = absurd (some refl)
    wire_agrees (Some (source.Input i)) some at = agrees (core (input i)) (lt-ltb i _ (at (source.Input i) refl))
    wire_agrees (Some (source.Gate j)) some at = agrees (core (gate j)) (lt-ltb j _ (at (source.Gate j) refl))

    pub excitation_agrees : (σ : net.Signal) → present (network ks c) σ ≡ true → excitation bit give ks c xs (numbered c σ) ≡ net.drive bit give (network ks c) a σ
    excitation_agrees σ q = by σ q ∙ sym (cond-true _ _ _ q)
      where
        by : (σ : net.Signal) → present (network ks c) σ ≡ true → excitation bit give ks c xs (numbered c σ) ≡ net.driven bit give (network ks c) a σ
        by (core (input i)) q = refl
        by (core (gate j)) q = gate_agrees j (ltb-true j _ q)
        by (wire j p) q = let w : ℕ = (gate_at c j).first + p in wire_agrees _ (joined w (has ks c wired (wire j p) q)) (λ s e. sourced_at c w s wired.sourced e)

  module _ (pass : Pass) where
    step_agrees : (ms : List Mark) (a : net.Marking) → length ms ≡ size c → Agrees settled ks c ms a → (σ : net.Signal) → present (network ks c) σ ≡ true → mark c (stepped pass ks c ms) (numbered c σ) ≡ next pass (a σ) (net.excited (network ks c) a σ)
    step_agrees ms a long agrees σ q =
        let x = numbered c σ in
        let h = has ks c wired σ q in
        getD_stepped ks c pass ms (place c x) (place_in c x h)
        ∙ ap₂ (next pass) (agrees σ q) (ap (excitation settled extended ks c ms) (signal_place c x h) ∙ excitation_agrees settled extended ms a long agrees σ q)

    -- a pass of the lists, beside one of the network
    module _ (from : List Mark) (long : length from ≡ size c) (a : ℕ → net.Marking) (begins : Agrees settled ks c from (a zero)) (goes : (h : ℕ) (σ : net.Signal) → a (suc h) σ ≡ next pass (a h σ) (net.excited (network ks c) (a h) σ)) where
      steps_long : (h : ℕ) → length (iterate (stepped pass ks c) h from) ≡ size c
      steps_long zero = long
      steps_long (suc h) = length-stepped ks c pass (iterate (stepped pass ks c) h from)

      steps_agree : (h : ℕ) → Agrees settled ks c (iterate (stepped pass ks c) h from) (a h)
      steps_agree zero σ q = begins σ q
      steps_agree (suc h) σ q = step_agrees (iterate (stepped pass ks c) h from) (a h) (steps_long h) (steps_agree h) σ q ∙ sym (goes h σ)

      module _ (k : ℕ) (to : List Mark) (ends : Ends (stepped pass ks c) from k to) where
        end_long : length to ≡ size c
        end_long = ap length ends.reached ∙ steps_long k

        pub end_agrees : Agrees settled ks c to (a k)
        end_agrees = subst (λ ms. Agrees settled ks c ms (a k)) (sym ends.reached) (steps_agree k)

        pub end_still : (σ : net.Signal) → present (network ks c) σ ≡ true → a (suc k) σ ≡ a k σ
        end_still σ q =
            goes k σ
            ∙ sym (step_agrees to (a k) end_long end_agrees σ q)
            ∙ ap (λ ms. mark c ms (numbered c σ)) ends.still
            ∙ end_agrees σ q
