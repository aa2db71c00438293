-- Every pin of a lawful list is joined.
use Rattle.std.proofs.Common.{◌≡◌, ℕ, suc, Bool, true, false, cond, ◌⊎◌, List, [], ◌∷◌, ◌++◌, take, drop, is_some, Some, None, Option, refl, ap, ◌∙◌, inl, inr, ⊎_elim, arith}
use Rattle.std.specs.Option.{option_map}
use Rattle.std.specs.List.{AllByRecursion}
use Rattle.std.specs.Str.{bytes_eq}
use Rattle.std.proofs.ByRecursion.{All-take, All-drop, All-append}
use Rattle.std.proofs.lemmas.Slice.Eq.{bytes_eq-Decides}
use Rattle.std.proofs.lemmas.Bool.{cond-true}
use Rattle.circuit.specs.declared.Gate as circuit
use Rattle.circuit.specs.declared.Source.{Source}
use Rattle.circuit.specs.Wiring.{unjoined_pin, at_gate, unjoined_from}
use Rattle.gate_list_format.specs.Lists.{GateList, Gate, Pin, In, names, input_names, gate_names}
use Rattle.list_record.specs.ListBoards.{PinsJoined, position, source_at, source_named, pin_sources, pins_in, gate_rows}

abbrev Tied : Option Source → Type 0
Tied o = is_some o ≡ true

no_pin : (p : ℕ) (xs : List (Option Source)) → AllByRecursion Tied xs → unjoined_pin p xs ≡ None
no_pin p [] h = refl
no_pin p (None ∷ xs) h = let e = h.0 in let z : ◌≡◌ {A = ℕ} 0 1 = cc in absurd (omega arith)
no_pin p (Some s ∷ xs) h = no_pin (suc p) xs h.1

no_gate : (g : ℕ) (gates : List circuit.Gate) (xs : List (Option Source)) → AllByRecursion Tied xs → unjoined_from g gates xs ≡ None
no_gate g [] xs h = refl
no_gate g (x ∷ gates) xs h =
    ap (λ o. at_gate g o (unjoined_from (suc g) gates xs)) (no_pin 0 (take x.pins (drop x.first xs)) (All-take Tied x.pins (drop x.first xs) (All-drop Tied x.first xs h)))
    ∙ no_gate (suc g) gates xs h

some_suc : (o : Option ℕ) → is_some (option_map suc o) ≡ is_some o
some_suc None = refl
some_suc (Some i) = refl

in_position : (f : List ℕ) (ns : List (List ℕ)) → In f ns → is_some (position f ns) ≡ true
in_position f [] h = absurd h
in_position f (n ∷ ns) h =
    ⊎_elim
    (λ e. ap is_some (cond-true (bytes_eq f n) (Some 0) (option_map suc (position f ns)) ((bytes_eq-Decides f n).1 e)))
    (λ i. behind (bytes_eq f n) (in_position f ns i))
    h
  where
    behind : (t : Bool) → is_some (position f ns) ≡ true → is_some (cond t (Some 0) (option_map suc (position f ns))) ≡ true
    behind true e = refl
    behind false e = some_suc (position f ns) ∙ e

in_append : (f : List ℕ) (xs ys : List (List ℕ)) → In f (xs ++ ys) → In f xs ⊎ In f ys
in_append f [] ys h = inr h
in_append f (x ∷ xs) ys h = ⊎_elim (λ e. inl (inl e)) (λ i. ⊎_elim (λ j. inl (inr j)) (λ j. inr j) (in_append f xs ys i)) h

either_tied : (i g : Option ℕ) → (is_some i ≡ true) ⊎ (is_some g ≡ true) → Tied (source_at i g)
either_tied (Some i) g h = refl
either_tied None (Some g) h = refl
either_tied None None h = ⊎_elim (λ e. e) (λ e. e) h

named_tied : (b : GateList) (f : List ℕ) → In f (names b) → Tied (source_named b f)
named_tied b f h =
    either_tied (position f (input_names b.inputs)) (position f (gate_names b.gates))
    (⊎_elim (λ i. inl (in_position f (input_names b.inputs) i)) (λ i. inr (in_position f (gate_names b.gates) i)) (in_append f (input_names b.inputs) (gate_names b.gates) h))

pins_tied : (b : GateList) (ps : List Pin) → AllByRecursion (λ p. In p.source (names b)) ps → AllByRecursion Tied (pin_sources b ps)
pins_tied b [] h = tt
pins_tied b (p ∷ ps) h = (named_tied b p.source h.0, pins_tied b ps h.1)

all_pins : (P : Pin → Type 0) (gs : List Gate) → AllByRecursion (λ g. AllByRecursion P g.pins) gs → AllByRecursion P (pins_in gs)
all_pins P [] h = tt
all_pins P (g ∷ gs) h = All-append P g.pins (pins_in gs) h.0 (all_pins P gs h.1)

pub pins_joined : PinsJoined
pins_joined b law = no_gate 0 (gate_rows 0 b.gates) (pin_sources b (pins_in b.gates)) (pins_tied b (pins_in b.gates) (all_pins (λ p. In p.source (names b)) b.gates law.sources))
