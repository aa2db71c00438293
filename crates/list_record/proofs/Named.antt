-- The source that a name has, as a search finds it.
use Rattle.std.proofs.Common.{◌≡◌, ℕ, zero, suc, ◌<◌, true, false, List, [], ◌∷◌, length, is_some, Some, None, Option, sym, refl, ap, ◌∙◌, subst, arith}
use Rattle.std.specs.Option.{option_map}
use Rattle.std.specs.Str.{bytes_eq}
use Rattle.std.proofs.lemmas.Slice.Eq.{bytes_eq-Decides}
use Rattle.std.proofs.lemmas.List.{length-map}
use Rattle.std.proofs.lemmas.Bool.{cond-true, cond-false, lt-ltb}
use Rattle.circuit.specs.Circuits.{Circuit, tapped}
use Rattle.circuit.specs.Changes.{source_of}
use Rattle.gate_list_format.specs.Lists.{GateList, In, names, input_names, gate_names}
use Rattle.gate_list_format.proofs.Judges.{in_member}
use Rattle.gate_list_names.specs.Names.{First, input_names_in, gate_names_in}
use Rattle.gate_list.specs.Tables.{input_entries, gate_entries}
use Rattle.gate_list.proofs.Known.{entries_name}
use Rattle.gate_list_names.specs.Sources.{FirstSource}
use Rattle.circuit.specs.declared.Source.{Source}
use Rattle.circuit.specs.declared.Source.TheVariants.{Input, Gate}
use Rattle.gate_list_names.proofs.Found.{same_not, source_member}
use Rattle.list_record.specs.ListBoards.{position, source_at, source_named}
use Rattle.gate_list_names.specs.declared.Names.{Names}
use Rattle.list_record.specs.Replay.{Lists}

pub first_position : (f : List ℕ) (ns : List (List ℕ)) (r : Option ℕ) → First f ns r → position f ns ≡ r
first_position f [] None h = refl
first_position f [] (Some i) h = absurd (omega (arith, h.0))
first_position f (n ∷ ns) None h = cond-false (bytes_eq f n) (Some 0) (option_map suc (position f ns)) (same_not f n (h 0 (omega arith))) ∙ ap (option_map suc) (first_position f ns None (λ k l. h (suc k) (omega arith)))
first_position f (n ∷ ns) (Some zero) h = cond-true (bytes_eq f n) (Some 0) (option_map suc (position f ns)) ((bytes_eq-Decides f n).1 (sym h.1))
first_position f (n ∷ ns) (Some (suc i)) h = cond-false (bytes_eq f n) (Some 0) (option_map suc (position f ns)) (same_not f n (h.2 0 (omega arith))) ∙ ap (option_map suc) (first_position f ns (Some i) (omega (arith, h.0), h.1, (λ k l. h.2 (suc k) (omega arith))))

-- a source that is found is the source of that name, and is there
pub found_source : (b : GateList) (c : Circuit) (f : List ℕ) (s : Source) → length c.applied ≡ length b.inputs → length c.gates ≡ length b.gates → FirstSource f (input_names b.inputs) (gate_names b.gates) (Some s) → (source_of c (tapped s) ≡ source_named b f) × (is_some (source_of c (tapped s)) ≡ true)
found_source b c f (Input i) n r h =
    let here : i < length c.applied = omega (arith, h.0, length-map b.inputs (λ i. i.name)) in
    let is = cond-true _ (Some (Input i)) None (lt-ltb i (length c.applied) here) in
    (is ∙ sym (ap (λ o. source_at o (position f (gate_names b.gates))) (first_position f (input_names b.inputs) (Some i) h)), ap is_some is)
found_source b c f (Gate g) n r h =
    let here : g < length c.gates = omega (arith, h.1.0, length-map b.gates (λ g. g.name)) in
    let is = cond-true _ (Some (Gate g)) None (lt-ltb g (length c.gates) here) in
    (is ∙ sym (ap (λ o. source_at o (position f (gate_names b.gates))) (first_position f (input_names b.inputs) None h.0) ∙ ap (source_at None) (first_position f (gate_names b.gates) (Some g) h.1)), ap is_some is)

-- a name that an input or a gate has is found
pub not_missing : (b : GateList) (f : List ℕ) → In f (names b) → FirstSource f (input_names b.inputs) (gate_names b.gates) None → ⊥
not_missing b f i h =
    let z = sym (in_member f (names b) i) ∙ source_member f (input_names b.inputs) (gate_names b.gates) None h in
    let n : ◌≡◌ {A = ℕ} 0 1 = cc in
    omega arith

-- a search among a list's entries is one among its names
pub names_here : (b : GateList) (names : Names) (f : List ℕ) (r : Option Source) → Lists names b → FirstSource f (input_names_in names.text.now names.inputs.now) (gate_names_in names.text.now names.gates.now) r → FirstSource f (input_names b.inputs) (gate_names b.gates) r
names_here b names f r lists h =
    let text = names.text.now in
    let is = ap (input_names_in text) lists.inputs ∙ ap (λ t. input_names_in t (input_entries b)) lists.listed.written ∙ (entries_name b).0 in
    let gs = ap (gate_names_in text) lists.gates ∙ ap (λ t. gate_names_in t (gate_entries b)) lists.listed.written ∙ (entries_name b).1 in
    subst (λ ns. FirstSource f ns (gate_names b.gates) r) is (subst (λ ns. FirstSource f (input_names_in text names.inputs.now) ns r) gs h)
