-- Looking for the sources of pins.
use Rattle.std.proofs.Common.{◌≡◌, ℕ, zero, suc, ◌+◌, ◌<◌, Bool, true, false, ◌&&◌, List, [], ◌∷◌, ◌++◌, length, get_or, take, drop, codes, Some, None, MatchBool, MatchOption, Option, sym, refl, ap, ◌∙◌, subst, zero-add, arith}
use Rattle.std.specs.List.{AllByRecursion, AllWithin, HoldsAt, range_with_len}
use Rattle.std.proofs.ByRecursion.{All-get_or}
use Rattle.std.proofs.lemmas.List.{get_or_append_left}
use Rattle.std.proofs.lemmas.List.FromFn.{length-range_with_len, get_or-range_with_len}
use Rattle.std.proofs.lemmas.Bool.{cond-true, cond-false, and_left, and_right}
use Rattle.gate_list_format.specs.Slots.{Outcome, refused}
use Rattle.gate_list_format.specs.Lists.{GateList, Pin, Gate, LawfulGate, names, input_names, gate_names, write_heading, write_input, write_gate, writes, written}
use Rattle.gate_list_format.specs.Reading.{member, known, sourced}
use Rattle.gate_list_format.specs.Places.{laid, inputs_place, gates_place}
use Rattle.gate_list_format.proofs.Laid.{length-laid, laid_here, laid_names, fronts, input_onto, gate_onto, input_first, gate_first}
use Rattle.gate_list_lookup.specs.Lookup.{pin_number}
use Rattle.gate_list_names.specs.declared.InputEntry.{InputEntry}
use Rattle.gate_list_names.specs.declared.GateEntry.{GateEntry}
use Rattle.gate_list_names.specs.declared.Names.{Names}
use Rattle.gate_list_names.specs.Names.{input_names_in, gate_names_in}
use Rattle.gate_list_names.specs.Given.{all_names}
use Rattle.gate_list.specs.Tables.{input_entry, gate_entry, input_entries, gate_entries, no_input, no_gate, filled}
use Rattle.gate_list.specs.Laws.{EntriesName, EntriesStand, input_number, gate_number}
use Rattle.gate_list.specs.Parts.{Held, PinCount, SourceKnown, GateKnown, FirstUnknown, UnknownGate}

abbrev pub none : Gate
none = record { name = []; word = 0; start = 0; pins = [] }

-- the sources of pins are known, if each is
pub all_known : (ns : List (List ℕ)) (ps : List Pin) → ((k : ℕ) → k < length ps → true ≡ member (pin_number ps k).source ns) → true ≡ known ns ps
all_known ns [] h = refl
all_known ns (p ∷ ps) h = ap (λ t. t && true) (h 0 (omega arith)) ∙ ap (λ t. member p.source ns && t) (all_known ns ps (λ k l. h (suc k) (omega arith)))

pub not_known : (ns : List (List ℕ)) (ps : List Pin) (k : ℕ) → k < length ps → false ≡ member (pin_number ps k).source ns → false ≡ known ns ps
not_known ns [] k l h = absurd (omega arith)
not_known ns (p ∷ ps) zero l h = sym (and_left _ (known ns ps) (sym h))
not_known ns (p ∷ ps) (suc k) l h = sym (and_right _ (known ns ps) (sym (not_known ns ps k (omega arith) h)))

-- the gates have all their sources, if each has; or they are refused at the first that has not
pub all_sourced : (ns : List (List ℕ)) (gs : List Gate) (line : ℕ) (o : Outcome GateList) → ((k : ℕ) → k < length gs → true ≡ known ns (get_or gs k none).pins) → sourced ns line gs o ≡ o
all_sourced ns [] line o h = refl
all_sourced ns (g ∷ gs) line o h =
    cond-true (known ns g.pins) (sourced ns (suc line) gs o) (refused 19 line) (sym (h 0 (omega arith)))
    ∙ all_sourced ns gs (suc line) o (λ k l. h (suc k) (omega arith))

pub not_sourced : (ns : List (List ℕ)) (gs : List Gate) (k line : ℕ) (o : Outcome GateList) → k < length gs → false ≡ known ns (get_or gs k none).pins → ((j : ℕ) → j < k → true ≡ known ns (get_or gs j none).pins) → sourced ns line gs o ≡ refused 19 (line + k)
not_sourced ns [] k line o l n h = absurd (omega arith)
not_sourced ns (g ∷ gs) zero line o l n h =
    cond-false (known ns g.pins) (sourced ns (suc line) gs o) (refused 19 line) (sym n)
    ∙ ap (refused 19) (let e : line ≡ line + 0 = omega arith in e)
not_sourced ns (g ∷ gs) (suc k) line o l n h =
    cond-true (known ns g.pins) (sourced ns (suc line) gs o) (refused 19 line) (sym (h 0 (omega arith)))
    ∙ not_sourced ns gs k (suc line) o (omega arith) n (λ j m. h (suc j) (omega arith))
    ∙ ap (refused 19) (let e : suc line + k ≡ line + suc k = omega arith in e)

-- where a gate's line stands
pub gate_here : (text : List ℕ) (gates : List GateEntry) (gs : List Gate) (front : List ℕ) (k : ℕ) (d : GateEntry) → text ≡ front ++ writes write_gate gs [] → gates ≡ laid write_gate gate_entry (length front) gs → k < length gs → (more : List ℕ) × (drop (get_or gates k d).place text ≡ write_gate (get_or gs k none) more)
gate_here text gates gs front k d e same l =
    subst (λ t. (more : List ℕ) × (drop (get_or t k d).place text ≡ write_gate (get_or gs k none) more)) (sym same) (laid_here write_gate gate_entry (λ (x : GateEntry). x.place) (λ p x. refl) gate_onto text front (length front) gs [] k d none e refl l)

-- what a look at the pins by number, and at the gates by number, says of all
pub pins_known : (ns : List (List ℕ)) (text : List ℕ) (place n : ℕ) (r : Bool) → PinCount text place n → MatchBool r (AllWithin (λ p. SourceKnown ns text place p true) (range_with_len 0 n) 0 (length (range_with_len 0 n))) ((k : ℕ) × (k < length (range_with_len 0 n)) × HoldsAt (λ p. SourceKnown ns text place p false) (range_with_len 0 n) k) → GateKnown ns text place r
pins_known ns text place n true many h g rest l e =
    let long = many g rest l e in
    all_known ns g.pins λ k m.
    subst (λ p. SourceKnown ns text place p true) (get_or-range_with_len 0 n k 0 (omega arith) ∙ zero-add k) (h k 0 (omega arith) (omega (arith, length-range_with_len 0 n))) g rest l e m
pins_known ns text place n false many h g rest l e =
    let long = many g rest l e in
    let few : h.0 < n = omega (arith, h.1, length-range_with_len 0 n) in
    not_known ns g.pins h.0 (omega arith)
    (subst (λ p. SourceKnown ns text place p false) (get_or-range_with_len 0 n h.0 0 few ∙ zero-add h.0) (h.2 0) g rest l e (omega arith))

pub gates_known : (names : Names) (r : Option ℕ) → MatchOption r (AllWithin (λ (e : GateEntry). GateKnown (all_names names) names.text.now e.place true) names.gates.now 0 (length names.gates.now)) (λ i. (i < length names.gates.now) × HoldsAt (λ (e : GateEntry). GateKnown (all_names names) names.text.now e.place false) names.gates.now i × AllWithin (λ (e : GateEntry). GateKnown (all_names names) names.text.now e.place true) names.gates.now 0 i) → UnknownGate names r
gates_known names r h gs front lawful e same = go r h
  where
    text : List ℕ
    text = names.text.now

    gates : List GateEntry
    gates = names.gates.now

    ns : List (List ℕ)
    ns = all_names names

    long : length gates ≡ length gs
    long = ap length same ∙ length-laid write_gate gate_entry (length front) gs

    each : (k : ℕ) (t : Bool) → k < length gs → GateKnown ns text (get_or gates k no_gate).place t → t ≡ known ns (get_or gs k none).pins
    each k t l h = let at = gate_here text gates gs front k no_gate e same l in h (get_or gs k none) at.0 (All-get_or LawfulGate gs k none l lawful) at.1

    go : (r : Option ℕ) → MatchOption r (AllWithin (λ (e : GateEntry). GateKnown ns text e.place true) gates 0 (length gates)) (λ i. (i < length gates) × HoldsAt (λ (e : GateEntry). GateKnown ns text e.place false) gates i × AllWithin (λ (e : GateEntry). GateKnown ns text e.place true) gates 0 i) → FirstUnknown ns gs r
    go None h = λ line o. all_sourced ns gs line o (λ k l. each k true l (h k no_gate (omega arith) (omega (arith, long))))
    go (Some i) h =
        let here : i < length gs = omega (arith, long, h.0) in
        (here, λ line o. not_sourced ns gs i line o here (each i false here (h.1 no_gate)) (λ j m. each j true (omega arith) (h.2 j no_gate (omega arith) m)))

-- the tables name the list's inputs and gates
pub entries_name : EntriesName
entries_name b =
    let h₂ = write_heading (codes "gates") (length b.gates) in
    let front = write_heading (codes "inputs") (length b.inputs) [] in
    let front₂ = write_heading (codes "inputs") (length b.inputs) (writes write_input b.inputs (h₂ [])) in (
      laid_names write_input (λ i. i.name) input_entry (λ (x : InputEntry). x.place) (λ (x : InputEntry). x.length) (λ p x. refl) (λ p x. refl) input_onto input_first (written b) front (inputs_place b) b.inputs (h₂ (writes write_gate b.gates [])) (fronts b).0 refl,
      laid_names write_gate (λ g. g.name) gate_entry (λ (x : GateEntry). x.place) (λ (x : GateEntry). x.length) (λ p x. refl) (λ p x. refl) gate_onto gate_first (written b) front₂ (gates_place b) b.gates [] (fronts b).1 refl,
    )

names_held : (text : List ℕ) (inputs : List InputEntry) (gates : List GateEntry) (n r : ℕ) (b : GateList) → Held text inputs gates n r b → input_names_in text (take n inputs) ++ gate_names_in text (take r gates) ≡ names b
names_held text inputs gates n r b h =
    let ins : input_names_in text (take n inputs) ≡ input_names b.inputs = ap (input_names_in text) h.input_rows ∙ ap (λ t. input_names_in t (input_entries b)) h.written ∙ (entries_name b).0 in
    let outs : gate_names_in text (take r gates) ≡ gate_names b.gates = ap (gate_names_in text) h.gate_rows ∙ ap (λ t. gate_names_in t (gate_entries b)) h.written ∙ (entries_name b).1 in
    ap (λ t. t ++ gate_names_in text (take r gates)) ins ∙ ap (λ t. input_names b.inputs ++ t) outs

-- what a look at the sources says of the list that the tables hold
pub sources_held : (text : List ℕ) (inputs : List InputEntry) (gates : List GateEntry) (n r : ℕ) (b : GateList) (k : Option ℕ) → Held text inputs gates n r b → ((gs : List Gate) (front : List ℕ) → AllByRecursion LawfulGate gs → text ≡ front ++ writes write_gate gs [] → take r gates ≡ laid write_gate gate_entry (length front) gs → FirstUnknown (input_names_in text (take n inputs) ++ gate_names_in text (take r gates)) gs k) → FirstUnknown (names b) b.gates k
sources_held text inputs gates n r b k h look =
    let front = write_heading (codes "inputs") (length b.inputs) (writes write_input b.inputs (write_heading (codes "gates") (length b.gates) [])) in
    subst (λ ns. FirstUnknown ns b.gates k) (names_held text inputs gates n r b h) (look b.gates front h.lawful (h.written ∙ (fronts b).1) h.gate_rows)

pub entries_stand : EntriesStand
entries_stand b inputs gates =
    let h₂ = write_heading (codes "gates") (length b.gates) in
    let front = write_heading (codes "inputs") (length b.inputs) [] in
    let front₂ = write_heading (codes "inputs") (length b.inputs) (writes write_input b.inputs (h₂ [])) in
    record {
      input = λ k l.
          let same : get_or (filled no_input inputs (input_entries b)) k no_input ≡ get_or (input_entries b) k no_input = get_or_append_left (input_entries b) _ no_input k (omega (arith, length-laid write_input input_entry (inputs_place b) b.inputs)) in
          subst (λ (e : InputEntry). (rest : List ℕ) × (drop e.place (written b) ≡ write_input (input_number b k) rest)) (sym same) (laid_here write_input input_entry (λ (x : InputEntry). x.place) (λ p x. refl) input_onto (written b) front (inputs_place b) b.inputs (h₂ (writes write_gate b.gates [])) k no_input (record { name = []; applied = 0; start = 0 }) (fronts b).0 refl l);
      gate = λ k l.
          let same : get_or (filled no_gate gates (gate_entries b)) k no_gate ≡ get_or (gate_entries b) k no_gate = get_or_append_left (gate_entries b) _ no_gate k (omega (arith, length-laid write_gate gate_entry (gates_place b) b.gates)) in
          subst (λ (e : GateEntry). (rest : List ℕ) × (drop e.place (written b) ≡ write_gate (gate_number b k) rest)) (sym same) (laid_here write_gate gate_entry (λ (x : GateEntry). x.place) (λ p x. refl) gate_onto (written b) front₂ (gates_place b) b.gates [] k no_gate none (fronts b).1 refl l);
    }
