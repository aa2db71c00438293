-- The form of a whole list, part by part, and what is held once it is read.
use Rattle.std.proofs.Common.{◌≡◌, ℕ, suc, ◌+◌, ◌-◌, ◌<◌, ◌≤◌, cond, eqb, List, [], ◌∷◌, ◌++◌, length, take, drop, replicate, codes, Ok, Err, Result, Bor, sym, refl, ap, ◌∙◌, subst, arith}
use Rattle.std.proofs.lemmas.List.{length-append, length-take-le, take-append-le, nil_from_length}
use Rattle.std.proofs.lemmas.Bool.{cond-false, ne_eqb}
use Rattle.std.specs.Result.{result_unwrap_or}
use Rattle.gate_list_format.specs.Slots.{Form, ends, read, Outcome, accepted, refused}
use Rattle.gate_list_format.specs.Lists.{GateList, Input, Gate, input_names, write_heading, write_input, write_gate, writes, written}
use Rattle.gate_list_format.specs.Reading.{heading_form, input_forms, list_form, reading, admitted}
use Rattle.gate_list_format.specs.Places.{laid, inputs_place, gates_place}
use Rattle.gate_list_format.proofs.Admitted.{sized}
use Rattle.gate_list_format.proofs.Laid.{heading_onto, input_onto, fronts, length-laid}
use Rattle.gate_list_fields.specs.declared.Fault.{Fault}
use Rattle.gate_list_fields.specs.declared.Fault.TheVariants.{Form as FormFault, Number, Repeated, Word, Source, Wires}
use Rattle.gate_list_fields.specs.Faults.{number_of}
use Rattle.gate_list_lines.specs.Lines.{HeadingIs, HeadingRead}
use Rattle.gate_list_names.specs.declared.InputEntry.{InputEntry}
use Rattle.gate_list_names.specs.declared.GateEntry.{GateEntry}
use Rattle.gate_list.specs.Tables.{told, counts, input_entry, gate_entry, input_entries, gate_entries, no_input, no_gate, filled, table, input_table, gate_table}
use Rattle.gate_list_names.specs.Names.{input_names_in}
use Rattle.gate_list.specs.declared.Refusal.{Refusal}
use Rattle.gate_list.specs.declared.Refusal.TheVariants.{Size, At}
use Rattle.gate_list.specs.Refusals.{tied, RefusedAt}
use Rattle.gate_list.specs.Parts.{Rest, list₂, list₃, list₄, InputsAre, InputsRead, InputsIn, GatesAre, GatesRead, GatesIn, Held, ListRead}
use Rattle.gate_list.proofs.Tied.{read_so}
use Rattle.gate_list.proofs.Laying.{rest_trans, rest_writes, inputs_named}

abbrev pub list₁ : ℕ → Form GateList
list₁ n = input_forms n [] list₂

pub reading_is : (text : List ℕ) → reading text ≡ read (heading_form (codes "inputs") 32 list₁) 1 text
unfolding reading list_form
reading_is text = refl

pub ends_empty : (o : Outcome GateList) (line : ℕ) (text : List ℕ) → length text ≡ 0 → read (ends o) line text ≡ o
ends_empty o line [] h = refl
ends_empty o line (b ∷ bs) h = absurd (omega arith)

pub ends_more : (o : Outcome GateList) (line : ℕ) (text : List ℕ) → 0 < length text → read (ends o) line text ≡ refused 15 line
ends_more o line [] h = absurd (omega arith)
ends_more o line (b ∷ bs) h = refl

-- a heading's rest
pub rest_heading : (word : List ℕ) (n : ℕ) (text rest : List ℕ) → text ≡ write_heading word n rest → Rest text rest
rest_heading word n text rest e = (write_heading word n [], e ∙ heading_onto word n [] rest)

-- where a rest of the text begins
place_of : (text front rest : List ℕ) → text ≡ front ++ rest → length text - length rest ≡ length front
place_of text front rest e = omega (arith, ap length e ∙ length-append front rest)

pub held : (text rest₀ rest₁ rest₂ rest₃ : List ℕ) (is : List Input) (gs : List Gate) (n r : ℕ) (inputs : List InputEntry) (gates : List GateEntry) → HeadingIs (codes "inputs") 32 text n rest₀ → InputsAre n text rest₀ inputs is rest₁ → HeadingIs (codes "gates") 96 rest₁ r rest₂ → GatesAre r text rest₂ gates gs rest₃ → length rest₃ ≡ 0 → Held text inputs gates n r (record { inputs = is; gates = gs })
unfolding written
held text rest₀ rest₁ rest₂ rest₃ is gs n r inputs gates h₁ ins h₂ outs end =
    let b : GateList = record { inputs = is; gates = gs } in
    let gates-text : rest₂ ≡ writes write_gate gs [] = outs.written ∙ ap (writes write_gate gs) (nil_from_length rest₃ end) in
    let heading-text : rest₁ ≡ write_heading (codes "gates") (length gs) (writes write_gate gs []) =
    h₂.written ∙ ap (write_heading (codes "gates") r) gates-text ∙ ap (λ m. write_heading (codes "gates") m (writes write_gate gs [])) (sym outs.long) in
    let inputs-text : rest₀ ≡ writes write_input is (write_heading (codes "gates") (length gs) (writes write_gate gs [])) = ins.written ∙ ap (writes write_input is) heading-text in
    let whole : text ≡ written b =
    h₁.written ∙ ap (write_heading (codes "inputs") n) inputs-text ∙ ap (λ m. write_heading (codes "inputs") m (writes write_input is (write_heading (codes "gates") (length gs) (writes write_gate gs [])))) (sym ins.long) in
    record {
      input_count = sym ins.long;
      gate_count = sym outs.long;
      few_inputs = h₁.few;
      few_gates = h₂.few;
      lawful = outs.lawful;
      written = whole;
      input_rows = ins.entries ∙ ap (λ p. laid write_input input_entry p is) (place_of text (write_heading (codes "inputs") (length is) []) rest₀ (whole ∙ (fronts b).0 ∙ ap (λ t. write_heading (codes "inputs") (length is) [] ++ t) (sym inputs-text)));
      gate_rows = outs.entries ∙ ap (λ p. laid write_gate gate_entry p gs) (place_of text (write_heading (codes "inputs") (length is) (writes write_input is (write_heading (codes "gates") (length gs) []))) rest₂ (whole ∙ (fronts b).1 ∙ ap (λ t. write_heading (codes "inputs") (length is) (writes write_input is (write_heading (codes "gates") (length gs) [])) ++ t) (sym gates-text)));
    }

-- a heading that was read, and its count as another number
pub heading_so : (word : List ℕ) (most : ℕ) (text : List ℕ) (line : ℕ) (r : Result (ℕ × Bor (List ℕ)) Fault) (n m : ℕ) (rest : Bor (List ℕ)) → Ok (n, rest) ≡ tied line r → HeadingRead word most text r → m ≡ n → HeadingIs word most text m rest.now
heading_so word most text line r n m rest e h q = subst (λ k. HeadingIs word most text k rest.now) (sym q) (read_so (HeadingRead word most text) line r (n, rest) e h)

-- the inputs' lines, whose entries go to the front of the table
module _ (text : List ℕ) (body : List ℕ) (n : ℕ) (old table : List InputEntry) (h : HeadingIs (codes "inputs") 32 text n body) (room : 32 ≤ length old) (long : length table ≡ length (take n old)) where
  inputs_front : length (take n old) ≡ n
  inputs_front = length-take-le n old (omega (arith, h.few))

  inputs_begun : reading text ≡ read (list₁ n) 2 body
  inputs_begun = reading_is text ∙ h.on 1 list₁

  pub inputs_in : (rest : Bor (List ℕ)) → InputsRead (length (take n old)) text body table (Ok rest) → InputsIn text n (table ++ drop n old) rest.now
  inputs_in rest read =
      let ins = subst (λ m. InputsRead m text body table (Ok rest)) inputs_front read in
      record {
        list = ins.0;
        body = body;
        heading = h;
        lines = record { long = ins.1.long; written = ins.1.written; entries = take-append-le n table (drop n old) (omega (arith, long, inputs_front)) ∙ ins.1.entries };
        reads = inputs_begun ∙ ins.2 list₂;
      }

  pub inputs_refused : (e : Refusal) → InputsRead (length (take n old)) text body table (Err e) → RefusedAt (reading text) e
  inputs_refused e read = subst (λ o. RefusedAt o e) (sym inputs_begun) (subst (λ m. InputsRead m text body table (Err e)) inputs_front read list₂)

-- the gates' lines behind them
module _ (text rest₁ body : List ℕ) (n r : ℕ) (inputs : List InputEntry) (old table : List GateEntry) (i : InputsIn text n inputs rest₁) (h : HeadingIs (codes "gates") 96 rest₁ r body) (room : 96 ≤ length old) (long : length table ≡ length (take r old)) where
  gates_front : length (take r old) ≡ r
  gates_front = length-take-le r old (omega (arith, h.few))

  gates_begun : reading text ≡ read (list₃ i.list r) (n + 3) body
  gates_begun = i.reads ∙ h.on (2 + n) (list₃ i.list) ∙ ap (λ l. read (list₃ i.list r) l body) (let e : suc (2 + n) ≡ n + 3 = omega arith in e)

  named : input_names i.list ≡ input_names_in text (take n inputs)
  named = inputs_named text i.body i.list rest₁ (take n inputs) (rest_heading (codes "inputs") n text i.body i.heading.written) i.lines.written i.lines.entries

  pub gates_in : (rest : Bor (List ℕ)) → GatesRead (length (take r old)) (n + 3) text body (take n inputs) table (Ok rest) → GatesIn text n r inputs (table ++ drop r old) rest.now
  gates_in rest read =
      let outs = subst (λ m. GatesRead m (n + 3) text body (take n inputs) table (Ok rest)) gates_front read in
      record {
        list = record { inputs = i.list; gates = outs.0 };
        few = h.few;
        holds = held text i.body rest₁ body rest.now i.list outs.0 n r inputs (table ++ drop r old) i.heading i.lines h (record { long = outs.1.long; lawful = outs.1.lawful; written = outs.1.written; entries = take-append-le r table (drop r old) (omega (arith, long, gates_front)) ∙ outs.1.entries });
        reads = gates_begun ∙ outs.2 i.list named (list₄ i.list);
      }

  pub gates_refused : (e : Refusal) → GatesRead (length (take r old)) (n + 3) text body (take n inputs) table (Err e) → RefusedAt (reading text) e
  gates_refused e read = subst (λ o. RefusedAt o e) (sym gates_begun) (subst (λ m. GatesRead m (n + 3) text body (take n inputs) table (Err e)) gates_front read i.list named (list₄ i.list))

-- what is left of the text behind the input lines, and behind the gates' heading
pub rest_inputs : (text rest₁ body : List ℕ) (n r : ℕ) (inputs : List InputEntry) → InputsIn text n inputs rest₁ → HeadingIs (codes "gates") 96 rest₁ r body → Rest text body
rest_inputs text rest₁ body n r inputs i h =
    rest_trans text rest₁ body
    (rest_trans text i.body rest₁ (rest_heading (codes "inputs") n text i.body i.heading.written) (rest_writes write_input input_onto i.body i.list rest₁ i.lines.written))
    (rest_heading (codes "gates") r rest₁ body h.written)

-- no fault at a place has the number of a size
pub no_size : (f : Fault) → number_of f ≡ 14 → ⊥
no_size FormFault h = omega arith
no_size Number h = omega arith
no_size Repeated h = omega arith
no_size Word h = omega arith
no_size Source h = omega arith
no_size Wires h = omega arith

-- a table whose first entries are written, once the others are blanked
pub rows_filled : {E : Type 0} (table old es : List E) (n : ℕ) (blank : E) → take n table ≡ es → n ≡ length es → length table ≡ length old → take n table ++ replicate (length table - n) blank ≡ filled blank old es
rows_filled table old es n blank rows many long = ap (λ t. t ++ replicate (length table - n) blank) rows ∙ ap (λ m. es ++ replicate m blank) (let e : length table - n ≡ length old - length es = omega arith in e)

pub all_blank : {E : Type 0} (table old : List E) (blank : E) (f : Fault) → length table ≡ length old → take 0 table ++ replicate (length table - 0) blank ≡ cond (eqb (number_of f) 14) old (filled blank old [])
all_blank table old blank f long =
    ap (λ n. replicate n blank) (let e : length table - 0 ≡ length old - 0 = omega arith in e)
    ∙ sym (cond-false (eqb (number_of f) 14) old (filled blank old []) (ne_eqb (number_of f) 14 (no_size f)))

-- a checked text: what is answered, and what the tables hold once their ends are blanked
module _ (text : List ℕ) (old inputs : List InputEntry) (old-gates gates : List GateEntry) (small : length text ≤ 65536) (room : 32 ≤ length old) (gate-room : 96 ≤ length old-gates) (long : length inputs ≡ length old) (gates-long : length gates ≡ length old-gates) where
  outcome : Outcome GateList
  outcome = admitted (length old) (length old-gates) text

  read_whole : outcome ≡ reading text
  unfolding outcome
  read_whole = sized (length old) (length old-gates) text small room gate-room

  pub answered : (r : Result (ℕ × ℕ) Refusal) → ListRead text inputs gates r → told r ≡ counts (admitted (length old) (length old-gates) text)
  unfolding outcome
  answered (Ok x) h = ap (λ m. accepted (m, x.1)) h.1.input_count ∙ ap (λ m. accepted (length h.0.inputs, m)) h.1.gate_count ∙ sym (ap counts (read_whole ∙ h.2))
  answered (Err Size) h = absurd h
  answered (Err (At fault line)) h = sym (ap counts (read_whole ∙ h))

  -- a table, whose first entries are written and whose others are blanked, by the count of its own entries
  table_held : {E : Type 0} (none blank : E) (entries : GateList → List E) (before now : List E) (count : ℕ × ℕ → ℕ) (r : Result (ℕ × ℕ) Refusal) (x : ℕ × ℕ) → length now ≡ length before → count (0, 0) ≡ 0 → ((y : ℕ × ℕ) (b : GateList) → Held text inputs gates y.0 y.1 b → (take (count y) now ≡ entries b) × (count y ≡ length (entries b))) → ListRead text inputs gates r → x ≡ result_unwrap_or r (0, 0) → blank ≡ none → take (count x) now ++ replicate (length now - count x) blank ≡ table none entries before (admitted (length old) (length old-gates) text)
  unfolding outcome
  table_held none blank entries before now count r x level zero rows h ex eb =
      ap (λ b. take (count x) now ++ replicate (length now - count x) b) eb ∙ ap (λ y. take (count y) now ++ replicate (length now - count y) none) ex ∙ by r h
    where
      by : (r : Result (ℕ × ℕ) Refusal) → ListRead text inputs gates r → take (count (result_unwrap_or r (0, 0))) now ++ replicate (length now - count (result_unwrap_or r (0, 0))) none ≡ table none entries before (admitted (length old) (length old-gates) text)
      by (Ok y) k = let is = rows y k.0 k.1 in rows_filled now before (entries k.0) (count y) none is.0 is.1 level ∙ sym (ap (table none entries before) (read_whole ∙ k.2))
      by (Err Size) k = absurd k
      by (Err (At fault line)) k = ap (λ n. take n now ++ replicate (length now - n) none) zero ∙ all_blank now before none fault level ∙ sym (ap (table none entries before) (read_whole ∙ k))

  pub inputs_held : (r : Result (ℕ × ℕ) Refusal) (x : ℕ × ℕ) (blank : InputEntry) → ListRead text inputs gates r → x ≡ result_unwrap_or r (0, 0) → blank ≡ no_input → take x.0 inputs ++ replicate (length inputs - x.0) blank ≡ input_table old (admitted (length old) (length old-gates) text)
  inputs_held r x blank = table_held no_input blank input_entries old inputs (λ y. y.0) r x long refl (λ y b h. (h.input_rows, h.input_count ∙ sym (length-laid write_input input_entry (inputs_place b) b.inputs)))

  pub gates_held : (r : Result (ℕ × ℕ) Refusal) (x : ℕ × ℕ) (blank : GateEntry) → ListRead text inputs gates r → x ≡ result_unwrap_or r (0, 0) → blank ≡ no_gate → take x.1 gates ++ replicate (length gates - x.1) blank ≡ gate_table old-gates (admitted (length old) (length old-gates) text)
  gates_held r x blank = table_held no_gate blank gate_entries old-gates gates (λ y. y.1) r x gates-long refl (λ y b h. (h.gate_rows, h.gate_count ∙ sym (length-laid write_gate gate_entry (gates_place b) b.gates)))
