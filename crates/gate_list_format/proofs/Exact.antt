-- Accepted are exactly the written texts of lawful lists.
use Rattle.std.proofs.Common.{◌≡◌, ℕ, suc, ◌+◌, ◌≤◌, Bool, true, false, cond, ◌↔◌, List, [], ◌∷◌, ◌++◌, length, codes, sym, refl, ap, ◌∙◌, subst, arith}
use Rattle.std.specs.List.{AllByRecursion}
use Rattle.std.proofs.lemmas.List.{append-nil}
use Rattle.std.proofs.ByRecursion.{All-append}
use Rattle.std.proofs.lemmas.Bool.{and_parts, and_from, cond-true}
use Rattle.gate_list_format.specs.Slots.{Outcome, accepted, refused, read}
use Rattle.gate_list_format.specs.Lists.{Pin, Gate, GateList, In, NotIn, Distinct, Lawful, input_names, gate_names, names, wires, write_input, write_gate, write_heading, writes, written}
use Rattle.gate_list_format.specs.Reading.{member, known, sourced, list_form, reading}
use Rattle.gate_list_format.proofs.Slotted.{Has, has_read, read_has}
use Rattle.gate_list_format.proofs.Judges.{member_in, in_member}
use Rattle.gate_list_format.proofs.Forms.{Fresh, Room, inputs_read, inputs_have, gates_read, gates_have, heading_read, heading_has}

-- names in reading order are distinct and none of those before
all_map : {X : Type 0} {P Q : X → Type 0} → ((x : X) → P x → Q x) → (xs : List X) → AllByRecursion P xs → AllByRecursion Q xs
all_map f [] h = tt
all_map f (x ∷ xs) h = (f x h.0, all_map f xs h.1)

all_both : {X : Type 0} (P Q : X → Type 0) → (xs : List X) → AllByRecursion P xs → AllByRecursion Q xs → AllByRecursion (λ x. P x × Q x) xs
all_both P Q [] p q = tt
all_both P Q (x ∷ xs) p q = ((p.0, q.0), all_both P Q xs p.1 q.1)

not_in_append : (n : List ℕ) (ks bs : List (List ℕ)) → NotIn n (ks ++ bs) → NotIn n ks × NotIn n bs
not_in_append n [] bs h = (tt, h)
not_in_append n (a ∷ ks) bs h = let r = not_in_append n ks bs h.1 in ((h.0, r.0), r.1)

fresh_distinct : (seen ns : List (List ℕ)) → Fresh seen ns → Distinct ns × AllByRecursion (λ n. NotIn n seen) ns
fresh_distinct seen [] h = (tt, tt)
fresh_distinct seen (n ∷ ns) h =
    let r = fresh_distinct (seen ++ (n ∷ [])) ns h.1 in
    ((all_map (λ m p e. (not_in_append m seen (n ∷ []) p).1.0 (sym e)) ns r.1, r.0), (h.0, all_map (λ m p. (not_in_append m seen (n ∷ []) p).0) ns r.1))

distinct_fresh : (seen ns : List (List ℕ)) → Distinct ns → AllByRecursion (λ n. NotIn n seen) ns → Fresh seen ns
distinct_fresh seen [] d h = tt
distinct_fresh seen (n ∷ ns) d h = (
  h.0,
  distinct_fresh (seen ++ (n ∷ [])) ns d.1
      (all_map (λ m p. All-append (λ k. m ≡ k → ⊥) seen (n ∷ []) p.1 ((λ e. p.0 (sym e)), tt)) ns (all_both (λ m. n ≡ m → ⊥) (λ m. NotIn m seen) ns d.0 h.1)),
)

-- the two halves of a list with no repeated name
distinct_parts : (ks bs : List (List ℕ)) → Distinct (ks ++ bs) → Distinct ks × Distinct bs × AllByRecursion (λ b. NotIn b ks) bs
distinct_parts [] bs d = (tt, d, all_map (λ b p. tt) bs (all_unit bs))
  where
    all_unit : (xs : List (List ℕ)) → AllByRecursion (λ _. Unit {0}) xs
    all_unit [] = tt
    all_unit (x ∷ xs) = (tt, all_unit xs)
distinct_parts (a ∷ ks) bs d =
    let r = distinct_parts ks bs d.1 in
    let s = not_in_append a ks bs d.0 in
    ((s.0, r.0), r.1, all_both (λ b. b ≡ a → ⊥) (λ b. NotIn b ks) bs (all_map (λ b p e. p (sym e)) bs s.1) r.2)

distinct_join : (ks bs : List (List ℕ)) → Distinct ks → Distinct bs → AllByRecursion (λ b. NotIn b ks) bs → Distinct (ks ++ bs)
distinct_join [] bs d e h = e
distinct_join (a ∷ ks) bs d e h =
    (All-append (λ n. a ≡ n → ⊥) ks bs d.0 (all_map (λ b p q. p.0 (sym q)) bs h), distinct_join ks bs d.1 e (all_map (λ b p. p.1) bs h))

-- wires
room_total : (w : ℕ) (gs : List Gate) → w ≤ 384 → Room w gs → w + wires gs ≤ 384
room_total w [] l h = omega arith
room_total w (g ∷ gs) l h = let r = room_total (w + length g.pins) gs h.0 h.1 in omega arith

total_room : (w : ℕ) (gs : List Gate) → w + wires gs ≤ 384 → Room w gs
total_room w [] h = tt
total_room w (g ∷ gs) h = (omega arith, total_room (w + length g.pins) gs (omega arith))

room_wires : (gs : List Gate) → Room 0 gs → wires gs ≤ 384
room_wires gs h = let r = room_total 0 gs (omega arith) h in omega arith

wires_room : (gs : List Gate) → wires gs ≤ 384 → Room 0 gs
wires_room gs h = total_room 0 gs (omega arith)

-- sources
known_all : (ns : List (List ℕ)) (ps : List Pin) → known ns ps ≡ true → AllByRecursion (λ p. In p.source ns) ps
known_all ns [] h = tt
known_all ns (p ∷ ps) h =
    let r = and_parts (member p.source ns) (known ns ps) h in
    (member_in p.source ns r.0, known_all ns ps r.1)

all_known : (ns : List (List ℕ)) (ps : List Pin) → AllByRecursion (λ p. In p.source ns) ps → known ns ps ≡ true
all_known ns [] h = refl
all_known ns (p ∷ ps) h = and_from (member p.source ns) (known ns ps) (in_member p.source ns h.0) (all_known ns ps h.1)

sourced_all : {A : Type 0} (ns : List (List ℕ)) (line : ℕ) (gs : List Gate) (o : Outcome A) (x : A) → sourced ns line gs o ≡ accepted x → AllByRecursion (λ g. AllByRecursion (λ p. In p.source ns) g.pins) gs × (o ≡ accepted x)
sourced_all ns line [] o x h = (tt, h)
sourced_all {A = A} ns line (g ∷ gs) o x h = go (known ns g.pins) refl h (sourced_all ns (suc line) gs o x)
  where
    go : (t : Bool) → known ns g.pins ≡ t → cond t (sourced ns (suc line) gs o) (refused 19 line) ≡ accepted x → (sourced ns (suc line) gs o ≡ accepted x → AllByRecursion (λ g. AllByRecursion (λ p. In p.source ns) g.pins) gs × (o ≡ accepted x)) → AllByRecursion (λ g. AllByRecursion (λ p. In p.source ns) g.pins) (g ∷ gs) × (o ≡ accepted x)
    go true p q more = let r = more q in ((known_all ns g.pins p, r.0), r.1)
    go false p q more = let z : ◌≡◌ {A = ℕ} 0 1 = cc in absurd (omega arith)

all_sourced : {A : Type 0} (ns : List (List ℕ)) (line : ℕ) (gs : List Gate) (o : Outcome A) → AllByRecursion (λ g. AllByRecursion (λ p. In p.source ns) g.pins) gs → sourced ns line gs o ≡ o
all_sourced ns line [] o h = refl
all_sourced ns line (g ∷ gs) o h = cond-true (known ns g.pins) _ (refused 19 line) (all_known ns g.pins h.0) ∙ all_sourced ns (suc line) gs o h.1

same_accepted : {A : Type 0} {x y : A} → accepted x ≡ accepted y → x ≡ y
same_accepted h = cc

-- the law
sound : (text : List ℕ) (b : GateList) → Has list_form text b → Lawful b × (written b ≡ text)
unfolding list_form written
sound text b h =
    let one = heading_read (codes "inputs") 32 _ text b h in
    let is_read = inputs_read one.0 [] _ one.1 b one.4 in
    let is = is_read.0 in
    let two = heading_read (codes "gates") 96 _ is_read.1 b is_read.6 in
    let gs-read = gates_read two.0 is [] _ two.1 b two.4 in
    let gs = gs-read.0 in
    let c : GateList = record { inputs = is; gates = gs } in
    let last = gs-read.7 in
    let src = sourced_all (names c) (length is + 3) gs (accepted c) b last.1 in
    let same : c ≡ b = same_accepted src.1 in
    let fi = fresh_distinct [] (input_names is) is_read.5 in
    let fg = fresh_distinct (input_names is) (gate_names gs) (subst (λ ns. Fresh ns (gate_names gs)) (append-nil (input_names is)) gs-read.5) in
    let lawful : Lawful c = record {
      inputs = subst (λ n. n ≤ 32) (sym is_read.2) one.2;
      gates = subst (λ n. n ≤ 96) (sym gs-read.2) two.2;
      wires = room_wires gs gs-read.6;
      each_input = is_read.4;
      each_gate = gs-read.4;
      distinct = distinct_join (input_names is) (gate_names gs) fi.0 fg.0 fg.1;
      sources = src.0;
    } in
    let tail : writes write_gate gs [] ≡ two.1 = sym (gs-read.3 ∙ ap (writes write_gate gs) last.0) in
    let middle : write_heading (codes "gates") (length gs) (writes write_gate gs []) ≡ is_read.1 = ap (λ n. write_heading (codes "gates") n (writes write_gate gs [])) gs-read.2 ∙ ap (write_heading (codes "gates") two.0) tail ∙ sym two.3 in
    let front : writes write_input is (write_heading (codes "gates") (length gs) (writes write_gate gs [])) ≡ one.1 = ap (writes write_input is) middle ∙ sym is_read.3 in
    let whole : written c ≡ text = ap (λ n. write_heading (codes "inputs") n (writes write_input is (write_heading (codes "gates") (length gs) (writes write_gate gs [])))) is_read.2 ∙ ap (write_heading (codes "inputs") one.0) front ∙ sym one.3 in
    subst (λ d. Lawful d × (written d ≡ text)) same (lawful, whole)

complete : (b : GateList) → Lawful b → Has list_form (written b) b
unfolding list_form written
complete b l =
    let is = b.inputs in
    let gs = b.gates in
    let parts = distinct_parts (input_names is) (gate_names gs) l.distinct in
    let none : AllByRecursion (λ n. NotIn n []) (input_names is) = all_of (λ n. tt) (input_names is) in
    heading_has (codes "inputs") 32 (length is) _ _ b refl (omega arith) l.inputs (omega arith)
    (inputs_have is [] _ _ b l.each_input (distinct_fresh [] (input_names is) parts.0 none)
    (heading_has (codes "gates") 96 (length gs) _ _ b refl (omega arith) l.gates (omega arith)
    (gates_have gs is [] _ [] b l.each_gate (subst (λ ns. Fresh ns (gate_names gs)) (sym (append-nil (input_names is))) (distinct_fresh (input_names is) (gate_names gs) parts.1 parts.2)) (wires_room gs l.wires)
    (refl, all_sourced (names b) (length is + 3) gs (accepted b) l.sources))))
  where
    all_of : {P : List ℕ → Type 0} → ((n : List ℕ) → P n) → (ns : List (List ℕ)) → AllByRecursion P ns
    all_of f [] = tt
    all_of f (n ∷ ns) = (f n, all_of f ns)

pub exact : (text : List ℕ) (b : GateList) → (reading text ≡ accepted b) ↔ (Lawful b × (written b ≡ text))
unfolding reading
exact text b = (
  (λ h. sound text b (read_has list_form 1 text b h)),
  (λ h. subst (λ t. read list_form 1 t ≡ accepted b) h.1 (has_read list_form 1 (written b) b (complete b h.0))),
)
