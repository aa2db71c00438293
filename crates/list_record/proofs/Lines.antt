-- Where the lines of a list stand, and what their entries give.
use Rattle.std.proofs.Common.{◌≡◌, ℕ, zero, suc, ◌+◌, ◌<◌, List, [], ◌∷◌, length, get_or, drop, codes, sym, refl, ap, ◌∙◌, subst, arith}
use Rattle.std.proofs.ByRecursion.{All-get_or}
use Rattle.gate_list_format.specs.Lists.{GateList, Gate, LawfulGate, kind_of, write_heading, write_input, write_gate, writes}
use Rattle.gate_list_format.specs.Places.{laid, inputs_place, gates_place}
use Rattle.gate_list_format.proofs.Laid.{length-laid, laid_here, fronts, input_onto, gate_onto}
use Rattle.gate_list_names.specs.declared.InputEntry.{InputEntry}
use Rattle.gate_list_names.specs.declared.GateEntry.{GateEntry}
use Rattle.gate_list.specs.Tables.{input_entry, gate_entry}
use Rattle.gate_list.specs.Laws.{input_number, gate_number}
use Rattle.gate_list_names.specs.declared.Names.{Names}
use Rattle.list_record.specs.Replay.{Lists, GateStands}

abbrev none : Gate
none = record { name = []; word = 0; start = 0; pins = [] }

-- the tables have an entry for each line
pub inputs_long : (b : GateList) (names : Names) → Lists names b → length names.inputs.now ≡ length b.inputs
inputs_long b names lists = ap length lists.inputs ∙ length-laid write_input input_entry (inputs_place b) b.inputs

pub gates_long : (b : GateList) (names : Names) → Lists names b → length names.gates.now ≡ length b.gates
gates_long b names lists = ap length lists.gates ∙ length-laid write_gate gate_entry (gates_place b) b.gates

-- the line of an input stands at its entry's place, and so does that of a gate
pub input_stands : (b : GateList) (names : Names) (k : ℕ) (d : InputEntry) → Lists names b → k < length b.inputs → (rest : List ℕ) × (drop (get_or names.inputs.now k d).place names.text.now ≡ write_input (input_number b k) rest)
input_stands b names k d lists l =
    let front = write_heading (codes "inputs") (length b.inputs) [] in
    let behind = write_heading (codes "gates") (length b.gates) (writes write_gate b.gates []) in
    subst (λ t. (rest : List ℕ) × (drop (get_or t k d).place names.text.now ≡ write_input (input_number b k) rest)) (sym lists.inputs)
    (laid_here write_input input_entry (λ (x : InputEntry). x.place) (λ p x. refl) input_onto names.text.now front (inputs_place b) b.inputs behind k d (record { name = []; applied = 0; start = 0 }) (lists.listed.written ∙ (fronts b).0) refl l)

pub gate_stands : (b : GateList) (names : Names) (k : ℕ) (d : GateEntry) → Lists names b → k < length b.gates → GateStands b names.text.now k (get_or names.gates.now k d).place
gate_stands b names k d lists l =
    let front = write_heading (codes "inputs") (length b.inputs) (writes write_input b.inputs (write_heading (codes "gates") (length b.gates) [])) in
    let here = subst (λ t. (rest : List ℕ) × (drop (get_or t k d).place names.text.now ≡ write_gate (gate_number b k) rest)) (sym lists.gates)
    (laid_here write_gate gate_entry (λ (x : GateEntry). x.place) (λ p x. refl) gate_onto names.text.now front (gates_place b) b.gates [] k d none (lists.listed.written ∙ (fronts b).1) refl l) in
    (l, here.0, All-get_or LawfulGate b.gates k none l lists.listed.lawful.each_gate, here.1)

laid_kind : (place : ℕ) (gs : List Gate) (k : ℕ) (d : GateEntry) (g : Gate) → k < length gs → (get_or (laid write_gate gate_entry place gs) k d).kind ≡ kind_of (get_or gs k g).word (length (get_or gs k g).pins)
laid_kind place [] k d g l = absurd (omega arith)
laid_kind place (x ∷ gs) zero d g l = refl
laid_kind place (x ∷ gs) (suc k) d g l = laid_kind (place + length (write_gate x [])) gs k d g (omega arith)

pub kind_here : (b : GateList) (names : Names) (k : ℕ) (d : GateEntry) → Lists names b → k < length b.gates → (get_or names.gates.now k d).kind ≡ kind_of (gate_number b k).word (length (gate_number b k).pins)
kind_here b names k d lists l = ap (λ t. (get_or t k d).kind) lists.gates ∙ laid_kind (gates_place b) b.gates k d _ l
