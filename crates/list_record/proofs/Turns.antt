-- One line or one pin more of a list.
use Rattle.std.proofs.Common.{◌≡◌, ℕ, suc, ◌+◌, ◌-◌, ◌<◌, ◌≤◌, List, [], ◌∷◌, ◌++◌, length, take, Some, sym, ap, ◌∙◌, subst, arith}
use Rattle.std.proofs.ByRecursion.{All-get_or}
use Rattle.std.proofs.lemmas.List.{length-take-le, length-map, length_push, take_more}
use Rattle.circuit.specs.declared.Signal.{Signal}
use Rattle.circuit.specs.Circuits.{tapped}
use Rattle.record.specs.Boards.{Board}
use Rattle.gate_list_format.specs.Lists.{GateList, Input, Gate, Lawful, LawfulInput, LawfulGate, LawfulPin, kind_of, wires, input_names, gate_names}
use Rattle.gate_list.specs.Laws.{input_number, gate_number}
use Rattle.gate_list_lookup.specs.Lookup.{pin_number}
use Rattle.circuit.specs.declared.Source.{Source}
use Rattle.gate_list_names.specs.Sources.{FirstSource}
use Rattle.list_record.specs.ListBoards.{source_named}
use Rattle.record.specs.Calls.{bit_of}
use Rattle.list_record.specs.Replay.{entered, inputs_in, gates_in, pins_joined, pins_before, InputEntered, GateEntered, PinEntered}
use Rattle.list_record.proofs.Steps.{add_input_passes, set_input_passes, start_passes, input_step, add_gate_passes, start_of_gate_passes, gate_step, length_rows}
use Rattle.list_record.proofs.Pins.{wires_within, before_long, before_more, join_passes, wire_passes, pin_step}
use Rattle.list_record.proofs.Named.{found_source}

abbrev no_input : Input
no_input = record { name = []; applied = 0; start = 0 }

abbrev no_gate : Gate
no_gate = record { name = []; word = 0; start = 0; pins = [] }

pub input_turn : (b : GateList) (k : ℕ) (old new : Board) → Lawful b → k < length b.inputs → old ≡ inputs_in b k → InputEntered old k (input_number b k).applied (input_number b k).start new → new ≡ inputs_in b (k + 1)
input_turn b k old new law l eo h =
    let is = take k b.inputs in
    let i = input_number b k in
    let lawful = All-get_or LawfulInput b.inputs k no_input l law.each_input in
    let long : k ≡ length is = sym (length-take-le k b.inputs (omega arith)) in
    let few : length is < 32 = omega (arith, law.inputs) in
    let same : InputEntered (entered b is [] [] 0) (length is) i.applied i.start new =
    subst (λ o. InputEntered o (length is) i.applied i.start new) eo (subst (λ n. InputEntered old n i.applied i.start new) long h) in
    same (add_input_passes b is i lawful few) (set_input_passes b is i lawful few) (start_passes b is i lawful few)
    ∙ input_step b is i lawful few
    ∙ ap (λ t. entered b t [] [] 0) (sym (take_more b.inputs k no_input l))

pub gate_turn : (b : GateList) (k kind : ℕ) (old new : Board) → Lawful b → k < length b.gates → kind ≡ kind_of (gate_number b k).word (length (gate_number b k).pins) → old ≡ gates_in b k → GateEntered old k kind (gate_number b k).start new → new ≡ gates_in b (k + 1)
gate_turn b k kind old new law l ek eo h =
    let gs = take k b.gates in
    let g = gate_number b k in
    let lawful = All-get_or LawfulGate b.gates k no_gate l law.each_gate in
    let long : k ≡ length gs = sym (length-take-le k b.gates (omega arith)) in
    let few : length gs < 96 = omega (arith, law.gates) in
    let room : wires gs + length g.pins ≤ 384 = omega (arith, law.wires, wires_within b.gates k l) in
    let same : GateEntered (entered b b.inputs gs [] (wires gs)) (length gs) (kind_of g.word (length g.pins)) g.start new =
    subst (λ o. GateEntered o (length gs) (kind_of g.word (length g.pins)) g.start new) eo (subst (λ n. GateEntered old n (kind_of g.word (length g.pins)) g.start new) long (subst (λ n. GateEntered old k n g.start new) ek h)) in
    same (add_gate_passes b b.inputs gs g lawful few room) (start_of_gate_passes b b.inputs gs g lawful few room)
    ∙ gate_step b b.inputs gs g lawful few room
    ∙ ap (λ t. entered b b.inputs t [] (wires t)) (sym (take_more b.gates k no_gate l))

pub pin_turn : (b : GateList) (k pin wire s : ℕ) (f : List ℕ) (source : Source) (sig : Signal) (old new : Board) → Lawful b → k < length b.gates → pin < length (gate_number b k).pins → f ≡ (pin_number (gate_number b k).pins pin).source → s ≡ (pin_number (gate_number b k).pins pin).start → wire ≡ wires (take k b.gates) + pin → FirstSource f (input_names b.inputs) (gate_names b.gates) (Some source) → sig ≡ tapped source → old ≡ pins_joined b (pins_before b k pin) → PinEntered old k pin sig wire s new → new ≡ pins_joined b (pins_before b k (pin + 1))
pin_turn b k pin wire s f source sig old new law l within ef es ew found eg eo h =
    let ps = pins_before b k pin in
    let p = pin_number (gate_number b k).pins pin in
    let n = wires b.gates - (length ps + 1) in
    let gate = All-get_or LawfulGate b.gates k no_gate l law.each_gate in
    let lawful = All-get_or LawfulPin (gate_number b k).pins pin (record { source = []; start = 0 }) within gate.pins in
    let long = before_long b k pin (omega arith) in
    let left : wires b.gates - length ps ≡ suc n = omega (arith, wires_within b.gates k l) in
    let c = (entered b b.inputs b.gates ps (suc n)).circuit in
    let ins = length-map b.inputs (λ i. bit_of i.applied) in
    let is = found_source b c f source ins (length_rows 0 b.gates) found in
    let tied = is.0 ∙ ap (λ t. source_named b t) ef in
    let e : old ≡ entered b b.inputs b.gates ps (suc n) = eo ∙ ap (λ m. entered b b.inputs b.gates ps m) left in
    let same : PinEntered (entered b b.inputs b.gates ps (suc n)) k pin (tapped source) (length ps) p.start new =
    subst (λ o. PinEntered o k pin (tapped source) (length ps) p.start new) e (subst (λ m. PinEntered old k pin (tapped source) m p.start new) (ew ∙ sym long) (subst (λ m. PinEntered old k pin (tapped source) wire m new) es (subst (λ g. PinEntered old k pin g wire s new) eg h))) in
    let fewer : n ≡ wires b.gates - length (ps ++ (p ∷ [])) = omega (arith, length_push ps p) in
    same (join_passes b ps p k pin n (tapped source) lawful l within long tied is.1) (wire_passes b ps p k pin n (tapped source) lawful l within long tied is.1)
    ∙ pin_step b ps p k pin n (tapped source) lawful l within long tied is.1
    ∙ ap (λ m. entered b b.inputs b.gates (ps ++ (p ∷ [])) m) fewer
    ∙ ap (λ t. pins_joined b t) (sym (before_more b k pin within))
