-- A lawful list is short.
use Rattle.std.proofs.Common.{◌≡◌, ℕ, suc, ◌+◌, ◌*◌, ◌<◌, ◌≤◌, ◌&&◌, leb, List, [], ◌∷◌, length, codes, decimal, arith}
use Rattle.std.specs.List.{AllByRecursion}
use Rattle.std.proofs.lemmas.Fmt.{length-decimal-le}
use Rattle.std.proofs.lemmas.List.{length-append}
use Rattle.std.proofs.lemmas.Bool.{and_parts, leb-true}
use Rattle.gate_list_format.specs.Slots.{End, space, newline, byte, put}
use Rattle.gate_list_format.specs.Lists.{Input, Pin, Gate, GateList, Name, LawfulInput, LawfulPin, LawfulGate, Lawful, word_text, letter, name_bytes, wires, write_heading, write_input, write_pins, write_gate, writes, written, pin_end}
use Rattle.gate_list_format.proofs.Judges.{below_ten}

length-put : (f : List ℕ) (e : End) (rest : List ℕ) → length (put f e rest) ≡ length f + suc (length rest)
length-put f e rest = length-append f (byte e ∷ rest)

name_short : (f : List ℕ) → Name f → length f ≤ 16
name_short [] h = omega arith
name_short (b ∷ bs) h = let r = leb-true (length bs) 15 (and_parts (letter b && name_bytes bs) (leb (length bs) 15) h).1 in omega arith

bit_short : (v : ℕ) → v < 2 → length (decimal v) ≤ 1
bit_short v l = length-decimal-le 1 v (omega arith) (omega arith) (omega arith)

word_short : (w : ℕ) → w < 10 → length (word_text w) ≤ 4
word_short = below_ten (λ w. length (word_text w) ≤ 4) (omega arith, omega arith, omega arith, omega arith, omega arith, omega arith, omega arith, omega arith, omega arith, omega arith)

heading_size : (word : List ℕ) (n : ℕ) (rest : List ℕ) → length word ≤ 6 → n < 100 → length (write_heading word n rest) ≤ 10 + length rest
heading_size word n rest l m =
    let a = length-put word space (put (decimal n) newline rest) in
    let b = length-put (decimal n) newline rest in
    let c = length-decimal-le 2 n (omega arith) (omega arith) (omega arith) in
    omega arith

input_size : (i : Input) (rest : List ℕ) → LawfulInput i → length (write_input i rest) ≤ 21 + length rest
input_size i rest l =
    let n = name_short i.name l.name in
    let a = bit_short i.applied l.applied in
    let s = bit_short i.start l.start in
    let p = length-put i.name space (put (decimal i.applied) space (put (decimal i.start) newline rest)) in
    let q = length-put (decimal i.applied) space (put (decimal i.start) newline rest) in
    let r = length-put (decimal i.start) newline rest in
    omega arith

pins_size : (ps : List Pin) (rest : List ℕ) → AllByRecursion LawfulPin ps → length (write_pins ps rest) ≤ 19 * length ps + length rest
pins_size [] rest l = omega arith
pins_size (p ∷ ps) rest l =
    let more = pins_size ps rest l.1 in
    let n = name_short p.source l.0.source in
    let s = bit_short p.start l.0.start in
    let a = length-put p.source space (put (decimal p.start) (pin_end (length ps)) (write_pins ps rest)) in
    let b = length-put (decimal p.start) (pin_end (length ps)) (write_pins ps rest) in
    omega arith

gate_size : (g : Gate) (rest : List ℕ) → LawfulGate g → length g.pins ≤ 384 → length (write_gate g rest) ≤ 28 + 19 * length g.pins + length rest
gate_size g rest l few =
    let n = name_short g.name l.name in
    let w = word_short g.word l.word in
    let c = length-decimal-le 3 (length g.pins) (omega arith) (omega arith) (omega arith) in
    let s = bit_short g.start l.start in
    let ps = pins_size g.pins rest l.pins in
    let t₃ = put (decimal g.start) space (write_pins g.pins rest) in
    let t₂ = put (decimal (length g.pins)) space t₃ in
    let t₁ = put (word_text g.word) space t₂ in
    let a = length-put g.name space t₁ in
    let b = length-put (word_text g.word) space t₂ in
    let d = length-put (decimal (length g.pins)) space t₃ in
    let e = length-put (decimal g.start) space (write_pins g.pins rest) in
    omega arith

inputs_size : (is : List Input) (rest : List ℕ) → AllByRecursion LawfulInput is → length (writes write_input is rest) ≤ 21 * length is + length rest
inputs_size [] rest l = omega arith
inputs_size (i ∷ is) rest l =
    let one = input_size i (writes write_input is rest) l.0 in
    let more = inputs_size is rest l.1 in
    omega arith

gates_size : (gs : List Gate) (rest : List ℕ) → AllByRecursion LawfulGate gs → wires gs ≤ 384 → length (writes write_gate gs rest) ≤ 28 * length gs + 19 * wires gs + length rest
gates_size [] rest l w = omega arith
gates_size (g ∷ gs) rest l w =
    let one = gate_size g (writes write_gate gs rest) l.0 (omega arith) in
    let more = gates_size gs rest l.1 (omega arith) in
    omega arith

pub short : (b : GateList) → Lawful b → length (written b) ≤ 65536
unfolding written
short b l =
    let t₁ = writes write_gate b.gates [] in
    let t₂ = write_heading (codes "gates") (length b.gates) t₁ in
    let t₃ = writes write_input b.inputs t₂ in
    let p = gates_size b.gates [] l.each_gate l.wires in
    let q = heading_size (codes "gates") (length b.gates) t₁ (omega arith) (omega (arith, l.gates)) in
    let r = inputs_size b.inputs t₂ l.each_input in
    let s = heading_size (codes "inputs") (length b.inputs) t₃ (omega arith) (omega (arith, l.inputs)) in
    omega (arith, l.inputs, l.gates, l.wires)
