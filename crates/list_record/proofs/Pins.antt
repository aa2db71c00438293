-- One pin more on a board.
use Rattle.std.proofs.Common.{◌≡◌, ℕ, zero, suc, ◌+◌, ◌-◌, ◌<◌, ◌≤◌, true, false, ltb, List, [], ◌∷◌, ◌++◌, length, get_or, take, set, replicate, is_some, None, sym, refl, ap, ◌∙◌, arith}
use Rattle.std.proofs.lemmas.List.{append-nil, append_assoc, length-append, length-map, length_push, length-take-le, map_push, set_at, take_more, take_all}
use Rattle.std.proofs.lemmas.Bool.{lt-ltb, and_from}
use Rattle.circuit.specs.declared.Gate as circuit
use Rattle.circuit.specs.declared.Signal.{Signal}
use Rattle.circuit.specs.declared.Signal.TheVariants as signal
use Rattle.circuit.specs.Circuits.{no_gate}
use Rattle.circuit.specs.Changes.{source_of}
use Rattle.record.specs.Boards.{Board}
use Rattle.record.specs.Calls.{bit_of, join_stop, joined, set_signal_stop, signal_set}
use Rattle.gate_list_format.specs.Lists.{GateList, Gate, Pin, LawfulPin, wires}
use Rattle.gate_list.specs.Laws.{gate_number}
use Rattle.gate_list_lookup.specs.Lookup.{pin_number}
use Rattle.list_record.specs.ListBoards.{applied_values, input_starts, gate_starts, pin_starts, pins_in, gate_row, gate_rows, pin_sources, source_named, board_of_list}
use Rattle.list_record.specs.Replay.{entered, pins_joined, pins_before}
use Rattle.list_record.proofs.Steps.{passed, passed_two, board, regroup, length_rows}

abbrev none : Gate
none = record { name = []; word = 0; start = 0; pins = [] }

abbrev no_pin : Pin
no_pin = record { source = []; start = 0 }

-- a gate's row, by number
pub row_at : (first : ℕ) (gs : List Gate) (k : ℕ) → k < length gs → get_or (gate_rows first gs) k no_gate ≡ gate_row (first + wires (take k gs)) (get_or gs k none)
row_at first [] k l = absurd (omega arith)
row_at first (g ∷ gs) zero l = ap (λ n. gate_row n g) (let e : first ≡ first + 0 = omega arith in e)
row_at first (g ∷ gs) (suc k) l =
    let e : first + length g.pins + wires (take k gs) ≡ first + (length g.pins + wires (take k gs)) = omega arith in
    row_at (first + length g.pins) gs k (omega arith) ∙ ap (λ n. gate_row n (get_or gs k none)) e

pub length-pins : (gs : List Gate) → length (pins_in gs) ≡ wires gs
length-pins [] = refl
length-pins (g ∷ gs) = omega (arith, length-append g.pins (pins_in gs), length-pins gs)

pub wires_within : (gs : List Gate) (k : ℕ) → k < length gs → wires (take k gs) + length (get_or gs k none).pins ≤ wires gs
wires_within [] k l = absurd (omega arith)
wires_within (g ∷ gs) zero l = omega arith
wires_within (g ∷ gs) (suc k) l = omega (arith, wires_within gs k (omega arith))

pub pins_take : (gs : List Gate) (k : ℕ) → k < length gs → pins_in (take (k + 1) gs) ≡ pins_in (take k gs) ++ (get_or gs k none).pins
pins_take gs k l = ap pins_in (take_more gs k none l) ∙ pins_push (take k gs) (get_or gs k none)
  where
    pins_push : (hs : List Gate) (g : Gate) → pins_in (hs ++ (g ∷ [])) ≡ pins_in hs ++ g.pins
    pins_push [] g = append-nil g.pins
    pins_push (h ∷ hs) g = ap (λ t. h.pins ++ t) (pins_push hs g) ∙ sym (append_assoc h.pins (pins_in hs) g.pins)

pub wires_take : (gs : List Gate) (k : ℕ) → k < length gs → wires (take (k + 1) gs) ≡ wires (take k gs) + length (get_or gs k none).pins
wires_take gs k l =
    sym (length-pins (take (k + 1) gs)) ∙ ap length (pins_take gs k l)
    ∙ length-append (pins_in (take k gs)) (get_or gs k none).pins ∙ ap (λ n. n + length (get_or gs k none).pins) (length-pins (take k gs))

pub before_long : (b : GateList) (gate pin : ℕ) → pin ≤ length (gate_number b gate).pins → length (pins_before b gate pin) ≡ wires (take gate b.gates) + pin
before_long b gate pin l = omega (arith, length-append (pins_in (take gate b.gates)) (take pin (gate_number b gate).pins), length-pins (take gate b.gates), length-take-le pin (gate_number b gate).pins l)

pub before_more : (b : GateList) (gate pin : ℕ) → pin < length (gate_number b gate).pins → pins_before b gate (pin + 1) ≡ pins_before b gate pin ++ (pin_number (gate_number b gate).pins pin ∷ [])
before_more b gate pin l =
    ap (λ t. pins_in (take gate b.gates) ++ t) (take_more (gate_number b gate).pins pin no_pin l)
    ∙ sym (append_assoc (pins_in (take gate b.gates)) (take pin (gate_number b gate).pins) (pin_number (gate_number b gate).pins pin ∷ []))

pub before_none : (b : GateList) (gate : ℕ) → pins_before b gate 0 ≡ pins_in (take gate b.gates)
before_none b gate = append-nil (pins_in (take gate b.gates))

pub before_all : (b : GateList) (gate : ℕ) → gate < length b.gates → pins_before b gate (length (gate_number b gate).pins) ≡ pins_in (take (gate + 1) b.gates)
before_all b gate l = ap (λ t. pins_in (take gate b.gates) ++ t) (take_all (length (gate_number b gate).pins) (gate_number b gate).pins (omega arith)) ∙ sym (pins_take b.gates gate l)

pub all_joined : (b : GateList) → pins_joined b (pins_in b.gates) ≡ board_of_list b
all_joined b =
    let none_left : wires b.gates - length (pins_in b.gates) ≡ 0 = omega (arith, length-pins b.gates) in
    ap (λ n. entered b b.inputs b.gates (pins_in b.gates) n) none_left
    ∙ ap (λ t. board (applied_values b.inputs) (gate_rows 0 b.gates) t (input_starts b.inputs ++ (gate_starts b.gates ++ (pin_starts (pins_in b.gates) ++ [])))) (append-nil (pin_sources b (pins_in b.gates)))
    ∙ ap (λ t. board (applied_values b.inputs) (gate_rows 0 b.gates) (pin_sources b (pins_in b.gates)) (input_starts b.inputs ++ (gate_starts b.gates ++ t))) (append-nil (pin_starts (pins_in b.gates)))

-- pin p of a gate k is the next to be joined, to the source s; n more come behind it
module _ (b : GateList) (ps : List Pin) (p : Pin) (k pin n : ℕ) (s : Signal) (law : LawfulPin p) (gate-there : k < length b.gates) (pin-there : pin < length (gate_number b k).pins) (next : length ps ≡ wires (take k b.gates) + pin) (tied : source_of (entered b b.inputs b.gates ps (suc n)).circuit s ≡ source_named b p.source) (some : is_some (source_of (entered b b.inputs b.gates ps (suc n)).circuit s) ≡ true) where
  abbrev old : Board
  old = entered b b.inputs b.gates ps (suc n)

  row : get_or (gate_rows 0 b.gates) k no_gate ≡ gate_row (0 + wires (take k b.gates)) (gate_number b k)
  row = row_at 0 b.gates k gate-there

  pub join_passes : join_stop old k pin s ≡ None
  join_passes = passed _ 3 (and_from _ _ (and_from _ _ (lt-ltb k (length (gate_rows 0 b.gates)) (omega (arith, length_rows 0 b.gates))) (ap (λ (r : circuit.Gate). ltb pin r.pins) row ∙ lt-ltb pin (length (gate_number b k).pins) pin-there)) some)

  long_sources : length (pin_sources b ps) ≡ length ps
  long_sources = length-map ps (λ p. source_named b p.source)

  here : (get_or (gate_rows 0 b.gates) k no_gate).first + pin ≡ length ps
  here = ap (λ (r : circuit.Gate). r.first + pin) row ∙ (let e : 0 + wires (take k b.gates) + pin ≡ length ps = omega arith in e)

  sources_set : set (pin_sources b ps ++ (None ∷ replicate n None)) ((get_or (gate_rows 0 b.gates) k no_gate).first + pin) (source_of old.circuit s) ≡ pin_sources b (ps ++ (p ∷ [])) ++ replicate n None
  sources_set =
      ap (λ w. set (pin_sources b ps ++ (None ∷ replicate n None)) w (source_of old.circuit s)) here
      ∙ set_at (pin_sources b ps) None (replicate n None) (source_of old.circuit s) (length ps) long_sources
      ∙ ap (λ o. pin_sources b ps ++ (o ∷ replicate n None)) tied
      ∙ sym (append_assoc (pin_sources b ps) (source_named b p.source ∷ []) (replicate n None))
      ∙ ap (λ t. t ++ replicate n None) (sym (map_push (λ p. source_named b p.source) ps p))

  pub wire_passes : set_signal_stop (joined old k pin s) (signal.Wire (length ps)) p.start ≡ None
  wire_passes = passed_two _ _ 3 4 (lt-ltb (length ps) (length (set (pin_sources b ps ++ (None ∷ replicate n None)) ((get_or (gate_rows 0 b.gates) k no_gate).first + pin) (source_of old.circuit s))) (omega (arith, ap length sources_set, length-append (pin_sources b (ps ++ (p ∷ []))) (replicate n None), length-map (ps ++ (p ∷ [])) (λ p. source_named b p.source), length_push ps p))) (lt-ltb p.start 2 law.start)

  state_set : set (input_starts b.inputs ++ (gate_starts b.gates ++ (pin_starts ps ++ (false ∷ replicate n false)))) (length (applied_values b.inputs) + length (gate_rows 0 b.gates) + length ps) (bit_of p.start) ≡ input_starts b.inputs ++ (gate_starts b.gates ++ (pin_starts (ps ++ (p ∷ [])) ++ replicate n false))
  state_set =
      let ins = input_starts b.inputs in
      let outs = gate_starts b.gates in
      let place = length (applied_values b.inputs) + length (gate_rows 0 b.gates) + length ps in
      let long : length ((ins ++ outs) ++ pin_starts ps) ≡ place = omega (arith, length-append (ins ++ outs) (pin_starts ps), length-append ins outs, length-map b.inputs (λ i. bit_of i.start), length-map b.gates (λ g. bit_of g.start), length-map ps (λ p. bit_of p.start), length-map b.inputs (λ i. bit_of i.applied), length_rows 0 b.gates) in
      ap (λ t. set t place (bit_of p.start)) (sym (append_assoc ins outs (pin_starts ps ++ (false ∷ replicate n false))) ∙ sym (append_assoc (ins ++ outs) (pin_starts ps) (false ∷ replicate n false)))
      ∙ set_at ((ins ++ outs) ++ pin_starts ps) false (replicate n false) (bit_of p.start) place long
      ∙ regroup (ins ++ outs) (pin_starts ps) (replicate n false) (bit_of p.start)
      ∙ append_assoc ins outs ((pin_starts ps ++ (bit_of p.start ∷ [])) ++ replicate n false)
      ∙ ap (λ t. ins ++ (outs ++ (t ++ replicate n false))) (sym (map_push (λ p. bit_of p.start) ps p))

  pub pin_step : signal_set (joined old k pin s) (signal.Wire (length ps)) p.start ≡ entered b b.inputs b.gates (ps ++ (p ∷ [])) n
  pin_step =
      ap (λ t. board (applied_values b.inputs) (gate_rows 0 b.gates) t (set (input_starts b.inputs ++ (gate_starts b.gates ++ (pin_starts ps ++ (false ∷ replicate n false)))) (length (applied_values b.inputs) + length (gate_rows 0 b.gates) + length ps) (bit_of p.start))) sources_set
      ∙ ap (λ t. board (applied_values b.inputs) (gate_rows 0 b.gates) (pin_sources b (ps ++ (p ∷ [])) ++ replicate n None) t) state_set
