-- One input or one gate more on a board.
use Rattle.std.proofs.Common.{◌≡◌, ℕ, suc, ◌+◌, ◌<◌, ◌≤◌, Bool, true, false, List, [], ◌∷◌, ◌++◌, length, drop, set, replicate, is_some, Some, None, Option, unwrap_or, sym, refl, ap, ◌∙◌, arith}
use Rattle.std.specs.List.{insert}
use Rattle.std.proofs.lemmas.List.{append-nil, append_assoc, length-append, length-map, length-replicate, length_push, replicate-append-replicate, map_push, set_at, take_at, drop_at}
use Rattle.std.proofs.lemmas.Bool.{lt-ltb, le-leb, and_from}
use Rattle.gates.specs.Kinds.{pins_of}
use Rattle.gates.specs.Told.{first_stop}
use Rattle.circuit.specs.declared.Gate as circuit
use Rattle.circuit.specs.declared.Source.{Source}
use Rattle.circuit.specs.declared.Signal.TheVariants as signal
use Rattle.record.specs.Boards.{Board}
use Rattle.record.specs.Calls.{unless, bit_of, pin_count, add_input_stop, input_added, add_gate_stop, gate_added, set_input_stop, input_set, set_signal_stop, signal_set}
use Rattle.gate_list_format.specs.Lists.{GateList, Input, Gate, LawfulInput, LawfulGate, kind_of, wires}
use Rattle.gate_list_format.proofs.Forms.{wires_push}
use Rattle.list_record.specs.ListBoards.{list_kinds, applied_values, input_starts, gate_starts, gate_row, gate_rows}
use Rattle.list_record.specs.Replay.{entered}
use Rattle.list_record.proofs.KindPins.{kind_pins}

-- checks that hold stop nothing
pub passed : (t : Bool) (n : ℕ) → t ≡ true → first_stop (unless t n ∷ []) ≡ None
passed true n e = refl
passed false n e = let z : ◌≡◌ {A = ℕ} 0 1 = cc in absurd (omega arith)

pub passed_two : (t u : Bool) (m n : ℕ) → t ≡ true → u ≡ true → first_stop (unless t m ∷ unless u n ∷ []) ≡ None
passed_two true true m n e f = refl
passed_two false u m n e f = let z : ◌≡◌ {A = ℕ} 0 1 = cc in absurd (omega arith)
passed_two true false m n e f = let z : ◌≡◌ {A = ℕ} 0 1 = cc in absurd (omega arith)

abbrev pub board : List Bool → List circuit.Gate → List (Option Source) → List Bool → Board
board applied gates sources state = record { kinds = list_kinds; circuit = record { applied = applied; gates = gates; sources = sources }; state = state; marks = None }

insert-at : {X : Type 0} (p q : List X) (n : ℕ) (y : X) → length p ≡ n → insert (p ++ q) n y ≡ p ++ (y ∷ q)
insert-at p q n y l = ap (λ t. t ++ (y ∷ drop n (p ++ q))) (take_at p q n l) ∙ ap (λ t. p ++ (y ∷ t)) (drop_at p q n l)

-- what stands at a place, written as the last of the middle part
pub regroup : {X : Type 0} (p q r : List X) (y : X) → (p ++ q) ++ (y ∷ r) ≡ p ++ ((q ++ (y ∷ [])) ++ r)
regroup p q r y = append_assoc p q (y ∷ r) ∙ ap (λ t. p ++ t) (sym (append_assoc q (y ∷ []) r))

module _ (b : GateList) (is : List Input) (i : Input) (law : LawfulInput i) (few : length is < 32) where
  long_applied : length (applied_values is) ≡ length is
  long_applied = length-map is (λ i. bit_of i.applied)

  long_pushed : length (applied_values is ++ (false ∷ [])) ≡ length is + 1
  long_pushed = length_push (applied_values is) false ∙ ap (λ n. n + 1) long_applied

  pub add_input_passes : add_input_stop (entered b is [] [] 0) ≡ None
  add_input_passes = passed _ 2 (lt-ltb _ 32 (omega (arith, long_applied)))

  pub set_input_passes : set_input_stop (input_added (entered b is [] [] 0)) (length is) i.applied ≡ None
  set_input_passes = passed_two _ _ 3 4 (lt-ltb (length is) (length (applied_values is ++ (false ∷ []))) (omega (arith, long_pushed))) (lt-ltb i.applied 2 law.applied)

  applied_set : set (applied_values is ++ (false ∷ [])) (length is) (bit_of i.applied) ≡ applied_values (is ++ (i ∷ []))
  applied_set = set_at (applied_values is) false [] (bit_of i.applied) (length is) long_applied ∙ sym (map_push (λ i. bit_of i.applied) is i)

  pub start_passes : set_signal_stop (input_set (input_added (entered b is [] [] 0)) (length is) i.applied) (signal.Input (length is)) i.start ≡ None
  start_passes = passed_two _ _ 3 4 (lt-ltb (length is) (length (set (applied_values is ++ (false ∷ [])) (length is) (bit_of i.applied))) (omega (arith, ap length applied_set, length-map (is ++ (i ∷ [])) (λ i. bit_of i.applied), length_push is i))) (lt-ltb i.start 2 law.start)

  start_set : set (insert (input_starts is ++ []) (length (applied_values is)) false) (length is) (bit_of i.start) ≡ input_starts (is ++ (i ∷ [])) ++ []
  start_set =
      let long : length (input_starts is) ≡ length is = length-map is (λ i. bit_of i.start) in
      ap (λ t. set t (length is) (bit_of i.start)) (insert-at (input_starts is) [] (length (applied_values is)) false (long ∙ sym long_applied))
      ∙ set_at (input_starts is) false [] (bit_of i.start) (length is) long
      ∙ sym (map_push (λ i. bit_of i.start) is i)
      ∙ sym (append-nil (input_starts (is ++ (i ∷ []))))

  pub input_step : signal_set (input_set (input_added (entered b is [] [] 0)) (length is) i.applied) (signal.Input (length is)) i.start ≡ entered b (is ++ (i ∷ [])) [] [] 0
  input_step = ap (λ t. board t [] [] (set (insert (input_starts is ++ []) (length (applied_values is)) false) (length is) (bit_of i.start))) applied_set ∙ ap (λ t. board (applied_values (is ++ (i ∷ []))) [] [] t) start_set

pub length_rows : (first : ℕ) (gs : List Gate) → length (gate_rows first gs) ≡ length gs
length_rows first [] = refl
length_rows first (g ∷ gs) = ap suc (length_rows (first + length g.pins) gs)

pub rows_push : (first : ℕ) (gs : List Gate) (g : Gate) → gate_rows first (gs ++ (g ∷ [])) ≡ gate_rows first gs ++ (gate_row (first + wires gs) g ∷ [])
rows_push first [] g = ap (λ n. gate_row n g ∷ []) (let e : first ≡ first + 0 = omega arith in e)
rows_push first (x ∷ gs) g =
    let e : first + length x.pins + wires gs ≡ first + (length x.pins + wires gs) = omega arith in
    ap (λ t. gate_row first x ∷ t) (rows_push (first + length x.pins) gs g ∙ ap (λ n. gate_rows (first + length x.pins) gs ++ (gate_row n g ∷ [])) e)

module _ (b : GateList) (is : List Input) (gs : List Gate) (g : Gate) (law : LawfulGate g) (few : length gs < 96) (room : wires gs + length g.pins ≤ 384) where
  abbrev old : Board
  old = entered b is gs [] (wires gs)

  abbrev kind : ℕ
  kind = kind_of g.word (length g.pins)

  abbrev pins : ℕ
  pins = length g.pins

  known : pins_of list_kinds kind ≡ Some pins
  known = kind_pins g.word pins law.word law.least law.most

  counted : pin_count old kind ≡ pins
  counted = ap (λ o. unwrap_or o 0) known

  long_sources : length {A = Option Source} (replicate (wires gs) None) ≡ wires gs
  long_sources = length-replicate (wires gs) None

  pub add_gate_passes : add_gate_stop old kind ≡ None
  add_gate_passes = passed_two _ _ 1 2 (ap is_some known) (and_from _ _ (lt-ltb (length (gate_rows 0 gs)) 96 (omega (arith, length_rows 0 gs))) (le-leb (length {A = Option Source} (replicate (wires gs) None) + pin_count old kind) 384 (omega (arith, long_sources, counted))))

  -- the board with the new gate, by its pin count
  abbrev grown : ℕ → Board
  grown p = board (applied_values is) (gate_rows 0 gs ++ (record { kind = kind; first = length {A = Option Source} (replicate (wires gs) None); pins = p } ∷ [])) (replicate (wires gs) None ++ replicate p None) (insert (input_starts is ++ (gate_starts gs ++ replicate (wires gs) false)) (length (applied_values is) + length (gate_rows 0 gs)) false ++ replicate p false)

  pub start_of_gate_passes : set_signal_stop (gate_added old kind) (signal.Gate (length gs)) g.start ≡ None
  start_of_gate_passes = passed_two _ _ 3 4 (lt-ltb (length gs) (length (gate_rows 0 gs ++ (record { kind = kind; first = length {A = Option Source} (replicate (wires gs) None); pins = pin_count old kind } ∷ []))) (omega (arith, length_push (gate_rows 0 gs) (record { kind = kind; first = length {A = Option Source} (replicate (wires gs) None); pins = pin_count old kind }), length_rows 0 gs))) (lt-ltb g.start 2 law.start)

  rows_grown : gate_rows 0 gs ++ (record { kind = kind; first = length {A = Option Source} (replicate (wires gs) None); pins = pins } ∷ []) ≡ gate_rows 0 (gs ++ (g ∷ []))
  rows_grown = ap (λ n. gate_rows 0 gs ++ (gate_row n g ∷ [])) (let e : length {A = Option Source} (replicate (wires gs) None) ≡ 0 + wires gs = omega (arith, long_sources) in e) ∙ sym (rows_push 0 gs g)

  sources_grown : replicate {A = Option Source} (wires gs) None ++ replicate pins None ≡ replicate (wires (gs ++ (g ∷ []))) None
  sources_grown = replicate-append-replicate (wires gs) pins None ∙ ap (λ n. replicate n None) (sym (wires_push gs g))

  abbrev at : ℕ
  at = length (applied_values is) + length (gate_rows 0 gs)

  long_before : length (input_starts is ++ gate_starts gs) ≡ at
  long_before = omega (arith, length-append (input_starts is) (gate_starts gs), length-map is (λ i. bit_of i.start), length-map gs (λ g. bit_of g.start), length-map is (λ i. bit_of i.applied), length_rows 0 gs)

  state_grown : set (insert (input_starts is ++ (gate_starts gs ++ replicate (wires gs) false)) at false ++ replicate pins false) (length (applied_values is) + length gs) (bit_of g.start) ≡ input_starts is ++ (gate_starts (gs ++ (g ∷ [])) ++ replicate (wires (gs ++ (g ∷ []))) false)
  state_grown =
      let before = input_starts is ++ gate_starts gs in
      let after = replicate (wires gs) false in
      let s = bit_of g.start in
      let here : length before ≡ length (applied_values is) + length gs = omega (arith, long_before, length_rows 0 gs) in
      ap (λ t. set (insert t at false ++ replicate pins false) (length (applied_values is) + length gs) s) (sym (append_assoc (input_starts is) (gate_starts gs) after))
      ∙ ap (λ t. set (t ++ replicate pins false) (length (applied_values is) + length gs) s) (insert-at before after at false long_before)
      ∙ ap (λ t. set t (length (applied_values is) + length gs) s) (append_assoc before (false ∷ after) (replicate pins false))
      ∙ set_at before false (after ++ replicate pins false) s (length (applied_values is) + length gs) here
      ∙ ap (λ t. before ++ (s ∷ t)) (replicate-append-replicate (wires gs) pins false ∙ ap (λ n. replicate n false) (sym (wires_push gs g)))
      ∙ regroup (input_starts is) (gate_starts gs) (replicate (wires (gs ++ (g ∷ []))) false) s
      ∙ ap (λ t. input_starts is ++ (t ++ replicate (wires (gs ++ (g ∷ []))) false)) (sym (map_push (λ g. bit_of g.start) gs g))

  pub gate_step : signal_set (gate_added old kind) (signal.Gate (length gs)) g.start ≡ entered b is (gs ++ (g ∷ [])) [] (wires (gs ++ (g ∷ [])))
  gate_step =
      ap (λ p. signal_set (grown p) (signal.Gate (length gs)) g.start) counted
      ∙ ap (λ t. board (applied_values is) t (replicate (wires gs) None ++ replicate pins None) (set (insert (input_starts is ++ (gate_starts gs ++ replicate (wires gs) false)) at false ++ replicate pins false) (length (applied_values is) + length gs) (bit_of g.start))) rows_grown
      ∙ ap (λ t. board (applied_values is) (gate_rows 0 (gs ++ (g ∷ []))) t (set (insert (input_starts is ++ (gate_starts gs ++ replicate (wires gs) false)) at false ++ replicate pins false) (length (applied_values is) + length gs) (bit_of g.start))) sources_grown
      ∙ ap (λ t. board (applied_values is) (gate_rows 0 (gs ++ (g ∷ []))) (replicate (wires (gs ++ (g ∷ []))) None) t) state_grown
