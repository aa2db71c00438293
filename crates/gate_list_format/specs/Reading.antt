-- The reading order of a gate list: its slots, and their faults.
use Rattle.std.specs.Prelude.{◌≡◌, ℕ, zero, suc, ◌+◌, ◌<◌, ◌≤◌, Bool, true, false, cond, ◌&&◌, ◌||◌, ◌⊎◌, ◌↔◌, List, [], ◌∷◌, ◌++◌, length, codes, decimal, nat_le}
use Rattle.std.specs.Str.{bytes_eq}
use Rattle.gate_list_format.specs.Slots.{space, newline, Judged, fits, fault, Outcome, accepted, refused, Form, ends, slot, read, Stopped}
use Rattle.gate_list_format.specs.Lists.{Input, Pin, Gate, GateList, word_text, least_pins, most_pins, is_name, input_names, gate_names, names, wires, pin_end, Lawful, written}

-- the first of k numbers, from v on, whose text is the field
abbrev pub pick : ℕ → (ℕ → List ℕ) → ℕ → ℕ → List ℕ → Judged
pick n text v zero f = fault n
pick n text v (suc k) f = cond (bytes_eq f (text v)) (fits v) (pick n text (suc v) k f)

abbrev pub heading : List ℕ → List ℕ → Judged
heading word = pick 15 (λ _. word) 0 1

-- a count of at most so many
abbrev pub count : ℕ → List ℕ → Judged
count most = pick 16 decimal 0 (suc most)

abbrev pub bit : List ℕ → Judged
bit = pick 15 decimal 0 2

abbrev pub gate_word : List ℕ → Judged
gate_word = pick 18 word_text 0 10

abbrev pub source_name : List ℕ → Judged
source_name f = cond (is_name f) (fits 0) (fault 15)

abbrev pub member : List ℕ → List (List ℕ) → Bool
member f [] = false
member f (n ∷ ns) = bytes_eq f n || member f ns

-- a name that none of those before it is
abbrev pub new_name : List (List ℕ) → List ℕ → Judged
new_name seen f = cond (is_name f) (cond (member f seen) (fault 17) (fits 0)) (fault 15)

-- a number that reads as a pin count is held to the word, and then to the wires there are already
abbrev pub pins_of : ℕ → ℕ → Judged → Judged
pins_of word wires (fault n) = fault n
pins_of word wires (fits p) = cond (nat_le (least_pins word) p && nat_le p (most_pins word)) (cond (nat_le (wires + p) 384) (fits p) (fault 2)) (fault 18)

abbrev pub pin_count : ℕ → ℕ → List ℕ → Judged
pin_count word wires f = pins_of word wires (pick 16 decimal 1 8 f)

module _ {A : Type 0} where
  abbrev pub heading_form : List ℕ → ℕ → (ℕ → Form A) → Form A
  heading_form word most next =
      slot (heading word) space λ _ _.
      slot (count most) newline λ _ n.
      next n

  -- name, applied bit, start bit
  abbrev pub input_form : List (List ℕ) → (Input → Form A) → Form A
  input_form seen next =
      slot (new_name seen) space λ name _.
      slot bit space λ _ applied.
      slot bit newline λ _ start.
      next (record { name = name; applied = applied; start = start })

  -- so many more input lines, behind those read
  abbrev pub input_forms : ℕ → List Input → (List Input → Form A) → Form A
  input_forms zero is next = next is
  input_forms (suc n) is next =
      input_form (input_names is) λ i.
      input_forms n (is ++ (i ∷ [])) next

  -- so many more pins, behind those read: source name, wire start bit
  abbrev pub pin_forms : ℕ → List Pin → (List Pin → Form A) → Form A
  pin_forms zero ps next = next ps
  pin_forms (suc n) ps next =
      slot source_name space λ source _.
      slot bit (pin_end n) λ _ start.
      pin_forms n (ps ++ (record { source = source; start = start } ∷ [])) next

  -- name, word, pin count, start bit, pins
  abbrev pub gate_form : List (List ℕ) → ℕ → (Gate → Form A) → Form A
  gate_form seen before next =
      slot (new_name seen) space λ name _.
      slot gate_word space λ _ word.
      slot (pin_count word before) space λ _ p.
      slot bit space λ _ start.
      pin_forms p [] λ pins.
      next (record { name = name; word = word; start = start; pins = pins })

  -- so many more gate lines, behind the input lines and the gate lines read
  abbrev pub gate_forms : ℕ → List Input → List Gate → (List Gate → Form A) → Form A
  gate_forms zero is gs next = next gs
  gate_forms (suc n) is gs next =
      gate_form (input_names is ++ gate_names gs) (wires gs) λ g.
      gate_forms n is (gs ++ (g ∷ [])) next

-- each source is the name of an input or a gate
abbrev pub known : List (List ℕ) → List Pin → Bool
known ns [] = true
known ns (p ∷ ps) = member p.source ns && known ns ps

abbrev pub sourced : {A : Type 0} → List (List ℕ) → ℕ → List Gate → Outcome A → Outcome A
sourced ns line [] answer = answer
sourced ns line (g ∷ gs) answer = cond (known ns g.pins) (sourced ns (suc line) gs answer) (refused 19 line)

-- sources are looked for last, from the first gate's line on
abbrev pub answer : GateList → Outcome GateList
answer b = sourced (names b) (length b.inputs + 3) b.gates (accepted b)

unfoldable pub list_form : Form GateList
list_form =
    heading_form (codes "inputs") 32 λ n.
    input_forms n [] λ is.
    heading_form (codes "gates") 96 λ r.
    gate_forms r is [] λ gs.
    ends (answer (record { inputs = is; gates = gs }))

unfoldable pub reading : List ℕ → Outcome GateList
reading text = read list_form 1 text

-- the text has more than 65,536 bytes, or a name table has too few entries
abbrev pub Oversized : ℕ → ℕ → List ℕ → Type 0
Oversized inputs gates text = (65536 < length text) ⊎ ((inputs < 32) ⊎ (gates < 96))

-- the answer to a text, with name tables of so many entries
unfoldable pub admitted : ℕ → ℕ → List ℕ → Outcome GateList
admitted inputs gates text = cond (nat_le (length text) 65536 && nat_le 32 inputs && nat_le 96 gates) (reading text) (refused 14 0)

-- accepted are exactly the written texts of lawful lists, none of which is too long
abbrev pub AcceptsExactly : Type 0
AcceptsExactly = (inputs gates : ℕ) (text : List ℕ) (b : GateList) → (admitted inputs gates text ≡ accepted b) ↔ ((32 ≤ inputs) × (96 ≤ gates) × Lawful b × (written b ≡ text))

-- a refusal is 14, or the first fault: what stands before it has the form
abbrev pub RefusesFirst : Type 0
RefusesFirst = (inputs gates : ℕ) (text : List ℕ) (n line : ℕ) → (admitted inputs gates text ≡ refused n line) ↔ ((Oversized inputs gates text × (n ≡ 14) × (line ≡ 0)) ⊎ ((Oversized inputs gates text → ⊥) × Stopped list_form text n line))
