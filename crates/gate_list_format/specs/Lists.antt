-- Gate lists: what they say, which are lawful, and how they are written.
use Rattle.std.specs.Prelude.{◌≡◌, ℕ, zero, suc, ◌+◌, ◌-◌, ◌*◌, ◌<◌, ◌≤◌, Bool, true, false, ◌&&◌, ◌||◌, ◌⊎◌, List, [], ◌∷◌, ◌++◌, map, length, codes, decimal, ◌==◌, ◌≢◌, nat_le, slice_index, slice_index_or}
use Rattle.std.specs.List.{AllByRecursion}
use Rattle.gate_list_format.specs.Slots.{End, space, newline, put}

-- an input line
pub record Input : Type 0 where
  pub name : List ℕ
  pub applied : ℕ
  pub start : ℕ

-- a gate's pin: its source and its wire's start bit
pub record Pin : Type 0 where
  pub source : List ℕ
  pub start : ℕ

-- a gate line, with the number of its word
pub record Gate : Type 0 where
  pub name : List ℕ
  pub word : ℕ
  pub start : ℕ
  pub pins : List Pin

pub record GateList : Type 0 where
  pub inputs : List Input
  pub gates : List Gate

-- the gate words by number, and the pin counts that each takes
abbrev pub word_text : ℕ → List ℕ
word_text w = slice_index_or (codes "buf" ∷ codes "not" ∷ codes "and" ∷ codes "nand" ∷ codes "or" ∷ codes "nor" ∷ codes "xor" ∷ codes "xnor" ∷ codes "maj" ∷ codes "min" ∷ []) w []

abbrev pub least_pins : ℕ → ℕ
least_pins w = slice_index (1 ∷ 1 ∷ 2 ∷ 2 ∷ 2 ∷ 2 ∷ 2 ∷ 2 ∷ 3 ∷ 3 ∷ []) w

abbrev pub most_pins : ℕ → ℕ
most_pins w = slice_index (1 ∷ 1 ∷ 8 ∷ 8 ∷ 8 ∷ 8 ∷ 8 ∷ 8 ∷ 3 ∷ 3 ∷ []) w

-- the kind of a word's gate with so many pins
abbrev pub kind_of : ℕ → ℕ → ℕ
kind_of w p = slice_index (0 ∷ 1 ∷ (2 * (p - 1)) ∷ (2 * (p - 1) + 1) ∷ (16 + 2 * (p - 1)) ∷ (16 + 2 * (p - 1) + 1) ∷ (32 + 2 * (p - 1)) ∷ (32 + 2 * (p - 1) + 1) ∷ 48 ∷ 49 ∷ []) w

-- a name has 1 to 16 bytes from a-z, 0-9 and _, and begins with a letter
abbrev pub letter : ℕ → Bool
letter b = nat_le 97 b && nat_le b 122

abbrev pub name_byte : ℕ → Bool
name_byte b = letter b || (nat_le 48 b && nat_le b 57) || b == 95

abbrev pub name_bytes : List ℕ → Bool
name_bytes [] = true
name_bytes (b ∷ bs) = name_byte b && name_bytes bs

abbrev pub is_name : List ℕ → Bool
is_name [] = false
is_name (b ∷ bs) = letter b && name_bytes bs && nat_le (length bs) 15

abbrev pub Name : List ℕ → Type 0
Name f = is_name f ≡ true

abbrev pub In : List ℕ → List (List ℕ) → Type 0
In f [] = ⊥
In f (n ∷ ns) = (f ≡ n) ⊎ In f ns

abbrev pub NotIn : List ℕ → List (List ℕ) → Type 0
NotIn f ns = AllByRecursion (λ n. f ≢ n) ns

-- no name is repeated
abbrev pub Distinct : List (List ℕ) → Type 0
Distinct [] = Unit {0}
Distinct (n ∷ ns) = NotIn n ns × Distinct ns

abbrev pub input_names : List Input → List (List ℕ)
input_names is = map (λ i. i.name) is

abbrev pub gate_names : List Gate → List (List ℕ)
gate_names gs = map (λ g. g.name) gs

abbrev pub names : GateList → List (List ℕ)
names b = input_names b.inputs ++ gate_names b.gates

-- every pin has a wire
abbrev pub wires : List Gate → ℕ
wires [] = 0
wires (g ∷ gs) = length g.pins + wires gs

-- what a line may say by itself
pub record LawfulInput (i : Input) : Type 0 where
  pub name : Name i.name
  pub applied : i.applied < 2
  pub start : i.start < 2

pub record LawfulPin (p : Pin) : Type 0 where
  pub source : Name p.source
  pub start : p.start < 2

pub record LawfulGate (g : Gate) : Type 0 where
  pub name : Name g.name
  pub word : g.word < 10
  pub least : least_pins g.word ≤ length g.pins
  pub most : length g.pins ≤ most_pins g.word
  pub start : g.start < 2
  pub pins : AllByRecursion LawfulPin g.pins

-- what a list may say: few enough of each, names that are not repeated, and sources that are there
pub record Lawful (b : GateList) : Type 0 where
  pub inputs : length b.inputs ≤ 32
  pub gates : length b.gates ≤ 96
  pub wires : wires b.gates ≤ 384
  pub each_input : AllByRecursion LawfulInput b.inputs
  pub each_gate : AllByRecursion LawfulGate b.gates
  pub distinct : Distinct (names b)
  pub sources : AllByRecursion (λ g. AllByRecursion (λ p. In p.source (names b)) g.pins) b.gates

-- how a list is written, before the rest of the text
abbrev pub write_heading : List ℕ → ℕ → List ℕ → List ℕ
write_heading word n rest = put word space (put (decimal n) newline rest)

abbrev pub write_input : Input → List ℕ → List ℕ
write_input i rest = put i.name space (put (decimal i.applied) space (put (decimal i.start) newline rest))

-- what ends a pin's bit, before so many pins
abbrev pub pin_end : ℕ → End
pin_end zero = newline
pin_end (suc n) = space

abbrev pub write_pins : List Pin → List ℕ → List ℕ
write_pins [] rest = rest
write_pins (p ∷ ps) rest = put p.source space (put (decimal p.start) (pin_end (length ps)) (write_pins ps rest))

abbrev pub write_gate : Gate → List ℕ → List ℕ
write_gate g rest = put g.name space (put (word_text g.word) space (put (decimal (length g.pins)) space (put (decimal g.start) space (write_pins g.pins rest))))

abbrev pub writes : {A : Type 0} → (A → List ℕ → List ℕ) → List A → List ℕ → List ℕ
writes write [] rest = rest
writes write (x ∷ xs) rest = write x (writes write xs rest)

unfoldable pub written : GateList → List ℕ
written b = write_heading (codes "inputs") (length b.inputs) (writes write_input b.inputs (write_heading (codes "gates") (length b.gates) (writes write_gate b.gates [])))
