-- Some texts and fields, and what reading answers to them.
use Rattle.std.specs.Prelude.{◌≡◌, ℕ, List, [], ◌∷◌, ◌++◌, codes}
use Rattle.gate_list_format.specs.Slots.{accepted, refused, fits, fault}
use Rattle.gate_list_format.specs.Lists.{GateList, written}
use Rattle.gate_list_format.specs.Reading.{reading, source_name, pin_count}

-- a line's text and its end
infixr 40 ◌⏎◌
abbrev pub ◌⏎◌ : List ℕ → List ℕ → List ℕ
line ⏎ rest = line ++ (10 ∷ rest)

abbrev pub latch : GateList
latch = record { inputs = record { name = codes "set"; applied = 0; start = 1 } ∷ record { name = codes "reset"; applied = 0; start = 1 } ∷ []; gates = record { name = codes "q"; word = 5; start = 0; pins = record { source = codes "set"; start = 1 } ∷ record { source = codes "qn"; start = 0 } ∷ [] } ∷ record { name = codes "qn"; word = 5; start = 0; pins = record { source = codes "reset"; start = 1 } ∷ record { source = codes "q"; start = 0 } ∷ [] } ∷ [] }

abbrev pub plain_words : GateList
plain_words = record { inputs = record { name = codes "gates"; applied = 1; start = 0 } ∷ []; gates = record { name = codes "and"; word = 1; start = 1; pins = record { source = codes "gates"; start = 0 } ∷ [] } ∷ [] }

pub record Examples : Type 0 where
  pub latch_read : reading (codes "inputs 2" ⏎ codes "set 0 1" ⏎ codes "reset 0 1" ⏎ codes "gates 2" ⏎ codes "q nor 2 0 set 1 qn 0" ⏎ codes "qn nor 2 0 reset 1 q 0" ⏎ []) ≡ accepted latch
  pub empty : reading ([]) ≡ refused 15 1
  pub no_gates : reading (codes "inputs 0" ⏎ []) ≡ refused 15 2
  pub no_end : reading (codes "inputs 0" ⏎ codes "gates 0") ≡ refused 15 2
  pub extra : reading (codes "inputs 0" ⏎ codes "gates 0" ⏎ [] ⏎ []) ≡ refused 15 3
  pub cr : reading ((codes "inputs 2" ++ (13 ∷ [])) ⏎ []) ≡ refused 16 1
  pub word_first : reading (codes "input 33" ⏎ []) ≡ refused 15 1
  pub blank_number : reading (codes "inputs  2" ⏎ []) ≡ refused 15 1
  pub number_first : reading (codes "inputs 33") ≡ refused 16 1
  pub lead : reading (codes "inputs 00" ⏎ []) ≡ refused 16 1
  pub early : reading (codes "inputs 1" ⏎ codes "a 0" ⏎ codes "gates 0" ⏎ []) ≡ refused 15 2
  pub repeat_first : reading (codes "inputs 2" ⏎ codes "a 0 0" ⏎ codes "a") ≡ refused 17 3
  pub bit : reading (codes "inputs 1" ⏎ codes "a 01 0" ⏎ []) ≡ refused 15 2
  pub heading_as_input : reading (codes "inputs 2" ⏎ codes "a 0 0" ⏎ codes "gates 1" ⏎ []) ≡ refused 15 3
  pub word_before_end : reading (codes "inputs 0" ⏎ codes "gates 1" ⏎ codes "g foo") ≡ refused 18 3
  pub number_before_18 : reading (codes "inputs 0" ⏎ codes "gates 1" ⏎ codes "g not 9 0" ⏎ []) ≡ refused 16 3
  pub count_18 : reading (codes "inputs 0" ⏎ codes "gates 1" ⏎ codes "g not 2" ⏎ []) ≡ refused 18 3
  pub source_malformed : reading (codes "inputs 0" ⏎ codes "gates 1" ⏎ codes "g not 1 0 B 0" ⏎ []) ≡ refused 15 3
  pub source_unknown : reading (codes "inputs 0" ⏎ codes "gates 1" ⏎ codes "g not 1 0 b 0" ⏎ []) ≡ refused 19 3
  pub unknown_last : reading (codes "inputs 0" ⏎ codes "gates 1" ⏎ codes "g not 1 0 b 0" ⏎ codes "x") ≡ refused 15 4
  pub reserved : reading (codes "inputs 1" ⏎ codes "gates 1 0" ⏎ codes "gates 1" ⏎ codes "and not 1 1 gates 0" ⏎ []) ≡ accepted plain_words
  pub tab : reading ((codes "inputs" ++ (9 ∷ codes "0")) ⏎ []) ≡ refused 15 1
  pub trailing : reading (codes "inputs 0 " ⏎ []) ≡ refused 15 1
  pub zero_byte : reading (codes "inputs 1" ⏎ (97 ∷ 0 ∷ codes " 0 0") ⏎ []) ≡ refused 15 2
  pub long_number : reading (codes "inputs 4294967298" ⏎ []) ≡ refused 16 1
  pub name_16 : source_name (codes "abcdefghijklmnop") ≡ fits 0
  pub name_17 : source_name (codes "abcdefghijklmnopq") ≡ fault 15
  pub wire_384 : pin_count 1 383 (codes "1") ≡ fits 1
  pub wire_385 : pin_count 1 384 (codes "1") ≡ fault 2
  pub word_before_wires : pin_count 1 384 (codes "2") ≡ fault 18
  pub number_before_wires : pin_count 2 384 (codes "9") ≡ fault 16
  pub one_pin_or : pin_count 4 0 (codes "1") ≡ fault 18
  pub latch_written : written latch ≡ (codes "inputs 2" ⏎ codes "set 0 1" ⏎ codes "reset 0 1" ⏎ codes "gates 2" ⏎ codes "q nor 2 0 set 1 qn 0" ⏎ codes "qn nor 2 0 reset 1 q 0" ⏎ [])
