-- The sheet: three sections of lines with both marks of every signal, as a text of bytes.
use Rattle.std.specs.Prelude.{◌≡◌, ℕ, ◌+◌, ◌*◌, ◌≤◌, ◌↔◌, List, [], ◌∷◌, ◌++◌, length, take, drop, codes, decimal}
use Rattle.gates.specs.declared.Mark.{Mark}
use Rattle.gates.specs.Marks.{mark_symbol}

-- for each signal its first mark, its second mark and byte 10
abbrev pub lines : List Mark → List Mark → List ℕ
lines [] seconds = []
lines (m ∷ firsts) [] = []
lines (m ∷ firsts) (n ∷ seconds) = mark_symbol m ∷ mark_symbol n ∷ 10 ∷ lines firsts seconds

-- a heading with the count, and the lines
abbrev pub section : List ℕ → List Mark → List Mark → List ℕ
section word firsts seconds = word ++ (decimal (length firsts) ++ 10 ∷ lines firsts seconds)

-- the sheet of that many inputs and gates, and of as many wires as marks are left
abbrev pub sheet : ℕ → ℕ → List Mark → List Mark → List ℕ
sheet inputs gates firsts seconds =
    section (codes "inputs ") (take inputs firsts) (take inputs seconds)
    ++ (section (codes "gates ") (take gates (drop inputs firsts)) (take gates (drop inputs seconds))
    ++ section (codes "wires ") (drop gates (drop inputs firsts)) (drop gates (drop inputs seconds)))

-- two marks for each signal, of at most 512
pub record Sheeted (inputs gates : ℕ) (firsts seconds : List Mark) : Type 0 where
  pub enough : inputs + gates ≤ length firsts
  pub level : length firsts ≡ length seconds
  pub few : length firsts ≤ 512

-- 22 bytes, three for each signal, and the digits of the three counts
abbrev pub SheetLength : Type 0
SheetLength =
    (inputs gates wires : ℕ) (firsts seconds : List Mark) → Sheeted inputs gates firsts seconds → inputs + gates + wires ≡ length firsts
    → length (sheet inputs gates firsts seconds) ≡ 22 + 3 * length firsts + length (decimal inputs) + length (decimal gates) + length (decimal wires)

-- equal sheets have equal counts and equal marks
abbrev pub SheetInjective : Type 0
SheetInjective =
    (inputs gates inputs' gates' : ℕ) (firsts seconds firsts' seconds' : List Mark)
    → Sheeted inputs gates firsts seconds → Sheeted inputs' gates' firsts' seconds'
    → (sheet inputs gates firsts seconds ≡ sheet inputs' gates' firsts' seconds')
    ↔ ((inputs ≡ inputs') × (gates ≡ gates') × (firsts ≡ firsts') × (seconds ≡ seconds'))
