-- How long a sheet can be.
use Rattle.std.specs.Prelude.{◌≡◌, ℕ, ◌<◌, ◌≤◌, List, length}
use Rattle.gates.specs.declared.Mark.{Mark}
use Rattle.sheet.specs.declared.TheConstants.{LONGEST}
use Rattle.sheet.specs.Sheets.{sheet, Sheeted}

-- with fewer than a hundred inputs and gates no sheet is longer than LONGEST, and one of 512 signals, ten inputs and ten gates at least, is as long
abbrev pub SheetLongest : Type 0
SheetLongest =
    (inputs gates : ℕ) (firsts seconds : List Mark) → Sheeted inputs gates firsts seconds → inputs < 100 → gates < 100
    → (length (sheet inputs gates firsts seconds) ≤ LONGEST)
    × (length firsts ≡ 512 → 10 ≤ inputs → 10 ≤ gates → length (sheet inputs gates firsts seconds) ≡ LONGEST)
