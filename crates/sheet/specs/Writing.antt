-- What a write into a buffer leaves.
use Rattle.std.specs.Prelude.{ℕ, List, ◌++◌, length, drop}

-- a text at the start of a buffer; the bytes behind it stay
abbrev pub overwritten : List ℕ → List ℕ → List ℕ
overwritten text old = text ++ drop (length text) old
