-- A cell as a gate kind: its pins and its truth number.
use Rattle.std.specs.Prelude.{◌≡◌, ℕ, ◌+◌, ◌*◌, ◌/◌, ◌%◌, ◌^◌, ◌<◌, Bool, true, false, List, [], ◌∷◌, length, ◌==◌}
use Rattle.gates.specs.Kinds.{Kind}

-- the number whose bit j is what pin j carries
abbrev pub index_of : List Bool → ℕ
index_of [] = 0
index_of (true ∷ bits) = 1 + 2 * index_of bits
index_of (false ∷ bits) = 2 * index_of bits

-- bit i of a number
abbrev pub bit_at : ℕ → ℕ → Bool
bit_at n i = n / 2 ^ i % 2 == 1

-- bit i of the truth number is the output when pin j carries bit j of i
abbrev pub output_by : ℕ → List Bool → Bool
output_by truth bits = bit_at truth (index_of bits)

abbrev pub cell_kind : ℕ → ℕ → Kind
cell_kind pins truth = record { pins = pins; output = output_by truth }

-- cells whose truth numbers agree in bits 0 to 2 ^ pins - 1 have the same outputs
abbrev pub HighBitsIgnored : Type 0
HighBitsIgnored =
    (pins s t : ℕ) → ((i : ℕ) → i < 2 ^ pins → bit_at s i ≡ bit_at t i)
    → (bits : List Bool) → length bits ≡ pins → (cell_kind pins s).output bits ≡ (cell_kind pins t).output bits
