-- Indices are below 2 to the power of the number of pins.
use Rattle.std.proofs.Common.{◌^◌, ◌<◌, ◌≤◌, Bool, true, false, List, [], ◌∷◌, length, subst, pow-suc, arith, pow_mono}
use Rattle.table_cells.specs.Cells.{index_of, HighBitsIgnored}

index_low : (bits : List Bool) → index_of bits < 2 ^ length bits
index_low [] = omega arith
index_low (true ∷ bits) = omega (arith, index_low bits, pow-suc 2 (length bits))
index_low (false ∷ bits) = omega (arith, index_low bits, pow-suc 2 (length bits))

-- six pins at most
pub index_six : (bits : List Bool) → length bits ≤ 6 → index_of bits < 64
index_six bits h = omega (arith, index_low bits, pow_mono h)

pub high_bits_ignored : HighBitsIgnored
high_bits_ignored pins s t agree bits long = agree (index_of bits) (subst (λ n. index_of bits < 2 ^ n) long (index_low bits))
