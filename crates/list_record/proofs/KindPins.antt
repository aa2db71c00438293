-- The kind of a lawful gate has as many pins as the gate.
use Rattle.std.proofs.Common.{◌≡◌, ℕ, zero, suc, ◌<◌, ◌≤◌, Some, refl, arith}
use Rattle.gates.specs.Kinds.{pins_of}
use Rattle.plain_gates.specs.Plain.{plain}
use Rattle.gate_list_format.specs.Lists.{least_pins, most_pins, kind_of}
use Rattle.list_record.specs.ListBoards.{list_kinds}

abbrev Fits : ℕ → ℕ → Type 0
Fits w p = pins_of list_kinds (kind_of w p) ≡ Some p

two_to_eight : (P : ℕ → Type 0) → P 2 → P 3 → P 4 → P 5 → P 6 → P 7 → P 8 → (p : ℕ) → 2 ≤ p → p ≤ 8 → P p
two_to_eight P b c d e f g h zero low high = absurd (omega arith)
two_to_eight P b c d e f g h (suc zero) low high = absurd (omega arith)
two_to_eight P b c d e f g h (suc (suc zero)) low high = b
two_to_eight P b c d e f g h (suc (suc (suc zero))) low high = c
two_to_eight P b c d e f g h (suc (suc (suc (suc zero)))) low high = d
two_to_eight P b c d e f g h (suc (suc (suc (suc (suc zero))))) low high = e
two_to_eight P b c d e f g h (suc (suc (suc (suc (suc (suc zero)))))) low high = f
two_to_eight P b c d e f g h (suc (suc (suc (suc (suc (suc (suc zero))))))) low high = g
two_to_eight P b c d e f g h (suc (suc (suc (suc (suc (suc (suc (suc zero)))))))) low high = h
two_to_eight P b c d e f g h (suc (suc (suc (suc (suc (suc (suc (suc (suc p))))))))) low high = absurd (omega arith)

only : (P : ℕ → Type 0) (n : ℕ) → P n → (p : ℕ) → n ≤ p → p ≤ n → P p
only P n h p low high = let e : n ≡ p = omega arith in rw (← e) h

pub kind_pins : (w p : ℕ) → w < 10 → least_pins w ≤ p → p ≤ most_pins w → pins_of list_kinds (kind_of w p) ≡ Some p
unfolding plain
kind_pins zero p l low high = only (Fits 0) 1 refl p low high
kind_pins (suc zero) p l low high = only (Fits 1) 1 refl p low high
kind_pins (suc (suc zero)) p l low high = two_to_eight (Fits 2) refl refl refl refl refl refl refl p low high
kind_pins (suc (suc (suc zero))) p l low high = two_to_eight (Fits 3) refl refl refl refl refl refl refl p low high
kind_pins (suc (suc (suc (suc zero)))) p l low high = two_to_eight (Fits 4) refl refl refl refl refl refl refl p low high
kind_pins (suc (suc (suc (suc (suc zero))))) p l low high = two_to_eight (Fits 5) refl refl refl refl refl refl refl p low high
kind_pins (suc (suc (suc (suc (suc (suc zero)))))) p l low high = two_to_eight (Fits 6) refl refl refl refl refl refl refl p low high
kind_pins (suc (suc (suc (suc (suc (suc (suc zero))))))) p l low high = two_to_eight (Fits 7) refl refl refl refl refl refl refl p low high
kind_pins (suc (suc (suc (suc (suc (suc (suc (suc zero)))))))) p l low high = only (Fits 8) 3 refl p low high
kind_pins (suc (suc (suc (suc (suc (suc (suc (suc (suc zero))))))))) p l low high = only (Fits 9) 3 refl p low high
kind_pins (suc (suc (suc (suc (suc (suc (suc (suc (suc (suc w)))))))))) p l low high = absurd (omega arith)
