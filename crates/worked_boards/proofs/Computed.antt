-- The worked boards, by computation.
use Rattle.std.proofs.Common.{◌≡◌, ℕ, zero, suc, ◌+◌, ◌*◌, ◌<◌, ◌==◌, Bool, true, not, ◌&&◌, List, map, length, sym, refl, ap, ◌∙◌, subst, true≢false, arith}
use native.Mathlib.Decide.{ℕ_discrete}
use Rattle.std.specs.Bool.{Decides}
use Rattle.std.specs.Cmp.{unsigned_Decides}
use Rattle.std.specs.Cmp.Lexicographic.{pointwise, pointwise_decides}
use Rattle.std.proofs.lemmas.Bool.{and_parts}
use Rattle.gates.specs.declared.Mark.{Mark}
use Rattle.gates.specs.declared.Mark.TheVariants.{Zero, One, Unknown}
use Rattle.gates.specs.Marks.{settled, mark_code}
use Rattle.plain_gates.specs.Plain.{plain}
use Rattle.circuit.specs.declared.passes.Pass.TheVariants.{First, Second}
use Rattle.circuit.specs.Passes.{stepped, iterate, Ends, Run}
use Rattle.sheet.specs.Sheets.{sheet}
use Rattle.sheet.proofs.Sheets.{sheet_length}
use Rattle.sheet.proofs.Writes.{digits_one}
use Rattle.worked_boards.specs.Cases.{CircuitCase, bench_kinds}
use Rattle.worked_boards.specs.Boards.{empty_board, rising_input, inverter_ring, resting_buffer_ring, unsettled_buffer_ring, latch_released, latch_kept_set, xor_of_one_input, BoardsAsSaid}

abbrev mark_of : ℕ → Mark
mark_of zero = Zero
mark_of (suc zero) = One
mark_of (suc (suc n)) = Unknown

of_code : (m : Mark) → mark_of (mark_code m) ≡ m
of_code Zero = refl
of_code One = refl
of_code Unknown = refl

abbrev alike : Mark → Mark → Bool
alike m n = mark_code m == mark_code n

alike_decides : (m n : Mark) → Decides (alike m n) (m ≡ n)
alike_decides m n =
    let codes = unsigned_Decides (mark_code m) (mark_code n) in
    (λ e. sym (of_code m) ∙ ap mark_of (codes.0 e) ∙ of_code n, λ e. codes.1 (ap mark_code e))

abbrev same : List Mark → List Mark → Bool
same = pointwise alike

same_decides : (ms ns : List Mark) → Decides (same ms ns) (ms ≡ ns)
same_decides = pointwise_decides alike_decides

abbrev moved_below : (List Mark → List Mark) → List Mark → ℕ → Bool
moved_below f from zero = true
moved_below f from (suc n) = not (same (f (iterate f n from)) (iterate f n from)) && moved_below f from n

moved_at : (f : List Mark → List Mark) (from : List Mark) (n : ℕ) → moved_below f from n ≡ true → (k : ℕ) → k < n → f (iterate f k from) ≡ iterate f k from → ⊥
moved_at f from zero e k h q = absurd (omega arith)
moved_at f from (suc n) e k h q = elim (ℕ_discrete k n) [
  | yes s ↦ true≢false (sym (and_parts _ _ e).0 ∙ ap not (subst (λ m. same (f (iterate f m from)) (iterate f m from) ≡ true) s (subst (λ l. same (f (iterate f k from)) l ≡ true) q ((same_decides (f (iterate f k from)) (f (iterate f k from))).1 refl))))
  | no s ↦ moved_at f from n (and_parts _ _ e).1 k (omega arith) q
]

ends_by : (f : List Mark → List Mark) (from : List Mark) (n : ℕ) (to : List Mark) → (same to (iterate f n from) && (same (f to) to && moved_below f from n)) ≡ true → Ends f from n to
ends_by f from n to e =
    let a = and_parts (same to (iterate f n from)) (same (f to) to && moved_below f from n) e in
    let b = and_parts (same (f to) to) (moved_below f from n) a.1 in
    record { reached = (same_decides to (iterate f n from)).0 a.0; still = (same_decides (f to) to).0 b.0; moved = moved_at f from n b.1 }

-- one test for each pass
abbrev ends_test : (List Mark → List Mark) → List Mark → ℕ → List Mark → Bool
ends_test f from n to = same to (iterate f n from) && (same (f to) to && moved_below f from n)

run_by : (b : CircuitCase) → ends_test (stepped First bench_kinds b.circuit) (map settled b.start) b.first_steps b.firsts ≡ true
    → ends_test (stepped Second bench_kinds b.circuit) b.firsts b.second_steps b.seconds ≡ true
    → Run bench_kinds b.circuit b.start b.first_steps b.firsts b.second_steps b.seconds
run_by b p q = record { first = ends_by _ _ b.first_steps b.firsts p; second = ends_by _ _ b.second_steps b.seconds q }

-- the sheet of a board with counts of one digit
small_sheet : (n r p : ℕ) (f g : List Mark) → n + r + p ≡ length f → length f ≡ length g → n < 10 → r < 10 → p < 10 → length (sheet n r f g) ≡ 25 + 3 * length f
small_sheet n r p f g e l a b d =
    let all = sheet_length n r p f g (record { enough = omega arith; level = l; few = omega arith }) e in
    let x = digits_one n a in
    let y = digits_one r b in
    let z = digits_one p d in
    omega arith

pub boards_as_said : BoardsAsSaid
unfolding stepped plain
boards_as_said = (
  record { run = run_by empty_board refl refl; count = refl; long = small_sheet 0 0 0 empty_board.firsts empty_board.seconds refl refl (omega arith) (omega arith) (omega arith) },
  (
    record { run = run_by rising_input refl refl; count = refl; long = small_sheet 1 0 0 rising_input.firsts rising_input.seconds refl refl (omega arith) (omega arith) (omega arith) },
    (
      record { run = run_by inverter_ring refl refl; count = refl; long = small_sheet 0 1 1 inverter_ring.firsts inverter_ring.seconds refl refl (omega arith) (omega arith) (omega arith) },
      (
        record { run = run_by resting_buffer_ring refl refl; count = refl; long = small_sheet 0 1 1 resting_buffer_ring.firsts resting_buffer_ring.seconds refl refl (omega arith) (omega arith) (omega arith) },
        (
          record { run = run_by unsettled_buffer_ring refl refl; count = refl; long = small_sheet 0 1 1 unsettled_buffer_ring.firsts unsettled_buffer_ring.seconds refl refl (omega arith) (omega arith) (omega arith) },
          (
            record { run = run_by latch_released refl refl; count = refl; long = small_sheet 2 2 4 latch_released.firsts latch_released.seconds refl refl (omega arith) (omega arith) (omega arith) },
            (
              record { run = run_by latch_kept_set refl refl; count = refl; long = small_sheet 2 2 4 latch_kept_set.firsts latch_kept_set.seconds refl refl (omega arith) (omega arith) (omega arith) },
              (
                record { run = run_by xor_of_one_input refl refl; count = refl; long = small_sheet 1 1 2 xor_of_one_input.firsts xor_of_one_input.seconds refl refl (omega arith) (omega arith) (omega arith) },
                (
                  refl,
                  (
                    refl,
                    (
                      refl,
                      (
                        refl,
                        tt,
                      ),
                    ),
                  ),
                ),
              ),
            ),
          ),
        ),
      ),
    ),
  ),
)
