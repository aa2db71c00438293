-- The sheet of a record that was run fits the bench's buffer.
use Rattle.std.proofs.Common.{◌≡◌, ℕ, ◌≤◌, true, List, [], ◌∷◌, length, take, drop, is_some, Some, None, Option, sym, refl, ap, ◌∙◌, arith}
use Rattle.std.proofs.lemmas.List.{take_at}
use Rattle.std.proofs.lemmas.Bool.{le-ltb, not_from_false}
use Rattle.gates.specs.Told.{Told, answer, told_by, left_by, first_stop}
use Rattle.circuit.specs.Wiring.{first_unjoined}
use Rattle.sheet.specs.Writing.{overwritten}
use Rattle.record.specs.Boards.{Board}
use Rattle.record.specs.Calls.{at_pin, run_stop, sheet_stop, sheet_of}
use Rattle.record.specs.Runs.{Ran, RunOrStop}
use Rattle.list_record.specs.Entering.{verdict}
use Rattle.list_record.specs.ListBoards.{board_after}
use Rattle.list_record.proofs.Joined.{pins_joined}
use Rattle.list_record.proofs.Steps.{passed_two}
use Rattle.gate_list_format.specs.Slots.{Outcome, accepted, refused}
use Rattle.gate_list_format.specs.Lists.{GateList}
use Rattle.gate_list_format.specs.Reading.{admitted}
use Rattle.gate_list_format.proofs.Admitted.{accepts}

-- a run with all pins joined
pub ran : (old : Board) (t : Told (ℕ × ℕ × ℕ)) (new : Board) → first_unjoined old.circuit ≡ None → RunOrStop (run_stop old) old t new → Ran old t new
ran old t new = go (first_unjoined old.circuit)
  where
    go : (o : Option (ℕ × ℕ)) → o ≡ None → RunOrStop (first_stop (at_pin o ∷ [])) old t new → Ran old t new
    go None e h = h
    go (Some p) e h = let z : ◌≡◌ {A = ℕ} 0 1 = cc in absurd (omega arith)

pub stand : (old : Board) (t : Told (ℕ × ℕ × ℕ)) (new : Board) → Ran old t new → is_some new.marks ≡ true
stand old t new h = ap (λ (b : Board). is_some b.marks) h.marks

-- the sheet stands at the front of the buffer
module _ (b : Board) (room : ℕ) (some : is_some b.marks ≡ true) (enough : length (sheet_of b) ≤ room) where
  passes : sheet_stop b room ≡ None
  passes = passed_two _ _ 9 11 some (not_from_false _ (le-ltb room (length (sheet_of b)) enough))

  pub written : (n : ℕ) (old new : List ℕ) → answer n ≡ told_by (sheet_stop b room) (length (sheet_of b)) → new ≡ left_by (sheet_stop b room) old (overwritten (sheet_of b) old) → take n new ≡ sheet_of b
  written n old new e h =
      let t = e ∙ ap (λ o. told_by o (length (sheet_of b))) passes in
      let long : n ≡ length (sheet_of b) = cc in
      ap (take n) (h ∙ ap (λ o. left_by o old (overwritten (sheet_of b) old)) passes) ∙ take_at (sheet_of b) (drop (length (sheet_of b)) old) n (sym long)

-- the list that was accepted
pub accepted_list : (o : Outcome GateList) → accepted tt ≡ verdict o → (b : GateList) × (o ≡ accepted b)
accepted_list (accepted b) e = (b, refl)
accepted_list (refused n line) e = let z : ◌≡◌ {A = ℕ} 0 1 = cc in absurd (omega arith)

-- an accepted list's board has all pins joined
pub joined_board : (text : List ℕ) (board : Board) → accepted tt ≡ verdict (admitted 32 96 text) → board ≡ board_after (admitted 32 96 text) → first_unjoined board.circuit ≡ None
joined_board text board e h =
    let k = accepted_list (admitted 32 96 text) e in
    let law = ((accepts 32 96 text k.0).0 k.1).2 in
    ap (λ (x : Board). first_unjoined x.circuit) (h ∙ ap board_after k.1) ∙ pins_joined k.0 law
