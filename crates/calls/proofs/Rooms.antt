-- How much room a sheet needs, and what is read of the page that it was written to.
use Rattle.std.proofs.Common.{◌≡◌, ℕ, ◌<◌, ◌≤◌, min, Bool, true, false, not, ltb, List, [], ◌∷◌, ◌++◌, length, take, drop, is_some, Some, None, Option, sym, refl, ap, ◌∙◌, ⊎_elim, append_assoc, arith}
use Rattle.std.proofs.lemmas.List.{take_at}
use Rattle.std.proofs.lemmas.Bool.{cases_lt, lt-ltb, le-ltb}
use Rattle.gates.specs.Told.{Stop, answer, told_by, left_by, first_stop}
use Rattle.sheet.specs.Writing.{overwritten}
use Rattle.sheet.specs.declared.TheConstants.{LONGEST}
use Rattle.record.specs.Boards.{Board, Sound}
use Rattle.record.specs.Calls.{unless, sheet_stop, sheet_of}
use Rattle.record.proofs.Sheets.{sheet_few}
use Rattle.calls.specs.Tellings.{sheet}

stop_by : (t x y : Bool) → (t ≡ true → x ≡ y) → first_stop (unless t 9 ∷ unless (not x) 11 ∷ []) ≡ first_stop (unless t 9 ∷ unless (not y) 11 ∷ [])
stop_by false x y h = refl
stop_by true x y h = ap (λ z. first_stop (unless (not z) 11 ∷ [])) (h refl)

room_by : (part room long : ℕ) → part ≡ min room LONGEST → long ≤ LONGEST → ltb part long ≡ ltb room long
room_by part room long e h =
    ⊎_elim
    (λ (l : room < long). lt-ltb part long (omega arith) ∙ sym (lt-ltb room long l))
    (λ (l : long ≤ room). le-ltb part long (omega arith) ∙ sym (le-ltb room long l))
    (cases_lt room long)

-- as much of the room as the longest sheet needs is enough
pub enough_room : (b : Board) → Sound b → (part room : ℕ) → part ≡ min room LONGEST → sheet_stop b part ≡ sheet_stop b room
enough_room b s part room e =
    stop_by (is_some b.marks) (ltb part (length (sheet_of b))) (ltb room (length (sheet_of b)))
    (λ some. room_by part room (length (sheet_of b)) e (sheet_few b s some))

-- the front of the page is the sheet
pub sheet_read : (stop : Option Stop) (text old new rest bytes : List ℕ) (n : ℕ) → answer n ≡ told_by stop (length text) → new ≡ left_by stop old (overwritten text old) → bytes ≡ take n (new ++ rest) → answer (sheet bytes) ≡ told_by stop (sheet text)
sheet_read (Some s) text old new rest bytes n a b t = absurd (cc)
sheet_read None text old new rest bytes n a b t =
    ap (λ xs. answer (sheet xs)) (t ∙ ap (λ xs. take n (xs ++ rest)) b ∙ ap (take n) (append_assoc text (drop (length text) old) rest) ∙ take_at text (drop (length text) old ++ rest) n (cc))
