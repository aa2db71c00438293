-- How long a sheet is.
use Rattle.std.proofs.Common.{◌≡◌, ◌≤◌, true, List, [], length, is_some, Some, None, Option, unwrap_or, sym, refl, ◌∙◌, subst, arith}
use Rattle.std.proofs.lemmas.Bool.{false≢true}
use Rattle.gates.specs.declared.Mark.{Mark}
use Rattle.sheet.specs.declared.TheConstants.{LONGEST}
use Rattle.sheet.specs.Sheets.{sheet, Sheeted}
use Rattle.sheet.proofs.Sheets.{sheet_longest}
use Rattle.record.specs.Boards.{Board, Sound}
use Rattle.record.specs.Calls.{sheet_of}

-- no sheet of marks that stand is longer
pub sheet_few : (b : Board) → Sound b → is_some b.marks ≡ true → length (sheet_of b) ≤ LONGEST
sheet_few b sound some = by b.marks refl some
  where
    by : (marks : Option (List Mark × List Mark)) → b.marks ≡ marks → is_some marks ≡ true → length (sheet_of b) ≤ LONGEST
    by None e s = absurd (false≢true s)
    by (Some p) e s =
        let n = length b.circuit.applied in
        let g = length b.circuit.gates in
        let few = sound.kept.few in
        let long = sound.marked p.0 p.1 e in
        let firsts = long.0 in
        let sheeted : Sheeted n g p.0 p.1 = record { enough = omega arith; level = firsts ∙ sym long.1; few = omega arith } in
        subst (λ (o : Option (List Mark × List Mark)). length (sheet n g (unwrap_or {T = List Mark × List Mark} o ([], [])).0 (unwrap_or {T = List Mark × List Mark} o ([], [])).1) ≤ LONGEST) (sym e) (sheet_longest n g p.0 p.1 sheeted (omega arith) (omega arith)).0
