use Rattle.std.proofs.Common.{◌≡◌, ◌*◌, ◌++◌, length, take, drop}
use Rattle.sheet.specs.Sheets.{lines}
use Rattle.sheet.proofs.section.put_lines.Given as goal

abbrev pub invariant-loop-i : goal.invariant-loop-i
invariant-loop-i l =
    let n = length l.yielded in
    l.page ≡ lines (take n l.firsts) (take n l.seconds) ++ drop (3 * n) l.initial.page
