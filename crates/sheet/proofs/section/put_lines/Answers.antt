use Rattle.std.proofs.Common.{◌≡◌, ℕ, ◌+◌, ◌-◌, ◌*◌, ◌<◌, List, [], ◌∷◌, ◌++◌, length, get_or, take, drop, sym, ap, ap₂, ◌∙◌, zero-add, arith}
use Rattle.std.specs.List.{zip, enumerate_from}
use Rattle.std.specs.Iterator.Adapters.{enumerate_source}
use Rattle.std.proofs.lemmas.List.{length_push, length-take-le}
use Rattle.std.proofs.lemmas.List.FromFn.{get_or-enumerate_from, length-enumerate_from}
use Rattle.std.proofs.lemmas.Slice.Zip.{length-zip, get_or-zip}
use Rattle.std.proofs.lemmas.Iterator.{YieldsList-from_slice, YieldsList-from_zip}
use Rattle.std.proofs.lemmas.Iterator.Consumers.{YieldsList-from_enumerate, YieldsList-turn}
use borrow.Rule.Slice.PartMut.{put_mid}
use Rattle.gates.specs.declared.Mark.{Mark}
use Rattle.gates.specs.Marks.{mark_symbol}
use Rattle.sheet.specs.Sheets.{lines}
use Rattle.sheet.proofs.Writes.{placed, lines_more, length-lines}
use Rattle.sheet.proofs.section.put_lines.Goals as goal

-- which pair a turn has, and its number
turn : (fs ss : List Mark) (k i : ℕ) (m n : Mark) → length fs ≡ length ss → k < length (enumerate_from 0 (zip fs ss)) → (i, (m, n)) ≡ get_or (enumerate_from 0 (zip fs ss)) k (i, (m, n)) → (k < length fs) × (i ≡ k) × (m ≡ get_or fs k m) × (n ≡ get_or ss k n)
turn fs ss k i m n level within here =
    let pairs = length-enumerate_from 0 (zip fs ss) in
    let both = length-zip fs ss in
    let inside : k < length fs = omega arith in
    let pair : (i, (m, n)) ≡ (k, (get_or fs k m, get_or ss k n)) = here ∙ get_or-enumerate_from 0 (zip fs ss) k (i, (m, n)) (omega arith) ∙ ap₂ (λ x y. (x, y)) (zero-add k) (get_or-zip fs ss k (m, n) inside (omega arith)) in
    (inside, ap (λ p. p.0) pair, ap (λ p. p.1.0) pair, ap (λ p. p.1.1) pair)

-- one line more
line : (old page more : List ℕ) (fs ss : List Mark) (n i next : ℕ) (m o : Mark) → length fs ≡ length ss → (n < length fs) × (i ≡ n) × (m ≡ get_or fs n m) × (o ≡ get_or ss n o) → next ≡ n + 1 → more ≡ mark_symbol m ∷ mark_symbol o ∷ 10 ∷ [] → page ≡ lines (take n fs) (take n ss) ++ drop (3 * n) old → put_mid (3 * i) (3 * i + 3 - 3 * i) page more ≡ lines (take next fs) (take next ss) ++ drop (3 * next) old
line old page more fs ss n i next m o level here one_more is so =
    let within = here.0 in
    let place = here.1 in
    let size = length-take-le n fs (omega arith) in
    let long = length-lines (take n fs) (take n ss) (size ∙ sym (length-take-le n ss (omega arith))) in
    let start : 3 * i ≡ 3 * n = omega arith in
    let wide : 3 * i + 3 - 3 * i ≡ 3 = omega arith in
    let end : 3 * n + 3 ≡ 3 * next = omega arith in
    let new = is ∙ ap₂ (λ x y. mark_symbol x ∷ mark_symbol y ∷ 10 ∷ []) here.2 here.3 in
    ap₂ (λ x y. put_mid x y page more) start wide
    ∙ placed old page (lines (take n fs) (take n ss)) more (3 * n) 3 so (omega arith)
    ∙ ap₂ (λ x y. x ++ y)
    (ap (λ l. lines (take n fs) (take n ss) ++ l) new ∙ sym (lines_more fs ss n m o within (omega arith)) ∙ ap (λ k. lines (take k fs) (take k ss)) (sym one_more))
    (ap (λ k. drop k old) end)

pub loop-i-preserved : goal.loop-i-preserved
loop-i-preserved c =
    let fs = c.args.firsts.now in
    let ss = c.args.seconds.now in
    let start = c.into_iter-i-iterator.result in
    let road = YieldsList-from_enumerate {s = start} (YieldsList-from_zip {s = enumerate_source start} (YieldsList-from_slice fs cc) (YieldsList-from_slice ss cc)) cc in
    let at = YieldsList-turn road c.loop-i.yielded _ c.loop-i.yielded_by c.next.result c.next.new.self (c.in-Some.i, (c.in-Some.first, c.in-Some.second)) c.in-Some.is c.next.ensures.steps in
    let here = turn fs ss (length c.loop-i.yielded) c.in-Some.i c.in-Some.first.now c.in-Some.second.now c.requires.level at.0 at.1 in
    line c.args.page.now c.loop-i.page c.copy_from_slice.new.self fs ss _ _ _ c.in-Some.first.now c.in-Some.second.now c.requires.level here
    (length_push c.loop-i.yielded (c.in-Some.i, (c.in-Some.first, c.in-Some.second)))
    (c.copy_from_slice.ensures.after ∙ ap₂ (λ x y. x ∷ y ∷ 10 ∷ []) c.symbol.ensures c.symbol-in-loop-i.ensures) c.loop-i.invariant
