use Rattle.std.proofs.Common.{vec_items, ◌∙◌}
use Rattle.std.proofs.lemmas.Result.{IfOk-weaker}
use Rattle.sheet.specs.declared.TheConstants.{LONGEST}
use Rattle.record.specs.Answers.{told}
use Rattle.list_record.specs.Entering.{list_board}
use Rattle.bench_answer.specs.BenchBytes.{SheetAfterRun}
use Rattle.bench_answer.proofs.Sheeting.{ran, stand, written}
use Rattle.bench_answer.proofs.sheet_bytes.Goals as goal

pub returns : goal.returns
returns c =
    let new = c.run.new.self in
    let run = ran (list_board c.args.board.now) (told c.run.result) (list_board new) c.requires c.run.ensures in
    let some = stand _ _ _ run in
    let front = written (list_board new) LONGEST some (c.in-Ok-sheet.ensures.few some) c.in-Ok-sheet.length _ _ c.in-Ok-sheet.ensures.answer c.in-Ok-sheet.ensures.buffer in
    IfOk-weaker c.from_slice.result _ (λ bytes. SheetAfterRun (list_board c.args.board.now) (vec_items bytes)) (λ v h. record { told = told c.run.result; new = list_board new; ran = run; sheet = h ∙ front }) c.from_slice.ensures.items
