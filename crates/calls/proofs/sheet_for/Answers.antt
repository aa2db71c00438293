use Rattle.std.proofs.Common.{◌≡◌, length, take, replicate, vec_items, subst, ◌∙◌, arith}
use Rattle.std.proofs.lemmas.List.{length-take-le}
use Rattle.sheet.specs.declared.TheConstants.{LONGEST}
use Rattle.gates.specs.Told.{answer, told_by}
use Rattle.record.specs.Calls.{sheet_stop, sheet_of}
use Rattle.record.specs.Views.{board_of}
use Rattle.calls.specs.Tellings.{sheet}
use Rattle.calls.proofs.Rooms.{enough_room, sheet_read}
use Rattle.calls.proofs.sheet_for.Goals as goal

pub returns-in_ok-from_slice-in-Ok : goal.returns-in_ok-from_slice-in-Ok
returns-in_ok-from_slice-in-Ok g c =
    let b = board_of g.L.GateLibrary.kinds c.args.held.now in
    let page = take c.min-end.result (replicate LONGEST 0) in
    let bytes = vec_items c.in_ok-from_slice-in-Ok.field-0 in
    let room = enough_room b c.sound.ensures (length page) c.args.room (length-take-le c.min-end.result (replicate LONGEST 0) (omega arith) ∙ c.min-end.ensures) in
    subst (λ stop. answer (sheet bytes) ≡ told_by stop (sheet (sheet_of b))) room
    (sheet_read (sheet_stop b (length page)) (sheet_of b) page c.sheet.new.buffer _ bytes c.in-Ok.length c.in-Ok.ensures.answer c.in-Ok.ensures.buffer c.in_ok-from_slice-in-Ok.ensures.items)
