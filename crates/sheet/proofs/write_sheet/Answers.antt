use Rattle.std.proofs.Common.{◌≡◌, length, take, codes, refl, ap, sym, ap₂, ◌∙◌, arith}
use Rattle.sheet.specs.Sheets.{section}
use Rattle.sheet.proofs.Writes.{three_long, three_written}
use Rattle.sheet.proofs.Sheets.{gates_part, wires_part}
use Rattle.sheet.proofs.write_sheet.Goals as goal

pub returns : goal.returns
returns c =
    let n = c.args.inputs in
    let r = c.args.gates in
    let fs = c.args.firsts.now in
    let ss = c.args.seconds.now in
    let first : c.new-input_part.result ≡ section (codes "inputs ") (take n fs) (take n ss) = c.new-input_part.ensures in
    let second = c.new-gate_part.ensures ∙ ap₂ (section (codes "gates ")) (gates_part n r fs) (gates_part n r ss) in
    let third = c.new-wire_part.ensures ∙ ap₂ (section (codes "wires ")) (wires_part n r (length fs) fs refl) (wires_part n r (length ss) ss refl) in (
      record { enough = omega arith; level = omega arith; few = omega arith },
      three_long _ _ _ _ _ _ c.len.result c.len-2.result c.len-3.result first second third c.len.ensures.value c.len-2.ensures.value c.len-3.ensures.value,
      omega arith,
      three_written c.args.buffer.now c.split_at_mut-page.result.1.now c.split_at_mut-page-2.result.1.now _ _ _ _ _ _ c.len-4.result c.len-5.result c.len-6.result (c.write.ensures ∙ first) (c.write-2.ensures ∙ second) (c.write-3.ensures ∙ third)
          (c.len-4.ensures.value ∙ ap length (sym c.write.ensures)) (c.len-5.ensures.value ∙ ap length (sym c.write-2.ensures)) (c.len-6.ensures.value ∙ ap length (sym c.write-3.ensures))
          c.split_at_mut-page.ensures.back c.split_at_mut-page-2.ensures.back,
    )
