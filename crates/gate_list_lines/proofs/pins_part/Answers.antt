use Rattle.std.proofs.Common.{◌≡◌, ◌-◌, [], ◌∷◌, ◌++◌, sym, refl, ap, ◌∙◌, subst, arith}
use Rattle.std.proofs.lemmas.List.{length_push}
use Rattle.std.proofs.lemmas.Result.{err_from_is_err_and}
use Rattle.gate_list_format.specs.Slots.{read, line_after}
use Rattle.gate_list_format.specs.Lists.{pin_end}
use Rattle.gate_list_format.specs.Reading.{pin_forms}
use Rattle.gate_list_fields.specs.Faults.{number_of}
use Rattle.gate_list_lines.specs.Lines.{Stops, PinIs, pin_form}
use Rattle.gate_list_lines.proofs.Steps.{first_line, next_pin, leading, leading_push, leading_all, all_push}
use Rattle.gate_list_lines.proofs.pins_part.Goals as goal

pub loop-more-init : goal.loop-more-init
loop-more-init c = ([], omega arith, tt, (λ line next. ap (λ n. read (pin_forms c.args.count [] next) n c.args.text.now) (sym (first_line c.args.count line c.requires))), refl)

pub returns-in_err-rest : goal.returns-in_err-rest
returns-in_err-rest c =
    let p = err_from_is_err_and c.from_residual.result c.from_residual.ensures.1 in
    let k = c.loop-more.more in
    let m = k - 1 in
    let ps = c.loop-more.invariant.0 in
    let rest = c.loop-more.rest.now in
    let stops = subst (λ e. Stops (pin_form e) rest (number_of c.in_err-rest.field-0.0)) c.pin_end.ensures c.in_err-rest.ensures in
    rw (p.1, p.2) (λ line next.
    c.loop-more.invariant.3 line next
    ∙ next_pin k m ps next line rest (omega arith)
    ∙ stops line (λ q. pin_forms m (ps ++ (q ∷ [])) next))

pub loop-more-preserved : goal.loop-more-preserved
loop-more-preserved c =
    let k = c.loop-more.more in
    let m = k - 1 in
    let ps = c.loop-more.invariant.0 in
    let rest = c.loop-more.rest.now in
    let ok = c.in_ok-rest.ensures in
    let q = ok.0 in
    let is = subst (λ e. PinIs e rest q c.in_ok-rest.field-0.1.now) c.pin_end.ensures ok.2 in (
      ps ++ (q ∷ []),
      omega (arith, length_push ps q, c.loop-more.invariant.1),
      all_push ps q c.loop-more.invariant.2 is.lawful,
      (λ line next.
          c.loop-more.invariant.3 line next
          ∙ next_pin k m ps next line rest (omega arith)
          ∙ is.on line (λ p. pin_forms m (ps ++ (p ∷ [])) next)),
      c.loop-more.invariant.4 ∙ ap (leading k ps) is.written ∙ leading_push k m ps q c.in_ok-rest.field-0.1.now (omega arith),
    )

pub returns : goal.returns
returns c =
    let k = c.loop-more.more in
    let ps = c.loop-more.invariant.0 in
    let rest = c.loop-more.rest.now in
    let none : k ≡ 0 = omega arith in (
      ps,
      record {
        long = omega (arith, c.loop-more.invariant.1);
        lawful = c.loop-more.invariant.2;
        written = c.loop-more.invariant.4 ∙ ap (λ n. leading n ps rest) none ∙ leading_all ps rest;
        on = λ line next. c.loop-more.invariant.3 line next ∙ ap (λ n. read (pin_forms n ps next) (line_after (pin_end n) line) rest) none;
      },
    )
