use Rattle.std.proofs.Common.{cond, Some, sym, ap, ◌∙◌}
use Rattle.std.specs.Option.{option_map}
use Rattle.gates.specs.Marks.{extended, complemented}
use Rattle.gates.proofs.Extended.{extended_not}
use Rattle.gates.specs.Paired.{paired_none, paired_given}
use Rattle.gates.proofs.ComplementGateLibrary.extension.Goals as goal

pub returns-in_err-below : goal.returns-in_err-below
returns-in_err-below g c = c.from_residual.ensures ∙ sym (paired_none extended complemented c.args.marks.now (λ f. extended_not f c.args.marks.now) _ _ c.in_err-below.ensures)

pub returns-in_err-mark : goal.returns-in_err-mark
returns-in_err-mark g c =
    c.from_residual-in_err-mark.ensures
    ∙ sym (paired_given extended complemented c.args.marks.now (λ f. extended_not f c.args.marks.now) _ _ _ _ c.in_ok-below.ensures ∙ ap (option_map _) (sym c.in_err-mark.ensures))

pub returns-then-complemented : goal.returns-then-complemented
returns-then-complemented g c =
    ap Some c.complement.ensures ∙ sym (paired_given extended complemented c.args.marks.now (λ f. extended_not f c.args.marks.now) _ _ _ _ c.in_ok-below.ensures
    ∙ ap (option_map _) (sym c.in_ok-mark.ensures)
    ∙ ap (λ t. Some (cond t (complemented c.in_ok-mark.mark) c.in_ok-mark.mark)) c.if-complemented.true)
