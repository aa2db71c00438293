use Rattle.std.proofs.Common.{not, cond, Some, sym, refl, ap, ◌∙◌}
use Rattle.std.specs.Option.{option_map}
use Rattle.gates.specs.Paired.{paired_none, paired_given}
use Rattle.gates.proofs.ComplementGateLibrary.value.Goals as goal

pub returns-in_err-below : goal.returns-in_err-below
returns-in_err-below g c = c.from_residual.ensures ∙ sym (paired_none (λ f bs. f bs) not c.args.bits.now (λ f. refl) _ _ c.in_err-below.ensures)

pub returns-in_err-value : goal.returns-in_err-value
returns-in_err-value g c =
    c.from_residual-in_err-value.ensures
    ∙ sym (paired_given (λ f bs. f bs) not c.args.bits.now (λ f. refl) _ _ _ _ c.in_ok-below.ensures ∙ ap (option_map _) (sym c.in_err-value.ensures))

pub returns-then-complemented : goal.returns-then-complemented
returns-then-complemented g c =
    sym (paired_given (λ f bs. f bs) not c.args.bits.now (λ f. refl) _ _ _ _ c.in_ok-below.ensures
    ∙ ap (option_map _) (sym c.in_ok-value.ensures)
    ∙ ap (λ t. Some (cond t (not c.in_ok-value.value) c.in_ok-value.value)) c.if-complemented.true)
