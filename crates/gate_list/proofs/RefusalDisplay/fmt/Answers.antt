use Rattle.std.proofs.Common.{◌≡◌, ℕ, Bool, true, false, cond, eqb, List, ◌∷◌, ◌++◌, codes, decimal, sym, ap, ◌∙◌, subst}
use Rattle.std.specs.Fmt.{HasWritten}
use Rattle.gate_list.specs.Refusals.{refusal_number, refusal_line, refuser}
use Rattle.gate_list.proofs.RefusalDisplay.fmt.Goals.{then-is_records, else-is_records}
use Rattle.gate_list.proofs.RefusalDisplay.fmt.Goals as goal

refuser_words : (b : Bool) (n line : ℕ) (who : List ℕ) → b ≡ eqb n 2 → who ≡ cond b (codes "record") (codes "text") → 32 ∷ (who ++ (codes " line " ++ decimal line)) ≡ refuser n ++ decimal line
refuser_words true n line who e w = ap (λ t. 32 ∷ (t ++ (codes " line " ++ decimal line))) w ∙ ap (λ t. cond t (codes " record line ") (codes " text line ") ++ decimal line) e
refuser_words false n line who e w = ap (λ t. 32 ∷ (t ++ (codes " line " ++ decimal line))) w ∙ ap (λ t. cond t (codes " record line ") (codes " text line ") ++ decimal line) e

pub returns-clause-writes : goal.returns-clause-writes
returns-clause-writes g c = λ plain ok.
    let n = refusal_number c.args.self.now in
    let line = refusal_line c.args.self.now in
    let who : c.if-is_records.refuser.now ≡ cond c.is_records.result (codes "record") (codes "text") =
    elim c.if-is_records.branch [
      | then-is_records w ↦ ap (λ x. x.now) w.refuser-is ∙ ap (λ b. cond b (codes "record") (codes "text")) (sym w.if-is_records.true)
      | else-is_records w ↦ ap (λ x. x.now) w.refuser-is ∙ ap (λ b. cond b (codes "record") (codes "text")) (sym w.if-is_records.false)
    ] in
    let told =
    ap (λ t. codes "refused " ++ (decimal t ++ (32 ∷ (c.if-is_records.refuser.now ++ (codes " line " ++ decimal c.line-line.result))))) c.number-number.ensures
    ∙ ap (λ t. codes "refused " ++ (decimal n ++ (32 ∷ (c.if-is_records.refuser.now ++ (codes " line " ++ decimal t))))) c.line-line.ensures
    ∙ ap (λ t. codes "refused " ++ (decimal n ++ t)) (refuser_words c.is_records.result n line c.if-is_records.refuser.now c.is_records.ensures who) in
    subst (λ t. HasWritten {W = g.row.W.Denot} g.W.Write.write_str_gives c.args.f.now t c.write.new.self) told (c.write.ensures.writes plain ok)
