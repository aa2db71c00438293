use Rattle.std.proofs.Common.{◌≡◌, ℕ, List, drop, Some, None, MatchOption, Option, ◌∙◌, rules}
use Rattle.gate_list_lines.specs.declared.GateFields.{GateFields}
use Rattle.gate_list_lookup.specs.Lookup.{GateAt}
use Rattle.gate_list_lookup.proofs.Again.{gate_is}
use Rattle.gate_list.specs.Parts.{PinCount}
use Rattle.gate_list.proofs.pin_count_at.Goals as goal

counted : (text : List ℕ) (place : ℕ) (o : Option GateFields) (Q : GateFields → Type 0) (r : ℕ) → GateAt (drop place text) o → MatchOption o (r ≡ 0) Q → ((fields : GateFields) → Q fields → r ≡ fields.pin_count) → PinCount text place r
counted text place None Q r h m f g rest l e = absurd (h g rest l e)
counted text place (Some fields) Q r h m f g rest l e = f fields m ∙ (gate_is (drop place text) fields g rest h l e).2

pub returns : goal.returns
returns c = counted c.args.text.now c.args.place c.gate_at.result _ c.map_or.result c.gate_at.ensures c.map_or.ensures (λ fields q. search rules)
