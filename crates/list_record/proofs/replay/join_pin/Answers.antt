use Rattle.std.proofs.Common.{Some, None, sym, subst}
use Rattle.std.proofs.ByRecursion.{All-get_or}
use Rattle.gate_list_format.specs.Lists.{In, names}
use Rattle.gate_list_lookup.proofs.Again.{pin_is}
use Rattle.gate_list.specs.Laws.{gate_number}
use Rattle.list_record.proofs.Named.{not_missing, names_here}
use Rattle.list_record.proofs.Turns.{pin_turn}
use Rattle.list_record.proofs.replay.join_pin.Goals as goal

pub returns-in_default-source : goal.returns-in_default-source
returns-in_default-source c = λ b lists at within wire start.
    let gate = gate_number b c.args.gate in
    let is = pin_is _ c.args.pin c.in-Some.fields gate at.1 c.in-Some.ensures at.2 at.3 in
    let found = names_here b c.args.names c.in-Some.fields.source.now None lists c.in_default-source.ensures in
    let known = All-get_or (λ p. In p.source (names b)) gate.pins c.args.pin _ within (All-get_or _ b.gates c.args.gate _ at.0 lists.listed.lawful.sources) in
    absurd (not_missing b _ (subst (λ f. In f (names b)) (sym is.1.0) known) found)

pub returns : goal.returns
returns c = λ b lists at within wire start.
    let is = pin_is _ c.args.pin c.in-Some.fields (gate_number b c.args.gate) at.1 c.in-Some.ensures at.2 at.3 in
    let found = names_here b c.args.names c.in-Some.fields.source.now (Some c.in-Some-source.source) lists c.in-Some-source.ensures in
    pin_turn b c.args.gate c.args.pin c.args.wire _ _ c.in-Some-source.source _ _ _ lists.listed.lawful at.0 within is.1.0 is.1.1 wire found c.into.ensures start c.tie.ensures
