use Rattle.std.proofs.Common.{true, false, rules}
use Rattle.std.proofs.lemmas.Iterator.{YieldsList-from_slice, IsFirst-from_position}
use borrow.Author.Tests.{tests}
use Rattle.gate_list_names.specs.declared.GateEntry.{GateEntry}
use Rattle.gate_list_names.specs.Given.{all_names}
use Rattle.gate_list.specs.Parts.{GateKnown}
use Rattle.gate_list.proofs.Known.{gates_known}
use Rattle.gate_list.proofs.unknown_gate.Goals as goal

pub returns : goal.returns
returns c =
    let text = c.args.names.text.now in
    let ns = all_names c.args.names in
    gates_known c.args.names c.position.result
    (IsFirst-from_position _ _ _ (λ (e : GateEntry). GateKnown ns text e.place false) (λ (e : GateEntry). GateKnown ns text e.place true) c.position.ensures.ran (YieldsList-from_slice c.args.names.gates.now cc) (λ x q k. search (rules, tests)) (λ x q k. search (rules, tests)))
