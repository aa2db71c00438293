use Rattle.std.proofs.Common.{◌≡◌, ℕ, rules, Some, Option}
use Rattle.std.specs.Option.{MatchOption, option_map}
use Rattle.gate_list_names.specs.Names.{First}
use Rattle.gate_list_names.specs.Given.{input_names, gate_names}
use Rattle.circuit.specs.declared.Source.TheVariants.{Input, Gate}
use Rattle.gate_list_names.proofs.Found.{source_found}
use Rattle.gate_list_names.proofs.Names.source.Goals as goal

pub returns : goal.returns
returns c =
    let f = c.args.name.now in
    let outs = gate_names c.args.self in
    let input : c.map.result ≡ option_map Input c.find.result = search rules in
    let gate : MatchOption c.map.result ((s : Option ℕ) × First f outs s × (c.or_else.result ≡ option_map Gate s)) (λ x. c.or_else.result ≡ Some x) = search rules in
    source_found f (input_names c.args.self) outs c.find.result c.map.result c.or_else.result c.find.ensures input gate
