use Rattle.std.proofs.Common.{rules, ◌≡◌, length, arith, ◌-◌}
use Rattle.gate_list_names.proofs.Blanked.{all_one, filled_from}
use Rattle.gate_list_names.proofs.blank_from.Goals as goal

pub returns : goal.returns
returns g c =
    let long : length c.fill_with.new.self ≡ length c.args.table.now - c.min-start.result = grind (arith, c.fill_with.ensures.len) in
    filled_from c.args.table.now c.fill_with.new.self c.args.from c.min-start.result c.args.blank c.min-start.ensures long
    (all_one _ _ c.fill_with.new.self _ c.args.blank c.fill_with.ensures.ran.1 (λ x q k. search rules))
