use Rattle.std.proofs.Common.{drop}
use Rattle.gate_list_names.specs.Given.{all_names}
use Rattle.gate_list_lookup.proofs.Again.{gate_lost}
use Rattle.gate_list_lookup.proofs.gate_at.Goals as goal

pub returns-in_err-line : goal.returns-in_err-line
returns-in_err-line c = rw c.from_residual.ensures (gate_lost (all_names c.no_names.result) (drop c.args.place c.args.text.now) c.behind.result.now c.gate_line.result c.no_names.ensures c.behind.ensures c.in_err-line.ensures.value c.gate_line.ensures)
