use Rattle.std.proofs.Common.{drop}
use Rattle.gate_list_names.specs.Given.{all_names}
use Rattle.gate_list_lookup.proofs.Again.{input_lost}
use Rattle.gate_list_lookup.proofs.input_at.Goals as goal

pub returns-in_err-line : goal.returns-in_err-line
returns-in_err-line c = rw c.from_residual.ensures (input_lost (all_names c.no_names.result) (drop c.args.place c.args.text.now) c.behind.result.now c.input_line.result c.no_names.ensures c.behind.ensures c.in_err-line.ensures.value c.input_line.ensures)
