use Rattle.std.proofs.Common.{rules}
use Rattle.gate_list_lines.proofs.words.Shape.kind.Goals as goal

pub returns : goal.returns
returns c = let least = c.args.self.least in search rules
