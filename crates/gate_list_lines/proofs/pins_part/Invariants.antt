use Rattle.std.proofs.Common.{◌≡◌, ℕ, ◌+◌, List, [], length}
use Rattle.std.specs.List.{AllByRecursion}
use Rattle.gate_list_format.specs.Slots.{Form, read, line_after}
use Rattle.gate_list_format.specs.Lists.{GateList, Pin, LawfulPin, pin_end}
use Rattle.gate_list_format.specs.Reading.{pin_forms}
use Rattle.gate_list_lines.proofs.Steps.{leading}
use Rattle.gate_list_lines.proofs.pins_part.Given as goal

abbrev pub invariant-loop-more : goal.invariant-loop-more
invariant-loop-more l = (ps : List Pin) × (length ps + l.more ≡ l.count) × AllByRecursion LawfulPin ps × ((line : ℕ) (next : List Pin → Form GateList) → read (pin_forms l.count [] next) line l.text ≡ read (pin_forms l.more ps next) (line_after (pin_end l.more) line) l.rest) × (l.text ≡ leading l.more ps l.rest)
