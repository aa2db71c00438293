use Rattle.std.proofs.Common.{◌≡◌, ◌≤◌, List, [], length, drop}
use Rattle.std.specs.List.{AllByRecursion}
use Rattle.gate_list_format.specs.Lists.{Pin, LawfulPin, write_pins}
use Rattle.gate_list_lookup.proofs.pin_of.Given as goal

abbrev pub invariant-loop-i : goal.invariant-loop-i
invariant-loop-i l = (l.i ≤ l.p) × ((ps : List Pin) → AllByRecursion LawfulPin ps → length ps ≡ l.count → l.pins ≡ write_pins ps [] → l.rest ≡ write_pins (drop l.i ps) [])
