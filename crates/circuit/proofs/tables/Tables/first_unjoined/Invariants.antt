use Rattle.std.proofs.Common.{◌≡◌, drop}
use Rattle.circuit.specs.Wiring.{unjoined_pin, unjoined_from}
use Rattle.circuit.proofs.tables.Tables.first_unjoined.Given as goal

abbrev pub invariant-loop-pin : goal.invariant-loop-pin
invariant-loop-pin l = unjoined_pin l.pin (drop l.pin l.sources) ≡ unjoined_pin 0 l.sources

abbrev pub invariant-loop-number : goal.invariant-loop-number
invariant-loop-number l =
    unjoined_from l.number (drop l.number l.self.gates) l.self.sources ≡ unjoined_from 0 l.self.gates l.self.sources
