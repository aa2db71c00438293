-- The number of each fault that a gate list can have at a place.
use Rattle.std.specs.Prelude.{ℕ}
use Rattle.gate_list_fields.specs.declared.Fault.{Fault}
use Rattle.gate_list_fields.specs.declared.Fault.TheVariants.{Form, Number, Repeated, Word, Source, Wires}

abbrev pub number_of : Fault → ℕ
number_of Form = 15
number_of Number = 16
number_of Repeated = 17
number_of Word = 18
number_of Source = 19
number_of Wires = 2
