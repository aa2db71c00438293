-- What an answer tells: the number of a refusal with its values, or the answer itself.
use Rattle.std.specs.Prelude.{ℕ, List, [], ◌∷◌, ◌++◌, codes, decimal, Ok, Err, Result}
use Rattle.gates.specs.Told.{Stop, stop, Told, answer, refused}
use Rattle.circuit.specs.declared.tables.changes.Misfit.{Misfit}
use Rattle.circuit.specs.declared.tables.changes.Misfit.TheVariants as misfit
use Rattle.record.specs.declared.Refusal.{Refusal}
use Rattle.record.specs.declared.Refusal.TheVariants.{NoKind, Full, Absent, NotABit, Unjoined, EmptyList, Repeated, Stable, NoMarks, StillOpen, ShortBuffer}

-- a gate's pin is not joined
abbrev pub unjoined : ℕ → ℕ → Stop
unjoined gate pin = record { number = 5; values = gate ∷ pin ∷ [] }

abbrev pub stop_of : Refusal → Stop
stop_of NoKind = stop 1
stop_of Full = stop 2
stop_of Absent = stop 3
stop_of NotABit = stop 4
stop_of (Unjoined gate pin) = unjoined gate pin
stop_of EmptyList = stop 6
stop_of Repeated = stop 7
stop_of Stable = stop 8
stop_of NoMarks = stop 9
stop_of StillOpen = stop 10
stop_of ShortBuffer = stop 11

-- how a refusal is printed
abbrev pub refusal_text : Refusal → List ℕ
refusal_text (Unjoined gate pin) = codes "refused " ++ decimal 5 ++ codes ": gate " ++ decimal gate ++ codes " pin " ++ decimal pin
refusal_text refusal = codes "refused " ++ decimal (stop_of refusal).number

-- why the circuit's tables refuse a change
abbrev pub refusal_of : Misfit → Refusal
refusal_of misfit.Full = Full
refusal_of misfit.Absent = Absent

abbrev pub told : {A : Type 0} → Result A Refusal → Told A
told (Ok a) = answer a
told (Err r) = refused (stop_of r)
