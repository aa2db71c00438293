-- What code answers of a slot.
use Rattle.std.specs.Prelude.{◌≡◌, ℕ, List, Ok, Err, Result}
use Rattle.std.specs.Borrow.{Bor}
use Rattle.gate_list_format.specs.Slots as Slots
use Rattle.gate_list_format.specs.Slots.{Judged, fits, fault, refused, Form, slot, read, field, line_after, put, verdict}
use Rattle.gate_list_format.specs.Lists.{GateList}
use Rattle.gate_list_fields.specs.declared.End.{End}
use Rattle.gate_list_fields.specs.declared.End.TheVariants.{Space, Newline}
use Rattle.gate_list_fields.specs.declared.Fault.{Fault}
use Rattle.gate_list_fields.specs.Faults.{number_of}

abbrev pub end_of : End → Slots.End
end_of Space = Slots.space
end_of Newline = Slots.newline

-- a field's judgement, as code answers it
abbrev pub judged : Result ℕ Fault → Judged
judged (Ok v) = fits v
judged (Err f) = fault (number_of f)

-- a slot is not passed: whatever follows it, the text is refused there
abbrev pub Failed : (List ℕ → Judged) → Slots.End → List ℕ → ℕ → Type 0
Failed judge end text n = (line : ℕ) (next : List ℕ → ℕ → Form GateList) → read (slot judge end next) line text ≡ refused n line

-- a slot is passed by a field and its number: whatever follows it, reading goes on behind its end
pub record Passed (judge : List ℕ → Judged) (end : Slots.End) (text f : List ℕ) (v : ℕ) (rest : List ℕ) : Type 0 where
  pub begins : text ≡ put f end rest
  pub on : (line : ℕ) (next : List ℕ → ℕ → Form GateList) → read (slot judge end next) line text ≡ read (next f v) (line_after end line) rest
  pub fits : verdict judge f ≡ fits v

-- a slot's number and the text behind its end, or the fault
abbrev pub Slotted : (List ℕ → Judged) → Slots.End → List ℕ → Result (ℕ × Bor (List ℕ)) Fault → Type 0
Slotted judge end text (Ok x) = Passed judge end text (field text) x.0 x.1.now
Slotted judge end text (Err f) = Failed judge end text (number_of f)

-- a slot's field and the text behind its end, or the fault
abbrev pub Named : (List ℕ → Judged) → Slots.End → List ℕ → Result (Bor (List ℕ) × Bor (List ℕ)) Fault → Type 0
Named judge end text (Ok x) = Passed judge end text x.0.now 0 x.1.now
Named judge end text (Err f) = Failed judge end text (number_of f)
