-- What a worked board is, and what is said of it: a circuit with its counts and marks, or a kind with its extension.
use Rattle.std.specs.Prelude.{◌≡◌, ℕ, Bool, List, length, Some}
use Rattle.gates.specs.declared.Mark.{Mark}
use Rattle.gates.specs.Kinds.{Kind, complementing, extension_of}
use Rattle.plain_gates.specs.Plain.{plain}
use Rattle.circuit.specs.Circuits.{Circuit}
use Rattle.circuit.specs.Passes.{Run, open_count}
use Rattle.sheet.specs.Sheets.{sheet}

-- the kinds that gate lists name
abbrev pub bench_kinds : List Kind
bench_kinds = complementing plain

pub record CircuitCase : Type 0 where
  pub circuit : Circuit
  pub start : List Bool
  pub first_steps : ℕ
  pub second_steps : ℕ
  pub open_signals : ℕ
  pub firsts : List Mark
  pub seconds : List Mark
  pub sheet_length : ℕ

pub record ExtensionCase : Type 0 where
  pub kinds : List Kind
  pub kind : ℕ
  pub pins : List Mark
  pub output : Mark

pub data Case : Type 0 where
  of_circuit : CircuitCase → Case
  of_extension : ExtensionCase → Case

pub record CircuitAsSaid (b : CircuitCase) : Type 0 where
  pub run : Run bench_kinds b.circuit b.start b.first_steps b.firsts b.second_steps b.seconds
  pub count : open_count b.seconds ≡ b.open_signals
  pub long : length (sheet (length b.circuit.applied) (length b.circuit.gates) b.firsts b.seconds) ≡ b.sheet_length

abbrev pub AsSaid : Case → Type 0
AsSaid (of_circuit b) = CircuitAsSaid b
AsSaid (of_extension e) = extension_of e.kinds e.kind e.pins ≡ Some e.output
