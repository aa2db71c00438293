-- What code answers of a slot, by what it makes of the slot's field.
use Rattle.std.specs.Prelude.{◌≡◌, ℕ, List, [], Ok, Err, Some, None, Result, ◌⊎◌, ◌≢◌}
use Rattle.std.specs.Borrow.{Bor}
use Rattle.gate_list_format.specs.Slots.{End, Judged, fits, fault, field, behind, past}
use Rattle.gate_list_fields.specs.declared.Fault.{Fault}
use Rattle.gate_list_fields.specs.declared.Fault.TheVariants.{Form}
use Rattle.gate_list_fields.specs.Faults.{number_of}

-- the slot's field is there, the judge answers this, and the end is there; or the fault is the first that is wrong of these
abbrev pub Judges : {T : Type 0} → (Result T Fault → Type 0) → End → List ℕ → Result (T × Bor (List ℕ)) Fault → Type 0
Judges answers end text (Ok x) = (field text ≢ []) × answers (Ok x.0) × (past end (behind text) ≡ Some x.1.now)
Judges {T = T} answers end text (Err f) = ((field text ≡ []) × (f ≡ Form)) ⊎ ((field text ≢ []) × (answers (Err f) ⊎ ((v : T) × answers (Ok v) × (past end (behind text) ≡ None) × (f ≡ Form))))

-- a slot is read by a judge, of whose answers to the field this holds
pub record SlotRead {T : Type 0} (answers : Result T Fault → Type 0) (end : End) (text : List ℕ) (result : Result (T × Bor (List ℕ)) Fault) : Type 0 where
  pub is : Judges answers end text result

-- a field is a name that passes, or has the fault
abbrev pub NameJudged : (List ℕ → Judged) → List ℕ → Result (Bor (List ℕ)) Fault → Type 0
NameJudged judge f (Ok name) = (name.now ≡ f) × (judge f ≡ fits 0)
NameJudged judge f (Err e) = judge f ≡ fault (number_of e)
