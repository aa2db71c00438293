-- What is read of a line, and its fault as a refusal.
use Rattle.std.proofs.Common.{◌≡◌, ℕ, Ok, Err, Result, subst, arith}
use Rattle.gate_list_fields.specs.declared.Fault.{Fault}
use Rattle.gate_list_fields.specs.Faults.{number_of}
use Rattle.gate_list_format.specs.Slots.{Outcome, refused}
use Rattle.gate_list_format.specs.Lists.{GateList}
use Rattle.gate_list.specs.declared.Refusal.{Refusal}
use Rattle.gate_list.specs.declared.Refusal.TheVariants.{At}
use Rattle.gate_list.specs.Refusals.{tied, RefusedAt}

module _ {X : Type 0} (P : Result X Fault → Type 0) where
  -- what was read
  pub read_so : (line : ℕ) (r : Result X Fault) (x : X) → Ok x ≡ tied line r → P r → P (Ok x)
  read_so line (Ok y) x e h = subst (λ (z : X). P (Ok z)) (let q : y ≡ x = cc in q) h
  read_so line (Err f) x e h = absurd (let z : ◌≡◌ {A = ℕ} 0 1 = cc in omega arith)

  -- a text that is refused for the fault is refused so
  pub refused_so : (o : Outcome GateList) (line : ℕ) (r : Result X Fault) (e : Refusal) → Err e ≡ tied line r → P r → ((f : Fault) → P (Err f) → o ≡ refused (number_of f) line) → RefusedAt o e
  refused_so o line (Ok y) e h p next = absurd (let z : ◌≡◌ {A = ℕ} 0 1 = cc in omega arith)
  refused_so o line (Err f) e h p next = subst (RefusedAt o) (let q : At f line ≡ e = cc in q) (next f p)
