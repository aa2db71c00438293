-- A list that was checked, and its entries in the tables.
use Rattle.std.proofs.Common.{◌≡◌, ℕ, ◌≤◌, List, length, take, sym, refl, ap, ◌∙◌, arith}
use Rattle.std.proofs.lemmas.List.{take_at}
use Rattle.gate_list_format.specs.Slots.{Outcome, accepted, refused}
use Rattle.gate_list_format.specs.Lists.{GateList, write_input, write_gate}
use Rattle.gate_list_format.specs.Places.{inputs_place, gates_place}
use Rattle.gate_list_format.specs.Reading.{admitted}
use Rattle.gate_list_format.proofs.Admitted.{accepts}
use Rattle.gate_list_format.proofs.Laid.{length-laid}
use Rattle.gate_list_names.specs.declared.InputEntry.{InputEntry}
use Rattle.gate_list_names.specs.declared.GateEntry.{GateEntry}
use Rattle.gate_list.specs.Tables.{counts, input_entry, gate_entry, input_entries, gate_entries, input_table, gate_table}
use Rattle.list_record.specs.Replay.{Listed}

pub record Checked (inputs gates : ℕ) (text : List ℕ) (n r : ℕ) : Type 0 where
  pub list : GateList
  pub is : admitted inputs gates text ≡ accepted list
  pub listed : Listed list text
  pub input_count : n ≡ length list.inputs
  pub gate_count : r ≡ length list.gates
  pub inputs_fit : n ≤ inputs
  pub gates_fit : r ≤ gates
  pub few_gates : r ≤ 96

pub checked : (inputs gates : ℕ) (text : List ℕ) (n r : ℕ) → accepted (n, r) ≡ counts (admitted inputs gates text) → Checked inputs gates text n r
checked inputs gates text n r e = go (admitted inputs gates text) refl
  where
    go : (o : Outcome GateList) → admitted inputs gates text ≡ o → Checked inputs gates text n r
    go (refused m line) h = let z = e ∙ ap counts h in let c : ◌≡◌ {A = ℕ} 0 1 = cc in absurd (omega arith)
    go (accepted b) h =
        let z = e ∙ ap counts h in
        let pair : ◌≡◌ {A = ℕ × ℕ} (n, r) (length b.inputs, length b.gates) = cc in
        let law = (accepts inputs gates text b).0 h in
        record {
          list = b;
          is = h;
          listed = record { lawful = law.2; written = sym law.3 };
          input_count = ap (λ (p : ℕ × ℕ). p.0) pair;
          gate_count = ap (λ (p : ℕ × ℕ). p.1) pair;
          inputs_fit = omega (arith, ap (λ (p : ℕ × ℕ). p.0) pair, law.2.inputs, law.0);
          gates_fit = omega (arith, ap (λ (p : ℕ × ℕ). p.1) pair, law.2.gates, law.1);
          few_gates = omega (arith, ap (λ (p : ℕ × ℕ). p.1) pair, law.2.gates);
        }

pub input_rows : (b : GateList) (old new : List InputEntry) (n : ℕ) (o : Outcome GateList) → o ≡ accepted b → n ≡ length b.inputs → new ≡ input_table old o → take n new ≡ input_entries b
input_rows b old new n o is e h = ap (take n) (h ∙ ap (input_table old) is) ∙ take_at (input_entries b) _ n (length-laid write_input input_entry (inputs_place b) b.inputs ∙ sym e)

pub gate_rows : (b : GateList) (old new : List GateEntry) (r : ℕ) (o : Outcome GateList) → o ≡ accepted b → r ≡ length b.gates → new ≡ gate_table old o → take r new ≡ gate_entries b
gate_rows b old new r o is e h = ap (take r) (h ∙ ap (gate_table old) is) ∙ take_at (gate_entries b) _ r (length-laid write_gate gate_entry (gates_place b) b.gates ∙ sym e)
