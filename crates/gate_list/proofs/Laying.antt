-- Lines that are read one after another, and the entries that are laid for them.
use Rattle.std.proofs.Common.{◌≡◌, ℕ, suc, ◌+◌, ◌-◌, ◌<◌, ◌≤◌, List, [], ◌∷◌, ◌++◌, length, take, set, sym, refl, ap, ◌∙◌, arith}
use Rattle.std.proofs.lemmas.List.{append_assoc, length-append, take_more_set}
use Rattle.gate_list_format.specs.Slots.{Form, read}
use Rattle.gate_list_format.specs.Lists.{GateList, Input, Gate, input_names, gate_names, wires, write_input, write_gate, writes}
use Rattle.gate_list_format.specs.Reading.{input_form, input_forms, gate_form, gate_forms}
use Rattle.gate_list_format.specs.Places.{laid}
use Rattle.gate_list_format.proofs.Laid.{input_onto, gate_onto, writes_onto, writes_push, laid_names, laid_push, input_first, gate_first}
use Rattle.gate_list_lines.specs.Lines.{IsInput, IsGateFields, line_name}
use Rattle.gate_list_lines.specs.declared.GateFields.{GateFields}
use Rattle.gate_list_lines.specs.declared.Line.{Line}
use Rattle.gate_list_lines.specs.declared.Line.TheVariants.{Input as InputVariant, Gate as GateVariant}
use Rattle.gate_list_names.specs.declared.InputEntry.{InputEntry}
use Rattle.gate_list_names.specs.declared.GateEntry.{GateEntry}
use Rattle.gate_list_names.specs.Names.{input_names_in, gate_names_in}
use Rattle.gate_list.specs.Tables.{input_entry, gate_entry}
use Rattle.gate_list.specs.Parts.{Rest}

-- what is left of the whole behind lines
pub rest_trans : (a b c : List ℕ) → Rest a b → Rest b c → Rest a c
rest_trans a b c h k = (h.0 ++ k.0, h.1 ∙ ap (λ t. h.0 ++ t) k.1 ∙ sym (append_assoc h.0 k.0 c))

module _ {A : Type 0} (write : A → List ℕ → List ℕ) (onto : (x : A) (a rest : List ℕ) → write x (a ++ rest) ≡ write x a ++ rest) where
  pub rest_writes : (text : List ℕ) (xs : List A) (rest : List ℕ) → text ≡ writes write xs rest → Rest text rest
  rest_writes text xs rest e = (writes write xs [], e ∙ writes_onto write onto xs [] rest)

  pub rest_short : (whole text : List ℕ) (xs : List A) (rest : List ℕ) → Rest whole text → text ≡ writes write xs rest → length rest ≤ length whole
  rest_short whole text xs rest h e =
      let r = rest_trans whole text rest h (rest_writes text xs rest e) in
      omega (arith, ap length r.1 ∙ length-append r.0 rest)

  -- where the next line stands
  pub place_next : (whole text : List ℕ) (xs : List A) (rest : List ℕ) → Rest whole text → text ≡ writes write xs rest → length whole - length rest ≡ length whole - length text + length (writes write xs [])
  place_next whole text xs rest h e =
      omega (arith, ap length h.1 ∙ length-append h.0 text, ap length (e ∙ writes_onto write onto xs [] rest) ∙ length-append (writes write xs []) rest)

  -- one more line and its entry
  pub laid_more : {E : Type 0} (make : ℕ → A → E) (whole text : List ℕ) (table : List E) (i : ℕ) (xs : List A) (rest : List ℕ) (x : A) (e : E) → Rest whole text → text ≡ writes write xs rest → i < length table → e ≡ make (length whole - length rest) x → take i table ≡ laid write make (length whole - length text) xs → take (i + 1) (set table i e) ≡ laid write make (length whole - length text) (xs ++ (x ∷ []))
  laid_more make whole text table i xs rest x e h w l is same =
      take_more_set table i e l
      ∙ ap (λ t. t ++ (e ∷ [])) same
      ∙ ap (λ y. laid write make (length whole - length text) xs ++ (y ∷ [])) (is ∙ ap (λ p. make p x) (place_next whole text xs rest h w))
      ∙ sym (laid_push write make onto (length whole - length text) xs x)

  pub written_more : (text : List ℕ) (xs : List A) (rest : List ℕ) (x : A) (behind : List ℕ) → text ≡ writes write xs rest → rest ≡ write x behind → text ≡ writes write (xs ++ (x ∷ [])) behind
  written_more text xs rest x behind e r = e ∙ ap (writes write xs) r ∙ sym (writes_push write xs x behind)

front_long : (whole text : List ℕ) (h : Rest whole text) → length h.0 ≡ length whole - length text
front_long whole text h = omega (arith, ap length h.1 ∙ length-append h.0 text)

-- the names of the lines are those that the entries give
pub inputs_named : (whole text : List ℕ) (is : List Input) (rest : List ℕ) (table : List InputEntry) → Rest whole text → text ≡ writes write_input is rest → table ≡ laid write_input input_entry (length whole - length text) is → input_names is ≡ input_names_in whole table
inputs_named whole text is rest table h e same =
    sym (ap (input_names_in whole) same ∙ laid_names write_input (λ i. i.name) input_entry (λ (x : InputEntry). x.place) (λ (x : InputEntry). x.length) (λ p x. refl) (λ p x. refl) input_onto input_first whole h.0 (length whole - length text) is rest (h.1 ∙ ap (λ t. h.0 ++ t) e) (front_long whole text h))

pub gates_named : (whole text : List ℕ) (gs : List Gate) (rest : List ℕ) (table : List GateEntry) → Rest whole text → text ≡ writes write_gate gs rest → table ≡ laid write_gate gate_entry (length whole - length text) gs → gate_names gs ≡ gate_names_in whole table
gates_named whole text gs rest table h e same =
    sym (ap (gate_names_in whole) same ∙ laid_names write_gate (λ g. g.name) gate_entry (λ (x : GateEntry). x.place) (λ (x : GateEntry). x.length) (λ p x. refl) (λ p x. refl) gate_onto gate_first whole h.0 (length whole - length text) gs rest (h.1 ∙ ap (λ t. h.0 ++ t) e) (front_long whole text h))

pub both_names : (is : List Input) (gs : List Gate) (ins outs : List (List ℕ)) → input_names is ≡ ins → gate_names gs ≡ outs → input_names is ++ gate_names gs ≡ ins ++ outs
both_names is gs ins outs p q = ap (λ t. t ++ gate_names gs) p ∙ ap (λ t. ins ++ t) q

-- a read line's entry
pub input_entry_is : (place n : ℕ) (l : Line) (i : Input) → IsInput l i → n ≡ length (line_name l) → record { place = place; length = n } ≡ input_entry place i
input_entry_is place n (InputVariant fields) i h e = ap (λ m. record { place = place; length = m }) (e ∙ ap length h.0)
input_entry_is place n (GateVariant fields) i h e = absurd h

pub gate_entry_is : (place : ℕ) (fields : GateFields) (g : Gate) → IsGateFields fields g → record { place = place; length = length fields.name.now; kind = fields.kind } ≡ gate_entry place g
gate_entry_is place fields g h = ap (λ m. record { place = place; length = m; kind = fields.kind }) (ap length h.0) ∙ ap (λ m. record { place = place; length = length g.name; kind = m }) h.1

-- one more line is wanted
pub inputs_step : (count i : ℕ) (is : List Input) (seen : List (List ℕ)) (next : List Input → Form GateList) (line : ℕ) (text : List ℕ) → i < count → input_names is ≡ seen → read (input_forms (count - i) is next) line text ≡ read (input_form seen (λ x. input_forms (count - (i + 1)) (is ++ (x ∷ [])) next)) line text
inputs_step count i is seen next line text l e =
    let one : count - i ≡ suc (count - (i + 1)) = omega arith in
    ap (λ n. read (input_forms n is next) line text) one
    ∙ ap (λ s. read (input_form s (λ x. input_forms (count - (i + 1)) (is ++ (x ∷ [])) next)) line text) e

pub gates_step : (total i : ℕ) (is : List Input) (gs : List Gate) (seen : List (List ℕ)) (before : ℕ) (next : List Gate → Form GateList) (line : ℕ) (text : List ℕ) → i < total → input_names is ++ gate_names gs ≡ seen → wires gs ≡ before → read (gate_forms (total - i) is gs next) line text ≡ read (gate_form seen before (λ g. gate_forms (total - (i + 1)) is (gs ++ (g ∷ [])) next)) line text
gates_step total i is gs seen before next line text l e w =
    let one : total - i ≡ suc (total - (i + 1)) = omega arith in
    ap (λ n. read (gate_forms n is gs next) line text) one
    ∙ ap (λ s. read (gate_form s (wires gs) (λ g. gate_forms (total - (i + 1)) is (gs ++ (g ∷ [])) next)) line text) e
    ∙ ap (λ k. read (gate_form seen k (λ g. gate_forms (total - (i + 1)) is (gs ++ (g ∷ [])) next)) line text) w
