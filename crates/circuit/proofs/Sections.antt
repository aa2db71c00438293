-- One step of a pass, place by place in the three sections.
use Rattle.std.proofs.Common.{◌≡◌, ℕ, ◌+◌, ◌-◌, ◌<◌, ◌≤◌, List, ◌++◌, length, get_or, sym, ap, ◌∙◌, ⊎_elim, arith}
use Rattle.std.proofs.lemmas.List.{get_or_append_left, get_or-append_right, length-append}
use Rattle.std.proofs.lemmas.List.FromFn.{fill_by_all}
use Rattle.std.proofs.lemmas.Bool.{cases_lt, lt-ltb, le-ltb, cond-true, cond-false}
use Rattle.gates.specs.declared.Mark.{Mark}
use Rattle.gates.specs.declared.Mark.TheVariants.{Zero}
use Rattle.gates.specs.Marks.{settled, extended}
use Rattle.gates.specs.Kinds.{Kind}
use Rattle.circuit.specs.declared.Signal.{Signal}
use Rattle.circuit.specs.declared.Signal.TheVariants as signal
use Rattle.circuit.specs.declared.passes.Pass.{Pass}
use Rattle.circuit.specs.Circuits.{Circuit, size, signal_at, excitation}
use Rattle.circuit.specs.Passes.{next, next_at, stepped}

module _ (c : Circuit) (n : ℕ) where
  pub at_input : n < length c.applied → signal_at c n ≡ signal.Input n
  at_input h = cond-true _ _ _ (lt-ltb n (length c.applied) h)

  pub at_gate : length c.applied ≤ n → n < length c.applied + length c.gates → signal_at c n ≡ signal.Gate (n - length c.applied)
  at_gate l h = cond-false _ _ _ (le-ltb n (length c.applied) l) ∙ cond-true _ _ _ (lt-ltb n (length c.applied + length c.gates) h)

  pub at_wire : length c.applied + length c.gates ≤ n → signal_at c n ≡ signal.Wire (n - (length c.applied + length c.gates))
  at_wire l = cond-false _ _ _ (le-ltb n (length c.applied) (omega arith)) ∙ cond-false _ _ _ (le-ltb n (length c.applied + length c.gates) l)

-- one step of a pass, from the marks before: the three sections side by side
module _ (pass : Pass) (ks : List Kind) (c : Circuit) (before inputs gates wires : List Mark)
    (many-inputs : length inputs ≡ length c.applied) (many-gates : length gates ≡ length c.gates) (many-wires : length wires ≡ length c.sources) where
  -- the marks of one section, whose first signal stands at `start`
  abbrev pub Section : (ℕ → Signal) → ℕ → List Mark → Type 0
  Section signal start marks = (k : ℕ) → k < length marks → get_or marks k Zero ≡ next pass (get_or before (start + k) Zero) (excitation settled extended ks c before (signal k))

  section_at : (signal : ℕ → Signal) (start : ℕ) (marks : List Mark) (k n : ℕ) → Section signal start marks → k < length marks → start + k ≡ n → signal_at c n ≡ signal k → get_or marks k Zero ≡ next_at pass ks c before n
  section_at signal start marks k n each h here is =
      each k h
      ∙ ap (λ i. next pass (get_or before i Zero) (excitation settled extended ks c before (signal k))) here
      ∙ ap (λ x. next pass (get_or before n Zero) (excitation settled extended ks c before x)) (sym is)

  pub stepped_by : Section signal.Input 0 inputs → Section signal.Gate (length c.applied) gates → Section signal.Wire (length c.applied + length c.gates) wires
      → inputs ++ (gates ++ wires) ≡ stepped pass ks c before
  unfolding stepped
  stepped_by each-input each-gate each-wire =
      fill_by_all (next_at pass ks c before) (inputs ++ (gates ++ wires)) (size c) Zero (omega (arith, length-append inputs (gates ++ wires), length-append gates wires)) at
    where
      input : (n : ℕ) → n < length c.applied → get_or inputs n Zero ≡ next_at pass ks c before n
      input n low = section_at signal.Input 0 inputs n n each-input (omega arith) (omega arith) (at_input c n low)

      gate : (n : ℕ) → length c.applied ≤ n → n - length c.applied < length c.gates → get_or gates (n - length c.applied) Zero ≡ next_at pass ks c before n
      gate n past low = section_at signal.Gate (length c.applied) gates (n - length c.applied) n each-gate (omega arith) (omega arith) (at_gate c n past (omega arith))

      wire : (n : ℕ) → length c.applied + length c.gates ≤ n → n < size c → get_or wires (n - length c.applied - length c.gates) Zero ≡ next_at pass ks c before n
      wire n past low =
          section_at signal.Wire (length c.applied + length c.gates) wires (n - length c.applied - length c.gates) n each-wire (omega arith) (omega arith)
          (at_wire c n past ∙ ap signal.Wire (omega arith))

      at : (n : ℕ) → n < size c → get_or (inputs ++ (gates ++ wires)) n Zero ≡ next_at pass ks c before n
      at n h =
          ⊎_elim
          (λ (low : n < length c.applied). get_or_append_left inputs (gates ++ wires) Zero n (omega arith) ∙ input n low)
          (λ (past : length c.applied ≤ n).
          get_or-append_right inputs (gates ++ wires) (length c.applied) n Zero many-inputs past
          ∙ ⊎_elim
          (λ (low : n - length c.applied < length c.gates). get_or_append_left gates wires Zero (n - length c.applied) (omega arith) ∙ gate n past low)
          (λ (rest : length c.gates ≤ n - length c.applied). get_or-append_right gates wires (length c.gates) (n - length c.applied) Zero many-gates rest ∙ wire n (omega arith) h)
          (cases_lt (n - length c.applied) (length c.gates)))
          (cases_lt n (length c.applied))
