use Rattle.std.proofs.Common.{◌≡◌, ◌≤◌, length, sym, ap, ◌∙◌, ⊎_elim, inl, inr, arith, rules}
use Rattle.gate_list_format.proofs.Admitted.{oversized}
use Rattle.gate_list.specs.Tables.{counts, no_input, no_gate, input_table, gate_table}
use Rattle.gate_list.proofs.Whole.{answered, inputs_held, gates_held}
use Rattle.gate_list.proofs.check_list.Goals as goal

pub returns-then-text-gt-MOST_BYTES : goal.returns-then-text-gt-MOST_BYTES
returns-then-text-gt-MOST_BYTES c =
    let ins = c.args.inputs.now in
    let outs = c.args.gates.now in
    let over = oversized (length ins) (length outs) c.args.text.now (⊎_elim (λ p. inl p) (λ q. ⊎_elim (λ p. inr (inl p.1)) (λ p. inr (inr p.2)) q) c.then-text-gt-MOST_BYTES.either) in
    record { answer = sym (ap counts over); inputs = sym (ap (input_table ins) over); gates = sym (ap (gate_table outs) over) }

pub returns : goal.returns
returns c =
    let text = c.args.text.now in
    let ins = c.args.inputs.now in
    let outs = c.args.gates.now in
    let new_ins = c.read_list-read.new.inputs in
    let new_outs = c.read_list-read.new.gates in
    let small : length text ≤ 65536 = omega arith in
    let room : 32 ≤ length ins = omega arith in
    let gate-room : 96 ≤ length outs = omega arith in
    let long : length new_ins ≡ length ins = omega arith in
    let gates-long : length new_outs ≡ length outs = omega arith in
    record {
      answer = answered text ins new_ins outs new_outs small room gate-room long gates-long _ c.read_list-read.ensures;
      inputs = c.blank_from.ensures ∙ inputs_held text ins new_ins outs new_outs small room gate-room long gates-long _ _ _ c.read_list-read.ensures c.unwrap_or-n.ensures (let e : c.default.result ≡ no_input = search rules in e);
      gates = c.blank_from-2.ensures ∙ gates_held text ins new_ins outs new_outs small room gate-room long gates-long _ _ _ c.read_list-read.ensures c.unwrap_or-n.ensures (let e : c.default-2.result ≡ no_gate = search rules in e);
    }
