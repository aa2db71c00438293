use Rattle.std.proofs.Common.{length, sym, ap, ◌∙◌, arith}
use Rattle.std.proofs.lemmas.List.{length-take-le}
use Rattle.list_record.specs.ListBoards.{board_after}
use Rattle.list_record.specs.Entering.{verdict}
use Rattle.list_record.proofs.Checked.{checked, input_rows, gate_rows}
use Rattle.list_record.proofs.read_list.Goals as goal

pub slice_bounds-names-end : goal.slice_bounds-names-end
slice_bounds-names-end c = omega (arith, (checked _ _ _ _ _ c.in_ok-n.ensures.answer).inputs_fit)

pub slice_bounds-names-end-2 : goal.slice_bounds-names-end-2
slice_bounds-names-end-2 c = sym (length-take-le c.in_ok-n.n c.check_list.new.inputs (omega (arith, (checked _ _ _ _ _ c.in_ok-n.ensures.answer).inputs_fit)))

pub slice_bounds-names-end-3 : goal.slice_bounds-names-end-3
slice_bounds-names-end-3 c = omega (arith, (checked _ _ _ _ _ c.in_ok-n.ensures.answer).gates_fit)

pub slice_bounds-names-end-4 : goal.slice_bounds-names-end-4
slice_bounds-names-end-4 c = sym (length-take-le c.in_ok-n.r c.check_list.new.gates (omega (arith, (checked _ _ _ _ _ c.in_ok-n.ensures.answer).gates_fit)))

pub enter_list-requires : goal.enter_list-requires
enter_list-requires c =
    let k = checked _ _ _ _ _ c.in_ok-n.ensures.answer in
    omega (arith, k.few_gates, length-take-le c.in_ok-n.r c.check_list.new.gates (omega (arith, k.gates_fit)))

pub returns : goal.returns
returns c =
    let told = c.in_ok-n.ensures in
    let k = checked (length c.args.inputs.now) (length c.args.gates.now) c.args.text.now c.in_ok-n.n c.in_ok-n.r told.answer in
    let ins = input_rows k.list c.args.inputs.now c.check_list.new.inputs c.in_ok-n.n _ k.is k.input_count told.inputs in
    let outs = gate_rows k.list c.args.gates.now c.check_list.new.gates c.in_ok-n.r _ k.is k.gate_count told.gates in
    record {
      answer = sym (ap verdict k.is);
      board = c.enter_list.ensures k.list (record { listed = k.listed; inputs = ins; gates = outs }) c.clear.ensures ∙ sym (ap board_after k.is);
      inputs = told.inputs;
      gates = told.gates;
    }
