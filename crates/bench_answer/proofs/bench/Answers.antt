use Rattle.list_record.specs.Entering.{list_board}
use Rattle.bench_answer.proofs.Sheeting.{joined_board}
use Rattle.bench_answer.proofs.bench.Goals as goal

pub sheet_bytes-requires : goal.sheet_bytes-requires
sheet_bytes-requires c = joined_board c.args.text.now (list_board c.read_list.new.record) c.in-Ok.ensures.answer c.in-Ok.ensures.board
