use Rattle.sheet.proofs.Sheets.{sheet_length}
use Rattle.sheet.proofs.sheet_length.Goals as goal

pub returns : goal.returns
returns c = sheet_length
