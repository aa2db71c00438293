use Rattle.sheet.proofs.Sheets.{sheet_longest}
use Rattle.sheet.proofs.sheet_longest.Goals as goal

pub returns : goal.returns
returns c = sheet_longest
