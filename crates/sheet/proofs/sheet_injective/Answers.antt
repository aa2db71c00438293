use Rattle.sheet.proofs.Sheets.{sheet_injective}
use Rattle.sheet.proofs.sheet_injective.Goals as goal

pub returns : goal.returns
returns c = sheet_injective
