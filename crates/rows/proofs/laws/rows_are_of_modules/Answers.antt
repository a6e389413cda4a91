use Rattle.rows.proofs.Ascending.{rows_are_of_modules}
use Rattle.rows.proofs.laws.rows_are_of_modules.Goals as goal

pub returns : goal.returns
returns c = rows_are_of_modules
