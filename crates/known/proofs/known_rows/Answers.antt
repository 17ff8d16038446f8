-- Each of the known rows is as its line says.
use Rattle.known.proofs.Rows.{known}
use Rattle.known.proofs.known_rows.Goals as goal

pub returns : goal.returns
returns c = known
