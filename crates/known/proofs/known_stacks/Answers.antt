-- Each of the known stacks is as its line says.
use Rattle.known.proofs.Proved.{known}
use Rattle.known.proofs.known_stacks.Goals as goal

pub returns : goal.returns
returns c = known
