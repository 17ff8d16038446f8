-- The model of `Search`.
use Rattle.std.specs.Prelude.{◌<◌, length}
use Rattle.terms.specs.Pieces.{columns, stack_in}
use Rattle.layout.specs.Plan.{lists}
use Rattle.plan.specs.Memory.{Known}
use Rattle.best.specs.Asks.{Room}
use Rattle.best.specs.Task.{Task}
use Rattle.best.specs.declared.Search.TheInside.{Inside}

abbrev pub task_of : Inside → Task
task_of a = record { kind = a.kind; components = stack_in a.stack.now; room = length a.work.now }

-- There is room to plan the stack, and an entry more than it has components. The entries and the work buffer hold a plan for `known`, if that is not 0.
pub record Planning (a : Inside) : Type 0 where
  pub room : columns a.stack.now (Room a.kind) a.work.now
  pub long : length a.stack.now < length a.plan.now
  pub held : lists a.plan.now (columns a.stack.now (Known a.kind a.known.0 0)) a.work.now
