-- What the functions inside this crate promise each other.
use Rattle.std.specs.Prelude.{ℕ, List, Option}
use Rattle.terms.specs.declared.Component.{Component}
use Rattle.terms.specs.declared.Kind.{Kind}
use Rattle.folding.specs.declared.Winner.{Winner}
use Rattle.folding.specs.Calls.{measure_in, winner_is}

-- Which of two foldings of a stack wins.
abbrev pub better_in : Kind → List Component → List ℕ → List ℕ → Option Winner
better_in kind cs first second = winner_is (measure_in kind cs first) (measure_in kind cs second)
