-- What filling the table of a group asks.
use Rattle.std.specs.Prelude.{ℕ, ◌≤◌, List, length}
use Rattle.numbers.specs.Table.{cells}
use Rattle.terms.specs.Numbers.{most_nested}
use Rattle.group.specs.Table.{Columns}

pub record Asks (hs ws es : List ℕ) : Type 0 where
  pub columns : Columns hs ws
  pub few : length hs ≤ most_nested
  pub room : cells ≤ length es
