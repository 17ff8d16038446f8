-- A walk along the two sides of a group: what it asks, and what is known of its stop.
use Rattle.std.specs.Prelude.{ℕ, ◌+◌, ◌-◌, ◌*◌, ◌≤◌, ◌<◌, ◌≡◌, List, length, get_or}
use Rattle.terms.specs.Numbers.{most_size, most_nested}
use Rattle.group.specs.Rows.{rows}
use Rattle.group.specs.Group.{none, left_side, right_side}
use Rattle.group.specs.Table.{bare, entry, Columns}
use Rattle.group_table.specs.declared.Standing.{Standing}
use Rattle.group_table.specs.declared.Stop.{Stop}

-- A walk from (p, q), with both sides at the row.
pub record WalkAsks (hs ws : List ℕ) (p q row : ℕ) : Type 0 where
  pub columns : Columns hs ws
  pub few : length hs ≤ most_nested
  pub within : p ≤ length hs
  pub more : q ≤ length hs
  pub row_low : row ≤ none

-- The rows that the two sides take from where they stand.
abbrev pub rest_of : List ℕ → List ℕ → ℕ → Standing → ℕ
rest_of hs ws cap at = rows cap at.left_row at.right_row (left_side at.left (bare hs ws)) (right_side at.right (bare hs ws))

-- It came to the stop the same way under every cap that is at least the stop's `fit`.
pub record Walked (hs ws : List ℕ) (p q row cap fit : ℕ) (t : Stop) : Type 0 where
  pub left_in : t.at.left ≤ p
  pub right_from : q ≤ t.at.right
  pub right_in : t.at.right ≤ length hs
  pub left_low : t.at.left_row + most_size * t.at.left ≤ row + most_size * p
  pub right_low : t.at.right_row + most_size * q ≤ row + most_size * t.at.right
  pub more_fits : fit ≤ t.fit.0
  pub fits : fit ≤ cap → t.fit.0 ≤ cap
  pub same : (c : ℕ) → t.fit.0 ≤ c → rest_of hs ws c t.at ≡ row + entry hs ws c p q

-- A side is used up, or two clash.
abbrev pub Stopped : List ℕ → List ℕ → ℕ → ℕ → ℕ → Type 0
Stopped hs ws cap x y = 0 < x → y < length hs → cap < get_or ws (x - 1) 0 + get_or ws y 0
