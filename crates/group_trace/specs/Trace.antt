-- What the writing of one group asks, and what one turn of it does: it places one component, on the left or on the right.
-- Nothing here is part of a public promise.
use Rattle.std.specs.Prelude.{ℕ, ◌+◌, ◌-◌, ◌*◌, ◌≤◌, ◌<◌, max, ◌≡◌, List, ◌++◌, length, drop}
use Rattle.terms.specs.Numbers.{most_size, most_apart, most_nested}
use Rattle.terms.specs.declared.Component.{Component}
use Rattle.folding.specs.Placement.{flat_of}
use Rattle.group.specs.Rows.{Starts, put_left, put_right, place}
use Rattle.group.specs.Group.{left_side, right_side, group_places}
use Rattle.group.specs.Table.{bare, Columns, Filled}
use Rattle.group_table.specs.declared.Standing.{Standing}
use Rattle.group_trace.specs.declared.Side.{Side}
use Rattle.group_trace.specs.declared.Side.TheVariants.{Left, Right}
use Rattle.group_trace.specs.declared.Turn.{Turn}

-- The side of a placement.
abbrev pub side_number : Side → ℕ
side_number Left = 0
side_number Right = 1

-- Where a group has no fold the table is not read, and the group may have more components than a table takes.
abbrev pub TableFrom : List ℕ → List ℕ → List ℕ → ℕ → ℕ → Type 0
TableFrom hs ws es cap q = q < length hs → (length hs ≤ most_nested) × Filled hs ws es cap

-- p components are to go on the left.
pub record WriteAsks (hs ws es out : List ℕ) (p cap : ℕ) : Type 0 where
  pub columns : Columns hs ws
  pub few : length hs ≤ most_apart
  pub some : 0 < p
  pub within : p ≤ length hs
  pub table : TableFrom hs ws es cap p
  pub room : 3 * length hs ≤ length out

-- What the next turn asks of where the sides stand.
pub record TurnAsks (hs ws es : List ℕ) (at : Standing) (cap : ℕ) : Type 0 where
  pub columns : Columns hs ws
  pub few : length hs ≤ most_apart
  pub apart : at.left ≤ at.right
  pub within : at.right ≤ length hs
  pub more : at.right - at.left < length hs
  pub table : TableFrom hs ws es cap at.right
  pub low_left : at.left_row ≤ most_size * (at.right - at.left)
  pub low_right : at.right_row ≤ most_size * (at.right - at.left)

-- The start rows of the components that are still to be placed.
abbrev pub starts_of : ℕ → List Component → Standing → Starts
starts_of cap cs at = place cap at.left_row at.right_row (left_side at.left cs) (right_side at.right cs)

-- A turn places the last component of the left side, or the first one of the right side.
abbrev pub left_turn : Standing → ℕ → ℕ → Turn
left_turn at a b = record {
  index = at.left - 1;
  side = Left;
  start = at.left_row;
  next = record { left = at.left - 1; right = at.right; left_row = a; right_row = b };
}

abbrev pub right_turn : Standing → ℕ → ℕ → Turn
right_turn at a b = record {
  index = at.right;
  side = Right;
  start = at.right_row;
  next = record { left = at.left; right = at.right + 1; left_row = a; right_row = b };
}

-- The turn is the one that the start rows of the group make.
pub record Turned (cap : ℕ) (hs ws : List ℕ) (at : Standing) (t : Turn) : Type 0 where
  pub to_left : t.side ≡ Left → (0 < at.left) × (t ≡ left_turn at t.next.left_row t.next.right_row) × (starts_of cap (bare hs ws) at ≡ put_left at.left_row (starts_of cap (bare hs ws) t.next))
  pub to_right : t.side ≡ Right → (at.right < length hs) × (t ≡ right_turn at t.next.left_row t.next.right_row) × (starts_of cap (bare hs ws) at ≡ put_right at.right_row (starts_of cap (bare hs ws) t.next))
  pub low : max t.next.left_row t.next.right_row ≤ max at.left_row at.right_row + most_size

-- A buffer that holds the placements of the group with p components on the left, and behind them what it held.
abbrev pub group_into : ℕ → ℕ → ℕ → List ℕ → List ℕ → List ℕ → List ℕ
group_into cap group p hs ws old = flat_of (group_places cap (bare hs ws) group p) ++ drop (3 * length hs) old
