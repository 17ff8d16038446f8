-- The table of all pairs of sides of one group, in a work buffer: the entry (p, q) is at p * stride + q.
use Rattle.std.specs.Prelude.{ℕ, ◌+◌, ◌*◌, ◌≤◌, ◌≡◌, List, [], length, get_or}
use Rattle.numbers.specs.Table.{stride, cells}
use Rattle.terms.specs.Numbers.{most_size, most_nested}
use Rattle.terms.specs.declared.Component.{Component}
use Rattle.terms.specs.Seams.{components_in}
use Rattle.group.specs.Rows.{rows}
use Rattle.group.specs.Group.{left_side, right_side}

-- The components of two lists. Their seams do not matter to rows and starts.
abbrev pub bare : List ℕ → List ℕ → List Component
bare hs ws = components_in hs ws []

-- The least rows of the first p components, last first, beside those from q on.
abbrev pub entry : List ℕ → List ℕ → ℕ → ℕ → ℕ → ℕ
entry hs ws cap p q = rows cap 0 0 (left_side p (bare hs ws)) (right_side q (bare hs ws))

-- A bound on every entry: each of the two sides has at most 64 components of 4,000 rows.
abbrev pub most_entry : ℕ
most_entry = 2 * most_nested * most_size

-- Lists of one group: as many widths as heights, and each at most 4,000.
pub record Columns (hs ws : List ℕ) : Type 0 where
  pub same : length ws ≡ length hs
  pub low : (i : ℕ) → get_or hs i 0 ≤ most_size
  pub slim : (i : ℕ) → get_or ws i 0 ≤ most_size

pub record Filled (hs ws es : List ℕ) (cap : ℕ) : Type 0 where
  pub room : cells ≤ length es
  pub right : (p q : ℕ) → p ≤ q → q ≤ length hs → get_or es (p * stride + q) 0 ≡ entry hs ws cap p q
