-- What the functions inside this crate promise each other.
use Rattle.std.specs.Prelude.{ℕ, ◌+◌, ◌-◌, ◌≤◌, ◌<◌, ◌≡◌, List, Bool, true, false, cond, Option, None, Some, ◌&&◌, length, get_or, leb, ltb, eqb}
use Rattle.folding.specs.declared.Outline.{Outline}
use Rattle.folding.specs.declared.Placement.{Placement}
use Rattle.terms.specs.declared.Kind.{Kind}
use Rattle.folding.specs.Legal.{most_start, legal}
use Rattle.folding.specs.Outline.{group_width, group_height}
use Rattle.folding.specs.Placement.{placement_of}
use Rattle.folding.specs.Asks.{placed_in, group_at, side_at, start_at, end_at, StackIn}

-- What component i adds to the sum of a row.
abbrev pub share_at : List ℕ → List ℕ → List Placement → ℕ → ℕ → ℕ
share_at hs ws ps row i = cond (leb (start_at ps i) row && ltb row (end_at hs ps i)) (get_or ws i 0) 0

-- The sum of the row where component i starts: on its side it is alone there, and on the other side at most one lies there.
abbrev pub sum_at_start : List ℕ → List ℕ → List Placement → ℕ → Option ℕ → ℕ
sum_at_start hs ws ps i None = get_or ws i 0
sum_at_start hs ws ps i (Some other) = get_or ws i 0 + share_at hs ws ps (start_at ps i) other

-- Two widths of 16 bits.
abbrev pub most_width : ℕ
most_width = 131070

-- No component starts above the range.
abbrev pub Low : List Placement → ℕ → Type 0
Low ps n = (i : ℕ) → i < n → start_at ps i ≤ most_start

-- Of a placement as its three numbers.
abbrev pub alike : List ℕ → List ℕ → Bool
alike numbers next = eqb (placement_of numbers).group (placement_of next).group

abbrev pub is_left : List ℕ → Bool
is_left numbers = eqb (placement_of numbers).side 0

-- A stack in columns with a legal folding of just as many placements.
pub record OneEach (hs ws seams : List ℕ) (ps : List Placement) : Type 0 where
  pub stack : StackIn hs ws seams
  pub one_each : length ps ≡ length hs
  pub is_legal : (kind : Kind) × (legal kind (placed_in hs ws seams ps) ≡ true)

-- The group of the component at `from` ends before `to`.
pub record GroupEnd (ps : List Placement) (from to : ℕ) : Type 0 where
  pub some : from < to
  pub within : to ≤ length ps
  pub same : (i : ℕ) → from ≤ i → i < to → group_at ps i ≡ group_at ps from
  pub other : to < length ps → group_at ps to ≡ group_at ps from → ⊥

-- The first k components are on the left, and the one after them is not.
pub record Lefts (ps : List Placement) (n k : ℕ) : Type 0 where
  pub within : k ≤ n
  pub on_the_left : (i : ℕ) → i < k → side_at ps i ≡ 0
  pub next : k < n → side_at ps k ≡ 0 → ⊥

-- What the rules say of component i of a group and the one after it.
pub record Beside (hs : List ℕ) (ps : List Placement) (i : ℕ) : Type 0 where
  pub left_comes_first : side_at ps (i + 1) ≡ 0 → side_at ps i ≡ 0
  pub left_is_clear : side_at ps i ≡ 0 → side_at ps (i + 1) ≡ 0 → end_at hs ps (i + 1) ≤ start_at ps i
  pub right_is_clear : (side_at ps i ≡ 0 → ⊥) → (side_at ps (i + 1) ≡ 0 → ⊥) → end_at hs ps i ≤ start_at ps (i + 1)

-- The placements of a group.
pub record GroupFlat (hs : List ℕ) (ps : List Placement) : Type 0 where
  pub some : 0 < length hs
  pub low : Low ps (length hs)
  pub first_left : side_at ps 0 ≡ 0
  pub beside : (i : ℕ) → i + 1 < length hs → Beside hs ps i

-- The sides of a group with k components on the left: there each ends at or below the start of those before it, and on the
-- right at or below the start of those behind it.
pub record Chains (hs : List ℕ) (ps : List Placement) (k : ℕ) : Type 0 where
  pub within : k ≤ length hs
  pub falls : (i j : ℕ) → i < j → j < k → end_at hs ps j ≤ start_at ps i
  pub rises : (i j : ℕ) → k ≤ i → i < j → j < length hs → end_at hs ps i ≤ start_at ps j

-- Where the components from `low` up to `high` have started, the next is the one before them, on the left, or the one
-- behind them, on the right.
abbrev pub NextStart : List Placement → ℕ → ℕ → ℕ → Bool → Type 0
NextStart ps n low high true = (0 < low) × (high < n → start_at ps (low - 1) ≤ start_at ps high)
NextStart ps n low high false = (high < n) × (0 < low → start_at ps high ≤ start_at ps (low - 1))

-- A group with its widths.
pub record GroupWide (hs ws : List ℕ) (ps : List Placement) : Type 0 where
  pub flat_group : GroupFlat hs ps
  pub widths_long : length ws ≡ length hs
  pub tall : (i : ℕ) → i < length hs → 0 < get_or hs i 0

-- And with its seams.
pub record GroupIn (hs ws seams : List ℕ) (ps : List Placement) : Type 0 where
  pub wide : GroupWide hs ws ps
  pub seams_long : length seams ≡ length hs

-- The width of a group, whatever its seams are.
abbrev pub WidthIs : List ℕ → List ℕ → List Placement → ℕ → Type 0
WidthIs hs ws ps width = (seams : List ℕ) → width ≡ group_width (placed_in hs ws seams ps)

-- The height of a group behind the gap g0, whatever its widths are.
abbrev pub HeightIs : ℕ → List ℕ → List ℕ → List Placement → ℕ → Type 0
HeightIs g0 hs seams ps height = (ws : List ℕ) → height ≡ group_height g0 (placed_in hs ws seams ps)

-- The width and the height of a group behind the gap g0.
pub record GroupOutlined (g0 : ℕ) (hs ws seams : List ℕ) (ps : List Placement) (o : Outline) : Type 0 where
  pub width_is : o.width.0 ≡ group_width (placed_in hs ws seams ps)
  pub height_is : o.height.0 ≡ group_height g0 (placed_in hs ws seams ps)
  pub slim : o.width.0 ≤ most_width
