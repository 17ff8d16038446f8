-- What the functions of this crate ask and promise each other. `PlanAsks`, `PlanDone`, `Plannable` and `best_at` belong to
-- what other crates call.
use Rattle.std.specs.Prelude.{ℕ, zero, suc, ◌+◌, ◌*◌, ◌≤◌, ◌<◌, ◌≡◌, ◌⊎◌, max, List, Option, Some, None, Bool, true, cond, length, get_or, drop, ltb}
use Rattle.numbers.specs.Table.{cells}
use Rattle.terms.specs.Numbers.{most_size, most_apart, most_limit, least_work}
use Rattle.terms.specs.declared.Component.{Component}
use Rattle.terms.specs.declared.Kind.{Kind}
use Rattle.terms.specs.declared.Kind.TheVariants.{Apart, Nested}
use Rattle.terms.specs.declared.Slices.{Slices}
use Rattle.terms.specs.Seams.{gap_at, components_in}
use Rattle.group.specs.Rows.{tall}
use Rattle.group.specs.Group.{none, unbarred, widest}
use Rattle.folding.specs.declared.Outline.{Outline}
use Rattle.layout.specs.Layout.{Layout, unmet, candidate, choice, scan, layouts, layout_of}
use Rattle.layout.specs.Table.{outline}
use Rattle.layout.specs.Plan.{layout_in, StackLists, PlannedAt, Planned}
use Rattle.layout.specs.declared.Entry.{Entry}
use Rattle.plan.specs.declared.Sizes.{Sizes}

-- A group in front of the rest, as a layout whose first group it is.
abbrev pub in_front : Outline → Entry → ℕ → Layout
in_front group rest end = record { width = group.width.0 + rest.width.0; height = max group.height.0 rest.height.0; end = end }

-- One group with its sizes, and the best layout so far, which the group may improve.
pub record GroupAsks (kind : Kind) (limit g0 : ℕ) (sizes : Sizes) (hs ws gs : List ℕ) (best rest : Entry) : Type 0 where
  pub lists : StackLists kind hs ws gs
  pub some : 0 < length hs
  pub limit_most : limit ≤ most_limit
  pub before : g0 ≤ most_size
  pub tall_is : sizes.tall.0 ≡ tall (components_in hs ws gs)
  pub tall_low : sizes.tall.0 ≤ none
  pub widest_is : sizes.widest.0 ≡ widest (components_in hs ws gs)
  pub fair : (best.width.0 < none) ⊎ ((best.width.0 ≡ none) × (best.height.0 ≤ none))
  pub rest_width : rest.width.0 ≤ none

-- The best layout once the group, last or not, is tried in front of the rest.
abbrev pub tried : Kind → Bool → ℕ → ℕ → List ℕ → List ℕ → List ℕ → Entry → Entry → Layout
tried kind last limit g0 hs ws gs best rest = choice (candidate kind limit g0 last (components_in hs ws gs) (layout_in rest) (length hs)) (layout_in best)

-- No group with more rows than this in its components keeps the limit.
abbrev pub most_rows : Kind → ℕ → ℕ
most_rows Apart limit = limit
most_rows Nested limit = 2 * limit

-- What planning takes of a work buffer: nested the table of one group, and a word for each of the 2,080 groups that a stack
-- of 64 components has; apart nothing.
abbrev pub plan_room : Kind → ℕ
plan_room Apart = 0
plan_room Nested = cells + 2080

-- The sizes of some components, whatever their widths and seams.
pub record SizesAsk (hs : List ℕ) : Type 0 where
  pub few : length hs ≤ most_apart
  pub low : (i : ℕ) → get_or hs i 0 ≤ most_size

pub record SizesOf (cs : List Component) (r : Sizes) : Type 0 where
  pub tall_is : r.tall.0 ≡ tall cs
  pub widest_is : r.widest.0 ≡ widest cs
  pub low : r.tall.0 ≤ most_size * most_apart

-- Entries hold the best layouts behind 1, 2, 3 and so on components.
pub record Later (kind : Kind) (limit g0 : ℕ) (cs : List Component) (widths heights : List ℕ) : Type 0 where
  pub width_is : (k : ℕ) → k < length cs → get_or widths k 0 ≡ (get_or (layouts kind limit g0 cs) (suc k) unmet).width
  pub height_is : (k : ℕ) → k < length cs → get_or heights k 0 ≡ (get_or (layouts kind limit g0 cs) (suc k) unmet).height

pub record FirstAsks (kind : Kind) (limit g0 : ℕ) (hs ws gs widths heights : List ℕ) : Type 0 where
  pub lists : StackLists kind hs ws gs
  pub some : 0 < length hs
  pub limit_most : limit ≤ most_limit
  pub before : g0 ≤ most_size
  pub widths_long : length hs ≤ length widths
  pub heights_long : length hs ≤ length heights
  pub later : Later kind limit g0 (components_in hs ws gs) widths heights

-- A width that the best layout stays under, if one is known.
abbrev pub Under : Kind → ℕ → ℕ → List Component → Option Slices → Type 0
Under kind limit g0 cs None = Unit {0}
Under kind limit g0 cs (Some bound) = (bound.0 ≤ none) × ((layout_of kind limit g0 cs).width < bound.0)

-- The best layout with at most k components in the first group.
abbrev pub best_to : Kind → ℕ → ℕ → List Component → ℕ → Layout
best_to kind limit g0 cs k = scan kind limit g0 cs (drop 1 (layouts kind limit g0 cs)) k

-- The entries hold the best layouts behind more than i components.
pub record FromAsks (kind : Kind) (limit i : ℕ) (hs ws gs widths heights : List ℕ) : Type 0 where
  pub lists : StackLists kind hs ws gs
  pub within : i < length hs
  pub limit_most : limit ≤ most_limit
  pub widths_long : length hs < length widths
  pub heights_long : length hs < length heights
  pub width_is : (j : ℕ) → i < j → j ≤ length hs → get_or widths j 0 ≡ (get_or (layouts kind limit 0 (components_in hs ws gs)) j unmet).width
  pub height_is : (j : ℕ) → i < j → j ≤ length hs → get_or heights j 0 ≡ (get_or (layouts kind limit 0 (components_in hs ws gs)) j unmet).height

pub record PlanAsks (kind : Kind) (limit : ℕ) (hs ws gs widths heights ends es : List ℕ) : Type 0 where
  pub lists : StackLists kind hs ws gs
  pub some : 0 < length hs
  pub free : unbarred (components_in hs ws gs) ≡ true
  pub limit_most : limit ≤ most_limit
  pub widths_long : length hs < length widths
  pub heights_long : length hs < length heights
  pub ends_long : length hs < length ends
  pub room : plan_room kind ≤ length es

-- The gap before the component with i others before it.
abbrev pub gap_before : List ℕ → ℕ → ℕ
gap_before gs zero = 0
gap_before gs (suc i) = gap_at gs i

-- The entries are right from i on.
pub record PlannedFrom (kind : Kind) (limit : ℕ) (cs : List Component) (widths heights ends : List ℕ) (i : ℕ) : Type 0 where
  pub at : (j : ℕ) → i ≤ j → j ≤ length cs → PlannedAt (get_or (layouts kind limit 0 cs) j unmet) (get_or widths j 0) (get_or heights j 0) (get_or ends j 0)

-- Where the limit is under `known`, the entries are right for `known` in front of i.
pub record KnownTo (kind : Kind) (known limit : ℕ) (cs : List Component) (widths heights ends : List ℕ) (i : ℕ) : Type 0 where
  pub at : limit < known → (j : ℕ) → j < i → PlannedAt (get_or (layouts kind known 0 cs) j unmet) (get_or widths j 0) (get_or heights j 0) (get_or ends j 0)

-- The entries behind i are right, those before it too if they are for a higher limit, and i itself is still to be planned.
pub record EntryAsks (kind : Kind) (known limit i : ℕ) (hs ws gs widths heights ends : List ℕ) : Type 0 where
  pub lists : StackLists kind hs ws gs
  pub within : i < length hs
  pub limit_most : limit ≤ most_limit
  pub widths_long : length hs < length widths
  pub heights_long : length hs < length heights
  pub ends_long : length hs < length ends
  pub behind : PlannedFrom kind limit (components_in hs ws gs) widths heights ends (suc i)
  pub before : KnownTo kind known limit (components_in hs ws gs) widths heights ends (suc i)

pub record EntryDone (kind : Kind) (known limit i : ℕ) (hs ws gs widths heights ends : List ℕ) : Type 0 where
  pub behind : PlannedFrom kind limit (components_in hs ws gs) widths heights ends i
  pub before : KnownTo kind known limit (components_in hs ws gs) widths heights ends i

-- A stack by its columns, with room to plan it.
pub record Plannable (kind : Kind) (hs ws gs work : List ℕ) : Type 0 where
  pub lists : StackLists kind hs ws gs
  pub some : 0 < length hs
  pub free : unbarred (components_in hs ws gs) ≡ true
  pub room : least_work ≤ length work

-- The outline of the best layout for the limit.
abbrev pub best_at : Kind → ℕ → List Component → Outline
best_at kind limit cs = outline (layout_of kind limit 0 cs).width (layout_of kind limit 0 cs).height

-- None, where no layout keeps the limit.
abbrev pub met_at : Kind → ℕ → List Component → Option Outline
met_at kind limit cs = cond (ltb (layout_of kind limit 0 cs).width none) (Some (best_at kind limit cs)) None

-- The plan holds the best layouts of the stack and of what is left of it, and the outline is that of the first.
pub record PlanDone (kind : Kind) (limit : ℕ) (cs : List Component) (widths heights ends : List ℕ) (o : Option Outline) : Type 0 where
  pub planned : Planned kind limit 0 cs widths heights ends
  pub outlined : o ≡ met_at kind limit cs
