-- What the functions inside this crate promise each other. Nothing here is part of a public promise.
use Rattle.std.specs.Prelude.{ℕ, ◌+◌, ◌*◌, ◌≤◌, ◌<◌, min, ◌≡◌, List, Bool, Result, Ok, Err, length, get_or}
use Rattle.terms.specs.Numbers.{most_size, most_nested, most_limit}
use Rattle.terms.specs.declared.Kind.TheVariants.{Nested}
use Rattle.terms.specs.Seams.{components_in}
use Rattle.terms.specs.declared.Slices.{Slices}
use Rattle.folding.specs.declared.Outline.{Outline}
use Rattle.numbers.specs.Table.{stride, cells}
use Rattle.group.specs.Group.{none, flat_height, least_height}
use Rattle.group.specs.Table.{entry, most_entry, Columns}
use Rattle.group_table.specs.declared.Stop.{Stop}
use Rattle.group_table.specs.Walks.{rest_of, Stopped}
use Rattle.group_height.specs.Heights.{fold_rows, HeightAsks}
use Rattle.group_search.specs.declared.Run.{Run}
use Rattle.group_search.specs.Outward.{Same, Adds}

-- The borders of a table hold what is left where one side is used up, for all widths and every cap.
pub record Bordered (hs es : List ℕ) : Type 0 where
  pub few : length hs ≤ most_nested
  pub low : (i : ℕ) → get_or hs i 0 ≤ most_size
  pub room : cells ≤ length es
  pub top : (ws : List ℕ) (c y : ℕ) → y ≤ length hs → get_or es y 0 ≡ entry hs ws c 0 y
  pub side : (ws : List ℕ) (c x : ℕ) → x ≤ length hs → get_or es (x * stride + length hs) 0 ≡ entry hs ws c x (length hs)

-- A table in use: its borders are right, and no entry is over `none`.
pub record Ready (hs es : List ℕ) : Type 0 where
  pub borders : Bordered hs es
  pub small : (x y : ℕ) → 0 < x → x ≤ y → y < length hs → get_or es (x * stride + y) 0 ≤ none

-- An offer of a row to (x, y): to the entry, or to the height found where a side is used up.
pub record OfferAsks (hs es : List ℕ) (x y row : ℕ) : Type 0 where
  pub ready : Ready hs es
  pub ordered : x ≤ y
  pub within : y ≤ length hs
  pub row_low : row ≤ none + 2 * most_entry

pub record Offered (hs old new : List ℕ) (x y row end end' : ℕ) : Type 0 where
  pub ready : Ready hs new
  pub adds : (ws : List ℕ) (c p q : ℕ) → (0 < x → y < length hs → x * stride + q ≤ p * stride + y)
      → Adds (entry hs ws c) (length hs) old end new end' p q (row + entry hs ws c x y)

-- The end of a walk, at the stop that it came to.
pub record SettleAsks (hs ws es : List ℕ) (t : Stop) : Type 0 where
  pub ready : Ready hs es
  pub columns : Columns hs ws
  pub ordered : t.at.left ≤ t.at.right
  pub within : t.at.right ≤ length hs
  pub left_low : t.at.left_row ≤ none + most_entry
  pub right_low : t.at.right_row ≤ none + most_entry

pub record Settled (hs ws old new : List ℕ) (t : Stop) (s s' : Run) : Type 0 where
  pub ready : Ready hs new
  pub fit_value : s'.fit.0 ≡ t.fit.0
  pub fewer : s'.clash.0 ≤ s.clash.0
  pub clashes : (cap : ℕ) → cap < s.clash.0 → Stopped hs ws cap t.at.left t.at.right → cap < s'.clash.0
  pub adds : (c p q : ℕ) → c < s'.clash.0 → t.at.left ≤ p → q ≤ t.at.right + 1
      → Adds (entry hs ws c) (length hs) old s.height.0 new s'.height.0 p q (rest_of hs ws c t.at)

-- Some turns of the search, from (p, q) to (p', q'): a cap that is at least `fit` and under `clash` makes no difference.
pub record MoveAsks (hs ws es : List ℕ) (cap : ℕ) (s : Run) : Type 0 where
  pub ready : Ready hs es
  pub columns : Columns hs ws
  pub fits : s.fit.0 ≤ cap
  pub clashes : cap < s.clash.0

pub record Moved (hs ws old new : List ℕ) (cap : ℕ) (s s' : Run) (p q p' q' : ℕ) : Type 0 where
  pub ready : Ready hs new
  pub more_fits : s.fit.0 ≤ s'.fit.0
  pub fits : s'.fit.0 ≤ cap
  pub fewer : s'.clash.0 ≤ s.clash.0
  pub clashes : cap < s'.clash.0
  pub same : (c : ℕ) → s'.fit.0 ≤ c → c < s'.clash.0 → Same (entry hs ws c) (length hs) old p q s.height.0 new p' q' s'.height.0

pub record TurnAsks (hs ws es : List ℕ) (cap : ℕ) (s : Run) (p q : ℕ) : Type 0 where
  pub asks : MoveAsks hs ws es cap s
  pub some : 0 < p
  pub ordered : p ≤ q
  pub more : q < length hs

pub record RowAsks (hs ws es : List ℕ) (cap : ℕ) (s : Run) (p : ℕ) : Type 0 where
  pub asks : MoveAsks hs ws es cap s
  pub some : 0 < p
  pub more : p < length hs

pub record RowsAsk (hs ws es : List ℕ) (cap : ℕ) (s : Run) : Type 0 where
  pub asks : MoveAsks hs ws es cap s
  pub some : 1 ≤ length hs

-- The turns of row p, and those of all rows.
abbrev pub RowMoved : List ℕ → List ℕ → List ℕ → List ℕ → ℕ → Run → Run → ℕ → Type 0
RowMoved hs ws old new cap s s' p = Moved hs ws old new cap s s' p p p (length hs)

abbrev pub RowsMoved : List ℕ → List ℕ → List ℕ → List ℕ → ℕ → Run → Run → Type 0
RowsMoved hs ws old new cap s s' = Moved hs ws old new cap s s' (length hs) (length hs) 1 (length hs)

-- Clearing the row p of the table: its entries are fresh, and nothing else has changed.
pub record ClearRowAsks (m : ℕ) (es : List ℕ) (p : ℕ) : Type 0 where
  pub few : m ≤ most_nested
  pub room : cells ≤ length es
  pub more : p < m

pub record RowCleared (m : ℕ) (old new : List ℕ) (p v : ℕ) : Type 0 where
  pub fold : get_or new (p * stride + p) 0 ≡ v
  pub far : (y : ℕ) → p < y → y < m → get_or new (p * stride + y) 0 ≡ none
  pub below : (i : ℕ) → i < p * stride + p → get_or new i 0 ≡ get_or old i 0
  pub beyond : (i : ℕ) → p * stride + m ≤ i → get_or new i 0 ≡ get_or old i 0

-- Clearing the whole table.
pub record ClearAsks (gs es : List ℕ) (outer : ℕ) : Type 0 where
  pub some : 1 ≤ length gs
  pub few : length gs ≤ most_nested
  pub room : cells ≤ length es
  pub outer_low : outer ≤ most_size

-- The rows below p are fresh, and the borders have not changed.
pub record Cleared (gs old new : List ℕ) (outer p : ℕ) : Type 0 where
  pub fold : (x : ℕ) → 0 < x → x < p → get_or new (x * stride + x) 0 ≡ fold_rows outer gs x
  pub far : (x y : ℕ) → 0 < x → x < p → x < y → y < length gs → get_or new (x * stride + y) 0 ≡ none
  pub top : (i : ℕ) → i ≤ length gs → get_or new i 0 ≡ get_or old i 0
  pub side : (x : ℕ) → get_or new (x * stride + length gs) 0 ≡ get_or old (x * stride + length gs) 0

-- A search under a cap, in a table whose borders are right, for a width from `low` on.
pub record SearchAsks (g0 flat : ℕ) (hs ws gs es : List ℕ) (limit low cap : ℕ) : Type 0 where
  pub asks : HeightAsks g0 hs ws gs es
  pub is_flat : flat ≡ flat_height g0 (components_in hs ws gs)
  pub borders : Bordered hs es
  pub limit_low : limit ≤ most_limit
  pub ordered : low ≤ cap
  pub cap_low : cap ≤ 2 * most_size

-- The least height if it is within the limit, and else one more than the limit; the same for every cap that is at least `fit`
-- and under `clash`.
pub record Searched (last : Bool) (g0 : ℕ) (hs ws gs : List ℕ) (limit cap : ℕ) (s : Run) : Type 0 where
  pub fits : s.fit.0 ≤ cap
  pub clashes : cap < s.clash.0
  pub least : (c : ℕ) → s.fit.0 ≤ c → c < s.clash.0 → s.height.0 ≡ min (limit + 1) (least_height Nested last g0 (components_in hs ws gs) c)

-- So the cap leads to a height within the limit, which is the least one at the outline's width;
pub record Met (last : Bool) (g0 : ℕ) (hs ws gs : List ℕ) (limit low cap : ℕ) (o : Outline) : Type 0 where
  pub from : low ≤ o.width.0
  pub to : o.width.0 ≤ cap
  pub height : o.height.0 ≡ least_height Nested last g0 (components_in hs ws gs) o.width.0
  pub within : o.height.0 ≤ limit

-- or to none, and no cap below `least` does.
pub record Missed (last : Bool) (g0 : ℕ) (hs ws gs : List ℕ) (limit cap least : ℕ) : Type 0 where
  pub clashes : cap < least
  pub over : (c : ℕ) → c < least → limit < least_height Nested last g0 (components_in hs ws gs) c

abbrev pub Outcome : Bool → ℕ → List ℕ → List ℕ → List ℕ → ℕ → ℕ → ℕ → Result Outline Slices → Type 0
Outcome last g0 hs ws gs limit low cap (Ok o) = Met last g0 hs ws gs limit low cap o
Outcome last g0 hs ws gs limit low cap (Err least) = Missed last g0 hs ws gs limit cap least.0

-- A cap from which the halving may start: if it is not the greatest one, the group keeps the limit without a fold, and may
-- stand so.
pub record FirstCap (flat limit low cap top : ℕ) : Type 0 where
  pub from : low ≤ top
  pub to : top ≤ cap
  pub keeps : top < cap → flat ≤ limit
