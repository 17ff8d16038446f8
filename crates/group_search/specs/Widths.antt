-- What the search for the least width of a group asks, and what it finds.
use Rattle.std.specs.Prelude.{ℕ, ◌*◌, ◌≤◌, ◌<◌, ◌≡◌, List, Bool, Option, Some, None, Result, Ok, Err}
use Rattle.terms.specs.Numbers.{most_limit}
use Rattle.terms.specs.declared.Kind.TheVariants.{Nested}
use Rattle.terms.specs.declared.Slices.{Slices}
use Rattle.terms.specs.Seams.{components_in}
use Rattle.folding.specs.declared.Outline.{Outline}
use Rattle.model.specs.Outlines.{outline}
use Rattle.group.specs.Group.{widest, flat_height, least_height, least_width}
use Rattle.group_height.specs.Heights.{HeightAsks}

pub record WidthAsks (g0 : ℕ) (hs ws gs es : List ℕ) (limit wide cap : ℕ) : Type 0 where
  pub asks : HeightAsks g0 hs ws gs es
  pub is_widest : wide ≡ widest (components_in hs ws gs)
  pub from : wide ≤ cap
  pub to : cap ≤ 2 * wide
  pub limit_low : limit ≤ most_limit

-- No cap from the widest component on and below `low` will do.
abbrev pub Over : Bool → ℕ → List ℕ → List ℕ → List ℕ → ℕ → ℕ → ℕ → Type 0
Over last g0 hs ws gs limit wide low = (c : ℕ) → wide ≤ c → c < low → limit < least_height Nested last g0 (components_in hs ws gs) c

pub record LowAsks (last : Bool) (g0 flat : ℕ) (hs ws gs es : List ℕ) (limit wide low cap : ℕ) : Type 0 where
  pub asks : WidthAsks g0 hs ws gs es limit wide cap
  pub is_flat : flat ≡ flat_height g0 (components_in hs ws gs)
  pub from : wide ≤ low
  pub to : low ≤ cap
  pub over : Over last g0 hs ws gs limit wide low

-- The least width up to the cap at which the group is within the limit, and its least height there; nothing, if it is over
-- the cap.
pub record Narrow (last : Bool) (g0 : ℕ) (hs ws gs : List ℕ) (limit cap : ℕ) (found : Option Outline) : Type 0 where
  pub within : least_width Nested last g0 (components_in hs ws gs) limit ≤ cap
      → found ≡ Some (outline (least_width Nested last g0 (components_in hs ws gs) limit) (least_height Nested last g0 (components_in hs ws gs) (least_width Nested last g0 (components_in hs ws gs) limit)))
  pub over : cap < least_width Nested last g0 (components_in hs ws gs) limit → found ≡ None

-- A width below which no cap will do, which is the width found if there is one.
abbrev pub bound_in : Result Outline Slices → ℕ
bound_in (Ok o) = o.width.0
bound_in (Err least) = least.0
