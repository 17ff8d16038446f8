-- The outline of a folding (document 01, "Foldings").
use Rattle.std.specs.Prelude.{ℕ, zero, suc, ◌+◌, max, List, [], ◌∷◌, Bool, cond, ◌&&◌, leb, ltb}
use Rattle.terms.specs.declared.Component.{Component}
use Rattle.folding.specs.declared.Placed.{Placed}
use Rattle.folding.specs.declared.Placement.{Placement}
use Rattle.folding.specs.declared.Outline.{Outline}
use Rattle.folding.specs.Placement.{width_of, gap_of, start_of, end_of, left, placed_of}
use Rattle.folding.specs.Legal.{same_group}

-- The groups of a folding: its runs of consecutive components with equal group numbers.
abbrev pub joined : Placed → List (List Placed) → List (List Placed)
joined x [] = (x ∷ []) ∷ []
joined x ([] ∷ gs) = (x ∷ []) ∷ gs
joined x ((y ∷ g) ∷ gs) = cond (same_group x y) ((x ∷ y ∷ g) ∷ gs) ((x ∷ []) ∷ (y ∷ g) ∷ gs)

unfoldable pub groups_of : List Placed → List (List Placed)
groups_of [] = []
groups_of (x ∷ l) = joined x (groups_of l)

-- "Let T be one more than the highest row that a group uses": the highest end.
unfoldable pub top_of : List Placed → ℕ
top_of [] = 0
top_of (x ∷ g) = max (end_of x) (top_of g)

-- "A component of height h and start s takes rows s to s+h−1."
abbrev pub takes : Placed → ℕ → Bool
takes x r = leb (start_of x) r && ltb r (end_of x)

-- "the sum of the widths lying in that row"
unfoldable pub row_sum : List Placed → ℕ → ℕ
row_sum [] r = 0
row_sum (x ∷ g) r = cond (takes x r) (width_of x) 0 + row_sum g r

-- The greatest of f 0, f 1, .., f (n - 1).
unfoldable pub greatest : (ℕ → ℕ) → ℕ → ℕ
greatest f zero = 0
greatest f (suc n) = max (greatest f n) (f n)

-- "Group width: over the rows 0 to T−1, the greatest sum of the widths lying in that row."
abbrev pub group_width : List Placed → ℕ
group_width g = greatest (row_sum g) (top_of g)

-- "g1 that of its last component"
unfoldable pub last_gap : List Placed → ℕ
last_gap [] = 0
last_gap (x ∷ []) = gap_of x
last_gap (x ∷ y ∷ g) = last_gap (y ∷ g)

-- A group has a fold where it has a right side. The fold is after the last component on the left, Ck.
unfoldable pub folded : List Placed → Bool
folded [] = Bool.false
folded (x ∷ g) = cond (left x) (folded g) Bool.true

unfoldable pub fold_gap : List Placed → ℕ
fold_gap [] = 0
fold_gap (x ∷ []) = gap_of x
fold_gap (x ∷ y ∷ g) = cond (left y) (fold_gap (y ∷ g)) (gap_of x)

-- "Group height: T+g0+g1 without a fold; with a fold after component k, T, plus the larger of g0 and g1, plus the gap of
-- Ck."
abbrev pub group_height : ℕ → List Placed → ℕ
group_height g0 g = cond (folded g) (top_of g + max g0 (last_gap g) + fold_gap g) (top_of g + g0 + last_gap g)

-- "Layout width is the sum of the group widths."
unfoldable pub layout_width : List (List Placed) → ℕ
layout_width [] = 0
layout_width (g ∷ gs) = group_width g + layout_width gs

-- "Layout height is the greatest group height"; g0, "the gap of the component just before the group", is the last gap of
-- the group before.
unfoldable pub layout_height : ℕ → List (List Placed) → ℕ
layout_height g0 [] = 0
layout_height g0 (g ∷ gs) = max (group_height g0 g) (layout_height (last_gap g) gs)

-- "The outline is these two numbers"; "g0 is 0 for the first group".
abbrev pub width_in : List Placed → ℕ
width_in l = layout_width (groups_of l)

abbrev pub height_in : List Placed → ℕ
height_in l = layout_height 0 (groups_of l)

abbrev pub outline_of : List Component → List Placement → Outline
outline_of cs ps = record { width = record { 0 = width_in (placed_of cs ps) }; height = record { 0 = height_in (placed_of cs ps) } }
