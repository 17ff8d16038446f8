-- Which foldings are legal (document 01, "Foldings"; tickets 3 and 5): "when all numbers are in these ranges and" each of the
-- rules below holds.
use Rattle.std.specs.Prelude.{ℕ, ◌+◌, ◌≡◌, List, [], ◌∷◌, Bool, true, not, cond, ◌&&◌, ◌||◌, length, leb, eqb}
use Rattle.terms.specs.declared.Component.{Component}
use Rattle.terms.specs.declared.Kind.{Kind}
use Rattle.terms.specs.declared.Kind.TheVariants.{Apart, Nested}
use Rattle.terms.specs.Component.{barred}
use Rattle.folding.specs.declared.Placed.{Placed}
use Rattle.folding.specs.declared.Placement.{Placement}
use Rattle.folding.specs.Placement.{group_of, start_of, end_of, left, placed_of}

-- A rule of single components, and a rule of each component and the one after it.
unfoldable pub each : (Placed → Bool) → List Placed → Bool
each rule [] = true
each rule (x ∷ l) = rule x && each rule l

unfoldable pub each_pair : (Placed → Placed → Bool) → List Placed → Bool
each_pair rule [] = true
each_pair rule (x ∷ []) = true
each_pair rule (x ∷ y ∷ l) = rule x y && each_pair rule (y ∷ l)

-- The ranges: "side (0 left, 1 right), start row (0 to 1,024,000)". Every number is a group number "from 0".
abbrev pub most_start : ℕ
most_start = 1024000

abbrev pub in_range : Placed → Bool
in_range x = leb x.placement.side 1 && leb (start_of x) most_start

abbrev pub same_group : Placed → Placed → Bool
same_group x y = eqb (group_of y) (group_of x)

-- "Groups appear in order 0, 1, 2 and so on, each a run of consecutive components": the first is in group 0, and each is in
-- the group of the one before it or in the next.
abbrev pub from_zero : List Placed → Bool
from_zero [] = true
from_zero (x ∷ l) = eqb (group_of x) 0

abbrev pub in_order : Placed → Placed → Bool
in_order x y = same_group x y || eqb (group_of y) (group_of x + 1)

-- "In a group the left components come first, at least one; the right components follow, if any": the first of a group is
-- on the left, and in a group none on the left follows one on the right.
abbrev pub from_left : List Placed → Bool
from_left [] = true
from_left (x ∷ l) = left x

abbrev pub left_first : Placed → Placed → Bool
left_first x y = cond (same_group x y) (left x || not (left y)) (left y)

-- "On the left of a group, each component but the last left one starts at or above the end of the component after it."
abbrev pub left_clear : Placed → Placed → Bool
left_clear x y = not (same_group x y && left x && left y) || leb (end_of y) (start_of x)

-- "On the right, each but the first right one starts at or above the end of the component before it."
abbrev pub right_clear : Placed → Placed → Bool
right_clear x y = not (same_group x y && not (left x) && not (left y)) || leb (end_of x) (start_of y)

-- "In an apart folding no component is on the right. In a nested folding both sides may be used."
abbrev pub on_side : Kind → Placed → Bool
on_side Apart x = left x
on_side Nested x = true

abbrev pub same_side : Placed → Placed → Bool
same_side x y = eqb y.placement.side x.placement.side

-- Ticket 3: "Where a mark is 1, the component and its successor have the same group and side".
abbrev pub unparted : Placed → Placed → Bool
unparted x y = not (barred x.component) || (same_group x y && same_side x y)

-- Ticket 5: "in a nested folding a group without a right side may stand only last": where the group changes, the earlier of the
-- two is on the right.
abbrev pub turned : Kind → Placed → Placed → Bool
turned Apart x y = true
turned Nested x y = same_group x y || not (left x)

unfoldable pub legal : Kind → List Placed → Bool
legal kind l =
    each in_range l
    && (from_zero l && each_pair in_order l)
    && (from_left l && each_pair left_first l)
    && each_pair left_clear l
    && each_pair right_clear l
    && each (on_side kind) l
    && each_pair unparted l
    && each_pair (turned kind) l

-- A folding of a stack: a placement for each component, and legal.
pub record Legal (kind : Kind) (cs : List Component) (ps : List Placement) : Type 0 where
  pub whole : length ps ≡ length cs
  pub rules : legal kind (placed_of cs ps) ≡ true
