-- What a layout knows of groups, over any kind of component, and which layouts of groups there are.
-- Nothing here is part of a public promise: `proofs/` shows what it comes to.
use Rattle.std.specs.Prelude.{ℕ, ◌+◌, max, ◌≡◌, List, [], ◌∷◌, ◌++◌, Bool, true, false}

-- A number over all widths and heights, and over every limit that a call takes: there is none.
abbrev pub none : ℕ
none = 4000000

-- Nothing follows: the group before stands last.
abbrev pub is_end : {C : Type 0} → List C → Bool
is_end [] = true
is_end (c ∷ cs) = false

-- A number of the last one, such as the gap behind it.
unfoldable pub gap_behind : {C : Type 0} → (C → ℕ) → List C → ℕ
gap_behind gap [] = 0
gap_behind gap (x ∷ []) = gap x
gap_behind gap (x ∷ y ∷ l) = gap_behind gap (y ∷ l)

-- A model of groups: the gap of a component; and for a height limit, the gap before a group, whether it stands last, and its
-- components: the least width of such a group that keeps the limit, `none` where there is none, and the least height at that
-- width.
pub record Model (C : Type 0) : Type 0 where
  pub gap : C → ℕ
  pub width : ℕ → ℕ → Bool → List C → ℕ
  pub height : ℕ → ℕ → Bool → List C → ℕ

-- Which groups may stand where: `Allowed m g0 last cs w h` where the components cs can be the group numbered m, behind a gap
-- of g0, last or not, with the width w and the height h.
abbrev pub Rule : Type 0 → Type 1
Rule C = ℕ → ℕ → Bool → List C → ℕ → ℕ → Type 0

-- A group that stands, and a layout, which is a list of them: as wide as all together, as high as the highest.
pub record Group (C : Type 0) : Type 0 where
  pub members : List C
  pub width : ℕ
  pub height : ℕ

abbrev pub members_of : {C : Type 0} → List (Group C) → List C
members_of [] = []
members_of (g ∷ gs) = g.members ++ members_of gs

abbrev pub width_of : {C : Type 0} → List (Group C) → ℕ
width_of [] = 0
width_of (g ∷ gs) = g.width + width_of gs

abbrev pub height_of : {C : Type 0} → List (Group C) → ℕ
height_of [] = 0
height_of (g ∷ gs) = max g.height (height_of gs)

-- Each group may stand where it stands; m is the number of the first. No group is empty, so one behind which no component
-- is left stands last.
abbrev pub Stands : {C : Type 0} → (C → ℕ) → Rule C → ℕ → ℕ → List (Group C) → Type 0
Stands gap Allowed m g0 [] = Unit {0}
Stands gap Allowed m g0 (g ∷ gs) =
    Allowed m g0 (is_end (members_of gs)) g.members g.width g.height × Stands gap Allowed (m + 1) (gap_behind gap g.members) gs

-- A layout of a stack.
pub record LayoutOf {C : Type 0} (gap : C → ℕ) (Allowed : Rule C) (cs : List C) (gs : List (Group C)) : Type 0 where
  pub stands : Stands gap Allowed 0 0 gs
  pub holds : members_of gs ≡ cs
