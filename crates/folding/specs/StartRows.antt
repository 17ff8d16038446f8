-- Where a group is as wide as its width (document 02, ticket 2).
use Rattle.std.specs.Prelude.{ℕ, ◌≡◌, List, [], ◌∷◌, ◌++◌}
use Rattle.folding.specs.declared.Placed.{Placed}
use Rattle.folding.specs.Placement.{start_of}
use Rattle.folding.specs.Outline.{row_sum, group_width}

-- "a row where one of its components starts"
pub record StartRow (g : List Placed) (row : ℕ) : Type 0 where
  pub before : List Placed
  pub component : Placed
  pub behind : List Placed
  pub of_group : g ≡ before ++ (component ∷ behind)
  pub starts : start_of component ≡ row

-- "A group's greatest row sum always occurs at a row where one of its components starts."
pub record WidthAtStart (g : List Placed) : Type 0 where
  pub row : ℕ
  pub start : StartRow g row
  pub sum_is : row_sum g row ≡ group_width g

-- In every group of a folding.
abbrev pub AllAtStart : List (List Placed) → Type 0
AllAtStart [] = Unit {0}
AllAtStart (g ∷ gs) = WidthAtStart g × AllAtStart gs
