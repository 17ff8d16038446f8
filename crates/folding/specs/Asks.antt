-- A folding in columns: what the crates that measure ask and promise one another. The columns of a stack are its heights, its
-- widths and its seams; beside them stands a list of placements. Nothing here is part of a public promise.
use Rattle.std.specs.Prelude.{ℕ, ◌+◌, ◌≤◌, ◌<◌, ◌≡◌, List, true, length, get_or}
use Rattle.terms.specs.Numbers.{most_apart}
use Rattle.terms.specs.declared.Kind.{Kind}
use Rattle.terms.specs.Component.{tabulate}
use Rattle.terms.specs.Seams.{component_in}
use Rattle.folding.specs.declared.Placed.{Placed}
use Rattle.folding.specs.declared.Placement.{Placement}
use Rattle.folding.specs.declared.Outline.{Outline}
use Rattle.folding.specs.Legal.{legal}
use Rattle.folding.specs.Placement.{none}
use Rattle.folding.specs.Outline.{width_in, height_in}

-- A stack in columns, with its placements.
abbrev pub placed_at : List ℕ → List ℕ → List ℕ → List Placement → ℕ → Placed
placed_at hs ws seams ps i = record { component = component_in hs ws seams i; placement = get_or ps i none }

abbrev pub placed_in : List ℕ → List ℕ → List ℕ → List Placement → List Placed
placed_in hs ws seams ps = tabulate (placed_at hs ws seams ps) (length hs)

abbrev pub group_at : List Placement → ℕ → ℕ
group_at ps i = (get_or ps i none).group

abbrev pub side_at : List Placement → ℕ → ℕ
side_at ps i = (get_or ps i none).side

abbrev pub start_at : List Placement → ℕ → ℕ
start_at ps i = (get_or ps i none).start

abbrev pub end_at : List ℕ → List Placement → ℕ → ℕ
end_at hs ps i = start_at ps i + get_or hs i 0

-- The columns are as long as one another, and there are as many placements, or more.
pub record Listed (hs ws seams : List ℕ) (ps : List Placement) : Type 0 where
  pub few : length hs ≤ most_apart
  pub widths_long : length ws ≡ length hs
  pub seams_long : length seams ≡ length hs
  pub placed : length hs ≤ length ps

abbrev pub outline_in : List Placed → Outline
outline_in l = record { width = record { 0 = width_in l }; height = record { 0 = height_in l } }

-- The columns of a stack.
pub record StackIn (hs ws seams : List ℕ) : Type 0 where
  pub some : 0 < length hs
  pub few : length hs ≤ most_apart
  pub widths_long : length ws ≡ length hs
  pub seams_long : length seams ≡ length hs
  pub tall : (i : ℕ) → i < length hs → 0 < get_or hs i 0

-- A stack in columns with a legal folding.
pub record Legalised (hs ws seams : List ℕ) (ps : List Placement) : Type 0 where
  pub stack : StackIn hs ws seams
  pub placed : length hs ≤ length ps
  pub is_legal : (kind : Kind) × (legal kind (placed_in hs ws seams ps) ≡ true)
