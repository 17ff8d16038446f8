-- What a search for the best folding within a height must show, whatever a folding is. Best for a height, best for a width,
-- unmeetable, the smallest area and the outline table follow from it.
use Rattle.std.specs.Prelude.{ℕ, ◌≤◌, ◌<◌, ◌≡◌}
use Rattle.terms.specs.Numbers.{most_limit}
use Rattle.folding.specs.declared.Outline.{Outline}
use Rattle.model.specs.Groups.{none}
use Rattle.model.specs.Layout.{Layout, NoWorse}
use Rattle.model.specs.Outlines.{outline_by}

pub record Search {F : Type 0} (Legal : F → Type 0) (outline_of : F → Outline) (best : ℕ → Layout) : Type 0 where
  -- Every legal folding within the limit is wider than the best, or as wide and at least as high; and there is a best.
  pub every : (limit : ℕ) (f : F) → Legal f → (outline_of f).height.0 ≤ limit
      → NoWorse (best limit) (outline_of f).width.0 (outline_of f).height.0 × ((best limit).width < none)
  -- Where there is a best, a legal folding has its outline, and that keeps the limit.
  pub some : (limit : ℕ) → (best limit).width < none → (f : F) × Legal f × (outline_of f ≡ outline_by (best limit))
  pub keeps : (limit : ℕ) → (best limit).width < none → (best limit).height ≤ limit
  -- A legal folding is 1 to 2,000,000 high.
  pub high : (f : F) → Legal f → 0 < (outline_of f).height.0
  pub low : (f : F) → Legal f → (outline_of f).height.0 ≤ most_limit
