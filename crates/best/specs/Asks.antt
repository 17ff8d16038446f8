-- What the functions of this crate ask and promise.
use Rattle.std.specs.Prelude.{ℕ, ◌*◌, ◌≤◌, ◌<◌, ◌≡◌, List, length, drop, true}
use Rattle.terms.specs.Numbers.{most_size, most_apart, most_limit}
use Rattle.terms.specs.declared.Component.{Component}
use Rattle.terms.specs.declared.Kind.{Kind}
use Rattle.terms.specs.Answer.{Answer, refusal, result}
use Rattle.terms.specs.Component.{cell_sum, tallest}
use Rattle.terms.specs.Seams.{components_in}
use Rattle.folding.specs.declared.Outline.{Outline}
use Rattle.folding.specs.Placement.{placements_of}
use Rattle.group.specs.Group.{none, unbarred, widest, flat_height}
use Rattle.layout.specs.Layout.{layout_of}
use Rattle.layout.proofs.Folds.{Folds}
use Rattle.layout.specs.Plan.{StackLists}
use Rattle.plan.specs.Asks.{Plannable, plan_room, best_at}
use Rattle.best.specs.declared.Cells.{Cells}
use Rattle.best.specs.declared.Flat.{Flat}

-- A stack with room in a work buffer to plan it.
pub record Room (kind : Kind) (hs ws gs work : List ℕ) : Type 0 where
  pub lists : StackLists kind hs ws gs
  pub some : 0 < length hs
  pub free : unbarred (components_in hs ws gs) ≡ true
  pub room : plan_room kind ≤ length work

-- A stack with room to plan it and for its placements.
abbrev pub Foldable : Kind → ℕ → List ℕ → List ℕ → List ℕ → List ℕ → List ℕ → Type 0
Foldable kind limit hs ws gs out work = Plannable kind hs ws gs work × (limit ≤ most_limit) × (3 * length hs ≤ length out)

-- A folding with the outline of the best layout for the limit is written where there is one.
abbrev pub Written : Kind → List Component → ℕ → List ℕ → List ℕ → Answer Outline → Type 0
Written kind cs limit out out' (refusal k) = (k ≡ 9) × (none ≤ (layout_of kind limit 0 cs).width) × (out' ≡ out)
Written kind cs limit out out' (result o) =
    (o ≡ best_at kind limit cs) × ((layout_of kind limit 0 cs).width < none)
    × Folds kind 0 0 cs (placements_of out' (length cs)) (layout_of kind limit 0 cs).width (layout_of kind limit 0 cs).height
    × (drop (3 * length cs) out' ≡ drop (3 * length cs) out) × (length out' ≡ length out)

-- No stack has more cells in its components.
abbrev pub most_cells : ℕ
most_cells = most_apart * most_size * most_size

pub record CellsOf (cs : List Component) (r : Cells) : Type 0 where
  pub count_is : r.count ≡ cell_sum cs
  pub tallest_is : r.tallest.0 ≡ tallest cs
  pub most : r.count ≤ most_cells

-- A stack without a fold.
pub record Unfolded (cs : List Component) (f : Flat) : Type 0 where
  pub widest_is : f.widest.0 ≡ widest cs
  pub tallest_is : f.tallest.0 ≡ tallest cs
  pub height_is : f.height.0 ≡ flat_height 0 cs
  pub low : f.height.0 ≤ most_limit
  pub cells_is : f.cells ≡ cell_sum cs
  pub cells_most : f.cells ≤ most_cells
