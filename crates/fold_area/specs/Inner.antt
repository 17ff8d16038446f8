-- What the functions inside this crate promise each other. Nothing here is part of a public promise.
use Rattle.std.specs.Prelude.{ℕ, ◌*◌, ◌≤◌, ◌<◌, List}
use Rattle.terms.specs.Numbers.{most_limit}
use Rattle.terms.specs.declared.Component.{Component}
use Rattle.terms.specs.declared.Kind.{Kind}
use Rattle.folding.specs.declared.Outline.{Outline}
use Rattle.folding.specs.declared.Placement.{Placement}
use Rattle.folding.specs.Legal.{Legal}
use Rattle.folding.specs.Outline.{outline_of}
use Rattle.folding.specs.Best.{area_of, Larger}
use Rattle.model.specs.Area.{Leads}
use Rattle.group.specs.Group.{none, widest}
use Rattle.layout.specs.Layout.{layout_of}
use Rattle.plan.specs.Asks.{best_at}

-- An outline to lead with: a layout within its height is no wider, and its area is at most that of the greatest height at the
-- width of the widest component.
pub record Lead (kind : Kind) (cs : List Component) (o : Outline) : Type 0 where
  pub wide : 0 < o.width.0
  pub slim : o.width.0 < none
  pub low : o.height.0 ≤ most_limit
  pub reached : (layout_of kind o.height.0 0 cs).width ≤ o.width.0
  pub small : area_of o ≤ widest cs * most_limit

-- The pass leads with the outline o, and no folding above the limit is smaller.
pub record Passing (kind : Kind) (cs : List Component) (o : Outline) (limit : ℕ) : Type 0 where
  pub lead : Lead kind cs o
  pub leads : Leads (Legal kind cs) (outline_of cs) (λ most. layout_of kind most 0 cs) o limit
  pub most : limit ≤ most_limit

-- The best layout within the height has the smallest area of all.
pub record SmallestFor (kind : Kind) (cs : List Component) (height : ℕ) : Type 0 where
  pub most : height ≤ most_limit
  pub met : (layout_of kind height 0 cs).width < none
  pub smallest : (other : List Placement) → Legal kind cs other → Larger (best_at kind height cs) (outline_of cs other)
