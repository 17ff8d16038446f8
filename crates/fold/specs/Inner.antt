-- What the functions inside this crate promise each other. Nothing here is part of a public promise.
use Rattle.std.specs.Prelude.{ℕ, ◌+◌, ◌≤◌, ◌<◌, ◌≡◌, List, true, length}
use Rattle.terms.specs.Numbers.{most_limit}
use Rattle.terms.specs.declared.Component.{Component}
use Rattle.terms.specs.declared.Kind.{Kind}
use Rattle.terms.specs.declared.Piece.{Piece}
use Rattle.terms.specs.Pieces.{columns, stack_in}
use Rattle.group.specs.Group.{unbarred}
use Rattle.layout.specs.Layout.{layout_of}
use Rattle.layout.specs.Plan.{StackLists}
use Rattle.layout.proofs.Groups.{Stacked}
use Rattle.best.specs.Task.{Task}

-- A stack that was read.
pub record Read (kind : Kind) (s : List Piece) : Type 0 where
  pub some : 0 < length s
  pub lists : columns s (StackLists kind)
  pub free : unbarred (stack_in s) ≡ true

-- The least height for which the best layout is at most w wide.
pub record LeastFor (kind : Kind) (cs : List Component) (w limit : ℕ) : Type 0 where
  pub most : limit ≤ most_limit
  pub within : (layout_of kind limit 0 cs).width ≤ w
  pub below : (k : ℕ) → limit ≡ k + 1 → w < (layout_of kind k 0 cs).width

-- It lies between lo and hi.
pub record Between (kind : Kind) (cs : List Component) (w lo hi : ℕ) : Type 0 where
  pub order : lo ≤ hi
  pub most : hi ≤ most_limit
  pub within : (layout_of kind hi 0 cs).width ≤ w
  pub below : (k : ℕ) → lo ≡ k + 1 → w < (layout_of kind k 0 cs).width

-- What the search for it asks: a stack, and a height for which the best layout is narrow enough.
pub record LeastAsks (t : Task) (w top : ℕ) : Type 0 where
  pub stacked : Stacked t.components
  pub w_most : w ≤ most_limit
  pub between : Between t.kind t.components w 1 top
