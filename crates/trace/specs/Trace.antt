-- Tracing back the best layout that a plan holds, of which the trace reads the widths and the ends. Nothing here is part of
-- a public promise.
use Rattle.std.specs.Prelude.{ℕ, ◌+◌, ◌*◌, ◌≤◌, ◌<◌, ◌≡◌, List, ◌++◌, Bool, length, drop}
use Rattle.numbers.specs.Table.{cells}
use Rattle.terms.specs.Numbers.{most_size, most_apart, most_nested}
use Rattle.terms.specs.declared.Component.{Component}
use Rattle.terms.specs.declared.Kind.{Kind}
use Rattle.terms.specs.Seams.{components_in}
use Rattle.folding.specs.Placement.{placements_of}
use Rattle.group.specs.Group.{none, may_stand, FoldPoint, group_places, SomeWay}
use Rattle.group.specs.Table.{Filled, bare}
use Rattle.folding.specs.Placement.{flat_of}
use Rattle.layout.specs.Layout.{layout_of}
use Rattle.layout.specs.Plan.{StackLists, Planned}
use Rattle.layout.proofs.Folds.{Folds}

-- One group, last or not: its columns and the gap before it. It may stand there in some way.
pub record GroupAsks (kind : Kind) (last : Bool) (g0 : ℕ) (hs ws gs work : List ℕ) : Type 0 where
  pub lists : StackLists kind hs ws gs
  pub some : 0 < length hs
  pub way : SomeWay (may_stand kind last) (components_in hs ws gs)
  pub before : g0 ≤ most_size
  pub work_room : cells ≤ length work

-- Its fold, and the table where it has one.
pub record FoldFound (kind : Kind) (last : Bool) (g0 cap : ℕ) (hs ws gs work : List ℕ) (p : ℕ) : Type 0 where
  pub point : FoldPoint kind last g0 (components_in hs ws gs) cap p
  pub table : p < length hs → (length hs ≤ most_nested) × Filled hs ws work cap

pub record GroupPut (kind : Kind) (last : Bool) (group g0 cap : ℕ) (hs ws gs old new : List ℕ) : Type 0 where
  pub at : ℕ
  pub point : FoldPoint kind last g0 (components_in hs ws gs) cap at
  pub holds : new ≡ flat_of (group_places cap (bare hs ws) group at) ++ drop (3 * length hs) old

-- The columns of a plan hold the best layouts for the limit, and that of the whole keeps it.
pub record Met (kind : Kind) (limit g0 : ℕ) (cs : List Component) (widths heights ends : List ℕ) : Type 0 where
  pub planned : Planned kind limit g0 cs widths heights ends
  pub met : (layout_of kind limit g0 cs).width < none

-- The limit and the heights were needed to find the layouts; the trace does not look at them.
pub record TraceAsks (kind : Kind) (group g0 : ℕ) (hs ws gs widths ends out work : List ℕ) : Type 0 where
  pub lists : StackLists kind hs ws gs
  pub before : g0 ≤ most_size
  pub number : group + length hs ≤ most_apart
  pub widths_long : length hs < length widths
  pub ends_long : length hs < length ends
  pub room : 3 * length hs ≤ length out
  pub work_room : cells ≤ length work
  pub limit : ℕ
  pub heights : List ℕ
  pub plan : Met kind limit g0 (components_in hs ws gs) widths heights ends

pub record Traced (kind : Kind) (group g0 : ℕ) (cs : List Component) (widths ends old new : List ℕ) : Type 0 where
  pub folds : (limit : ℕ) (heights : List ℕ) → Met kind limit g0 cs widths heights ends
      → Folds kind group g0 cs (placements_of new (length cs)) (layout_of kind limit g0 cs).width (layout_of kind limit g0 cs).height
  pub beyond : drop (3 * length cs) new ≡ drop (3 * length cs) old
  pub long : length new ≡ length old
