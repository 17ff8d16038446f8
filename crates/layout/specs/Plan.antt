-- A plan: the best layouts of a stack and of all that is left of it.
use Rattle.std.specs.Prelude.{ℕ, ◌≤◌, ◌<◌, ◌≡◌, List, Option, Some, None, cond, ltb, map, length, get_or}
use Rattle.terms.specs.Numbers.{most_size}
use Rattle.terms.specs.declared.Component.{Component}
use Rattle.terms.specs.declared.Kind.{Kind}
use Rattle.terms.specs.Component.{most_of}
use Rattle.terms.specs.Seams.{gap_at}
use Rattle.folding.specs.declared.Outline.{Outline}
use Rattle.group.specs.Group.{none}
use Rattle.layout.specs.declared.Entry.{Entry}
use Rattle.layout.specs.Layout.{Layout, unmet, layouts}
use Rattle.layout.specs.Table.{outline}

-- The columns of a stack, or of what is left of one, which are called hs, ws and gs throughout: as many widths and seams as
-- heights, no more than the kind takes, and each number in its range.
pub record StackLists (kind : Kind) (hs ws gs : List ℕ) : Type 0 where
  pub same_widths : length ws ≡ length hs
  pub same_seams : length gs ≡ length hs
  pub few : length hs ≤ most_of kind
  pub tall : (i : ℕ) → i < length hs → 1 ≤ get_or hs i 0
  pub low : (i : ℕ) → get_or hs i 0 ≤ most_size
  pub wide : (i : ℕ) → i < length hs → 1 ≤ get_or ws i 0
  pub slim : (i : ℕ) → get_or ws i 0 ≤ most_size
  pub near : (i : ℕ) → gap_at gs i ≤ most_size

-- An entry of a plan as a layout.
abbrev pub layout_in : Entry → Layout
layout_in b = record { width = b.width.0; height = b.height.0; end = b.end }

-- The outline of a layout. A width of `none` or more says that there is none.
abbrev pub outline_in : Layout → Option Outline
outline_in l = cond (ltb l.width none) (Some (outline l.width l.height)) None

-- The entry with j components before it.
pub record PlannedAt (l : Layout) (width height end : ℕ) : Type 0 where
  pub width_is : width ≡ l.width
  pub height_is : height ≡ l.height
  pub end_is : end ≡ l.end

pub record Planned (kind : Kind) (limit g0 : ℕ) (cs : List Component) (widths heights ends : List ℕ) : Type 0 where
  pub at : (j : ℕ) → j ≤ length cs → PlannedAt (get_or (layouts kind limit g0 cs) j unmet) (get_or widths j 0) (get_or heights j 0) (get_or ends j 0)

-- A plan as calls hand it on: an entry for each number of components before it. Its widths, its heights and its ends are
-- what the laws speak of.
abbrev pub plan_widths : List Entry → List ℕ
plan_widths = map (λ b. b.width.0)

abbrev pub plan_heights : List Entry → List ℕ
plan_heights = map (λ b. b.height.0)

abbrev pub plan_ends : List Entry → List ℕ
plan_ends = map (λ b. b.end)

-- What is said of a plan's widths, heights and ends; and of its widths and heights.
abbrev pub lists {ℓ} : {A : Type ℓ} → List Entry → (List ℕ → List ℕ → List ℕ → A) → A
lists plan f = f (plan_widths plan) (plan_heights plan) (plan_ends plan)

abbrev pub extents {ℓ} : {A : Type ℓ} → List Entry → (List ℕ → List ℕ → A) → A
extents plan f = f (plan_widths plan) (plan_heights plan)
