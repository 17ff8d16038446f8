-- What must hold of a model of groups. `Allowed` says which groups may stand where, `Good` what is known of components.
use Rattle.std.specs.Prelude.{ℕ, ◌*◌, ◌≤◌, ◌<◌, ◌≡◌, ◌⊎◌, List, ◌++◌, Bool, length}
use Rattle.terms.specs.Numbers.{most_size, most_apart, most_limit}
use Rattle.model.specs.Groups.{none, gap_behind, Model, Rule}

pub record Laws {C : Type 0} (model : Model C) (Good : List C → Type 0) (Allowed : Rule C) : Type 0 where
  -- What is known of components is known of each part of them; there are not too many of them, and no gap is over 4,000.
  pub parts : (a b : List C) → Good (a ++ b) → Good a × Good b
  pub few : (cs : List C) → Good cs → length cs ≤ most_apart
  pub near : (cs : List C) → Good cs → gap_behind model.gap cs ≤ most_size
  -- No group is empty, and none is wider than 4,000 for each component, so that no layout is as wide as `none`.
  pub some : (m g0 : ℕ) (last : Bool) (cs : List C) (w h : ℕ) → Allowed m g0 last cs w h → 0 < length cs
  pub slim : (m g0 : ℕ) (last : Bool) (cs : List C) (w h : ℕ) → Good cs → Allowed m g0 last cs w h → w ≤ most_size * length cs
  -- A group is 1 to 2,000,000 high.
  pub high : (m g0 : ℕ) (last : Bool) (cs : List C) (w h : ℕ) → Good cs → Allowed m g0 last cs w h → 0 < h
  pub low : (m g0 : ℕ) (last : Bool) (cs : List C) (w h : ℕ) → Good cs → g0 ≤ most_size → Allowed m g0 last cs w h → h ≤ most_limit
  -- Nothing better: every group that may stand there and keeps the limit is wider, or as wide and at least as high.
  pub no_better : (m g0 : ℕ) (last : Bool) (cs : List C) (w h : ℕ) → Good cs → Allowed m g0 last cs w h → (limit : ℕ) → h ≤ limit
      → (model.width limit g0 last cs < w) ⊎ ((model.width limit g0 last cs ≡ w) × (model.height limit g0 last cs ≤ h))
  -- Reached: where there is a width, a group with it may stand there, and it keeps the limit.
  pub reached : (m g0 : ℕ) (last : Bool) (cs : List C) → 0 < length cs → Good cs → (limit : ℕ) → model.width limit g0 last cs < none
      → Allowed m g0 last cs (model.width limit g0 last cs) (model.height limit g0 last cs)
  pub keeps : (g0 : ℕ) (last : Bool) (cs : List C) (limit : ℕ) → model.width limit g0 last cs < none → model.height limit g0 last cs ≤ limit
