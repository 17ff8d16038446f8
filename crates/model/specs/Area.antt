-- What one pass over falling limits keeps of the smallest area.
use Rattle.std.specs.Prelude.{ℕ, ◌-◌, ◌/◌, ◌≤◌, ◌<◌, Bool, cond, ◌&&◌, ◌||◌, leb, ltb, eqb}
use Rattle.folding.specs.declared.Outline.{Outline}
use Rattle.folding.specs.Best.{area_of, Larger}
use Rattle.model.specs.Layout.{Layout}

-- `Larger` as a test.
abbrev pub larger : Outline → Outline → Bool
larger o other = ltb (area_of o) (area_of other) || (eqb (area_of o) (area_of other) && leb o.width.0 other.width.0)

-- The one of smaller area; of equals the narrower.
abbrev pub smaller_of : Outline → Outline → Outline
smaller_of a b = cond (larger a b) a b

-- Nothing that is at least `least` wide and higher than this is smaller than o. Beside an o that is no wider than that, it
-- would need a smaller area, and no area is under that of the components' cells.
abbrev pub next_limit : Outline → ℕ → ℕ → ℕ
next_limit o least cells =
    cond (leb o.width.0 least)
    (cond (leb (area_of o) cells) 0 ((area_of o - 1) / least))
    (area_of o / least)

-- No folding above the limit is smaller than o. The height of o is limit enough for its width.
pub record Leads {F : Type 0} (Legal : F → Type 0) (outline_of : F → Outline) (best : ℕ → Layout) (o : Outline) (limit : ℕ) : Type 0 where
  pub wide : 0 < o.width.0
  pub above : (f : F) → Legal f → limit < (outline_of f).height.0 → Larger o (outline_of f)
  pub reached : (best o.height.0).width ≤ o.width.0
