-- The outlines that lower and lower limits lead to: each limit is one below the height found last.
use Rattle.std.specs.Prelude.{ℕ, zero, suc, ◌-◌, List, [], ◌∷◌, true, false, ltb}
use Rattle.folding.specs.declared.Outline.{Outline}
use Rattle.model.specs.Groups.{none}
use Rattle.model.specs.Layout.{Layout}

abbrev pub outline : ℕ → ℕ → Outline
outline w h = record { width = record { 0 = w }; height = record { 0 = h } }

-- The outline of a layout.
abbrev pub outline_by : Layout → Outline
outline_by b = outline b.width b.height

-- `best` has the best layout for each limit. At most as many as the fuel says; heights fall, so fuel as great as the limit
-- leaves none out.
unfoldable pub outlines_by : (ℕ → Layout) → ℕ → ℕ → List Outline
outlines_by best zero limit = []
outlines_by best (suc fuel) limit =
    elim (ltb (best limit).width none) [
      | true ↦ outline_by (best limit) ∷ outlines_by best fuel ((best limit).height - 1)
      | false ↦ []
    ]
