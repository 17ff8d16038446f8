-- A group as its columns.
use Rattle.std.specs.Prelude.{ℕ, List}
use Rattle.terms.specs.Pieces.{heights_in, columns, sizes}
use Rattle.folding.specs.declared.Placement.{Placement}
use Rattle.folding.specs.Placement.{placements_in}
use Rattle.outline.specs.declared.Group.{Group}

-- What is said of a group's columns and placements; of its heights, widths and placements; of its heights and placements.
abbrev pub with_columns {ℓ} : {A : Type ℓ} → Group → (List ℕ → List ℕ → List ℕ → List Placement → A) → A
with_columns g f = columns g.stack.now f (placements_in g.placements.now)

abbrev pub with_sizes {ℓ} : {A : Type ℓ} → Group → (List ℕ → List ℕ → List Placement → A) → A
with_sizes g f = sizes g.stack.now f (placements_in g.placements.now)

abbrev pub with_heights {ℓ} : {A : Type ℓ} → Group → (List ℕ → List Placement → A) → A
with_heights g f = f (heights_in g.stack.now) (placements_in g.placements.now)
