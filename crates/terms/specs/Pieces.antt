-- How a stack that was checked is handed on inside a call: a list of its components, each number in 16 bits. Its columns are
-- what the search speaks of. Nothing here is part of a public promise: `unpacked` in `proofs/Pieces.antt` says that nothing is
-- lost.
use Rattle.std.specs.Prelude.{ℕ, ◌+◌, ◌*◌, List, Bool, true, false, map}
use Rattle.terms.specs.declared.Component.{Component}
use Rattle.terms.specs.declared.Piece.{Piece}
use Rattle.terms.specs.Component.{barred}
use Rattle.terms.specs.Seams.{components_in}

abbrev pub mark_of : Bool → ℕ
mark_of true = 1
mark_of false = 0

abbrev pub piece_of : Component → Piece
piece_of c = record { height = c.height.0; width = c.width.0; gap = c.gap.0; barred = barred c }

abbrev pub component_of : Piece → Component
component_of p = record {
  height = record { 0 = p.height };
  width = record { 0 = p.width };
  gap = record { 0 = p.gap };
  mark = mark_of p.barred;
}

abbrev pub heights_in : List Piece → List ℕ
heights_in = map (λ p. p.height)

abbrev pub widths_in : List Piece → List ℕ
widths_in = map (λ p. p.width)

abbrev pub seams_in : List Piece → List ℕ
seams_in = map (λ p. 2 * p.gap + mark_of p.barred)

-- What is said of a stack's heights, widths and seams; and of its heights and widths.
abbrev pub columns {ℓ} : {A : Type ℓ} → List Piece → (List ℕ → List ℕ → List ℕ → A) → A
columns s f = f (heights_in s) (widths_in s) (seams_in s)

abbrev pub sizes {ℓ} : {A : Type ℓ} → List Piece → (List ℕ → List ℕ → A) → A
sizes s f = f (heights_in s) (widths_in s)

-- The components of a stack.
abbrev pub stack_in : List Piece → List Component
stack_in s = columns s components_in
