-- The columns of a stack that is handed on inside a call: its heights, its widths and its seams. A seam is what stands behind
-- a component, in one number: twice its gap, and one more where a fold is barred.
-- Nothing here is part of a public promise: `columns` in `proofs/Lists.antt` says that nothing is lost.
use Rattle.std.specs.Prelude.{ℕ, ◌+◌, ◌*◌, ◌/◌, ◌%◌, List, Bool, length, get_or, eqb}
use Rattle.terms.specs.declared.Component.{Component}
use Rattle.terms.specs.Component.{tabulate}

abbrev pub seam_of : Component → ℕ
seam_of c = 2 * c.gap.0 + c.mark

abbrev pub gap_at : List ℕ → ℕ → ℕ
gap_at seams i = get_or seams i 0 / 2

abbrev pub mark_at : List ℕ → ℕ → ℕ
mark_at seams i = get_or seams i 0 % 2

abbrev pub barred_at : List ℕ → ℕ → Bool
barred_at seams i = eqb (mark_at seams i) 1

abbrev pub component_in : List ℕ → List ℕ → List ℕ → ℕ → Component
component_in heights widths seams i = record {
  height = record { 0 = get_or heights i 0 };
  width = record { 0 = get_or widths i 0 };
  gap = record { 0 = gap_at seams i };
  mark = mark_at seams i;
}

abbrev pub components_in : List ℕ → List ℕ → List ℕ → List Component
components_in heights widths seams = tabulate (component_in heights widths seams) (length heights)
