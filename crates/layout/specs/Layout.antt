-- The best layout of a stack for a height: the recurrence of `model` over apart and nested groups.
-- Nothing here is part of a public promise: `proofs/` shows what it comes to against every legal folding.
use Rattle.std.specs.Prelude.{ℕ, List, Bool}
use Rattle.terms.specs.declared.Component.{Component}
use Rattle.terms.specs.declared.Kind.{Kind}
use Rattle.model.specs.Groups.{Model}
use Rattle.model.specs.Layout.{scan_by, layouts_by, candidate_for, layout_for}
use Rattle.group.specs.Rows.{gap}
use Rattle.group.specs.Group.{May, may_stand, least_height_by, least_width_by}
pub use Rattle.model.specs.Layout.{Layout, unmet, empty, better, choice}

-- Groups by a rule of standing, which may ask whether the group stands last.
abbrev pub groups_by : (Bool → May) → Model Component
groups_by may = record {
  gap = λ x. gap x;
  width = λ limit g0 last cs. least_width_by (may last) g0 cs limit;
  height = λ limit g0 last cs. least_height_by (may last) g0 cs (least_width_by (may last) g0 cs limit);
}

-- The groups of document 01, with tickets 3 and 5.
abbrev pub groups : Kind → Model Component
groups kind = groups_by (may_stand kind)

-- The parts of the recurrence, by the kind.
abbrev pub candidate : Kind → ℕ → ℕ → Bool → List Component → Layout → ℕ → Layout
candidate kind limit g0 last group rest k = candidate_for (groups kind) limit g0 last group rest k

abbrev pub scan : Kind → ℕ → ℕ → List Component → List Layout → ℕ → Layout
scan kind limit g0 cs later k = scan_by (candidate_for (groups kind) limit) g0 cs later k

abbrev pub layouts : Kind → ℕ → ℕ → List Component → List Layout
layouts kind limit g0 cs = layouts_by (λ x. gap x) (candidate_for (groups kind) limit) g0 cs

abbrev pub layout_of : Kind → ℕ → ℕ → List Component → Layout
layout_of kind limit g0 cs = layout_for (groups kind) limit g0 cs
