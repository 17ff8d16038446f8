-- The outlines that lower and lower limits lead to: each limit is one below the height found last.
use Rattle.std.specs.Prelude.{ℕ, List}
use Rattle.terms.specs.declared.Component.{Component}
use Rattle.terms.specs.declared.Kind.{Kind}
use Rattle.folding.specs.declared.Outline.{Outline}
use Rattle.model.specs.Outlines.{outlines_by}
use Rattle.layout.specs.Layout.{layout_of}
pub use Rattle.model.specs.Outlines.{outline}

abbrev pub outlines : Kind → List Component → ℕ → ℕ → List Outline
outlines kind cs fuel limit = outlines_by (λ lim. layout_of kind lim 0 cs) fuel limit
