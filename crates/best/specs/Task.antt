-- What a search is for: how a stack is folded, its components, and the length of the work buffer.
use Rattle.std.specs.Prelude.{ℕ, List}
use Rattle.terms.specs.declared.Component.{Component}
use Rattle.terms.specs.declared.Kind.{Kind}

pub record Task : Type 0 where
  pub kind : Kind
  pub components : List Component
  pub room : ℕ
