-- What is left of a stack, as it is asked.
use Rattle.std.specs.Prelude.{ℕ, List}
use Rattle.terms.specs.declared.Component.{Component}
use Rattle.terms.specs.declared.Kind.{Kind}
use Rattle.terms.specs.Pieces.{columns, stack_in}
use Rattle.plan.specs.declared.Left.{Left}

-- What is said of its columns; of its components.
abbrev pub with_columns {ℓ} : {A : Type ℓ} → Left → (Kind → ℕ → ℕ → List ℕ → List ℕ → List ℕ → A) → A
with_columns l f = columns l.stack.now (f l.ask.kind l.ask.limit.0 l.ask.before.0)

abbrev pub with_components {ℓ} : {A : Type ℓ} → Left → (Kind → ℕ → ℕ → List Component → A) → A
with_components l f = f l.ask.kind l.ask.limit.0 l.ask.before.0 (stack_in l.stack.now)
