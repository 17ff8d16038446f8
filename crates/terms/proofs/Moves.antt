-- A position inside a stack moves on by one.
use Prim.Native.Nat.{ℕ, ◌+◌, ◌<◌}
use mathlib.Core.Path.{◌≡◌}
use borrow.Author.Tests.{lt-ltb}
use Rattle.terms.specs.Position.{next_of}

pub moves : (before : ℕ) → before < 256 → next_of before ≡ before + 1
moves before h = rw (lt-ltb before 256 h)
