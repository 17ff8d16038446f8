-- What the functions inside this crate promise each other. Nothing here is part of a public promise.
use Rattle.std.specs.Prelude.{ℕ, ◌+◌, ◌*◌, ◌≡◌, List, ◌++◌, length, drop, set}
use Rattle.stack_write.specs.File.{low, high, bytes_of}
use Rattle.stack_write.specs.Call.{entries_of}

-- The writer's lists are equally long.
pub record Lists (heights widths gaps marks : List ℕ) : Type 0 where
  pub widths_long : length widths ≡ length heights
  pub gaps_long : length gaps ≡ length heights
  pub marks_long : length marks ≡ length heights

-- A buffer that holds a number's two bytes at one place.
abbrev pub word_into : ℕ → ℕ → List ℕ → List ℕ
word_into at x old = set (set old at (low x)) (at + 1) (high x)

-- A buffer that holds the components' bytes, and behind them what it held.
abbrev pub body_into : List ℕ → List ℕ → List ℕ → List ℕ → List ℕ → List ℕ
body_into heights widths gaps marks old = bytes_of (entries_of heights widths gaps marks) ++ drop (8 * length heights) old
