-- A reading position (document 01, "Components and stack files").
use Rattle.std.specs.Prelude.{ℕ, ◌+◌, cond, ltb}
use Rattle.terms.specs.Numbers.{most_apart}

-- "a position moves on by one component and becomes the next position": the number of components before it.
-- No stack has more than 256, and the position behind the 256th is the last.
abbrev pub next_of : ℕ → ℕ
next_of before = cond (ltb before most_apart) (before + 1) before
