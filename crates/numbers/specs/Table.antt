-- The table of a group in a lent buffer.
use Rattle.std.specs.Prelude.{ℕ, ◌+◌, ◌*◌}
use Rattle.terms.specs.Numbers.{most_nested}

-- A group that has a fold has at most 64 components, so a row of its table has 65 entries, and there are as many rows.
abbrev pub stride : ℕ
stride = most_nested + 1

abbrev pub cells : ℕ
cells = stride * stride
