-- The numbers of ticket 4.
use Rattle.std.specs.Prelude.{ℕ}

-- "no cells or over 60,000"
abbrev pub most_in_row : ℕ
most_in_row = 60000

-- "Limits are 1 to 240,000,000". No stack is higher, and no row has more cells.
abbrev pub most_row_limit : ℕ
most_row_limit = 240000000
