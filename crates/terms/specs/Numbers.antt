-- The numbers of document 01 that more than one definition uses.
use Rattle.std.specs.Prelude.{ℕ}

-- "Height and width are 1 to 4,000, a gap is 0 to 4,000."
abbrev pub most_size : ℕ
most_size = 4000

-- Stack size: "n is 0 or over 256; in a nested call over 64".
abbrev pub most_apart : ℕ
most_apart = 256

abbrev pub most_nested : ℕ
most_nested = 64

-- "H and W are 1 to 2,000,000." No folding is higher or wider.
abbrev pub most_limit : ℕ
most_limit = 2000000

-- "a work buffer of at least 8,192 numbers of 32 bits"
abbrev pub least_work : ℕ
least_work = 8192
