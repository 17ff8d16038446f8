-- The bytes of a stack file of version 2 (document 01, "Components and stack files"; ticket 3).
use Rattle.std.specs.Prelude.{ℕ, ◌/◌, ◌%◌, List, [], ◌∷◌, length}
use Rattle.terms.specs.declared.Component.{Component}

-- A 16-bit number's two bytes, the low one first.
abbrev pub low : ℕ → ℕ
low x = x % 256

abbrev pub high : ℕ → ℕ
high x = x / 256 % 256

unfoldable pub bytes_of : List Component → List ℕ
bytes_of [] = []
bytes_of (c ∷ cs) =
    low c.height.0 ∷ high c.height.0 ∷ low c.width.0 ∷ high c.width.0 ∷ low c.gap.0 ∷ high c.gap.0
    ∷ low c.mark ∷ high c.mark ∷ bytes_of cs

-- "A stack file is: the letters STK (3 bytes), a version (16 bits ..), the count n (16 bits)", then "eight bytes a component".
abbrev pub headed : ℕ → List ℕ → List ℕ
headed n body = 83 ∷ 84 ∷ 75 ∷ 2 ∷ 0 ∷ low n ∷ high n ∷ body

abbrev pub file_of : List Component → List ℕ
file_of cs = headed (length cs) (bytes_of cs)
