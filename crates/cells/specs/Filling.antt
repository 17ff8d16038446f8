-- How the calls find stacks: each is filled from the front. What functions inside this crate promise each other. Nothing here
-- is part of a public promise.
use Rattle.std.specs.Prelude.{ℕ, ◌+◌, ◌-◌, ◌*◌, min, max, ◌≤◌, ◌<◌, ◌≡◌, List, [], ◌∷◌, ◌++◌, true, cond, length, get_or, take, drop, leb}
use Rattle.terms.specs.Numbers.{most_size}
use Rattle.terms.specs.Answer.{Answer, refusal, result}
use Rattle.cells.specs.declared.Stacks.{Stacks}
use Rattle.cells.specs.declared.Sizes.{Sizes}
use Rattle.cells.specs.declared.Filling.{Filling}
use Rattle.cells.specs.Numbers.{most_in_row, most_row_limit}
use Rattle.cells.specs.Endings.{total, greatest_height, Ending}
use Rattle.cells.specs.Calls.{all_in_size, tallest_cell, row_of}

-- The ends of stacks that are filled from the front: `at` cells stand, and the stack that grows is `high` high.
unfoldable pub filled_behind : ℕ → ℕ → ℕ → List ℕ → List ℕ
filled_behind limit at high [] = at ∷ []
filled_behind limit at high (h ∷ hs) = cond (leb (high + h) limit) (filled_behind limit (at + 1) (high + h) hs) (at ∷ filled_behind limit (at + 1) h hs)

abbrev pub filled : ℕ → List ℕ → List ℕ
filled limit hs = filled_behind limit 0 0 hs

-- Their greatest height.
unfoldable pub filled_height : ℕ → ℕ → List ℕ → ℕ
filled_height limit high [] = high
filled_height limit high (h ∷ hs) = cond (leb (high + h) limit) (filled_height limit (high + h) hs) (max high (filled_height limit h hs))

-- The height of the stack that grows.
abbrev pub growing : Filling → ℕ
growing f = f.limit - f.left

-- One cell more.
abbrev pub put : Filling → ℕ → Filling
put f h =
    cond (leb h f.left)
    (record { limit = f.limit; full = f.full; spare = f.spare; left = f.left - h })
    (record { limit = f.limit; full = f.full + 1; spare = min f.spare f.left; left = f.limit - h })

-- Before the first cell, and behind the last.
abbrev pub none_put : ℕ → Filling
none_put limit = record { limit = limit; full = 0; spare = limit; left = limit }

abbrev pub stacks_in : Filling → Stacks
stacks_in f = record { count = f.full + 1; height = record { 0 = f.limit - min f.spare f.left } }

-- The lowest cell's height; where there is none, the greatest number of 16 bits.
unfoldable pub lowest : List ℕ → ℕ
lowest [] = 65535
lowest (h ∷ hs) = min h (lowest hs)

-- One pass over a row with `at` cells seen.
pub record Seen (hs : List ℕ) (s : Sizes) (at : ℕ) : Type 0 where
  pub lowest_is : min s.lowest (lowest (drop at hs)) ≡ lowest hs
  pub lowest_most : s.lowest ≤ 65535
  pub tallest_is : max s.tallest (tallest_cell (drop at hs)) ≡ tallest_cell hs
  pub sum_is : s.sum + total (drop at hs) ≡ total hs
  pub sum_most : s.sum ≤ 65535 * at

-- What it says of the row.
pub record SizesOf (hs : List ℕ) (s : Sizes) : Type 0 where
  pub lowest_is : s.lowest ≡ lowest hs
  pub tallest_is : s.tallest ≡ tallest_cell hs
  pub sum_is : s.sum ≡ total hs

-- A row that was checked.
pub record Row (hs : List ℕ) : Type 0 where
  pub some : 0 < length hs
  pub few : length hs ≤ most_in_row
  pub low : tallest_cell hs ≤ most_size
  pub sized : all_in_size hs ≡ true

abbrev pub Checked : List ℕ → ℕ → Answer Sizes → Type 0
Checked hs limit (refusal k) = row_of hs limit ≡ refusal k
Checked hs limit (result s) = (row_of hs limit ≡ result hs) × (1 ≤ limit) × (limit ≤ most_row_limit) × SizesOf hs s × Row hs

-- A height that each cell of a row keeps. It may be twice the greatest limit, since the upper bound of halving divides all
-- cells and one tallest for each stack but the last.
pub record RowAsks (hs : List ℕ) (limit : ℕ) : Type 0 where
  pub row : Row hs
  pub tall : tallest_cell hs ≤ limit
  pub limit_most : limit ≤ 2 * most_row_limit

-- The stacks filled at a height.
pub record Filled (hs : List ℕ) (limit : ℕ) (s : Stacks) : Type 0 where
  pub count_is : s.count ≡ length (filled limit hs)
  pub height_is : s.height.0 ≡ greatest_height hs (filled limit hs)

-- Where filling stands with `at` cells put: with the stacks that the rest is filled into there are as many as in all, and as
-- high.
pub record Put (hs : List ℕ) (limit : ℕ) (f : Filling) (at : ℕ) : Type 0 where
  pub limit_is : f.limit ≡ limit
  pub count_is : f.full + length (filled_behind f.limit at (growing f) (drop at hs)) ≡ length (filled f.limit hs)
  pub height_is : max (f.limit - f.spare) (filled_height f.limit (growing f) (drop at hs)) ≡ filled_height f.limit 0 hs
  pub low : f.left ≤ f.limit
  pub few : f.full ≤ at
  pub first : at ≡ 0 → f.left ≡ f.limit

-- And with their ends written: those of the stacks that are full, and so far that of the one that grows.
pub record PutEnds (hs : List ℕ) (limit : ℕ) (f : Filling) (at : ℕ) (ends ends' : List ℕ) : Type 0 where
  pub put : Put hs limit f at
  pub written : take f.full ends' ++ filled_behind f.limit at (growing f) (drop at hs) ≡ filled f.limit hs
  pub last : 0 < at → get_or ends' f.full 0 ≡ at
  pub beyond : (k : ℕ) → f.full < k → drop k ends' ≡ drop k ends
  pub same_length : length ends' ≡ length ends

-- Their ends, in the first places of the list.
pub record Ended (hs : List ℕ) (limit : ℕ) (ends ends' : List ℕ) (s : Stacks) : Type 0 where
  pub stacks : Filled hs limit s
  pub written : take s.count ends' ≡ filled limit hs
  pub beyond : drop s.count ends' ≡ drop s.count ends
  pub same_length : length ends' ≡ length ends

-- Their ends, or 8 where the list has no place for them all.
abbrev pub StacksWritten : List ℕ → ℕ → List ℕ → List ℕ → Answer Stacks → Type 0
StacksWritten hs limit ends ends' (refusal k) = (k ≡ 8) × (length ends < length (filled limit hs)) × (ends' ≡ ends)
StacksWritten hs limit ends ends' (result s) = Ended hs limit ends ends' s

-- The least height at which a row fills at most so many stacks lies between lo and hi: none so few are lower, and at hi they are
-- so few.
pub record Between (hs : List ℕ) (most lo hi : ℕ) : Type 0 where
  pub tall : tallest_cell hs ≤ lo
  pub floor : (other : List ℕ) → Ending hs other → length other ≤ most → lo ≤ greatest_height hs other
  pub enough : length (filled hi hs) ≤ most
  pub hi_tall : tallest_cell hs ≤ hi
  pub hi_most : hi ≤ 2 * most_row_limit

-- What halving asks: a row with its sizes, and a number of stacks of use to it.
pub record LeastAsks (hs : List ℕ) (s : Sizes) (most : ℕ) : Type 0 where
  pub row : Row hs
  pub sizes : SizesOf hs s
  pub one : 1 ≤ most
  pub few : most ≤ most_in_row
