-- What the two calls over a row of cells answer, and what the lent list of ends holds afterwards (ticket 4).
use Rattle.std.specs.Prelude.{ℕ, ◌≤◌, ◌<◌, max, ◌≡◌, List, [], ◌∷◌, ◌++◌, Bool, true, not, ◌&&◌, length, drop, leb, ltb}
use Rattle.terms.specs.Answer.{Answer, refusal, result, refuse_if, and_then}
use Rattle.terms.specs.Component.{in_size}
use Rattle.cells.specs.declared.Stacks.{Stacks}
use Rattle.cells.specs.Numbers.{most_in_row, most_row_limit}
use Rattle.cells.specs.Endings.{greatest_height, FewestFor, LowestFor, NoneFor}

-- "12, row size, no cells or over 60,000"
abbrev pub in_row_size : ℕ → Bool
in_row_size n = leb 1 n && leb n most_in_row

-- 5: a height is not "1 to 4,000".
unfoldable pub all_in_size : List ℕ → Bool
all_in_size [] = true
all_in_size (h ∷ hs) = in_size h && all_in_size hs

-- 7: "Limits are 1 to 240,000,000", of a height and of a number of stacks.
abbrev pub in_row_limit : ℕ → Bool
in_row_limit limit = leb 1 limit && leb limit most_row_limit

-- 12 stands "before 5", and 7 behind it.
abbrev pub row_of : List ℕ → ℕ → Answer (List ℕ)
row_of hs limit =
    refuse_if (not (in_row_size (length hs))) 12
    (refuse_if (not (all_in_size hs)) 5
    (refuse_if (not (in_row_limit limit)) 7
    (result hs)))

-- The tallest cell's height.
unfoldable pub tallest_cell : List ℕ → ℕ
tallest_cell [] = 0
tallest_cell (h ∷ hs) = max h (tallest_cell hs)

-- 9 where a height is under the tallest cell.
abbrev pub row_within : List ℕ → ℕ → Answer (List ℕ)
row_within hs limit = and_then (row_of hs limit) (λ row. refuse_if (ltb limit (tallest_cell row)) 9 (result row))

-- "It writes the last cell's number (from 1) of each stack, in order, and gives their count and greatest height": these ends
-- stand in the first places, and places past them are as before. There are no more of them than cells.
pub record Written (hs es ends ends' : List ℕ) (s : Stacks) : Type 0 where
  pub fits : length es ≤ length ends
  pub few : length es ≤ length hs
  pub written : ends' ≡ es ++ drop (length es) ends
  pub count : s.count ≡ length es
  pub greatest : s.height.0 ≡ greatest_height hs es

-- By which ends a call may write: "which cells end the stacks is otherwise free".
module _ (Best : List ℕ → Type 0) where
  -- 8 where the list has fewer places than there are stacks, and so never where it has one for each cell.
  abbrev pub Stacked : List ℕ → List ℕ → List ℕ → Answer Stacks → Type 0
  Stacked hs ends ends' (refusal k) = (k ≡ 8) × ((es : List ℕ) × Best es × (length ends < length es) × (length es ≤ length hs)) × (ends' ≡ ends)
  Stacked hs ends ends' (result s) = (es : List ℕ) × Best es × Written hs es ends ends' s

  -- A refusal leaves the list as it was.
  abbrev pub RowAnswered : List ℕ → List ℕ → Answer Stacks → Answer (List ℕ) → Type 0
  RowAnswered ends ends' answer (refusal k) = (answer ≡ refusal k) × (ends' ≡ ends)
  RowAnswered ends ends' answer (result hs) = Stacked hs ends ends' answer

-- Fewest stacks for a height.
abbrev pub CellsToHeight : List ℕ → ℕ → List ℕ → Answer Stacks → List ℕ → Type 0
CellsToHeight hs limit ends answer ends' = RowAnswered (FewestFor hs limit) ends ends' answer (row_within hs limit)

-- 9 says that no stacks keep the height. Behind a result, and behind an 8, are some that do.
abbrev pub NoneAtNine : List ℕ → ℕ → Answer Stacks → Type 0
NoneAtNine hs limit answer = answer ≡ refusal 9 → NoneFor hs limit

-- Least height for at most so many stacks, and the fewest of that height.
abbrev pub CellsToCount : List ℕ → ℕ → List ℕ → Answer Stacks → List ℕ → Type 0
CellsToCount hs most ends answer ends' = RowAnswered (LowestFor hs most) ends ends' answer (row_of hs most)
