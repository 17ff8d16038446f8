-- Known rows of cells (ticket 4): one list of lines, each a claim about all stacks of its row or about a refusal, and about what
-- the two calls answer.
use Rattle.std.specs.Prelude.{ℕ, ◌≤◌, ◌<◌, ◌≡◌, List, [], ◌∷◌, length, replicate}
use Rattle.terms.specs.Answer.{Answer, refusal, result}
use Rattle.cells.specs.declared.Stacks.{Stacks}
use Rattle.cells.specs.Endings.{greatest_height, FewestFor, LowestFor, NoneFor}
use Rattle.cells.specs.Calls.{row_of, CellsToHeight, CellsToCount}

-- A row is the list of its cells' heights. `fewest`: the number of its stacks for a height. `none`: no stacks keep the height.
-- `lowest`: its stacks' number and height for a number of stacks. `refused`: a row or a limit that both calls refuse.
pub data RowLine : Type 0 where
  fewest : List ℕ → ℕ → ℕ → RowLine
  none : List ℕ → ℕ → RowLine
  lowest : List ℕ → ℕ → Stacks → RowLine
  refused : List ℕ → ℕ → ℕ → RowLine

abbrev pub Holds : RowLine → Type 0
Holds (fewest hs limit n) = (es : List ℕ) × FewestFor hs limit es × (length es ≡ n)
Holds (none hs limit) = NoneFor hs limit
Holds (lowest hs most s) = (es : List ℕ) × LowestFor hs most es × (length es ≡ s.count) × (greatest_height hs es ≡ s.height.0)
Holds (refused hs limit k) = row_of hs limit ≡ refusal k

-- A call refuses with k and leaves the list of ends as it was.
abbrev pub Refused : ℕ → List ℕ → List ℕ → Answer Stacks → Type 0
Refused k ends ends' answer = (answer ≡ refusal k) × (ends' ≡ ends)

-- What a call answers and leaves, whatever the list of ends holds: no other answer keeps its promise. 8 is only for a list with
-- fewer places than there are stacks, and stands behind 9 and the refusals of a row.
abbrev pub Answers : RowLine → Type 0
Answers (fewest hs limit n) = (ends ends' : List ℕ) (answer : Answer Stacks) → CellsToHeight hs limit ends answer ends'
    → (n ≤ length ends → (s : Stacks) × (answer ≡ result s) × (s.count ≡ n))
    × (length ends < n → Refused 8 ends ends' answer)
Answers (none hs limit) = (ends ends' : List ℕ) (answer : Answer Stacks) → CellsToHeight hs limit ends answer ends' → Refused 9 ends ends' answer
Answers (lowest hs most s) = (ends ends' : List ℕ) (answer : Answer Stacks) → CellsToCount hs most ends answer ends'
    → (s.count ≤ length ends → answer ≡ result s)
    × (length ends < s.count → Refused 8 ends ends' answer)
Answers (refused hs limit k) = (ends ends' : List ℕ) (answer : Answer Stacks)
    → (CellsToHeight hs limit ends answer ends' → Refused k ends ends' answer)
    × (CellsToCount hs limit ends answer ends' → Refused k ends ends' answer)

abbrev pub AllKnown : List RowLine → Type 0
AllKnown [] = Unit {0}
AllKnown (l ∷ ls) = Holds l × Answers l × AllKnown ls

abbrev pub stacks : ℕ → ℕ → Stacks
stacks n h = record { count = n; height = record { 0 = h } }

-- The heights of document 01's stack B.
abbrev pub b : List ℕ
b = 3 ∷ 1 ∷ 2 ∷ 4 ∷ []

abbrev pub twos : List ℕ
twos = 2 ∷ 2 ∷ 2 ∷ 2 ∷ 2 ∷ 2 ∷ []

-- The most cells, as tall as they may be.
abbrev pub largest : List ℕ
largest = replicate 60000 4000

unfoldable pub rows : List RowLine
rows =
    fewest b 4 3
    ∷ fewest b 5 3
    ∷ fewest b 6 2
    ∷ fewest b 9 2
    ∷ fewest b 10 1
    ∷ fewest b 240000000 1
    ∷ none b 3
    ∷ none b 1
    ∷ lowest b 1 (stacks 1 10)
    ∷ lowest b 2 (stacks 2 6)
    ∷ lowest b 3 (stacks 3 4)
    ∷ lowest b 4 (stacks 3 4)
    ∷ lowest b 240000000 (stacks 3 4)
    ∷ lowest twos 2 (stacks 2 6)
    ∷ lowest twos 4 (stacks 3 4)
    ∷ lowest twos 5 (stacks 3 4)
    ∷ lowest twos 6 (stacks 6 2)
    ∷ lowest (1 ∷ 1 ∷ 1 ∷ 9 ∷ []) 3 (stacks 2 9)
    ∷ fewest (4000 ∷ []) 4000 1
    ∷ none (4000 ∷ []) 3999
    ∷ lowest (4000 ∷ []) 1 (stacks 1 4000)
    ∷ fewest largest 240000000 1
    ∷ lowest largest 1 (stacks 1 240000000)
    ∷ refused [] 1 12
    ∷ refused [] 0 12
    ∷ refused (replicate 60001 0) 0 12
    ∷ refused (0 ∷ []) 0 5
    ∷ refused (4001 ∷ []) 1 5
    ∷ refused (1 ∷ 0 ∷ []) 1 5
    ∷ refused b 0 7
    ∷ refused b 240000001 7
    ∷ []
