-- Stacks of standard cells (ticket 4), and what fewest and least mean over all of them. A row of cells is the list of their
-- heights; stacks of it are said by their ends, "the last cell's number (from 1) of each stack, in order".
use Rattle.std.specs.Prelude.{ℕ, ◌+◌, ◌≤◌, ◌<◌, max, ◌≡◌, ◌⊎◌, List, [], ◌∷◌, Bool, true, ◌&&◌, length, take, drop, ltb, eqb}

-- The ends of stacks of the cells behind `before`, of n cells in all: each is greater than the one before it, for no stack is
-- empty, and the last is n. `before` is the last cell of the stack before, 0 at the start.
unfoldable pub ends_behind : ℕ → ℕ → List ℕ → Bool
ends_behind n before [] = eqb before n
ends_behind n before (e ∷ es) = ltb before e && ends_behind n e es

abbrev pub Ending : List ℕ → List ℕ → Type 0
Ending hs es = ends_behind (length hs) 0 es ≡ true

-- The heights of some cells added up: they "have no gaps".
unfoldable pub total : List ℕ → ℕ
total [] = 0
total (h ∷ hs) = h + total hs

-- The height of the stack that begins behind the cell `before` and ends with the cell e.
abbrev pub stack_height : List ℕ → ℕ → ℕ → ℕ
stack_height hs before e = total (drop before (take e hs))

-- "greatest height"
unfoldable pub greatest_behind : List ℕ → ℕ → List ℕ → ℕ
greatest_behind hs before [] = 0
greatest_behind hs before (e ∷ es) = max (stack_height hs before e) (greatest_behind hs e es)

abbrev pub greatest_height : List ℕ → List ℕ → ℕ
greatest_height hs es = greatest_behind hs 0 es

module _ (hs : List ℕ) where
  -- "least number of stacks for a height"
  pub record FewestFor (limit : ℕ) (es : List ℕ) : Type 0 where
    pub ending : Ending hs es
    pub keeps : greatest_height hs es ≤ limit
    pub fewest : (other : List ℕ) → Ending hs other → greatest_height hs other ≤ limit → length es ≤ length other

  -- No stacks keep the height.
  abbrev pub NoneFor : ℕ → Type 0
  NoneFor limit = (es : List ℕ) → Ending hs es → greatest_height hs es ≤ limit → ⊥

  -- "least height for at most a given number of stacks, then the fewest stacks of that height": every other is higher, or as
  -- high and has at least as many.
  pub record LowestFor (most : ℕ) (es : List ℕ) : Type 0 where
    pub ending : Ending hs es
    pub keeps : length es ≤ most
    pub lowest : (other : List ℕ) → Ending hs other → length other ≤ most
        → (greatest_height hs es < greatest_height hs other) ⊎ ((greatest_height hs es ≡ greatest_height hs other) × (length es ≤ length other))
