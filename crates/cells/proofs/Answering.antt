-- From the stacks that are filled to what the calls answer.
use Prim.Native.Nat.{ℕ, ◌≤◌, ◌<◌, min}
use mathlib.Core.Path.{◌≡◌, refl, sym, ap, ◌∙◌}
use mathlib.Core.List.{List, ◌++◌}
use native.Mathlib.Omega.{arith}
use lib.ListN.{length, drop, length-take}
use Rattle.std.proofs.lemmas.Bool.{le-ltb, lt-ltb}
use Rattle.std.proofs.lemmas.List.{take-append-drop}
use Rattle.terms.specs.Answer.{Answer, refusal, result}
use Rattle.cells.specs.declared.Stacks.{Stacks}
use Rattle.cells.specs.Endings.{FewestFor, LowestFor}
use Rattle.cells.specs.Calls.{tallest_cell, row_of, Written, Stacked, CellsToHeight, CellsToCount}
use Rattle.cells.specs.Filling.{filled, Row, RowAsks, Ended, StacksWritten, Between}
use Rattle.cells.proofs.Least.{count_most, lowest_for}
use Rattle.cells.proofs.Fewest.{filled_ends, filled_fewest}

-- A place for each cell is one for each stack.
pub room_for_all : (hs : List ℕ) (limit n : ℕ) → RowAsks hs limit → length hs ≤ n → length (filled limit hs) ≤ n
room_for_all hs limit n a l = omega (arith, l, count_most hs (filled limit hs) (filled_ends hs limit a.row.some a.tall))

module _ (Best : List ℕ → Type 0) (hs : List ℕ) (limit : ℕ) (best : Best (filled limit hs)) (few : length (filled limit hs) ≤ length hs) where
  written : (ends new : List ℕ) (s : Stacks) → Ended hs limit ends new s → Written hs (filled limit hs) ends new s
  written ends new s e = record {
    fits = omega (arith, ap length e.written, length-take s.count new, e.stacks.count_is, e.same_length);
    few = few;
    written =
        sym (take-append-drop s.count new)
        ∙ ap (λ (l : List ℕ). l ++ drop s.count new) e.written
        ∙ ap (λ (l : List ℕ). filled limit hs ++ l) (e.beyond ∙ ap (λ (n : ℕ). drop n ends) e.stacks.count_is);
    count = e.stacks.count_is;
    greatest = e.stacks.height_is;
  }

  pub stacked : (ends new : List ℕ) (a : Answer Stacks) → StacksWritten hs limit ends new a → Stacked Best hs ends new a
  stacked ends new (refusal k) p = (p.0, (filled limit hs, best, p.1, few), p.2)
  stacked ends new (result s) e = (filled limit hs, best, written ends new s e)

-- For a height.
module _ (hs : List ℕ) (limit : ℕ) (asks : RowAsks hs limit) (ends new : List ℕ) where
  fewest : FewestFor hs limit (filled limit hs)
  fewest = filled_fewest hs limit asks.row.some asks.tall

  pub to_height : (a : Answer Stacks) → row_of hs limit ≡ result hs → StacksWritten hs limit ends new a → CellsToHeight hs limit ends a new
  to_height a e p = rw (e, le-ltb limit (tallest_cell hs) asks.tall) (stacked (FewestFor hs limit) hs limit fewest (room_for_all hs limit (length hs) asks (omega arith)) ends new a p)

pub unmet : (hs : List ℕ) (limit : ℕ) (ends : List ℕ) → row_of hs limit ≡ result hs → limit < tallest_cell hs → CellsToHeight hs limit ends (refusal 9) ends
unmet hs limit ends e l = rw (e, lt-ltb limit (tallest_cell hs) l) (refl, refl)

-- For a number of stacks: those filled at the least height.
module _ (hs : List ℕ) (most height : ℕ) (row : Row hs) (least : Between hs (min most (length hs)) height height) where
  least_asks : RowAsks hs height
  least_asks = record { row = row; tall = least.tall; limit_most = least.hi_most }

  lowest : LowestFor hs most (filled height hs)
  lowest = lowest_for hs row.some most height least

  pub to_count : (ends new : List ℕ) (a : Answer Stacks) → row_of hs most ≡ result hs → StacksWritten hs height ends new a → CellsToCount hs most ends a new
  to_count ends new a e p = rw e (stacked (LowestFor hs most) hs height lowest (room_for_all hs height (length hs) least_asks (omega arith)) ends new a p)
