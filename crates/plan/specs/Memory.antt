-- What is remembered of the groups of a stack from plan to plan: a word for each group, behind the table of one group. Apart
-- no group is searched, and nothing is remembered.
use Rattle.std.specs.Prelude.{ℕ, zero, suc, ◌+◌, ◌-◌, ◌≤◌, ◌<◌, ◌≡◌, List, Bool, eqb, length, get_or, take, drop}
use Rattle.std.specs.List.{between}
use Rattle.numbers.specs.Table.{cells}
use Rattle.terms.specs.declared.Kind.{Kind}
use Rattle.terms.specs.declared.Kind.TheVariants.{Apart, Nested}
use Rattle.terms.specs.Seams.{components_in}
use Rattle.group.specs.Group.{widest}
use Rattle.group_memory.specs.Memory.{unknown, Holds}
use Rattle.layout.specs.Plan.{Planned}
use Rattle.plan.specs.Asks.{gap_before}

-- The word of one group, last or not, holds for the limit.
abbrev pub WordHolds : Bool → ℕ → ℕ → List ℕ → List ℕ → List ℕ → ℕ → Type 0
WordHolds last limit g0 hs ws gs word = Holds last g0 hs ws gs limit (widest (components_in hs ws gs)) word

-- And there is a table to search it in.
abbrev pub WordAsks : Bool → ℕ → ℕ → List ℕ → List ℕ → List ℕ → List ℕ → ℕ → Type 0
WordAsks last limit g0 hs ws gs es word = (cells ≤ length es) × WordHolds last limit g0 hs ws gs word

-- A row has the words of the groups with the same first component, from the shortest group to the longest, which stands last.
pub record RowHolds (limit g0 : ℕ) (hs ws gs row : List ℕ) : Type 0 where
  pub long : length row ≡ length hs
  pub holds : (j : ℕ) → j < length hs → WordHolds (eqb (j + 1) (length hs)) limit g0 (take (j + 1) hs) (take (j + 1) ws) (take (j + 1) gs) (get_or row j 0)

abbrev pub RowDone : Kind → ℕ → ℕ → List ℕ → List ℕ → List ℕ → List ℕ → Type 0
RowDone Apart limit g0 hs ws gs row = Unit {0}
RowDone Nested limit g0 hs ws gs row = RowHolds limit g0 hs ws gs row

abbrev pub RowAsks : Kind → ℕ → ℕ → List ℕ → List ℕ → List ℕ → List ℕ → List ℕ → Type 0
RowAsks Apart limit g0 hs ws gs es row = Unit {0}
RowAsks Nested limit g0 hs ws gs es row = (cells ≤ length es) × RowHolds limit g0 hs ws gs row

-- A row before its entry is planned: it holds for `known`, if that is over the limit.
abbrev pub RowGiven : Kind → ℕ → ℕ → ℕ → List ℕ → List ℕ → List ℕ → List ℕ → List ℕ → Type 0
RowGiven Apart known limit g0 hs ws gs es row = Unit {0}
RowGiven Nested known limit g0 hs ws gs es row = (cells ≤ length es) × (length row ≡ length hs) × (limit < known → RowHolds known g0 hs ws gs row)

-- A row of a higher limit is as it was, and any other says nothing.
pub record Readied (known limit : ℕ) (old new : List ℕ) : Type 0 where
  pub long : length new ≡ length old
  pub kept : limit < known → new ≡ old
  pub clear : known ≤ limit → (j : ℕ) → j < length old → get_or new j 0 ≡ unknown

-- The words of a row, where n components are left.
abbrev pub row_words : Kind → ℕ → ℕ
row_words Apart n = 0
row_words Nested n = n

-- Behind the table, the words before those of the row for the last n components: the rows of fewer components.
unfoldable pub row_for : ℕ → ℕ
row_for zero = 0
row_for (suc n) = row_for n + n

-- The row of the groups behind the first i components.
abbrev pub RowAt : ℕ → List ℕ → List ℕ → List ℕ → List ℕ → ℕ → Type 0
RowAt limit hs ws gs words i = RowHolds limit (gap_before gs i) (drop i hs) (drop i ws) (drop i gs) (between (row_for (length hs - i)) (row_for (length hs - i) + (length hs - i)) words)

-- All rows from i on, those before i if they are of a higher limit, and all.
abbrev pub RowsFrom : Kind → ℕ → List ℕ → List ℕ → List ℕ → List ℕ → ℕ → Type 0
RowsFrom Apart limit hs ws gs words i = Unit {0}
RowsFrom Nested limit hs ws gs words i = (k : ℕ) → i ≤ k → k < length hs → RowAt limit hs ws gs words k

abbrev pub RowsTo : Kind → ℕ → ℕ → List ℕ → List ℕ → List ℕ → List ℕ → ℕ → Type 0
RowsTo Apart known limit hs ws gs words i = Unit {0}
RowsTo Nested known limit hs ws gs words i = limit < known → (k : ℕ) → k < i → RowAt known hs ws gs words k

abbrev pub Memory : Kind → ℕ → List ℕ → List ℕ → List ℕ → List ℕ → Type 0
Memory kind limit hs ws gs es = RowsFrom kind limit hs ws gs (drop cells es) 0

-- Entries and words hold a plan for `known`, if that is over the limit.
abbrev pub Known : Kind → ℕ → ℕ → List ℕ → List ℕ → List ℕ → List ℕ → List ℕ → List ℕ → List ℕ → Type 0
Known kind known limit hs ws gs widths heights ends es =
    limit < known → Planned kind known 0 (components_in hs ws gs) widths heights ends × Memory kind known hs ws gs es
