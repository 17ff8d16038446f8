-- What the functions inside this crate promise each other; `Low`, `TopDone` and `SideDone` belong to what other crates call.
-- Nothing here is part of a public promise.
use Rattle.std.specs.Prelude.{ℕ, ◌+◌, ◌-◌, ◌*◌, ◌≤◌, ◌<◌, min, ◌≡◌, List, Bool, true, false, length, get_or}
use Rattle.numbers.specs.Table.{stride, cells}
use Rattle.terms.specs.Numbers.{most_size, most_nested}
use Rattle.group.specs.Table.{entry, most_entry}
use Rattle.group_table.specs.declared.Standing.{Standing}
use Rattle.group_table.specs.Table.{Asks}

-- Whether the component below p and the one at q are both there and may share a row.
pub record Sharing (ws : List ℕ) (cap p q : ℕ) (answer : Bool) : Type 0 where
  pub left_there : answer ≡ true → 0 < p
  pub right_there : answer ≡ true → q < length ws
  pub fits : answer ≡ true → get_or ws (p - 1) 0 + get_or ws q 0 ≤ cap
  pub clash : answer ≡ false → 0 < p → q < length ws → cap < get_or ws (p - 1) 0 + get_or ws q 0

-- The entry (p, q) of the table is right.
abbrev pub Right : List ℕ → List ℕ → List ℕ → ℕ → ℕ → ℕ → Type 0
Right hs ws es cap p q = get_or es (p * stride + q) 0 ≡ entry hs ws cap p q

-- What a walk from (p, q) asks: each entry that it can reach is right.
pub record Ready (hs ws es : List ℕ) (cap p q : ℕ) : Type 0 where
  pub asks : Asks hs ws es
  pub some : 0 < p
  pub within : p ≤ length hs
  pub more : q < length hs
  pub right : (a b : ℕ) → a ≤ p → q ≤ b → b ≤ length hs → a + q < p + b → Right hs ws es cap a b

-- Where a walk has stopped the entries that are read next are small.
pub record Ending (hs es : List ℕ) (at : Standing) : Type 0 where
  pub few : length hs ≤ most_nested
  pub low : (i : ℕ) → get_or hs i 0 ≤ most_size
  pub room : cells ≤ length es
  pub left_in : at.left ≤ length hs
  pub right_in : at.right ≤ length hs
  pub left_low : at.left_row ≤ most_nested * most_size
  pub right_low : at.right_row ≤ most_nested * most_size
  pub top : at.left ≡ 0 → get_or es at.right 0 ≤ most_entry
  pub side : 0 < at.left → at.right ≡ length hs → get_or es (at.left * stride + at.right) 0 ≤ most_entry
  pub left_comes_first : 0 < at.left → at.right < length hs → get_or es ((at.left - 1) * stride + at.right) 0 ≤ most_entry
  pub right_first : 0 < at.left → at.right < length hs → get_or es (at.left * stride + (at.right + 1)) 0 ≤ most_entry

pub record Ended (hs es : List ℕ) (at : Standing) (v : ℕ) : Type 0 where
  pub top : at.left ≡ 0 → v ≡ at.right_row + get_or es at.right 0
  pub side : 0 < at.left → at.right ≡ length hs → v ≡ at.left_row + get_or es (at.left * stride + at.right) 0
  pub clash : 0 < at.left → at.right < length hs → v ≡ min (at.left_row + get_or hs (at.left - 1) 0 + get_or es ((at.left - 1) * stride + at.right) 0) (at.right_row + get_or hs at.right 0 + get_or es (at.left * stride + (at.right + 1)) 0)

-- What filling row p asks: the rows above it are right from column p on, and so is its last entry.
pub record RowAsks (hs ws es : List ℕ) (cap p : ℕ) : Type 0 where
  pub asks : Asks hs ws es
  pub some : 0 < p
  pub within : p ≤ length hs
  pub above : (a b : ℕ) → a < p → p ≤ b → b ≤ length hs → Right hs ws es cap a b
  pub side : Right hs ws es cap p (length hs)

-- What it does: row p is right from column q on, and nothing else has changed.
pub record RowDone (hs ws old new : List ℕ) (cap p q : ℕ) : Type 0 where
  pub done : (b : ℕ) → q ≤ b → b ≤ length hs → Right hs ws new cap p b
  pub below : (i : ℕ) → i < p * stride + q → get_or new i 0 ≡ get_or old i 0
  pub beyond : (i : ℕ) → p * stride + length hs ≤ i → get_or new i 0 ≡ get_or old i 0

-- What filling the borders asks. They are right for all widths and every cap.
pub record Low (hs es : List ℕ) : Type 0 where
  pub few : length hs ≤ most_nested
  pub low : (i : ℕ) → get_or hs i 0 ≤ most_size
  pub room : cells ≤ length es

-- Row 0 is right from column q on.
abbrev pub TopDone : List ℕ → List ℕ → ℕ → Type 0
TopDone hs es q = (ws : List ℕ) (cap b : ℕ) → q ≤ b → b ≤ length hs → get_or es b 0 ≡ entry hs ws cap 0 b

-- The last column is right down to row p, and row 0 has not changed.
pub record SideDone (hs old new : List ℕ) (p : ℕ) : Type 0 where
  pub done : (ws : List ℕ) (cap a : ℕ) → a ≤ p → Right hs ws new cap a (length hs)
  pub kept : (i : ℕ) → i ≤ length hs → get_or new i 0 ≡ get_or old i 0
