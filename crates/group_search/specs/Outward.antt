-- The outward search of one group: one table for all folds, from the folds outwards.
-- The entry (x, y) of the table, at x * stride + y, is a row from which the first x components and those from y on are still
-- to be placed; t x y is what these take. `end` is the least height found so far. Entries have their turn with x falling and
-- y rising: those from (p, q) on are still to come.
use Rattle.std.specs.Prelude.{ℕ, ◌+◌, ◌*◌, ◌≤◌, ◌<◌, ◌≡◌, List, get_or}
use Rattle.numbers.specs.Table.{stride}
use Rattle.group.specs.Group.{none}

-- The number b is at most the height found, and at most each height that an entry to come leads to.
pub record Under (t : ℕ → ℕ → ℕ) (m : ℕ) (es : List ℕ) (p q end b : ℕ) : Type 0 where
  pub found : b ≤ end
  pub to_come : (x y : ℕ) → 0 < x → x ≤ y → y < m → x * stride + q ≤ p * stride + y → b ≤ get_or es (x * stride + y) 0 + t x y

-- Two states of the search lead to the same least height: the same numbers are under all that they lead to.
pub record Same (t : ℕ → ℕ → ℕ) (m : ℕ) (old : List ℕ) (p q end : ℕ) (new : List ℕ) (p' q' end' : ℕ) : Type 0 where
  pub on : (b : ℕ) → Under t m old p q end b → Under t m new p' q' end' b
  pub back : (b : ℕ) → Under t m new p' q' end' b → Under t m old p q end b

-- The new state leads to what the old one leads to, and to the height v.
pub record Adds (t : ℕ → ℕ → ℕ) (m : ℕ) (old : List ℕ) (end : ℕ) (new : List ℕ) (end' p q v : ℕ) : Type 0 where
  pub on : (b : ℕ) → Under t m old p q end b → b ≤ v → Under t m new p q end' b
  pub back : (b : ℕ) → Under t m new p q end' b → Under t m old p q end b
  pub here : (b : ℕ) → Under t m new p q end' b → b ≤ v

-- At the start each fold has its entry, and the others have no row.
pub record Fresh (m : ℕ) (gaps : ℕ → ℕ) (es : List ℕ) : Type 0 where
  pub fold : (x : ℕ) → 0 < x → x < m → get_or es (x * stride + x) 0 ≡ gaps x
  pub far : (x y : ℕ) → 0 < x → x < y → y < m → get_or es (x * stride + y) 0 ≡ none

-- The least of what was there at the start and of all folds.
pub record LeastFound (t : ℕ → ℕ → ℕ) (m : ℕ) (gaps : ℕ → ℕ) (end v : ℕ) : Type 0 where
  pub from_start : v ≤ end
  pub from_fold : (x : ℕ) → 0 < x → x < m → v ≤ gaps x + t x x
  pub no_less : (b : ℕ) → b ≤ end → ((x : ℕ) → 0 < x → x < m → b ≤ gaps x + t x x) → b ≤ v
