-- What the heights of one group ask, and what a fold adds to them.
use Rattle.std.specs.Prelude.{ℕ, ◌+◌, ◌-◌, ◌≤◌, ◌≡◌, List, Bool, true, cond, length}
use Rattle.terms.specs.Numbers.{most_size}
use Rattle.terms.specs.Seams.{gap_at, barred_at, components_in}
use Rattle.group.specs.Group.{none, unbarred}
use Rattle.group_table.specs.Table.{Asks}

-- The height of a nested group without a fold, where it may stand so: more than every limit where it does not stand last.
abbrev pub flat_rows : Bool → ℕ → ℕ
flat_rows last flat = cond last flat none

-- The rows that a fold behind the first p components adds to those of its sides, where `outer` is the larger of the gaps before
-- and behind the group: more than every limit where the fold is barred.
abbrev pub fold_rows : ℕ → List ℕ → ℕ → ℕ
fold_rows outer gs p = cond (barred_at gs (p - 1)) none (outer + gap_at gs (p - 1))

-- The columns of a group behind the gap g0, which may end where it ends, and room for its table.
pub record HeightAsks (g0 : ℕ) (hs ws gs es : List ℕ) : Type 0 where
  pub table : Asks hs ws es
  pub some : 1 ≤ length hs
  pub seams_long : length gs ≡ length hs
  pub gaps_low : (i : ℕ) → gap_at gs i ≤ most_size
  pub first_low : g0 ≤ most_size
  pub free : unbarred (components_in hs ws gs) ≡ true
