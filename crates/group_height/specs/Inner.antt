-- What the functions inside this crate promise each other. Nothing here is part of a public promise.
use Rattle.std.specs.Prelude.{ℕ, ◌+◌, ◌-◌, ◌*◌, ◌≤◌, ◌<◌, max, List, Bool, cond, eqb, length, get_or}
use Rattle.numbers.specs.Table.{stride, cells}
use Rattle.terms.specs.Numbers.{most_size, most_nested}
use Rattle.terms.specs.Seams.{gap_at}
use Rattle.group.specs.Table.{most_entry}
use Rattle.group_height.specs.Heights.{flat_rows, fold_rows}

-- The heights of a group by its table: without a fold, with one behind the first p components, and either, where a fold behind
-- all of them means none and is for the last group only.
abbrev pub flat_by : ℕ → List ℕ → List ℕ → ℕ
flat_by g0 gs es = get_or es 0 0 + g0 + gap_at gs (length gs - 1)

abbrev pub fold_by : ℕ → List ℕ → List ℕ → ℕ → ℕ
fold_by g0 gs es p = get_or es (p * stride + p) 0 + fold_rows (max g0 (gap_at gs (length gs - 1))) gs p

abbrev pub height_by : ℕ → Bool → List ℕ → List ℕ → ℕ → ℕ
height_by g0 last gs es p = cond (eqb p (length gs)) (flat_rows last (flat_by g0 gs es)) (fold_by g0 gs es p)

-- What the height at each fold point asks.
pub record PointAsks (g0 : ℕ) (gs es : List ℕ) : Type 0 where
  pub some : 1 ≤ length gs
  pub few : length gs ≤ most_nested
  pub room : cells ≤ length es
  pub gaps_low : (i : ℕ) → gap_at gs i ≤ most_size
  pub first_low : g0 ≤ most_size
  pub small : (p : ℕ) → p < length gs → get_or es (p * stride + p) 0 ≤ most_entry
