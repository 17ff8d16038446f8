-- What the functions inside this crate promise each other. Nothing here is part of a public promise.
use Rattle.std.specs.Prelude.{ℕ, ◌+◌, ◌*◌, ◌≤◌, ◌<◌, ◌≡◌, List, [], ◌∷◌, ◌++◌, length, take, drop}
use Rattle.terms.specs.Numbers.{most_limit}
use Rattle.terms.specs.declared.Component.{Component}
use Rattle.terms.specs.declared.Kind.{Kind}
use Rattle.folding.specs.declared.Outline.{Outline}
use Rattle.layout.specs.Table.{outlines}
use Rattle.fold_table.specs.Calls.{pairs_of}

-- The outlines of at most so many rows, and all of them: no folding is higher.
abbrev pub outlines_to : Kind → List Component → ℕ → List Outline
outlines_to kind cs limit = outlines kind cs limit limit

abbrev pub all_outlines : Kind → List Component → List Outline
all_outlines kind cs = outlines_to kind cs most_limit

-- A buffer of pairs holds one more behind its first n, if it is long enough, and else what it held. The pairs beyond are as
-- they were.
pub record PairKept (n : ℕ) (o : Outline) (old new : List ℕ) : Type 0 where
  pub put : 2 * (n + 1) ≤ length old → take (2 * (n + 1)) new ≡ take (2 * n) old ++ (o.width.0 ∷ o.height.0 ∷ [])
  pub full : length old < 2 * (n + 1) → new ≡ old
  pub beyond : drop (2 * (n + 1)) new ≡ drop (2 * (n + 1)) old

-- n outlines are counted, those of at most `limit` rows are not. As long as there is room, the buffer holds them.
pub record GatheredTo (kind : Kind) (cs : List Component) (old new : List ℕ) (limit n : ℕ) : Type 0 where
  pub most : limit ≤ most_limit
  pub rest : n + length (outlines_to kind cs limit) ≡ length (all_outlines kind cs)
  pub front : 2 * n ≤ length new → take (2 * n) new ++ pairs_of (outlines_to kind cs limit) ≡ pairs_of (all_outlines kind cs)
  pub beyond : drop (2 * n) new ≡ drop (2 * n) old

-- All are counted, and if there is room for all of them, the buffer holds them.
pub record Gathered (kind : Kind) (cs : List Component) (old new : List ℕ) (n : ℕ) : Type 0 where
  pub all : n ≡ length (all_outlines kind cs)
  pub front : 2 * n ≤ length new → take (2 * n) new ≡ pairs_of (all_outlines kind cs)
  pub beyond : drop (2 * n) new ≡ drop (2 * n) old
