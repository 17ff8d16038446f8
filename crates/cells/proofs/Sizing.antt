-- One pass over a row: its lowest and its tallest cell, and all heights added up.
use Prim.Native.Nat.{ℕ, ◌+◌, ◌^◌, ◌≤◌, ◌<◌, min, max}
use mathlib.Core.Path.{ap}
use mathlib.Core.List.{List, [], ◌∷◌}
use native.Mathlib.Omega.{arith}
use lib.ListN.{length, get_or}
use Rattle.std.proofs.lemmas.List.{drop_more, drop_all}
use Rattle.cells.specs.declared.Sizes.{Sizes}
use Rattle.cells.specs.Endings.{total}
use Rattle.cells.specs.Calls.{tallest_cell}
use Rattle.cells.specs.Numbers.{most_in_row}
use Rattle.cells.specs.Filling.{lowest, Seen, SizesOf}

lowest_most : (l : List ℕ) → lowest l ≤ 65535
unfolding lowest
lowest_most [] = omega arith
lowest_most (h ∷ l) = omega (arith, lowest_most l)

pub none_seen : (hs : List ℕ) → Seen hs (record { lowest = 65535; tallest = 0; sum = 0 }) 0
none_seen hs = record { lowest_is = omega (arith, lowest_most hs); lowest_most = omega arith; tallest_is = omega arith; sum_is = omega arith; sum_most = omega arith }

module _ (hs : List ℕ) (s : Sizes) (at : ℕ) (p : Seen hs s at) where
  abbrev h : ℕ
  h = get_or hs at 0

  pub seen_more : at < length hs → h < 65536 → Seen hs (record { lowest = min s.lowest h; tallest = max s.tallest h; sum = s.sum + h }) (at + 1)
  unfolding lowest tallest_cell total
  seen_more some low =
      let d = drop_more hs at 0 some in
      record {
        lowest_is = omega (arith, p.lowest_is, ap lowest d);
        lowest_most = omega (arith, p.lowest_most);
        tallest_is = omega (arith, p.tallest_is, ap tallest_cell d);
        sum_is = omega (arith, p.sum_is, ap total d);
        sum_most = omega (arith, p.sum_most, low);
      }

  pub sum_fits : at < length hs → h < 65536 → length hs ≤ most_in_row → s.sum + h < 2 ^ 32
  sum_fits some low few = omega (arith, p.sum_most, some, low, few)

  pub seen_all : length hs ≤ at → SizesOf hs s
  unfolding lowest tallest_cell total
  seen_all done =
      let d = drop_all at hs done in
      record { lowest_is = omega (arith, p.lowest_is, p.lowest_most, ap lowest d); tallest_is = omega (arith, p.tallest_is, ap tallest_cell d); sum_is = omega (arith, p.sum_is, ap total d) }
