-- The least height for a number of stacks lies between the bounds that halving begins with.
use Prim.Native.Nat.{ℕ, zero, suc, ◌+◌, ◌-◌, ◌*◌, ◌/◌, ◌%◌, ◌≤◌, ◌<◌, min, max}
use mathlib.Core.Path.{◌≡◌}
use mathlib.Core.List.{List, [], ◌∷◌}
use native.Mathlib.Nat.{mul-le-mul_left, mul-le-mul_right, mul_comm, mul-suc, lt-mul-div-succ, div-le_of_le-mul, lt_of_mul-lt-mul_left}
use native.Mathlib.Omega.{arith}
use lib.ListN.{length}
use Rattle.std.proofs.lemmas.Grind.{div_ceil_times}
use Rattle.std.proofs.lemmas.Nat.{le-div}
use Rattle.cells.specs.declared.Sizes.{Sizes}
use Rattle.cells.specs.Endings.{total, greatest_height}
use Rattle.cells.specs.Calls.{tallest_cell}
use Rattle.cells.specs.Numbers.{most_row_limit}
use Rattle.cells.specs.Filling.{Between, LeastAsks}
use Rattle.cells.proofs.Least.{tallest_total, tallest_held, all_shared, enough_at}

total_most : (hs : List ℕ) (m : ℕ) → tallest_cell hs ≤ m → total hs ≤ length hs * m
unfolding tallest_cell total
total_most [] m l = omega arith
total_most (h ∷ hs) m l = omega (arith, l, total_most hs m (omega (arith, l)))

module _ (hs : List ℕ) (s : Sizes) (k : ℕ) (asks : LeastAsks hs s (suc k)) where
  row_low : total hs ≤ most_row_limit
  row_low = omega (arith, total_most hs 4000 asks.row.low, asks.row.few)

  lack : k * tallest_cell hs ≤ most_row_limit
  lack = omega (arith, mul-le-mul_left {m = tallest_cell hs} {n = 4000} k asks.row.low, asks.few)

  abbrev spread : ℕ
  spread = total hs + k * tallest_cell hs

  shared_evenly : (g : ℕ) → total hs ≤ suc k * g → total hs / suc k + min 1 (total hs % suc k) ≤ g
  shared_evenly g l =
      let q : ℕ = total hs / suc k + min 1 (total hs % suc k) in
      let c = div_ceil_times (total hs) (suc k) (omega arith) in
      let m : suc k * q < suc k * (g + 1) = omega (arith, l, c.1, mul_comm q (suc k)) in
      omega (arith, lt_of_mul-lt-mul_left (suc k) m)

  pub between : Between hs (suc k) (max (tallest_cell hs) (total hs / suc k + min 1 (total hs % suc k))) ((total hs + k * tallest_cell hs) / suc k)
  between = record {
    tall = omega arith;
    floor = λ other e l.
        omega (
          arith,
          tallest_held hs other e,
          shared_evenly (greatest_height hs other) (omega (arith, all_shared hs other e, mul-le-mul_right {m = length other} {n = suc k} (greatest_height hs other) l)),
        );
    enough = enough_at hs (spread / suc k) k (lt-mul-div-succ spread (omega arith));
    hi_tall = le-div (tallest_cell hs) spread (suc k) (omega arith) (omega (arith, tallest_total hs, mul-suc (tallest_cell hs) k, mul_comm (tallest_cell hs) k));
    hi_most = omega (arith, row_low, lack, div-le_of_le-mul (suc k) {m = spread} {n = spread} (omega arith));
  }

-- In the numbers that the code has.
module _ (hs : List ℕ) (s : Sizes) where
  pub begin : (most : ℕ) → LeastAsks hs s most
      → Between hs most (max s.tallest (s.sum / most + min 1 (s.sum % most))) ((s.sum + (most - 1) * s.tallest) / most)
  begin zero a = absurd (omega (arith, a.one))
  begin (suc k) a = let z : suc k - 1 ≡ k = omega arith in rw (a.sizes.tallest_is, a.sizes.sum_is, z) (between hs s k a)

  pub low_enough : (most : ℕ) → LeastAsks hs s most → (s.sum ≤ most_row_limit) × ((most - 1) * s.tallest ≤ most_row_limit)
  low_enough zero a = absurd (omega (arith, a.one))
  low_enough (suc k) a = let z : suc k - 1 ≡ k = omega arith in rw (a.sizes.tallest_is, a.sizes.sum_is, z) (row_low hs s k a, lack hs s k a)
