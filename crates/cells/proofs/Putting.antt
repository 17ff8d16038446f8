-- One cell after the other is put: what stands and what is left make the same stacks throughout.
use Prim.Native.Nat.{ℕ, ◌+◌, ◌-◌, ◌^◌, ◌≤◌, ◌<◌, min, max}
use mathlib.Core.Path.{◌≡◌, refl, sym, ap, ◌∙◌}
use mathlib.Core.List.{List, ◌∷◌}
use mathlib.Core.Bool.{Bool, true, false, cond}
use native.Mathlib.Omega.{arith}
use lib.ListN.{length, drop, get_or}
use lib.Dec.{leb}
use Rattle.std.proofs.lemmas.Bool.{leb-true, leb-false, le-leb, lt-leb}
use Rattle.std.proofs.lemmas.List.{drop_more, drop_all}
use Rattle.cells.specs.declared.Filling.{Filling}
use Rattle.cells.specs.Calls.{tallest_cell}
use Rattle.cells.specs.Filling.{filled_behind, filled, filled_height, growing, put, none_put, stacks_in, Put, RowAsks, Filled}
use Rattle.cells.specs.Numbers.{most_in_row}
use Rattle.cells.proofs.Heights.{tallest_at}
use Rattle.cells.proofs.Fewest.{filled_is_high}

pub none : (hs : List ℕ) (limit : ℕ) → Put hs limit (none_put limit) 0
none hs limit =
    let z : limit - limit ≡ 0 = omega arith in
    record {
      limit_is = refl;
      count_is = omega (arith, ap (λ (g : ℕ). length (filled_behind limit 0 g hs)) z);
      height_is = omega (arith, ap (λ (g : ℕ). filled_height limit g hs) z);
      low = omega arith;
      few = omega arith;
      first = λ e. refl;
    }

-- The two ways of one cell more.
module _ (hs : List ℕ) (f : Filling) (at : ℕ) where
  abbrev h : ℕ
  h = get_or hs at 0

  abbrev pub onto : Filling
  onto = record { limit = f.limit; full = f.full; spare = f.spare; left = f.left - h }

  abbrev pub next : Filling
  next = record { limit = f.limit; full = f.full + 1; spare = min f.spare f.left; left = f.limit - h }

  abbrev rest : List ℕ
  rest = drop (at + 1) hs

  abbrev behind : Filling → List ℕ
  behind g = filled_behind f.limit (at + 1) (growing g) rest

  abbrev height_behind : Filling → ℕ
  height_behind g = filled_height f.limit (growing g) rest

  module _ (some : at < length hs) (low : f.left ≤ f.limit) (one : h ≤ f.limit) where
    fits : leb h f.left ≡ true → leb (growing f + h) f.limit ≡ true
    fits e = le-leb (growing f + h) f.limit (omega (arith, leb-true h f.left e, low))

    fits_not : leb h f.left ≡ false → leb (growing f + h) f.limit ≡ false
    fits_not e = lt-leb (growing f + h) f.limit (omega (arith, leb-false h f.left e, low))

    higher : leb h f.left ≡ true → growing f + h ≡ growing onto
    higher e = omega (arith, leb-true h f.left e, low)

    alone : h ≡ growing next
    alone = omega (arith, one)

    opens : filled_behind f.limit at (growing f) (drop at hs)
        ≡ cond (leb (growing f + h) f.limit) (filled_behind f.limit (at + 1) (growing f + h) rest) (at ∷ filled_behind f.limit (at + 1) h rest)
    unfolding filled_behind
    opens = ap (filled_behind f.limit at (growing f)) (drop_more hs at 0 some)

    pub opens_onto : leb h f.left ≡ true → filled_behind f.limit at (growing f) (drop at hs) ≡ behind onto
    opens_onto e = opens ∙ rw (fits e) (ap (λ (g : ℕ). filled_behind f.limit (at + 1) g rest) (higher e))

    pub opens_next : leb h f.left ≡ false → filled_behind f.limit at (growing f) (drop at hs) ≡ at ∷ behind next
    opens_next e = opens ∙ rw (fits_not e) (ap (λ (g : ℕ). at ∷ filled_behind f.limit (at + 1) g rest) alone)

    height_opens : filled_height f.limit (growing f) (drop at hs)
        ≡ cond (leb (growing f + h) f.limit) (filled_height f.limit (growing f + h) rest) (max (growing f) (filled_height f.limit h rest))
    unfolding filled_height
    height_opens = ap (filled_height f.limit (growing f)) (drop_more hs at 0 some)

    pub height_onto : leb h f.left ≡ true → filled_height f.limit (growing f) (drop at hs) ≡ height_behind onto
    height_onto e = height_opens ∙ rw (fits e) (ap (λ (g : ℕ). filled_height f.limit g rest) (higher e))

    pub height_next : leb h f.left ≡ false → filled_height f.limit (growing f) (drop at hs) ≡ max (growing f) (height_behind next)
    height_next e = height_opens ∙ rw (fits_not e) (ap (λ (g : ℕ). max (growing f) (filled_height f.limit g rest)) alone)

module _ (hs : List ℕ) (limit : ℕ) (f : Filling) (at : ℕ) (some : at < length hs) (tall : tallest_cell hs ≤ limit) (p : Put hs limit f at) where
  pub one : get_or hs at 0 ≤ f.limit
  one = omega (arith, tall, p.limit_is, tallest_at hs at)

  pub put_onto : leb (get_or hs at 0) f.left ≡ true → Put hs limit (onto hs f at) (at + 1)
  put_onto e = record {
    limit_is = p.limit_is;
    count_is = omega (arith, p.count_is, ap length (opens_onto hs f at some p.low one e));
    height_is = omega (arith, p.height_is, height_onto hs f at some p.low one e);
    low = omega (arith, p.low);
    few = omega (arith, p.few);
    first = λ n. absurd (omega (arith, n));
  }

  pub put_next : leb (get_or hs at 0) f.left ≡ false → Put hs limit (next hs f at) (at + 1)
  put_next e = record {
    limit_is = p.limit_is;
    count_is = omega (arith, p.count_is, ap length (opens_next hs f at some p.low one e));
    height_is = omega (arith, p.height_is, height_next hs f at some p.low one e);
    low = omega arith;
    few = omega (arith, p.few);
    first = λ n. absurd (omega (arith, n));
  }

  pub put_more : Put hs limit (put f (get_or hs at 0)) (at + 1)
  put_more = go (leb (get_or hs at 0) f.left) refl
    where
      go : (t : Bool) → leb (get_or hs at 0) f.left ≡ t → Put hs limit (cond t (onto hs f at) (next hs f at)) (at + 1)
      go true e = put_onto e
      go false e = put_next e

  -- Nothing wraps.
  pub put_fits : length hs ≤ most_in_row → (get_or hs at 0 ≤ f.limit) × (f.full + 1 < 2 ^ 32)
  put_fits n = (one, omega (arith, n, some, p.few))

-- Behind the last cell.
module _ (hs : List ℕ) (limit : ℕ) (asks : RowAsks hs limit) (f : Filling) (at : ℕ) (done : length hs ≤ at) (p : Put hs limit f at) where
  pub stacks_fit : at ≤ length hs → (f.left ≤ f.limit) × (f.full + 1 < 2 ^ 32)
  stacks_fit n = (p.low, omega (arith, n, asks.row.few, p.few))

  count_done : f.full + 1 ≡ length (filled limit hs)
  unfolding filled_behind
  count_done = rw (p.limit_is, drop_all at hs done) at p.count_is

  height_done : f.limit - min f.spare f.left ≡ filled_height limit 0 hs
  unfolding filled_height
  height_done =
      let h : max (f.limit - f.spare) (growing f) ≡ filled_height f.limit 0 hs = rw (drop_all at hs done) at p.height_is in
      let e : filled_height f.limit 0 hs ≡ filled_height limit 0 hs = ap (λ (l : ℕ). filled_height l 0 hs) p.limit_is in
      omega (arith, h, e)

  pub put_all : Filled hs limit (stacks_in f)
  put_all = record { count_is = count_done; height_is = height_done ∙ sym (filled_is_high hs limit asks.row.some asks.tall) }
