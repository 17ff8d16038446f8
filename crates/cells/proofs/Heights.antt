-- The height of a stack as a difference: the cells up to its last, without those before it.
use Prim.Native.Nat.{ℕ, zero, suc, ◌+◌, ◌≤◌, ◌<◌}
use mathlib.Core.Path.{◌≡◌, ap}
use mathlib.Core.List.{List, [], ◌∷◌, ◌++◌}
use mathlib.Core.Bool.{true}
use native.Mathlib.Omega.{arith}
use lib.ListN.{length, take, drop, get_or}
use lib.Dec.{ltb}
use borrow.Author.Tests.{ltb-true, eqb-true}
use Rattle.std.proofs.lemmas.List.{take-append-drop, take-take, take_more, take_all}
use Rattle.terms.proofs.Bools.{both}
use Rattle.cells.specs.Endings.{ends_behind, total, stack_height}
use Rattle.cells.specs.Calls.{tallest_cell}

pub total-append : (a b : List ℕ) → total (a ++ b) ≡ total a + total b
unfolding total
total-append [] b = omega arith
total-append (h ∷ a) b = omega (arith, total-append a b)

-- The cells up to one.
abbrev pub up_to : List ℕ → ℕ → ℕ
up_to hs e = total (take e hs)

pub height_is : (hs : List ℕ) (b e : ℕ) → b ≤ e → stack_height hs b e + up_to hs b ≡ up_to hs e
height_is hs b e l =
    let s : total (take b (take e hs) ++ drop b (take e hs)) ≡ total (take e hs) = ap total (take-append-drop b (take e hs)) in
    let t : total (take b (take e hs)) ≡ up_to hs b = ap total (take-take b e hs l) in
    omega (arith, s, t, total-append (take b (take e hs)) (drop b (take e hs)))

pub up_to_more : (hs : List ℕ) (e : ℕ) → e < length hs → up_to hs (e + 1) ≡ up_to hs e + get_or hs e 0
unfolding total
up_to_more hs e l =
    let t : total (take (e + 1) hs) ≡ total (take e hs ++ get_or hs e 0 ∷ []) = ap total (take_more hs e 0 l) in
    omega (arith, t, total-append (take e hs) (get_or hs e 0 ∷ []))

pub up_to_all : (hs : List ℕ) → up_to hs (length hs) ≡ total hs
up_to_all hs = ap total (take_all (length hs) hs (omega arith))

-- The first end lies behind what stands before, and the rest behind it, none behind the last cell.
pub first_end : (n b e : ℕ) (es : List ℕ) → ends_behind n b (e ∷ es) ≡ true → (b < e) × (ends_behind n e es ≡ true)
unfolding ends_behind
first_end n b e es r = let p = both (ltb b e) (ends_behind n e es) r in (ltb-true b e p.0, p.1)

pub ends_most : (n b : ℕ) (es : List ℕ) → ends_behind n b es ≡ true → b ≤ n
unfolding ends_behind
ends_most n b [] r = omega (arith, eqb-true b n r)
ends_most n b (e ∷ es) r = let p = first_end n b e es r in omega (arith, p.0, ends_most n e es p.1)

pub none_left : (n b : ℕ) → ends_behind n b [] ≡ true → b ≡ n
unfolding ends_behind
none_left n b r = eqb-true b n r

pub tallest_at : (hs : List ℕ) (i : ℕ) → get_or hs i 0 ≤ tallest_cell hs
unfolding tallest_cell
tallest_at [] i = omega arith
tallest_at (h ∷ hs) zero = omega arith
tallest_at (h ∷ hs) (suc i) = omega (arith, tallest_at hs i)
