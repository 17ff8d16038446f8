-- The bounds between which the least height for a number of stacks lies, and what halving between them keeps.
use Prim.Native.Nat.{ℕ, zero, suc, ◌+◌, ◌-◌, ◌*◌, ◌≤◌, ◌<◌, min, max}
use mathlib.Core.Path.{◌≡◌, sym, ap, subst}
use mathlib.Core.Logic.{inl, inr}
use mathlib.Core.List.{List, [], ◌∷◌}
use mathlib.Core.Bool.{true}
use native.Mathlib.Nat.{mul-le-mul_left}
use native.Mathlib.Omega.{arith}
use lib.ListN.{length, get_or}
use lib.Dec.{leb}
use Rattle.std.proofs.lemmas.Bool.{cond_both, cases_lt, leb-false}
use Rattle.cells.specs.Endings.{ends_behind, total, stack_height, greatest_behind, greatest_height, Ending, LowestFor}
use Rattle.cells.specs.Calls.{tallest_cell}
use Rattle.cells.specs.Filling.{filled_behind, filled, Between}
use Rattle.cells.proofs.Heights.{up_to, up_to_all, height_is, first_end, none_left, up_to_more}
use Rattle.cells.proofs.Fewest.{no_more, ends_no_earlier, filled_ends, filled_keeps}

tallest_most : (l : List ℕ) (m : ℕ) → ((i : ℕ) → i < length l → get_or l i 0 ≤ m) → tallest_cell l ≤ m
unfolding tallest_cell
tallest_most [] m f = omega arith
tallest_most (h ∷ l) m f = omega (arith, f 0 (omega arith), tallest_most l m (λ i k. f (suc i) (omega arith)))

pub tallest_total : (l : List ℕ) → tallest_cell l ≤ total l
unfolding tallest_cell total
tallest_total [] = omega arith
tallest_total (h ∷ l) = omega (arith, tallest_total l)

-- Where a row is filled into more stacks than suc k, each of the first suc k is higher than the limit with the cell behind it.
over : (limit t k at high : ℕ) (rest : List ℕ) → tallest_cell rest ≤ t → suc k < length (filled_behind limit at high rest)
    → suc k * (limit + 1) ≤ high + total rest + k * t
unfolding filled_behind tallest_cell total
over limit t k at high [] l = λ m. absurd (omega arith)
over limit t zero at high (h ∷ rest) l =
    cond_both (leb (high + h) limit) (filled_behind limit (at + 1) (high + h) rest) (at ∷ filled_behind limit (at + 1) h rest)
    (λ gs. 1 < length gs → 1 * (limit + 1) ≤ high + total (h ∷ rest) + 0 * t)
    (λ e m. omega (arith, over limit t zero (at + 1) (high + h) rest (omega (arith, l)) m))
    (λ e m. omega (arith, leb-false _ _ e))
over limit t (suc k) at high (h ∷ rest) l =
    cond_both (leb (high + h) limit) (filled_behind limit (at + 1) (high + h) rest) (at ∷ filled_behind limit (at + 1) h rest)
    (λ gs. suc (suc k) < length gs → suc (suc k) * (limit + 1) ≤ high + total (h ∷ rest) + suc k * t)
    (λ e m. omega (arith, over limit t (suc k) (at + 1) (high + h) rest (omega (arith, l)) m))
    (λ e m. omega (arith, l, leb-false _ _ e, over limit t k (at + 1) h rest (omega (arith, l)) (omega (arith, m))))

module _ (hs : List ℕ) where
  -- Stacks hold all cells: together they are as high as all cells, and each cell is in one of them.
  shared : (c : ℕ) (es : List ℕ) → ends_behind (length hs) c es ≡ true → up_to hs (length hs) ≤ up_to hs c + length es * greatest_behind hs c es
  unfolding greatest_behind
  shared c [] r = omega (arith, ap (up_to hs) (none_left (length hs) c r))
  shared c (e ∷ es) r =
      let f = first_end (length hs) c e es r in
      let p = mul-le-mul_left {m = greatest_behind hs e es} {n = max (stack_height hs c e) (greatest_behind hs e es)} (length es) (omega arith) in
      omega (arith, p, shared e es f.1, height_is hs c e (omega (arith, f.0)))

  pub all_shared : (es : List ℕ) → Ending hs es → total hs ≤ length es * greatest_height hs es
  unfolding total
  all_shared es r = omega (arith, shared 0 es r, up_to_all hs)

  held : (c : ℕ) (es : List ℕ) → ends_behind (length hs) c es ≡ true → (i : ℕ) → c ≤ i → i < length hs → get_or hs i 0 ≤ greatest_behind hs c es
  unfolding greatest_behind
  held c [] r i l m = absurd (omega (arith, none_left (length hs) c r))
  held c (e ∷ es) r i l m =
      let f = first_end (length hs) c e es r in
      elim (cases_lt i e) [
        | inl b ↦
            omega (
              arith,
              up_to_more hs i m,
              height_is hs c i l,
              height_is hs (i + 1) e (omega (arith, b)),
              height_is hs c e (omega (arith, f.0)),
            )
        | inr b ↦ omega (arith, held e es f.1 i b m)
      ]

  pub tallest_held : (es : List ℕ) → Ending hs es → tallest_cell hs ≤ greatest_height hs es
  tallest_held es r = tallest_most hs (greatest_height hs es) (λ i m. held 0 es r i (omega arith) m)

  -- Of n cells there are at most n stacks.
  few_ends : (c : ℕ) (es : List ℕ) → ends_behind (length hs) c es ≡ true → c + length es ≤ length hs
  few_ends c [] r = omega (arith, none_left (length hs) c r)
  few_ends c (e ∷ es) r = let f = first_end (length hs) c e es r in omega (arith, f.0, few_ends e es f.1)

  pub count_most : (es : List ℕ) → Ending hs es → length es ≤ length hs
  count_most es r = omega (arith, few_ends 0 es r)

  -- A limit at which they are few enough.
  pub enough_at : (limit k : ℕ) → total hs + k * tallest_cell hs < suc k * (limit + 1) → length (filled limit hs) ≤ suc k
  enough_at limit k l =
      elim (cases_lt (suc k) (length (filled limit hs))) [
        | inl m ↦ absurd (omega (arith, l, over limit (tallest_cell hs) k 0 0 hs (omega arith) m))
        | inr m ↦ m
      ]

  module _ (some : 0 < length hs) (most lo hi : ℕ) where
    pub in_order : Between hs most lo hi → lo ≤ hi
    in_order b = omega (arith, b.floor (filled hi hs) (filled_ends hs hi some b.hi_tall) b.enough, filled_keeps hs hi some b.hi_tall)

    -- Where they have met.
    pub met : Between hs most lo hi → hi ≤ lo → Between hs most lo lo
    met b l = let e : lo ≡ hi = omega (arith, l, in_order b) in subst (λ (h : ℕ). Between hs most lo h) (sym e) b

    module _ (b : Between hs most lo hi) (mid : ℕ) (up : lo ≤ mid) (down : mid < hi) where
      pub tall : tallest_cell hs ≤ mid
      tall = omega (arith, b.tall, up)

      pub nearer : greatest_height hs (filled mid hs) - lo < hi - lo
      nearer = omega (arith, filled_keeps hs mid some tall, up, down)

      -- At their own height they are as few.
      pub lowered : length (filled mid hs) ≤ most → Between hs most lo (greatest_height hs (filled mid hs))
      lowered f =
          let e = filled_ends hs mid some tall in
          let t = tallest_held (filled mid hs) e in
          record {
            tall = b.tall;
            floor = b.floor;
            enough = omega (arith, f, no_more _ _ (ends_no_earlier hs (greatest_height hs (filled mid hs)) some t (filled mid hs) e (omega arith)));
            hi_tall = t;
            hi_most = omega (arith, filled_keeps hs mid some tall, down, b.hi_most);
          }

      pub raised : most < length (filled mid hs) → Between hs most (mid + 1) hi
      raised f = record {
        tall = omega (arith, tall);
        floor = λ other e l.
            elim (cases_lt mid (greatest_height hs other)) [
              | inl m ↦ omega (arith, m)
              | inr m ↦ absurd (omega (arith, f, l, no_more _ _ (ends_no_earlier hs mid some tall other e m)))
            ];
        enough = b.enough;
        hi_tall = b.hi_tall;
        hi_most = b.hi_most;
      }

  -- Where the two have met, the stacks that are filled at that height are the lowest, and of that height the fewest. More stacks
  -- than there are cells are never needed.
  module _ (some : 0 < length hs) (most height : ℕ) (b : Between hs (min most (length hs)) height height) where
    pub lowest_for : LowestFor hs most (filled height hs)
    lowest_for = record {
      ending = filled_ends hs height some b.tall;
      keeps = omega (arith, b.enough);
      lowest = λ other e l.
          let f = b.floor other e (omega (arith, l, count_most other e)) in
          let k = filled_keeps hs height some b.tall in
          elim (cases_lt (greatest_height hs (filled height hs)) (greatest_height hs other)) [
            | inl m ↦ inl m
            | inr m ↦ inr (omega (arith, f, k, m), no_more _ _ (ends_no_earlier hs height some b.tall other e (omega (arith, k, m, f))))
          ];
    }
