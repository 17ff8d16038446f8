-- The walk over both sides of a group, lowest start row first: the components from `low` up to `high`, around the fold, have
-- started. One more leaves the greatest row sum as it was, or makes it the sum of the row where it starts.
use Prim.Native.Nat.{ℕ, ◌+◌, ◌-◌, ◌≤◌, ◌<◌, max}
use mathlib.Core.Path.{◌≡◌, refl, sym, ap, ◌∙◌}
use mathlib.Core.List.{List}
use mathlib.Core.Bool.{Bool, true, false, cond, ◌&&◌, false≢true}
use native.Mathlib.Nat.{le_antisymm}
use native.Mathlib.Decide.{dec_le, dec_lt}
use native.Mathlib.Omega.{arith}
use lib.ListN.{length, get_or}
use lib.Dec.{leb, ltb}
use borrow.Author.Tests.{ltb-true, lt-ltb, le-ltb, le-leb, lt-leb}
use Rattle.std.specs.Bool.{then_some}
use Rattle.folding.specs.declared.Placement.{Placement}
use Rattle.folding.specs.Outline.{top_of, row_sum}
use Rattle.folding.specs.Asks.{placed_at, placed_in, start_at, end_at}
use Rattle.outline.specs.Inner.{share_at, sum_at_start, most_width, Chains, NextStart, GroupWide, WidthIs}
use Rattle.folding.proofs.Sums.{total, total_none, total_more, total_le, total_grows, total_same}
use Rattle.folding.proofs.Rows.{greatest_le, row_most}
use Rattle.outline.proofs.Placing.{sum_tabulate}

-- w is the greatest of the sums f of all rows.
pub record Peak (f : ℕ → ℕ) (w : ℕ) : Type 0 where
  pub most : (row : ℕ) → f row ≤ w
  pub row : ℕ
  pub reached : f row ≡ w

-- One more component, which adds `share` to each row, starts at row s and is `own` wide; above s the others only end.
peak_more : (f f' share : ℕ → ℕ) (w s own : ℕ) → ((row : ℕ) → f' row ≡ f row + share row) → ((row : ℕ) → row < s → share row ≡ 0) → ((row : ℕ) → share row ≤ own) → share s ≡ own
    → ((row : ℕ) → s ≤ row → f row ≤ f s) → Peak f w → Peak f' (max w (own + f s))
peak_more f f' share w s own same before few here falls p = elim (dec_le (own + f s) w) [
  | yes h ↦ record { most = most; row = p.row; reached = omega (arith, same p.row, most p.row, p.reached) }
  | no h ↦ record { most = most; row = s; reached = omega (arith, same s) }
]
  where
    most : (row : ℕ) → f' row ≤ max w (own + f s)
    most row = elim (dec_lt row s) [
      | yes h ↦ omega (arith, same row, before row h, p.most row)
      | no h ↦ omega (arith, same row, few row, falls row (omega arith))
    ]

-- What a component adds to a row.
module _ (hs ws : List ℕ) (ps : List Placement) (i : ℕ) where
  share_before : (row : ℕ) → row < start_at ps i → share_at hs ws ps row i ≡ 0
  share_before row h = rw (lt-leb (start_at ps i) row h)

  share_behind : (row : ℕ) → end_at hs ps i ≤ row → share_at hs ws ps row i ≡ 0
  share_behind row h = go (leb (start_at ps i) row)
    where
      go : (b : Bool) → cond (b && ltb row (end_at hs ps i)) (get_or ws i 0) 0 ≡ 0
      go true = rw (le-ltb row (end_at hs ps i) h)
      go false = refl

  share_inside : (row : ℕ) → start_at ps i ≤ row → row < end_at hs ps i → share_at hs ws ps row i ≡ get_or ws i 0
  share_inside row h k = rw (le-leb (start_at ps i) row h, lt-ltb row (end_at hs ps i) k)

  share_most : (row : ℕ) → share_at hs ws ps row i ≤ get_or ws i 0
  share_most row = go (leb (start_at ps i) row && ltb row (end_at hs ps i))
    where
      go : (b : Bool) → cond b (get_or ws i 0) 0 ≤ get_or ws i 0
      go true = omega arith
      go false = omega arith

  -- Behind its start it only ends.
  share_falls : (s row : ℕ) → start_at ps i ≤ s → s ≤ row → share_at hs ws ps row i ≤ share_at hs ws ps s i
  share_falls s row h k = elim (dec_lt row (end_at hs ps i)) [
    | yes l ↦ omega (arith, share_most row, share_inside s h (omega arith))
    | no l ↦ omega (arith, share_behind row (omega arith))
  ]

-- The sum where component i starts, where one on the other side has started or not.
sum_across : (hs ws : List ℕ) (ps : List Placement) (i other : ℕ) (b : Bool) → sum_at_start hs ws ps i (then_some b other) ≡ get_or ws i 0 + cond b (share_at hs ws ps (start_at ps i) other) 0
sum_across hs ws ps i other true = refl
sum_across hs ws ps i other false = omega arith

-- The sum of a row, of the components from low up to high.
abbrev pub started_sum : List ℕ → List ℕ → List Placement → ℕ → ℕ → ℕ → ℕ
started_sum hs ws ps low high row = total (share_at hs ws ps row) high - total (share_at hs ws ps row) low

-- The walk so far. None that has started starts above one that has not.
pub record Swept (hs ws : List ℕ) (ps : List Placement) (k low high width : ℕ) : Type 0 where
  pub below : low ≤ k
  pub above : k ≤ high
  pub inside : high ≤ length hs
  pub under_left : 0 < low → (j : ℕ) → low ≤ j → j < high → start_at ps j ≤ start_at ps (low - 1)
  pub under_right : high < length hs → (j : ℕ) → low ≤ j → j < high → start_at ps j ≤ start_at ps high
  pub peak : Peak (started_sum hs ws ps low high) width
  pub slim : width ≤ most_width

module _ {hs ws : List ℕ} {ps : List Placement} {k : ℕ} (v : GroupWide hs ws ps) (sides : Chains hs ps k) where
  module _ {low high width : ℕ} (p : Swept hs ws ps k low high width) where
    -- Component i starts above all that have started.
    joins : (i : ℕ) → i < length hs → ((j : ℕ) → low ≤ j → j < high → start_at ps j ≤ start_at ps i) → (f : ℕ → ℕ) → ((row : ℕ) → f row ≡ started_sum hs ws ps low high row + share_at hs ws ps row i)
        → Peak f (max width (get_or ws i 0 + started_sum hs ws ps low high (start_at ps i)))
    joins i h under f same =
        peak_more (started_sum hs ws ps low high) f (λ row. share_at hs ws ps row i) width (start_at ps i) (get_or ws i 0) same
        (share_before hs ws ps i) (share_most hs ws ps i) (share_inside hs ws ps i (start_at ps i) (omega arith) (omega (arith, v.tall i h)))
        (λ row l. omega (
          arith,
          total_le (share_at hs ws ps row) (share_at hs ws ps (start_at ps i)) low high (omega (arith, p.below, p.above)) (λ j a b. share_falls hs ws ps j (start_at ps i) row (under j a b) l),
        ))
        p.peak

    -- In row s at most component o of them lies, where there is one.
    across : (s o : ℕ) (b : Bool) → (b ≡ true → (low ≤ o) × (o < high)) → ((j : ℕ) → low ≤ j → j < high → (b ≡ true → j ≡ o → ⊥) → end_at hs ps j ≤ s)
        → started_sum hs ws ps low high s ≡ cond b (share_at hs ws ps s o) 0
    across s o true has ended =
        let h = has refl in
        omega (
          arith,
          total_same (share_at hs ws ps s) low o h.0 (λ j a b. share_behind hs ws ps j s (ended j a (omega (arith, h.1)) (λ z e. omega arith))),
          total_more (share_at hs ws ps s) o,
          total_same (share_at hs ws ps s) (o + 1) high (omega (arith, h.1)) (λ j a b. share_behind hs ws ps j s (ended j (omega (arith, h.0)) b (λ z e. omega arith))),
        )
    across s o false has ended =
        omega (arith, total_same (share_at hs ws ps s) low high (omega (arith, p.below, p.above)) (λ j a b. share_behind hs ws ps j s (ended j a b (λ z. absurd (false≢true z)))))

    grows : (row : ℕ) → total (share_at hs ws ps row) low ≤ total (share_at hs ws ps row) high
    grows row = total_grows (share_at hs ws ps row) low high (omega (arith, p.below, p.above))

    -- The next on the left.
    pub sweep_left : NextStart ps (length hs) low high true → {sum width' : ℕ} → sum ≡ sum_at_start hs ws ps (low - 1) (then_some (ltb k high) (high - 1)) → sum ≤ most_width → width' ≡ max width sum → Swept hs ws ps k (low - 1) high width'
    sweep_left n {sum} {width'} e most m = record {
      below = omega (arith, p.below);
      above = p.above;
      inside = p.inside;
      under_left = λ h j a b. let c = sides.falls (low - 1 - 1) (low - 1) (omega (arith, n.0)) (omega (arith, n.0, p.below)) in elim (dec_lt j low) [
        | yes l ↦ let z : j ≡ low - 1 = omega arith in rw z (omega arith)
        | no l ↦ omega (arith, p.under_left n.0 j (omega arith) b)
      ];
      under_right = λ h j a b. elim (dec_lt j low) [
        | yes l ↦ let z : j ≡ low - 1 = omega arith in rw z (n.1 h)
        | no l ↦ p.under_right h j (omega arith) b
      ];
      peak = rw (m ∙ ap (max width) (e ∙ sum_across hs ws ps (low - 1) (high - 1) (ltb k high) ∙ ap (λ (x : ℕ). get_or ws (low - 1) 0 + x) (sym others))) (joins (low - 1) (omega (arith, n.0, p.below, sides.within)) (p.under_left n.0) (started_sum hs ws ps (low - 1) high) more);
      slim = omega (arith, p.slim);
    }
      where
        others : started_sum hs ws ps low high (start_at ps (low - 1)) ≡ cond (ltb k high) (share_at hs ws ps (start_at ps (low - 1)) (high - 1)) 0
        others = across (start_at ps (low - 1)) (high - 1) (ltb k high) (λ z. let l = ltb-true k high z in (omega (arith, p.below), omega arith)) (λ j a b other. elim (dec_lt j k) [
          | yes l ↦ sides.falls (low - 1) j (omega (arith, n.0)) l
          | no l ↦ elim (dec_lt j (high - 1)) [
            | yes d ↦ omega (arith, sides.rises j (high - 1) (omega arith) d (omega (arith, p.inside)), p.under_left n.0 (high - 1) (omega arith) (omega arith))
            | no d ↦ absurd (other (lt-ltb k high (omega arith)) (omega arith))
          ]
        ])

        more : (row : ℕ) → started_sum hs ws ps (low - 1) high row ≡ started_sum hs ws ps low high row + share_at hs ws ps row (low - 1)
        more row = let z : low - 1 + 1 ≡ low = omega (arith, n.0) in omega (arith, grows row, rw z at (total_more (share_at hs ws ps row) (low - 1)))

    -- The next on the right.
    pub sweep_right : NextStart ps (length hs) low high false → {sum width' : ℕ} → sum ≡ sum_at_start hs ws ps high (then_some (ltb low k) low) → sum ≤ most_width → width' ≡ max width sum → Swept hs ws ps k low (high + 1) width'
    sweep_right n {sum} {width'} e most m = record {
      below = p.below;
      above = omega (arith, p.above);
      inside = omega (arith, n.0);
      under_left = λ h j a b. elim (dec_lt j high) [
        | yes l ↦ p.under_left h j a l
        | no l ↦ let z : j ≡ high = omega arith in rw z (n.1 h)
      ];
      under_right = λ h j a b. let c = sides.rises high (high + 1) p.above (omega arith) h in elim (dec_lt j high) [
        | yes l ↦ omega (arith, p.under_right n.0 j a l)
        | no l ↦ let z : j ≡ high = omega arith in rw z (omega arith)
      ];
      peak = rw (m ∙ ap (max width) (e ∙ sum_across hs ws ps high low (ltb low k) ∙ ap (λ (x : ℕ). get_or ws high 0 + x) (sym others))) (joins high n.0 (p.under_right n.0) (started_sum hs ws ps low (high + 1)) more);
      slim = omega (arith, p.slim);
    }
      where
        others : started_sum hs ws ps low high (start_at ps high) ≡ cond (ltb low k) (share_at hs ws ps (start_at ps high) low) 0
        others = across (start_at ps high) low (ltb low k) (λ z. let l = ltb-true low k z in (omega arith, omega (arith, p.above))) (λ j a b other. elim (dec_lt j k) [
          | yes l ↦ elim (dec_lt low j) [
            | yes d ↦ omega (arith, sides.falls low j d l, p.under_right n.0 low (omega arith) (omega arith))
            | no d ↦ absurd (other (lt-ltb low k (omega arith)) (omega arith))
          ]
          | no l ↦ sides.rises j high (omega arith) b n.0
        ])

        more : (row : ℕ) → started_sum hs ws ps low (high + 1) row ≡ started_sum hs ws ps low high row + share_at hs ws ps row high
        more row = omega (arith, grows row, total_more (share_at hs ws ps row) high)

    pub sweep_done : length hs ≤ high - low → WidthIs hs ws ps width
    sweep_done h seams =
        le_antisymm (omega (arith, all p.peak.row, p.peak.reached, row_most (placed_in hs ws seams ps) p.peak.row))
        (greatest_le (row_sum (placed_in hs ws seams ps)) (top_of (placed_in hs ws seams ps)) width (λ row l. omega (arith, all row, p.peak.most row)))
      where
        all : (row : ℕ) → started_sum hs ws ps low high row ≡ row_sum (placed_in hs ws seams ps) row
        all row =
            let z : low ≡ 0 = omega (arith, p.inside) in
            let y : high ≡ length hs = omega (arith, p.inside) in
            rw (z, y) (omega (arith, total_none (share_at hs ws ps row), sum_tabulate (placed_at hs ws seams ps) row (length hs)))
