-- The laws of the small model, and what the recurrence makes of it.
use Prim.Native.Nat.{ℕ, ◌≤◌, ◌<◌}
use mathlib.Core.Path.{◌≡◌, refl}
use mathlib.Core.Logic.{inr}
use mathlib.Core.List.{List, [], ◌∷◌}
use mathlib.Core.Bool.{Bool, true, false, cond, ◌&&◌}
use native.Mathlib.Omega.{arith}
use lib.ListN.{length, length-append}
use lib.Dec.{leb}
use borrow.Author.Tests.{le-leb, leb-true}
use Rattle.terms.proofs.Bools.{both}
use Rattle.model.specs.Groups.{none, gap_behind, width_of, height_of, LayoutOf}
use Rattle.model.specs.Layout.{unmet, scan_by, layouts_by, layout_for}
use Rattle.model.specs.Laws.{Laws}
use Rattle.model.specs.Outlines.{outline}
use Rattle.model.specs.Search.{Search}
use Rattle.model.proofs.Layouts.{layouts_search}
use Rattle.model.specs.Example.{may_stand, pairs, Few, PairRule}

no_gap : (cs : List ℕ) → gap_behind {C = ℕ} (λ x. 0) cs ≤ 4000
unfolding gap_behind
no_gap [] = omega arith
no_gap (x ∷ []) = omega arith
no_gap (x ∷ y ∷ l) = no_gap (y ∷ l)

-- There is a width where the group may stand and is low enough.
met : (b : Bool) → cond b 1 none < none → b ≡ true
met true h = refl
met false h = absurd (omega arith)

width_met : (last : Bool) (cs : List ℕ) (limit : ℕ) → may_stand last cs ≡ true → length cs ≤ limit → cond (may_stand last cs && leb (length cs) limit) 1 none ≡ 1
width_met last cs limit e h = rw (e, le-leb (length cs) limit h)

met_both : (last : Bool) (cs : List ℕ) (limit : ℕ) → cond (may_stand last cs && leb (length cs) limit) 1 none < none → (may_stand last cs ≡ true) × (length cs ≤ limit)
met_both last cs limit h = let b = both (may_stand last cs) (leb (length cs) limit) (met _ h) in (b.0, leb-true _ _ b.1)

pub pairs_laws : Laws pairs Few PairRule
pairs_laws = record {
  parts = λ a b s. let n = length-append a b in (omega arith, omega arith);
  few = λ cs s. s;
  near = λ cs s. no_gap cs;
  some = λ m g0 last cs w h a. a.0;
  slim = λ m g0 last cs w h s a. omega (arith, a.0, a.2);
  high = λ m g0 last cs w h s a. omega (arith, a.0, a.3);
  low = λ m g0 last cs w h s n a. omega (arith, a.3);
  no_better = λ m g0 last cs w h s a limit k.
      let e = width_met last cs limit a.1 (omega (arith, a.3)) in
      inr (omega (arith, e, a.2), omega (arith, a.3));
  reached = λ m g0 last cs p s limit h.
      let b = met_both last cs limit h in
      (p, b.0, width_met last cs limit b.0 b.1, refl);
  keeps = λ g0 last cs limit h. omega (arith, (met_both last cs limit h).1);
}

-- So the recurrence finds the best of all layouts of them.
pub pairs_search : (cs : List ℕ) → 0 < length cs → Few cs → Search (LayoutOf (λ x. 0) PairRule cs) (λ gs. outline (width_of gs) (height_of gs)) (λ limit. layout_for pairs limit 0 cs)
pairs_search = layouts_search pairs_laws

-- Within one row two components would have to stand one by one, and the first is not the last.
two_in_one_row : layout_for pairs 1 0 (0 ∷ 0 ∷ []) ≡ unmet
unfolding scan_by layouts_by
two_in_one_row = refl

-- Within two rows the first two of three stand together, and the last alone.
three_in_two_rows : layout_for pairs 2 0 (0 ∷ 0 ∷ 0 ∷ []) ≡ record { width = 2; height = 2; end = 2 }
unfolding scan_by layouts_by
three_in_two_rows = refl
