-- Cells as components: a run of them is an apart group in one way only, without a fold, as wide as a cell and as high as all
-- of them together.
use Prim.Native.Nat.{ℕ, zero, suc, ◌+◌, ◌*◌, ◌≤◌, ◌<◌}
use mathlib.Core.Path.{◌≡◌, refl, sym, ap, ◌∙◌}
use mathlib.Core.Logic.{◌⊎◌, inl, inr}
use mathlib.Core.List.{List, [], ◌∷◌, ◌++◌}
use mathlib.Core.Bool.{Bool, true}
use native.Mathlib.Omega.{arith}
use lib.ListN.{length, take, drop, get_or}
use lib.Dec.{leb}
use borrow.Author.Tests.{leb-true}
use Rattle.std.proofs.lemmas.List.{length-map, map-append, length-take-le, take-append-drop, drop-append-le}
use Rattle.terms.specs.Numbers.{most_apart, most_size}
use Rattle.terms.specs.Component.{in_size}
use Rattle.terms.specs.declared.Component.{Component}
use Rattle.terms.specs.declared.Kind.TheVariants.{Apart}
use Rattle.terms.proofs.Bools.{both, and_is}
use Rattle.terms.proofs.Lists.{AllSized}
use Rattle.terms.proofs.Order.{order}
use Rattle.model.specs.Groups.{gap_behind, Model, Rule}
use Rattle.model.specs.Laws.{Laws}
use Rattle.group.specs.Rows.{tall}
use Rattle.group.specs.Group.{none, gap_after, unbarred, widest, flat_height, may_stand, least_height, least_width, SomeWay}
use Rattle.group.proofs.Ways.{suits, some_way}
use Rattle.group.proofs.Falls.{apart_height}
use Rattle.layout.specs.Layout.{groups}
use Rattle.layout.proofs.Bounds.{AllGaps}
use Rattle.layout.proofs.Groups.{legal_group, Good, groups_laws}
use Rattle.layout.proofs.Widths.{apart_met, apart_unmet}
use Rattle.cells.specs.Apart.{cell, cell_stack}
use Rattle.cells.specs.Calls.{all_in_size}
use Rattle.cells.specs.Endings.{total}

-- Parts of a row of cells.
pub sized_take : (hs : List ℕ) (k : ℕ) → all_in_size hs ≡ true → all_in_size (take k hs) ≡ true
unfolding all_in_size
sized_take hs zero e = refl
sized_take [] (suc k) e = refl
sized_take (h ∷ hs) (suc k) e = let b = both (in_size h) (all_in_size hs) e in and_is b.0 (sized_take hs k b.1)

pub sized_drop : (hs : List ℕ) (k : ℕ) → all_in_size hs ≡ true → all_in_size (drop k hs) ≡ true
unfolding all_in_size
sized_drop hs zero e = e
sized_drop [] (suc k) e = refl
sized_drop (h ∷ hs) (suc k) e = sized_drop hs k (both (in_size h) (all_in_size hs) e).1

-- What a stack's check says of them.
pub cells-length : (hs : List ℕ) → length (cell_stack hs) ≡ length hs
cells-length hs = length-map hs cell

cells_sized : (hs : List ℕ) → all_in_size hs ≡ true → AllSized (cell_stack hs)
unfolding all_in_size
cells_sized [] e = tt
cells_sized (h ∷ hs) e =
    let b = both (in_size h) (all_in_size hs) e in
    let s = both (leb 1 h) (leb h most_size) b.0 in
    (record { height_some = leb-true _ _ s.0; height_most = leb-true _ _ s.1; width_some = omega arith; width_most = omega arith }, cells_sized hs b.1)

cells_gaps : (hs : List ℕ) → AllGaps (cell_stack hs)
cells_gaps [] = tt
cells_gaps (h ∷ hs) = (omega arith, cells_gaps hs)

cells_good : (hs : List ℕ) → length hs ≤ most_apart → all_in_size hs ≡ true → Good (cell_stack hs)
cells_good hs few sized = record { few = omega (arith, few, cells-length hs); sized = cells_sized hs sized; gapped = cells_gaps hs }

pub cells_free : (hs : List ℕ) → unbarred (cell_stack hs) ≡ true
unfolding gap_behind
cells_free [] = refl
cells_free (h ∷ []) = refl
cells_free (h ∷ k ∷ hs) = cells_free (k ∷ hs)

-- Their sizes as a group.
pub no_gap : (hs : List ℕ) → gap_after (cell_stack hs) ≡ 0
unfolding gap_behind
no_gap [] = refl
no_gap (h ∷ []) = refl
no_gap (h ∷ k ∷ hs) = no_gap (k ∷ hs)

cells_tall : (hs : List ℕ) → tall (cell_stack hs) ≡ total hs
unfolding tall total
cells_tall [] = refl
cells_tall (h ∷ hs) = ap (λ (t : ℕ). h + t) (cells_tall hs)

slim : (hs : List ℕ) → widest (cell_stack hs) ≤ 1
unfolding widest
slim [] = omega arith
slim (h ∷ hs) = omega (arith, slim hs)

one_wide : (hs : List ℕ) → 0 < length hs → widest (cell_stack hs) ≡ 1
unfolding widest
one_wide [] some = absurd (omega arith)
one_wide (h ∷ hs) some = omega (arith, slim hs)

-- The rule of apart groups.
abbrev pub apart : Model Component
apart = groups Apart

abbrev pub apart_rule : Rule Component
apart_rule = legal_group Apart (may_stand Apart)

pub apart_laws : Laws apart Good apart_rule
apart_laws = groups_laws Apart (may_stand Apart) (suits Apart)

-- It does not matter to them whether they stand last.
module _ (last : Bool) (hs : List ℕ) (some : 0 < length hs) (few : length hs ≤ most_apart) (sized : all_in_size hs ≡ true) where
  good : Good (cell_stack hs)
  good = cells_good hs few sized

  filled : 0 < length (cell_stack hs)
  filled = omega (arith, some, cells-length hs)

  way : SomeWay (may_stand Apart last) (cell_stack hs)
  way = some_way Apart last (cell_stack hs) tt filled (cells_free hs)

  flat : (g0 : ℕ) → flat_height g0 (cell_stack hs) ≡ total hs + g0
  flat g0 = omega (arith, cells_tall hs, no_gap hs)

  -- The least width of such a group.
  met : (g0 limit : ℕ) → total hs + g0 ≤ limit → least_width Apart last g0 (cell_stack hs) limit ≡ 1
  met g0 limit l = apart_met (may_stand Apart last) (suits Apart last) g0 (cell_stack hs) limit way (omega (arith, flat g0, l)) ∙ one_wide hs some

  unmet : (g0 limit : ℕ) → limit < total hs + g0 → least_width Apart last g0 (cell_stack hs) limit ≡ none
  unmet g0 limit l = apart_unmet (may_stand Apart last) (suits Apart last) g0 (cell_stack hs) limit way (omega (arith, flat g0, l))

  -- An apart group of cells is at least as wide as one, and as high as all together.
  pub group_least : (m g0 w h : ℕ) → apart_rule m g0 last (cell_stack hs) w h → (1 ≤ w) × (total hs ≤ h)
  group_least m g0 w h g =
      go (order (total hs + g0) h) (apart_laws.no_better m g0 last (cell_stack hs) w h good g h (omega arith)) (apart_laws.slim m g0 last (cell_stack hs) w h good g)
    where
      go : (total hs + g0 ≤ h) ⊎ (h < total hs + g0)
          → (least_width Apart last g0 (cell_stack hs) h < w) ⊎ ((least_width Apart last g0 (cell_stack hs) h ≡ w) × (apart.height h g0 last (cell_stack hs) ≤ h))
          → w ≤ most_size * length (cell_stack hs) → (1 ≤ w) × (total hs ≤ h)
      go (inl l) (inl b) s = (omega (arith, met g0 h l), omega (arith, l))
      go (inl l) (inr b) s = (omega (arith, met g0 h l, b.0), omega (arith, l))
      go (inr l) (inl b) s = absurd (omega (arith, unmet g0 h l, few, cells-length hs))
      go (inr l) (inr b) s = absurd (omega (arith, unmet g0 h l, b.0, few, cells-length hs))

  -- Behind other cells, one is just so wide and so high.
  least_high : (cap : ℕ) → least_height Apart last 0 (cell_stack hs) cap ≡ total hs
  least_high cap = omega (arith, apart_height (may_stand Apart last) 0 (cell_stack hs) cap way (suits Apart last), flat 0)

  pub group_stands : (m : ℕ) → apart_rule m 0 last (cell_stack hs) 1 (total hs)
  group_stands m =
      let w : least_width Apart last 0 (cell_stack hs) (total hs) ≡ 1 = met 0 (total hs) (omega arith) in
      rw (least_high 1) at (rw w at (apart_laws.reached m 0 last (cell_stack hs) filled good (total hs) (omega (arith, w))))

-- A row in two parts.
pub cells_parts : (a b : List Component) (hs : List ℕ) → a ++ b ≡ cell_stack hs
    → (a ≡ cell_stack (take (length a) hs)) × (b ≡ cell_stack (drop (length a) hs))
cells_parts [] b hs e = (refl, e)
cells_parts (c ∷ a) b [] e = absurd (omega (arith, ap length e))
cells_parts (c ∷ a) b (h ∷ hs) e =
    let r = cells_parts a b hs (ap (λ (l : List Component). drop 1 l) e) in
    let c0 : c ≡ cell h = ap (λ (l : List Component). get_or l 0 c) e in
    (rw (c0, sym r.0) refl, r.1)

pub cells_together : (hs : List ℕ) (b e : ℕ) → b ≤ e → e ≤ length hs
    → cell_stack (drop b (take e hs)) ++ cell_stack (drop e hs) ≡ cell_stack (drop b hs)
cells_together hs b e l m =
    sym (map-append cell (drop b (take e hs)) (drop e hs))
    ∙ ap cell_stack (sym (drop-append-le b (take e hs) (drop e hs) (omega (arith, l, length-take-le e hs m))) ∙ ap (drop b) (take-append-drop e hs))
