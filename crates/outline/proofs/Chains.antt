-- The sides of a group that stands in columns are chains, and what its top is then.
use Prim.Native.Nat.{ℕ, zero, suc, ◌+◌, ◌-◌, ◌≤◌, ◌<◌, max}
use mathlib.Core.Path.{◌≡◌, sym, ◌∙◌}
use mathlib.Core.List.{List}
use native.Mathlib.Nat.{le_antisymm}
use native.Mathlib.Decide.{dec_lt}
use native.Mathlib.Omega.{arith}
use lib.ListN.{length}
use Rattle.terms.specs.Pieces.{heights_in}
use Rattle.terms.proofs.Pieces.{heights_length}
use Rattle.folding.specs.declared.Placement.{Placement}
use Rattle.folding.specs.Outline.{greatest}
use Rattle.folding.specs.Asks.{side_at, start_at, end_at}
use Rattle.outline.specs.declared.Group.{Group}
use Rattle.outline.specs.Inner.{Lefts, GroupFlat, Chains}
use Rattle.folding.proofs.Rows.{greatest_le, greatest_ge}

-- A group has as many placements as heights.
pub lent_length : (g : Group) → length g.placements.now ≡ length (heights_in g.stack.now)
lent_length g = g.one_each ∙ sym (heights_length g.stack.now)

module _ {hs : List ℕ} {ps : List Placement} (v : GroupFlat hs ps) {k : ℕ} (l : Lefts ps (length hs) k) where
  falls_from : (d i j : ℕ) → j ≡ i + suc d → j < k → end_at hs ps j ≤ start_at ps i
  falls_from zero i j e h =
      let z : j ≡ i + 1 = omega arith in
      rw z ((v.beside i (omega (arith, l.within))).left_is_clear (l.on_the_left i (omega arith)) (l.on_the_left (i + 1) (omega arith)))
  falls_from (suc d) i j e h =
      omega (arith, falls_from d (i + 1) j (omega arith) h, (v.beside i (omega (arith, l.within))).left_is_clear (l.on_the_left i (omega arith)) (l.on_the_left (i + 1) (omega arith)))

  -- Behind one on the right all are on the right.
  right_from : (d : ℕ) → k + d < length hs → side_at ps (k + d) ≡ 0 → ⊥
  right_from zero h e = let z : k + 0 ≡ k = omega arith in l.next (omega arith) (rw z at e)
  right_from (suc d) h e = let z : k + suc d ≡ k + d + 1 = omega arith in right_from d (omega arith) ((v.beside (k + d) (omega arith)).left_comes_first (rw z at e))

  on_the_right : (i : ℕ) → k ≤ i → i < length hs → side_at ps i ≡ 0 → ⊥
  on_the_right i h g e = let z : k + (i - k) ≡ i = omega arith in right_from (i - k) (omega arith) (rw z e)

  rises_from : (d i j : ℕ) → j ≡ i + suc d → k ≤ i → j < length hs → end_at hs ps i ≤ start_at ps j
  rises_from zero i j e h g =
      let z : j ≡ i + 1 = omega arith in
      rw z ((v.beside i (omega arith)).right_is_clear (on_the_right i h (omega arith)) (on_the_right (i + 1) (omega arith) (omega arith)))
  rises_from (suc d) i j e h g =
      omega (arith, rises_from d (i + 1) j (omega arith) (omega arith) g, (v.beside i (omega arith)).right_is_clear (on_the_right i h (omega arith)) (on_the_right (i + 1) (omega arith) (omega arith)))

  pub chains_of : Chains hs ps k
  chains_of = record {
    within = l.within;
    falls = λ i j h g. falls_from (j - i - 1) i j (omega arith) g;
    rises = λ i j h m g. rises_from (j - i - 1) i j (omega arith) h g;
  }

-- The first component is the highest on the left, the last one on the right.
pub top_ends : {hs : List ℕ} {ps : List Placement} → 0 < length hs → (k : ℕ) → Chains hs ps k → greatest (end_at hs ps) (length hs) ≡ max (end_at hs ps 0) (end_at hs ps (length hs - 1))
top_ends {hs} {ps} h k c = le_antisymm (greatest_le (end_at hs ps) (length hs) _ most) (omega (arith, greatest_ge (end_at hs ps) (length hs) 0 h, greatest_ge (end_at hs ps) (length hs) (length hs - 1) (omega arith)))
  where
    most : (j : ℕ) → j < length hs → end_at hs ps j ≤ max (end_at hs ps 0) (end_at hs ps (length hs - 1))
    most j l = elim (dec_lt j k) [
      | yes g ↦ elim (dec_lt 0 j) [
        | yes m ↦ omega (arith, c.falls 0 j m g)
        | no m ↦ let z : j ≡ 0 = omega arith in rw z (omega arith)
      ]
      | no g ↦ elim (dec_lt j (length hs - 1)) [
        | yes m ↦ omega (arith, c.rises j (length hs - 1) (omega arith) m (omega arith))
        | no m ↦ let z : j ≡ length hs - 1 = omega arith in rw z (omega arith)
      ]
    ]
