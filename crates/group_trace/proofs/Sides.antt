-- The two sides of a group at the indices that the code has, and how high their rows can be.
use Prim.Native.Nat.{ℕ, ◌+◌, ◌-◌, ◌*◌, ◌≤◌, ◌<◌}
use mathlib.Core.Path.{◌≡◌, refl}
use mathlib.Core.List.{List, [], ◌∷◌}
use native.Mathlib.Omega.{arith}
use lib.ListN.{length}
use Rattle.terms.specs.declared.Component.{Component}
use Rattle.terms.specs.Seams.{component_in}
use Rattle.terms.proofs.Tabulate.{tabulate-drop, tabulate_end}
use Rattle.group.specs.Rows.{ht, packed, put_left, put_right, place}
use Rattle.group.specs.Group.{left_side, right_side}
use Rattle.group.specs.Table.{bare, entry, Columns}
use Rattle.group.proofs.Indices.{left_pred, at_le}

-- One side is used up.
pub place_only_right : (cap a b : ℕ) (y : Component) (r : List Component) → place cap a b [] (y ∷ r) ≡ put_right b (place cap a (b + ht y) [] r)
unfolding place packed
place_only_right cap a b y r = refl

pub place_only_left : (cap a b : ℕ) (x : Component) (l : List Component) → place cap a b (x ∷ l) [] ≡ put_left a (place cap (a + ht x) b l [])
unfolding place packed
place_only_left cap a b x [] = refl
place_only_left cap a b x (z ∷ l) = refl

pub place_none : (cap a b : ℕ) → place cap a b [] [] ≡ record { on_the_left = []; on_the_right = [] }
unfolding place packed
place_none cap a b = refl

module _ (hs ws : List ℕ) where
  abbrev at : ℕ → Component
  at i = component_in hs ws [] i

  pub left_last : (p : ℕ) → 0 < p → p ≤ length hs → left_side p (bare hs ws) ≡ at (p - 1) ∷ left_side (p - 1) (bare hs ws)
  left_last p s h = left_pred (component_in hs ws []) (length hs) p s h

  pub right_suc : (q : ℕ) → q < length hs → right_side q (bare hs ws) ≡ at q ∷ right_side (q + 1) (bare hs ws)
  right_suc q h = tabulate-drop (component_in hs ws []) (length hs) q h

  pub right_end : (q : ℕ) → length hs ≤ q → right_side q (bare hs ws) ≡ []
  right_end q h = tabulate_end (component_in hs ws []) (length hs) q h

  pub entry_le : Columns hs ws → (cap p q : ℕ) → p ≤ q → q ≤ length hs → entry hs ws cap p q ≤ 4000 * length hs
  entry_le g cap p q h k = omega (arith, at_le (component_in hs ws []) (length hs) g.low cap p q (omega arith) k)
