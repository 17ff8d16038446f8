-- What follows a group is a folding of the remaining stack with lower group numbers: legal from 0 on, with the same
-- outline.
use Prim.Native.Nat.{ℕ, zero, suc, ◌+◌, ◌-◌, ◌≤◌}
use mathlib.Core.Path.{◌≡◌, refl}
use mathlib.Core.List.{List, [], ◌∷◌, map}
use mathlib.Core.Bool.{Bool, true, false, cond}
use native.Mathlib.Decide.{ℕ_discrete}
use native.Mathlib.Omega.{arith}
use borrow.Author.Tests.{eq-eqb, ne_eqb}
use Rattle.terms.specs.declared.Kind.{Kind}
use Rattle.terms.specs.declared.Kind.TheVariants.{Apart, Nested}
use Rattle.folding.specs.declared.Placed.{Placed}
use Rattle.folding.specs.Placement.{group_of}
use Rattle.folding.specs.Legal.{same_group}
use Rattle.folding.specs.Outline.{joined, groups_of, top_of, row_sum, greatest, group_width, last_gap, folded, fold_gap, group_height, layout_width, layout_height}
use Rattle.folding.proofs.Rules.{Alone, Within, down, turn, up, Next, within, opens, Follows, LegalFrom}

-- The same component with a group number that is k lower.
abbrev pub lower : ℕ → Placed → Placed
lower k x = record { component = x.component; placement = record { group = group_of x - k; side = x.placement.side; start = x.placement.start } }

module _ (kind : Kind) (k : ℕ) where
  lower_alone : (kind : Kind) (x : Placed) → Alone kind x → Alone kind (lower k x)
  lower_alone Apart x a = record { two_sides = a.two_sides; low = a.low; side_stands = a.side_stands }
  lower_alone Nested x a = record { two_sides = a.two_sides; low = a.low; side_stands = a.side_stands }

  lower_within : (x y : Placed) → Within x y → Within (lower k x) (lower k y)
  lower_within x y (down u v e) = down u v e
  lower_within x y (turn u v) = turn u v
  lower_within x y (up u v e) = up u v e

  lower_next : (x y : Placed) → k ≤ group_of x → Next x y → Next (lower k x) (lower k y)
  lower_next x y h (within e w) = within (omega arith) (lower_within x y w)
  lower_next x y h (opens e v) = opens (omega arith) v

  next_le : (x y : Placed) → Next x y → group_of x ≤ group_of y
  next_le x y (within e w) = omega arith
  next_le x y (opens e v) = omega arith

  lower_follows : (x : Placed) (l : List Placed) → k ≤ group_of x → Follows kind x l → Follows kind (lower k x) (map (lower k) l)
  lower_follows x [] h f = tt
  lower_follows x (y ∷ l) h f = let m = next_le x y f.0 in (lower_next x y h f.0, lower_alone kind y f.1, lower_follows y l (omega arith) f.2)

  pub lower_legal : (m : ℕ) (l : List Placed) → LegalFrom kind (m + k) l → LegalFrom kind m (map (lower k) l)
  lower_legal m [] f = tt
  lower_legal m (x ∷ l) f = let e = f.0 in (omega arith, f.1, lower_alone kind x f.2, lower_follows x l (omega arith) f.3)

-- Nothing of the outline looks at the number itself.
module _ (k : ℕ) where
  lower_top : (g : List Placed) → top_of (map (lower k) g) ≡ top_of g
  unfolding top_of
  lower_top [] = refl
  lower_top (x ∷ g) = rw (lower_top g)

  lower_row : (g : List Placed) (r : ℕ) → row_sum (map (lower k) g) r ≡ row_sum g r
  unfolding row_sum
  lower_row [] r = refl
  lower_row (x ∷ g) r = rw (lower_row g r)

  lower_greatest : (g : List Placed) (n : ℕ) → greatest (row_sum (map (lower k) g)) n ≡ greatest (row_sum g) n
  unfolding greatest
  lower_greatest g zero = refl
  lower_greatest g (suc n) = rw (lower_greatest g n, lower_row g n)

  lower_width : (g : List Placed) → group_width (map (lower k) g) ≡ group_width g
  lower_width g = rw (lower_top g) (lower_greatest g (top_of g))

  lower_last : (g : List Placed) → last_gap (map (lower k) g) ≡ last_gap g
  unfolding last_gap
  lower_last [] = refl
  lower_last (x ∷ []) = refl
  lower_last (x ∷ y ∷ g) = lower_last (y ∷ g)

  lower_folded : (g : List Placed) → folded (map (lower k) g) ≡ folded g
  unfolding folded
  lower_folded [] = refl
  lower_folded (x ∷ g) = rw (lower_folded g)

  lower_foldgap : (g : List Placed) → fold_gap (map (lower k) g) ≡ fold_gap g
  unfolding fold_gap
  lower_foldgap [] = refl
  lower_foldgap (x ∷ []) = refl
  lower_foldgap (x ∷ y ∷ g) = rw (lower_foldgap (y ∷ g))

  lower_height : (g0 : ℕ) (g : List Placed) → group_height g0 (map (lower k) g) ≡ group_height g0 g
  lower_height g0 g = rw (lower_folded g, lower_top g, lower_last g, lower_foldgap g)

  lower_same : (x y : Placed) → k ≤ group_of x → k ≤ group_of y → same_group (lower k x) (lower k y) ≡ same_group x y
  lower_same x y h i = elim (ℕ_discrete (group_of y) (group_of x)) [
    | yes e ↦ rw (eq-eqb (group_of y) (group_of x) e) (eq-eqb (group_of y - k) (group_of x - k) (omega arith))
    | no d ↦ rw (ne_eqb (group_of y) (group_of x) d) (ne_eqb (group_of y - k) (group_of x - k) (λ e. d (omega arith)))
  ]

  -- No group number is below k.
  abbrev Above : List Placed → Type 0
  Above [] = Unit {0}
  Above (x ∷ l) = (k ≤ group_of x) × Above l

  abbrev Aboves : List (List Placed) → Type 0
  Aboves [] = Unit {0}
  Aboves (g ∷ gs) = Above g × Aboves gs

  joined_above : (x : Placed) (gs : List (List Placed)) → k ≤ group_of x → Aboves gs → Aboves (joined x gs)
  joined_above x [] h a = ((h, tt), tt)
  joined_above x ([] ∷ gs) h a = ((h, tt), a.1)
  joined_above x ((y ∷ g) ∷ gs) h a = go (same_group x y)
    where
      go : (b : Bool) → Aboves (cond b ((x ∷ y ∷ g) ∷ gs) ((x ∷ []) ∷ (y ∷ g) ∷ gs))
      go true = ((h, a.0), a.1)
      go false = ((h, tt), (a.0, a.1))

  groups_above : (l : List Placed) → Above l → Aboves (groups_of l)
  unfolding groups_of
  groups_above [] a = tt
  groups_above (x ∷ l) a = joined_above x (groups_of l) a.0 (groups_above l a.1)

  lower_joined : (x : Placed) (gs : List (List Placed)) → k ≤ group_of x → Aboves gs → joined (lower k x) (map (map (lower k)) gs) ≡ map (map (lower k)) (joined x gs)
  lower_joined x [] h a = refl
  lower_joined x ([] ∷ gs) h a = refl
  lower_joined x ((y ∷ g) ∷ gs) h a = rw (lower_same x y h a.0.0) (go (same_group x y))
    where
      go : (b : Bool) → cond b ((lower k x ∷ lower k y ∷ map (lower k) g) ∷ map (map (lower k)) gs) ((lower k x ∷ []) ∷ (lower k y ∷ map (lower k) g) ∷ map (map (lower k)) gs)
          ≡ map (map (lower k)) (cond b ((x ∷ y ∷ g) ∷ gs) ((x ∷ []) ∷ (y ∷ g) ∷ gs))
      go true = refl
      go false = refl

  lower_groups : (l : List Placed) → Above l → groups_of (map (lower k) l) ≡ map (map (lower k)) (groups_of l)
  unfolding groups_of
  lower_groups [] a = refl
  lower_groups (x ∷ l) a = rw (lower_groups l a.1) (lower_joined x (groups_of l) a.0 (groups_above l a.1))

  lower_layout_width : (gs : List (List Placed)) → layout_width (map (map (lower k)) gs) ≡ layout_width gs
  unfolding layout_width
  lower_layout_width [] = refl
  lower_layout_width (g ∷ gs) = rw (lower_width g, lower_layout_width gs)

  lower_layout_height : (g0 : ℕ) (gs : List (List Placed)) → layout_height g0 (map (map (lower k)) gs) ≡ layout_height g0 gs
  unfolding layout_height
  lower_layout_height g0 [] = refl
  lower_layout_height g0 (g ∷ gs) = rw (lower_height g0 g, lower_last g, lower_layout_height (last_gap g) gs)

above_follows : (kind : Kind) (k : ℕ) (x : Placed) (l : List Placed) → k ≤ group_of x → Follows kind x l → Above k l
above_follows kind k x [] h f = tt
above_follows kind k x (y ∷ l) h f = let m = next_le kind k x y f.0 in (omega arith, above_follows kind k y l (omega arith) f.2)

above_legal : (kind : Kind) (m k : ℕ) (l : List Placed) → LegalFrom kind (m + k) l → Above k l
above_legal kind m k [] f = tt
above_legal kind m k (x ∷ l) f = let e = f.0 in (omega arith, above_follows kind k x l (omega arith) f.3)

pub lower_outline_width : (kind : Kind) (m k : ℕ) (l : List Placed) → LegalFrom kind (m + k) l → layout_width (groups_of (map (lower k) l)) ≡ layout_width (groups_of l)
lower_outline_width kind m k l f = rw (lower_groups k l (above_legal kind m k l f)) (lower_layout_width k (groups_of l))

pub lower_outline_height : (kind : Kind) (m k g0 : ℕ) (l : List Placed) → LegalFrom kind (m + k) l → layout_height g0 (groups_of (map (lower k) l)) ≡ layout_height g0 (groups_of l)
lower_outline_height kind m k g0 l f = rw (lower_groups k l (above_legal kind m k l f)) (lower_layout_height k g0 (groups_of l))
