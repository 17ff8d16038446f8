-- The first group and the rest. What follows a group is a folding of its own with group numbers from one more on; the
-- outline is made of the two.
use Prim.Native.Nat.{ℕ, ◌+◌, max}
use mathlib.Core.Path.{◌≡◌, refl, sym, ap, ◌∙◌}
use mathlib.Core.List.{List, [], ◌∷◌, ◌++◌}
use mathlib.Core.Bool.{Bool, true, false, cond}
use native.Mathlib.Omega.{arith}
use borrow.Author.Tests.{eq-eqb, ne_eqb}
use Rattle.terms.specs.declared.Kind.{Kind}
use Rattle.folding.specs.declared.Placed.{Placed}
use Rattle.folding.specs.Placement.{group_of}
use Rattle.folding.specs.Legal.{same_group}
use Rattle.folding.specs.Outline.{joined, groups_of, group_width, group_height, last_gap, layout_width, layout_height}
use Rattle.folding.proofs.Rules.{Alone, Within, Next, within, opens, Follows, LegalFrom}

-- The components behind x in its group.
abbrev pub Run : Kind → Placed → List Placed → Type 0
Run kind x [] = Unit {0}
Run kind x (y ∷ a) = (group_of y ≡ group_of x) × Within x y × Alone kind y × Run kind y a

pub record Cut (kind : Kind) (x : Placed) (l : List Placed) : Type 0 where
  pub mates : List Placed
  pub later : List Placed
  pub splits : l ≡ mates ++ later
  pub groups : groups_of (x ∷ l) ≡ (x ∷ mates) ∷ groups_of later
  pub run : Run kind x mates
  pub rest : LegalFrom kind (group_of x + 1) later

-- A list's groups begin with its first component.
pub groups_head : (y : Placed) (l : List Placed) → (g : List Placed) × (gs : List (List Placed)) × (groups_of (y ∷ l) ≡ (y ∷ g) ∷ gs)
unfolding groups_of
groups_head y l = go (groups_of l)
  where
    go : (gs : List (List Placed)) → (g : List Placed) × (hs : List (List Placed)) × (joined y gs ≡ (y ∷ g) ∷ hs)
    go [] = ([], [], refl)
    go ([] ∷ gs) = ([], gs, refl)
    go ((z ∷ g) ∷ gs) = pick (same_group y z)
      where
        pick : (b : Bool) → (h : List Placed) × (hs : List (List Placed)) × (cond b ((y ∷ z ∷ g) ∷ gs) ((y ∷ []) ∷ (z ∷ g) ∷ gs) ≡ (y ∷ h) ∷ hs)
        pick true = (z ∷ g, gs, refl)
        pick false = ([], (z ∷ g) ∷ gs, refl)

-- One more component in front of a list joins its first group, or makes a group of its own.
module _ (x y : Placed) (l : List Placed) where
  pub groups_join : (g : List Placed) (gs : List (List Placed)) → group_of y ≡ group_of x → groups_of (y ∷ l) ≡ (y ∷ g) ∷ gs → groups_of (x ∷ y ∷ l) ≡ (x ∷ y ∷ g) ∷ gs
  unfolding groups_of
  groups_join g gs s e = ap (joined x) e ∙ rw (eq-eqb (group_of y) (group_of x) s)

  pub groups_open : (group_of y ≡ group_of x → ⊥) → groups_of (x ∷ y ∷ l) ≡ (x ∷ []) ∷ groups_of (y ∷ l)
  unfolding groups_of
  groups_open d =
      let h = groups_head y l in
      ap (joined x) h.2 ∙ rw (ne_eqb (group_of y) (group_of x) d) (ap (λ (gs : List (List Placed)). (x ∷ []) ∷ gs) (sym h.2))

pub cut : (kind : Kind) (x : Placed) (l : List Placed) → Follows kind x l → Cut kind x l
unfolding groups_of
cut kind x [] f = record { mates = []; later = []; splits = refl; groups = refl; run = tt; rest = tt }
cut kind x (y ∷ l) f = go f.0 (cut kind y l f.2)
  where
    go : Next x y → Cut kind y l → Cut kind x (y ∷ l)
    go (within s w) c = record {
      mates = y ∷ c.mates;
      later = c.later;
      splits = ap (λ (m : List Placed). y ∷ m) c.splits;
      groups = groups_join x y l c.mates (groups_of c.later) s c.groups;
      run = (s, w, f.1, c.run);
      rest = rw s at c.rest;
    }
    go (opens s v) c = record {
      mates = [];
      later = y ∷ l;
      splits = refl;
      groups = groups_open x y l (λ e. omega arith);
      run = tt;
      rest = (s, v, f.1, f.2);
    }

-- The other way: a group, and a folding with group numbers from one more on, make a folding.
pub paste : (kind : Kind) (x : Placed) (a b : List Placed) → Run kind x a → LegalFrom kind (group_of x + 1) b → Follows kind x (a ++ b)
paste kind x [] [] r f = tt
paste kind x [] (y ∷ b) r f = (opens f.0 f.1, f.2, f.3)
paste kind x (y ∷ a) b r f = (within r.0 r.1, r.2, paste kind y a b r.3 (rw r.0 f))

pub paste_groups : (kind : Kind) (x : Placed) (a b : List Placed) → Run kind x a → LegalFrom kind (group_of x + 1) b → groups_of (x ∷ (a ++ b)) ≡ (x ∷ a) ∷ groups_of b
unfolding groups_of
paste_groups kind x [] [] r f = refl
paste_groups kind x [] (y ∷ b) r f = groups_open x y b (λ e. omega arith)
paste_groups kind x (y ∷ a) b r f = groups_join x y (a ++ b) a (groups_of b) r.0 (paste_groups kind y a b r.3 (rw r.0 f))

-- The outline of the two.
pub paste_width : (kind : Kind) (x : Placed) (a b : List Placed) → Run kind x a → LegalFrom kind (group_of x + 1) b
    → layout_width (groups_of (x ∷ (a ++ b))) ≡ group_width (x ∷ a) + layout_width (groups_of b)
unfolding layout_width
paste_width kind x a b r f = rw (paste_groups kind x a b r f)

pub paste_height : (kind : Kind) (g0 : ℕ) (x : Placed) (a b : List Placed) → Run kind x a → LegalFrom kind (group_of x + 1) b
    → layout_height g0 (groups_of (x ∷ (a ++ b))) ≡ max (group_height g0 (x ∷ a)) (layout_height (last_gap (x ∷ a)) (groups_of b))
unfolding layout_height
paste_height kind g0 x a b r f = rw (paste_groups kind x a b r f)
