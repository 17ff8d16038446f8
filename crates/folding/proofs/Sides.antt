-- A group as two chains, each lowest first: the left components from the last one up to the first, and the right components
-- in order.
use Prim.Native.Nat.{ℕ, ◌+◌, ◌≤◌, max}
use mathlib.Core.Path.{◌≡◌, refl, sym, ◌∙◌, subst}
use mathlib.Core.List.{List, [], ◌∷◌, reverse_aux}
use mathlib.Core.Bool.{Bool, true, false, true≢false}
use native.Mathlib.Omega.{arith}
use Rattle.terms.specs.declared.Kind.{Kind}
use Rattle.folding.specs.declared.Placed.{Placed}
use Rattle.folding.specs.Placement.{gap_of, group_of, start_of, end_of, left}
use Rattle.folding.specs.Outline.{top_of, row_sum, last_gap, folded, fold_gap, group_height}
use Rattle.folding.proofs.Rules.{Alone, Within, down, turn, up}
use Rattle.folding.proofs.Groups.{Run}

-- Each starts at or above the end of the one before, and the first at or above lo.
abbrev pub Chain : ℕ → List Placed → Type 0
Chain lo [] = Unit {0}
Chain lo (x ∷ l) = (lo ≤ start_of x) × Chain (end_of x) l

-- All are in group m, on the same side, and stand alone.
abbrev pub Members : Kind → ℕ → Bool → List Placed → Type 0
Members kind m side [] = Unit {0}
Members kind m side (x ∷ l) = (group_of x ≡ m) × (left x ≡ side) × Alone kind x × Members kind m side l

-- The right components behind one on the right.
rights : (kind : Kind) (x : Placed) (a : List Placed) → left x ≡ false → Run kind x a → Chain (end_of x) a × Members kind (group_of x) false a
rights kind x [] h r = (tt, tt)
rights kind x (y ∷ a) h r = go r.1 (λ v. rights kind y a v r.3)
  where
    go : Within x y → (left y ≡ false → Chain (end_of y) a × Members kind (group_of y) false a) → Chain (end_of x) (y ∷ a) × Members kind (group_of x) false (y ∷ a)
    go (down u v e) i = absurd (true≢false (sym u ∙ h))
    go (turn u v) i = absurd (true≢false (sym u ∙ h))
    go (up u v e) i = let k = i v in ((e, k.0), (r.0, v, r.2, subst (λ (m : ℕ). Members kind m false a) r.0 k.1))

-- The two sides of the group of x and what follows it, where `above` are the left components before x, lowest first.
pub record Sides (kind : Kind) (above : List Placed) (x : Placed) (a : List Placed) : Type 0 where
  pub lowest : Placed
  pub lefts : List Placed
  pub rights : List Placed
  pub order : reverse_aux above (x ∷ a) ≡ reverse_aux (lowest ∷ lefts) rights
  pub left_chain : Chain 0 (lowest ∷ lefts)
  pub right_chain : Chain 0 rights
  pub left_members : Members kind (group_of x) true (lowest ∷ lefts)
  pub right_members : Members kind (group_of x) false rights

pub sides : (kind : Kind) (above : List Placed) (x : Placed) (a : List Placed) → left x ≡ true → Alone kind x → Run kind x a → Chain (end_of x) above → Members kind (group_of x) true above → Sides kind above x a
sides kind above x [] h e r c m = record {
  lowest = x;
  lefts = above;
  rights = [];
  order = refl;
  left_chain = (omega arith, c);
  right_chain = tt;
  left_members = (refl, h, e, m);
  right_members = tt;
}
sides kind above x (y ∷ a) h e r c m = go r.1 (λ v k n. sides kind (x ∷ above) y a v r.2 r.3 (k, c) (sym r.0, h, e, subst (λ (m : ℕ). Members kind m true above) (sym r.0) n))
  where
    go : Within x y → (left y ≡ true → end_of y ≤ start_of x → Members kind (group_of x) true above → Sides kind (x ∷ above) y a) → Sides kind above x (y ∷ a)
    go (down u v k) i =
        let s = i v k m in
        record {
          lowest = s.lowest;
          lefts = s.lefts;
          rights = s.rights;
          order = s.order;
          left_chain = s.left_chain;
          right_chain = s.right_chain;
          left_members = subst (λ (n : ℕ). Members kind n true (s.lowest ∷ s.lefts)) r.0 s.left_members;
          right_members = rw r.0 at s.right_members;
        }
    go (turn u v) i =
        let k = rights kind y a v r.3 in
        record {
          lowest = x;
          lefts = above;
          rights = y ∷ a;
          order = refl;
          left_chain = (omega arith, c);
          right_chain = (omega arith, k.0);
          left_members = (refl, h, e, m);
          right_members = (r.0, v, r.2, subst (λ (m : ℕ). Members kind m false a) r.0 k.1);
        }
    go (up u v k) i = absurd (true≢false (sym h ∙ u))

-- The other way: two chains make a group.
pub run_of : (kind : Kind) (m : ℕ) (x : Placed) (r : List Placed) → group_of x ≡ m → left x ≡ false → Chain (end_of x) r → Members kind m false r → Run kind x r
run_of kind m x [] g h c e = tt
run_of kind m x (y ∷ r) g h c e = (e.0 ∙ sym g, up h e.1 c.0, e.2, run_of kind m y r e.0 e.1 c.1 e.3)

-- What is in front of a component, and the run behind it.
pub record Fronted (kind : Kind) (m : ℕ) (l : List Placed) : Type 0 where
  pub first : Placed
  pub mates : List Placed
  pub order : l ≡ first ∷ mates
  pub numbered : group_of first ≡ m
  pub on_the_left : left first ≡ true
  pub alone : Alone kind first
  pub run : Run kind first mates

-- x and the run behind it, with the left components above x put in front.
fronted : (kind : Kind) (m : ℕ) (above : List Placed) (x : Placed) (a : List Placed) → group_of x ≡ m → left x ≡ true → Alone kind x → Run kind x a → Chain (end_of x) above → Members kind m true above
    → Fronted kind m (reverse_aux above (x ∷ a))
fronted kind m [] x a g h e r c n = record { first = x; mates = a; order = refl; numbered = g; on_the_left = h; alone = e; run = r }
fronted kind m (y ∷ above) x a g h e r c n = fronted kind m above y (x ∷ a) n.0 n.1 n.2 (g ∙ sym n.0, down n.1 h c.0, e, r) c.1 n.3

pub group_of_lem : (kind : Kind) (m lo : ℕ) (x : Placed) (l r : List Placed) → Chain lo (x ∷ l) → Chain 0 r → Members kind m true (x ∷ l) → Members kind m false r → Fronted kind m (reverse_aux (x ∷ l) r)
group_of_lem kind m lo x l [] c d e f = fronted kind m l x [] e.0 e.1 e.2 tt c.1 e.3
group_of_lem kind m lo x l (y ∷ r) c d e f =
    fronted kind m l x (y ∷ r) e.0 e.1 e.2 (f.0 ∙ sym e.0, turn e.1 f.1, f.2, run_of kind m y r f.0 f.1 d.1 f.3) c.1 e.3

-- T, row sums, gaps and fold of the two sides together.
pub top_sides : (l r : List Placed) → top_of (reverse_aux l r) ≡ max (top_of l) (top_of r)
unfolding top_of
top_sides [] r = omega arith
top_sides (x ∷ l) r = omega (arith, top_sides l (x ∷ r))

pub row_sides : (l r : List Placed) (row : ℕ) → row_sum (reverse_aux l r) row ≡ row_sum l row + row_sum r row
unfolding row_sum
row_sides [] r row = omega arith
row_sides (x ∷ l) r row = omega (arith, row_sides l (x ∷ r) row)

folded_lefts : (kind : Kind) (m : ℕ) (l r : List Placed) → Members kind m true l → folded (reverse_aux l r) ≡ folded r
unfolding folded
folded_lefts kind m [] r e = refl
folded_lefts kind m (x ∷ l) r e = folded_lefts kind m l (x ∷ r) e.3 ∙ rw e.1

last_lefts : (l : List Placed) (x : Placed) (r : List Placed) → last_gap (reverse_aux l (x ∷ r)) ≡ last_gap (x ∷ r)
unfolding last_gap
last_lefts [] x r = refl
last_lefts (y ∷ l) x r = last_lefts l y (x ∷ r)

foldgap_lefts : (kind : Kind) (m : ℕ) (l : List Placed) (x : Placed) (r : List Placed) → Members kind m true l → left x ≡ true → fold_gap (reverse_aux l (x ∷ r)) ≡ fold_gap (x ∷ r)
unfolding fold_gap
foldgap_lefts kind m [] x r e h = refl
foldgap_lefts kind m (y ∷ l) x r e h = foldgap_lefts kind m l y (x ∷ r) e.3 e.1 ∙ rw h

-- The height of a group without a fold, and with one.
pub flat_height_lem : (kind : Kind) (m g0 : ℕ) (x : Placed) (l : List Placed) → Members kind m true (x ∷ l) → group_height g0 (reverse_aux (x ∷ l) []) ≡ top_of (x ∷ l) + g0 + gap_of x
unfolding folded last_gap top_of
flat_height_lem kind m g0 x l e =
    rw (folded_lefts kind m l (x ∷ []) e.3, e.1, last_lefts l x [], top_sides l (x ∷ []))
    (let z = top_sides l (x ∷ []) in omega arith)

pub fold_height_lem : (kind : Kind) (m g0 : ℕ) (x : Placed) (l : List Placed) (y : Placed) (r : List Placed) → Members kind m true (x ∷ l) → Members kind m false (y ∷ r)
    → group_height g0 (reverse_aux (x ∷ l) (y ∷ r)) ≡ max (top_of (x ∷ l)) (top_of (y ∷ r)) + max g0 (last_gap (y ∷ r)) + gap_of x
unfolding folded fold_gap last_gap
fold_height_lem kind m g0 x l y r e f =
    rw (folded_lefts kind m l (x ∷ y ∷ r) e.3, e.1, f.1, top_sides (x ∷ l) (y ∷ r), last_lefts l x (y ∷ r), foldgap_lefts kind m l x (y ∷ r) e.3 e.1, f.1)
