-- The rules of a legal folding as facts about each component and the one after it.
use Prim.Native.Nat.{ℕ, ◌+◌, ◌≤◌}
use mathlib.Core.Path.{◌≡◌, refl}
use mathlib.Core.Logic.{◌⊎◌, inl, inr}
use mathlib.Core.List.{List, [], ◌∷◌}
use mathlib.Core.Bool.{Bool, true, false, ◌&&◌, false≢true}
use native.Mathlib.Omega.{arith}
use lib.Dec.{leb, eqb}
use borrow.Author.Tests.{leb-true, le-leb, eqb-true, eq-eqb, ne_eqb}
use Rattle.terms.specs.declared.Kind.{Kind}
use Rattle.terms.specs.Component.{barred}
use Rattle.terms.proofs.Bools.{both, and_is, either, same_truth}
use Rattle.folding.specs.declared.Placed.{Placed}
use Rattle.folding.specs.Placement.{group_of, start_of, end_of, left}
use Rattle.folding.specs.Legal.{each, each_pair, in_range, same_group, from_zero, in_order, from_left, left_first, left_clear, right_clear, on_side, unparted, turned, legal}

-- What is asked of a component by itself.
pub record Alone (kind : Kind) (x : Placed) : Type 0 where
  pub two_sides : x.placement.side ≤ 1
  pub low : start_of x ≤ 1024000
  pub side_stands : on_side kind x ≡ true

-- How y may follow x in one group: further down on the left, over to the right, further up on the right.
pub data Within (x y : Placed) : Type 0 where
  down : left x ≡ true → left y ≡ true → end_of y ≤ start_of x → Within x y
  turn : left x ≡ true → left y ≡ false → Within x y
  up : left x ≡ false → left y ≡ false → end_of x ≤ start_of y → Within x y

-- How y may follow x: in its group, or as the first of the next.
pub data Next (x y : Placed) : Type 0 where
  within : group_of y ≡ group_of x → Within x y → Next x y
  opens : group_of y ≡ group_of x + 1 → left y ≡ true → Next x y

abbrev pub Follows : Kind → Placed → List Placed → Type 0
Follows kind x [] = Unit {0}
Follows kind x (y ∷ l) = Next x y × Alone kind y × Follows kind y l

-- A legal folding with group numbers from m on.
abbrev pub LegalFrom : Kind → ℕ → List Placed → Type 0
LegalFrom kind m [] = Unit {0}
LegalFrom kind m (x ∷ l) = (group_of x ≡ m) × (left x ≡ true) × Alone kind x × Follows kind x l

abbrev pub next_rules : Placed → Placed → Bool
next_rules x y = in_order x y && left_first x y && left_clear x y && right_clear x y

abbrev pub alone_rules : Kind → Placed → Bool
alone_rules kind x = in_range x && on_side kind x

-- What barred components ask of the one after them; the last of all may not be barred. A rule beside those of `LegalFrom`,
-- which holds of each part of a folding that ends a group.
abbrev pub Unparted : List Placed → Type 0
Unparted [] = Unit {0}
Unparted (x ∷ []) = barred x.component ≡ false
Unparted (x ∷ y ∷ l) = (unparted x y ≡ true) × Unparted (y ∷ l)

-- What the last of a group asks of the one after it. A rule beside those of `LegalFrom` too.
abbrev pub Turned : Kind → List Placed → Type 0
Turned kind [] = Unit {0}
Turned kind (x ∷ []) = Unit {0}
Turned kind (x ∷ y ∷ l) = (turned kind x y ≡ true) × Turned kind (y ∷ l)

pub alone_is : (kind : Kind) (x : Placed) → alone_rules kind x ≡ true → Alone kind x
alone_is kind x e =
    let a = both (in_range x) (on_side kind x) e in
    let b = both (leb x.placement.side 1) (leb (start_of x) 1024000) a.0 in
    record { two_sides = leb-true _ _ b.0; low = leb-true _ _ b.1; side_stands = a.1 }

pub alone_of : (kind : Kind) (x : Placed) → Alone kind x → alone_rules kind x ≡ true
alone_of kind x a = rw (le-leb x.placement.side 1 a.two_sides, le-leb (start_of x) 1024000 a.low, a.side_stands)

different : (a b : ℕ) → a ≡ b + 1 → eqb a b ≡ false
different a b e = ne_eqb a b (λ f. omega arith)

pub next_is : (x y : Placed) → next_rules x y ≡ true → Next x y
next_is x y e =
    let a = both (in_order x y && left_first x y && left_clear x y) (right_clear x y) e in
    let b = both (in_order x y && left_first x y) (left_clear x y) a.0 in
    let c = both (in_order x y) (left_first x y) b.0 in
    go (either (same_group x y)) (either (left x)) (either (left y)) c.0 c.1 b.1 a.1
  where
    go : (same_group x y ≡ true) ⊎ (same_group x y ≡ false) → (left x ≡ true) ⊎ (left x ≡ false) → (left y ≡ true) ⊎ (left y ≡ false)
        → in_order x y ≡ true → left_first x y ≡ true → left_clear x y ≡ true → right_clear x y ≡ true → Next x y
    go (inl s) (inl u) (inl v) o f g h = within (eqb-true _ _ s) (down u v (leb-true _ _ (rw (s, u, v) at g)))
    go (inl s) (inl u) (inr v) o f g h = within (eqb-true _ _ s) (turn u v)
    go (inl s) (inr u) (inl v) o f g h = absurd (false≢true (rw (s, u, v) at f))
    go (inl s) (inr u) (inr v) o f g h = within (eqb-true _ _ s) (up u v (leb-true _ _ (rw (s, u, v) at h)))
    go (inr s) u (inl v) o f g h = opens (eqb-true _ _ (rw s at o)) v
    go (inr s) u (inr v) o f g h = absurd (false≢true (rw (s, v) at f))

pub next_of : (x y : Placed) → Next x y → next_rules x y ≡ true
next_of x y (within s (down u v h)) = rw (eq-eqb _ _ s, u, v, le-leb (end_of y) (start_of x) h)
next_of x y (within s (turn u v)) = rw (eq-eqb _ _ s, u, v)
next_of x y (within s (up u v h)) = rw (eq-eqb _ _ s, u, v, le-leb (end_of x) (start_of y) h)
next_of x y (opens s v) = rw (different _ _ s, v, eq-eqb (group_of y) (group_of x + 1) s)

-- The six rules over a list, and what they come to one component after another.
pub record Holds (kind : Kind) (l : List Placed) : Type 0 where
  pub ranges : each in_range l ≡ true
  pub order : each_pair in_order l ≡ true
  pub lefts : each_pair left_first l ≡ true
  pub clear_left : each_pair left_clear l ≡ true
  pub clear_right : each_pair right_clear l ≡ true
  pub sides : each (on_side kind) l ≡ true

follows_is : (kind : Kind) (x : Placed) (l : List Placed) → Holds kind (x ∷ l) → Alone kind x × Follows kind x l
unfolding each each_pair
follows_is kind x [] h =
    let r = both (in_range x) true h.ranges in
    let s = both (on_side kind x) true h.sides in
    (alone_is kind x (and_is {a = in_range x} r.0 s.0), tt)
follows_is kind x (y ∷ l) h =
    let r = both (in_range x) (each in_range (y ∷ l)) h.ranges in
    let s = both (on_side kind x) (each (on_side kind) (y ∷ l)) h.sides in
    let o = both (in_order x y) (each_pair in_order (y ∷ l)) h.order in
    let f = both (left_first x y) (each_pair left_first (y ∷ l)) h.lefts in
    let a = both (left_clear x y) (each_pair left_clear (y ∷ l)) h.clear_left in
    let b = both (right_clear x y) (each_pair right_clear (y ∷ l)) h.clear_right in
    let later = follows_is kind y l (record { ranges = r.1; order = o.1; lefts = f.1; clear_left = a.1; clear_right = b.1; sides = s.1 }) in
    (alone_is kind x (and_is r.0 s.0), (next_is x y (and_is (and_is (and_is o.0 f.0) a.0) b.0), later.0, later.1))

follows_of : (kind : Kind) (x : Placed) (l : List Placed) → Alone kind x → Follows kind x l → Holds kind (x ∷ l)
unfolding each each_pair
follows_of kind x [] a f =
    let e = both (in_range x) (on_side kind x) (alone_of kind x a) in
    record { ranges = and_is e.0 refl; order = refl; lefts = refl; clear_left = refl; clear_right = refl; sides = and_is e.1 refl }
follows_of kind x (y ∷ l) a f =
    let e = both (in_range x) (on_side kind x) (alone_of kind x a) in
    let n = both (in_order x y && left_first x y && left_clear x y) (right_clear x y) (next_of x y f.0) in
    let m = both (in_order x y && left_first x y) (left_clear x y) n.0 in
    let k = both (in_order x y) (left_first x y) m.0 in
    let later = follows_of kind y l f.1 f.2 in
    record {
      ranges = and_is e.0 later.ranges;
      order = and_is k.0 later.order;
      lefts = and_is k.1 later.lefts;
      clear_left = and_is m.1 later.clear_left;
      clear_right = and_is n.1 later.clear_right;
      sides = and_is e.1 later.sides;
    }

first_rules : (kind : Kind) (l : List Placed) → legal kind l ≡ true
    → (from_zero l ≡ true) × (from_left l ≡ true) × Holds kind l × (each_pair unparted l ≡ true) × (each_pair (turned kind) l ≡ true)
unfolding legal
first_rules kind l e =
    let e7 = both (each in_range l && (from_zero l && each_pair in_order l) && (from_left l && each_pair left_first l) && each_pair left_clear l && each_pair right_clear l && each (on_side kind) l && each_pair unparted l) (each_pair (turned kind) l) e in
    let e6 = both (each in_range l && (from_zero l && each_pair in_order l) && (from_left l && each_pair left_first l) && each_pair left_clear l && each_pair right_clear l && each (on_side kind) l) (each_pair unparted l) e7.0 in
    let e5 = both (each in_range l && (from_zero l && each_pair in_order l) && (from_left l && each_pair left_first l) && each_pair left_clear l && each_pair right_clear l) (each (on_side kind) l) e6.0 in
    let e4 = both (each in_range l && (from_zero l && each_pair in_order l) && (from_left l && each_pair left_first l) && each_pair left_clear l) (each_pair right_clear l) e5.0 in
    let e3 = both (each in_range l && (from_zero l && each_pair in_order l) && (from_left l && each_pair left_first l)) (each_pair left_clear l) e4.0 in
    let e2 = both (each in_range l && (from_zero l && each_pair in_order l)) (from_left l && each_pair left_first l) e3.0 in
    let e1 = both (each in_range l) (from_zero l && each_pair in_order l) e2.0 in
    let z = both (from_zero l) (each_pair in_order l) e1.1 in
    let f = both (from_left l) (each_pair left_first l) e2.1 in
    (z.0, f.0, record { ranges = e1.0; order = z.1; lefts = f.1; clear_left = e3.1; clear_right = e4.1; sides = e5.1 }, e6.1, e7.1)

pub legal_unparted : (kind : Kind) (l : List Placed) → legal kind l ≡ true → each_pair unparted l ≡ true
legal_unparted kind l e = (first_rules kind l e).3

pub legal_turned : (kind : Kind) (l : List Placed) → legal kind l ≡ true → each_pair (turned kind) l ≡ true
legal_turned kind l e = (first_rules kind l e).4

pub legal_holds : (kind : Kind) (l : List Placed) → legal kind l ≡ true → Holds kind l
legal_holds kind l e = (first_rules kind l e).2

pub legal_is : (kind : Kind) (l : List Placed) → legal kind l ≡ true → LegalFrom kind 0 l
legal_is kind [] e = tt
legal_is kind (x ∷ l) e =
    let f = first_rules kind (x ∷ l) e in
    let r = follows_is kind x l f.2 in
    (eqb-true _ _ f.0, f.1, r.0, r.1)

pub legal_of : (kind : Kind) (l : List Placed) → LegalFrom kind 0 l → each_pair unparted l ≡ true → each_pair (turned kind) l ≡ true → legal kind l ≡ true
unfolding legal each each_pair
legal_of kind [] f u t = refl
legal_of kind (x ∷ l) f u t =
    let h = follows_of kind x l f.2 f.3 in
    and_is
    (and_is
    (and_is
    (and_is (and_is (and_is (and_is h.ranges (and_is (eq-eqb _ _ f.0) h.order)) (and_is f.1 h.lefts)) h.clear_left) h.clear_right)
    h.sides)
    u)
    t

-- The rule of marks as one about neighbours, and with the last one beside it.
pub unparted_pairs : (l : List Placed) → Unparted l → each_pair unparted l ≡ true
unfolding each_pair
unparted_pairs [] u = refl
unparted_pairs (x ∷ []) u = refl
unparted_pairs (x ∷ y ∷ l) u = and_is u.0 (unparted_pairs (y ∷ l) u.1)

-- The last one is not barred.
abbrev pub LastFree : List Placed → Type 0
LastFree [] = Unit {0}
LastFree (x ∷ []) = barred x.component ≡ false
LastFree (x ∷ y ∷ l) = LastFree (y ∷ l)

pub pairs_unparted : (l : List Placed) → each_pair unparted l ≡ true → LastFree l → Unparted l
unfolding each_pair
pairs_unparted [] e f = tt
pairs_unparted (x ∷ []) e f = f
pairs_unparted (x ∷ y ∷ l) e f = let b = both (unparted x y) (each_pair unparted (y ∷ l)) e in (b.0, pairs_unparted (y ∷ l) b.1 f)

-- The rule of turning likewise.
pub turned_pairs : (kind : Kind) (l : List Placed) → Turned kind l → each_pair (turned kind) l ≡ true
unfolding each_pair
turned_pairs kind [] t = refl
turned_pairs kind (x ∷ []) t = refl
turned_pairs kind (x ∷ y ∷ l) t = and_is t.0 (turned_pairs kind (y ∷ l) t.1)

pub pairs_turned : (kind : Kind) (l : List Placed) → each_pair (turned kind) l ≡ true → Turned kind l
unfolding each_pair
pairs_turned kind [] e = tt
pairs_turned kind (x ∷ []) e = tt
pairs_turned kind (x ∷ y ∷ l) e = let b = both (turned kind x y) (each_pair (turned kind) (y ∷ l)) e in (b.0, pairs_turned kind (y ∷ l) b.1)

-- One pass over the placements: what is left to be checked behind x.
unfoldable pub passes : Kind → Placed → List Placed → Bool
passes kind x [] = true
passes kind x (y ∷ l) = alone_rules kind y && next_rules x y && unparted x y && turned kind x y && passes kind y l

passes_is : (kind : Kind) (x : Placed) (l : List Placed) → passes kind x l ≡ true
    → Follows kind x l × (each_pair unparted (x ∷ l) ≡ true) × (each_pair (turned kind) (x ∷ l) ≡ true)
unfolding passes each_pair
passes_is kind x [] e = (tt, refl, refl)
passes_is kind x (y ∷ l) e =
    let a = both (alone_rules kind y && next_rules x y && unparted x y && turned kind x y) (passes kind y l) e in
    let t = both (alone_rules kind y && next_rules x y && unparted x y) (turned kind x y) a.0 in
    let d = both (alone_rules kind y && next_rules x y) (unparted x y) t.0 in
    let b = both (alone_rules kind y) (next_rules x y) d.0 in
    let later = passes_is kind y l a.1 in
    ((next_is x y b.1, alone_is kind y b.0, later.0), and_is d.1 later.1, and_is t.1 later.2)

passes_of : (kind : Kind) (x : Placed) (l : List Placed) → Follows kind x l → each_pair unparted (x ∷ l) ≡ true → each_pair (turned kind) (x ∷ l) ≡ true → passes kind x l ≡ true
unfolding passes each_pair
passes_of kind x [] f u t = refl
passes_of kind x (y ∷ l) f u t =
    let b = both (unparted x y) (each_pair unparted (y ∷ l)) u in
    let d = both (turned kind x y) (each_pair (turned kind) (y ∷ l)) t in
    and_is (and_is (and_is (and_is (alone_of kind y f.1) (next_of x y f.0)) b.0) d.0) (passes_of kind y l f.2 b.1 d.1)

pub legal_passes : (kind : Kind) (x : Placed) (l : List Placed) → legal kind (x ∷ l) ≡ (eqb (group_of x) 0 && left x && alone_rules kind x && passes kind x l)
legal_passes kind x l = same_truth _ _
    (λ e.
    let f = legal_is kind (x ∷ l) e in
    and_is (and_is (and_is (eq-eqb _ _ f.0) f.1) (alone_of kind x f.2)) (passes_of kind x l f.3 (legal_unparted kind (x ∷ l) e) (legal_turned kind (x ∷ l) e)))
    (λ e.
    let a = both (eqb (group_of x) 0 && left x && alone_rules kind x) (passes kind x l) e in
    let b = both (eqb (group_of x) 0 && left x) (alone_rules kind x) a.0 in
    let c = both (eqb (group_of x) 0) (left x) b.0 in
    let p = passes_is kind x l a.1 in
    legal_of kind (x ∷ l) (eqb-true _ _ c.0, c.1, alone_is kind x b.1, p.0) p.1 p.2)
