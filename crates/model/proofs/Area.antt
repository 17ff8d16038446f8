-- The smallest area, from a search alone: one pass over falling limits, without those at which nothing can be smaller.
use Prim.Native.Nat.{ℕ, ◌+◌, ◌-◌, ◌*◌, ◌/◌, ◌≤◌, ◌<◌}
use mathlib.Core.Path.{◌≡◌, refl, sym, ap}
use mathlib.Core.Logic.{◌⊎◌, inl, inr}
use mathlib.Core.Bool.{Bool, true, false, cond, ◌&&◌, ◌||◌}
use native.Mathlib.Nat.{mul-le-mul, mul-le-mul_left, mul-le-mul_right, mul_comm, mul-add, le_of_mul-le-mul_left, lt-mul-div-succ, div-lt_iff_lt-mul, div-le_of_le-mul}
use native.Mathlib.Omega.{arith}
use lib.Dec.{leb, ltb, eqb}
use borrow.Author.Tests.{leb-true, leb-false, ltb-true, ltb-false, eqb-true, eqb-false}
use Rattle.terms.proofs.Bools.{both}
use Rattle.terms.proofs.Order.{order}
use Rattle.folding.specs.declared.Outline.{Outline}
use Rattle.folding.specs.Best.{area_of, Larger}
use Rattle.model.specs.Groups.{none}
use Rattle.model.specs.Layout.{Layout, NoWorse}
use Rattle.model.specs.Outlines.{outline, outline_by}
use Rattle.model.specs.Search.{Search}
use Rattle.model.specs.Area.{larger, smaller_of, next_limit, Leads}
use Rattle.model.proofs.Choice.{no_wider}
use Rattle.model.proofs.Best.{layout_high, own_height}
use Rattle.model.proofs.Table.{Unbeaten, layout_unbeaten}

pub same_outline : {o p : Outline} → o.width.0 ≡ p.width.0 → o.height.0 ≡ p.height.0 → o ≡ p
same_outline {o} {p} w h = let e : outline o.width.0 o.height.0 ≡ outline p.width.0 p.height.0 = rw (w, h) in e

larger_of : (o x : Outline) → area_of o ≤ area_of x → o.width.0 ≤ x.width.0 → Larger o x
larger_of o x a w = go (order (area_of x) (area_of o))
  where
    go : (area_of x ≤ area_of o) ⊎ (area_of o < area_of x) → Larger o x
    go (inl h) = inr (omega arith, w)
    go (inr h) = inl h

pub no_larger : (o x : Outline) → Larger o x → area_of o ≤ area_of x
no_larger o x (inl h) = omega arith
no_larger o x (inr h) = omega (arith, h.0)

larger_than : (o x y : Outline) → Larger o x → x.width.0 ≤ y.width.0 → x.height.0 ≤ y.height.0 → Larger o y
larger_than o x y (inl h) w t = inl (omega (arith, mul-le-mul w t))
larger_than o x y (inr h) w t = larger_of o y (omega (arith, h.0, mul-le-mul w t)) (omega (arith, h.1))

-- Of two outlines that are not larger than each other there is only one.
pub one_smallest : (o p : Outline) → 0 < o.width.0 → Larger o p → Larger p o → o ≡ p
one_smallest o p some (inl h) (inl k) = absurd (omega arith)
one_smallest o p some (inl h) (inr k) = absurd (omega (arith, k.0))
one_smallest o p some (inr h) (inl k) = absurd (omega (arith, h.0))
one_smallest o p some (inr h) (inr k) =
    let w : p.width.0 ≡ o.width.0 = omega (arith, h.1, k.1) in
    let e : o.width.0 * p.height.0 ≡ o.width.0 * o.height.0 = omega (arith, h.0, ap (λ (x : ℕ). x * p.height.0) w) in
    let up : o.width.0 * p.height.0 ≤ o.width.0 * o.height.0 = omega arith in
    let down : o.width.0 * o.height.0 ≤ o.width.0 * p.height.0 = omega arith in
    same_outline (sym w) (omega (arith, le_of_mul-le-mul_left up some, le_of_mul-le-mul_left down some))

larger_trans : (o p q : Outline) → Larger o p → Larger p q → Larger o q
larger_trans o p q (inl h) k = inl (omega (arith, no_larger p q k))
larger_trans o p q (inr h) (inl k) = inl (omega (arith, h.0))
larger_trans o p q (inr h) (inr k) = inr (omega (arith, h.0, k.0), omega (arith, h.1, k.1))

-- The test says so, and one of two is not larger than the other.
pub larger_true : (a b : Outline) → larger a b ≡ true → Larger a b
larger_true a b = go (ltb (area_of a) (area_of b)) refl
  where
    go : (t : Bool) → ltb (area_of a) (area_of b) ≡ t → t || (eqb (area_of a) (area_of b) && leb a.width.0 b.width.0) ≡ true → Larger a b
    go true t h = inl (ltb-true _ _ t)
    go false t h = let d = both (eqb (area_of a) (area_of b)) (leb a.width.0 b.width.0) h in inr (eqb-true _ _ d.0, leb-true _ _ d.1)

larger_false : (a b : Outline) → larger a b ≡ false → Larger b a
larger_false a b = go (ltb (area_of a) (area_of b)) refl (eqb (area_of a) (area_of b)) refl
  where
    go : (t : Bool) → ltb (area_of a) (area_of b) ≡ t → (u : Bool) → eqb (area_of a) (area_of b) ≡ u → t || (u && leb a.width.0 b.width.0) ≡ false → Larger b a
    go true e u f h = let z : ◌≡◌ {A = ℕ} 0 1 = cc in absurd (omega arith)
    go false e true f h = inr (sym (eqb-true _ _ f), omega (arith, leb-false a.width.0 b.width.0 h))
    go false e false f h = distinct (ltb-false (area_of a) (area_of b) e) (order (area_of a) (area_of b))
      where
        distinct : area_of b ≤ area_of a → (area_of a ≤ area_of b) ⊎ (area_of b < area_of a) → Larger b a
        distinct m (inl n) = absurd (eqb-false (area_of a) (area_of b) f (omega arith))
        distinct m (inr n) = inl n

-- The smaller of two is one of them, and not larger than either.
pub smaller_either : (C : Outline → Type 0) (a b : Outline) → C a → C b → C (smaller_of a b)
smaller_either C a b = go (larger a b)
  where
    go : (t : Bool) → C a → C b → C (cond t a b)
    go true u v = u
    go false u v = v

smaller_first : (a b : Outline) → Larger (smaller_of a b) a
smaller_first a b = go (larger a b) refl
  where
    go : (t : Bool) → larger a b ≡ t → Larger (cond t a b) a
    go true e = inr (refl, omega arith)
    go false e = larger_false a b e

pub smaller_second : (a b : Outline) → Larger (smaller_of a b) b
smaller_second a b = go (larger a b) refl
  where
    go : (t : Bool) → larger a b ≡ t → Larger (cond t a b) b
    go true e = larger_true a b e
    go false e = inr (refl, omega arith)

-- What is at least so wide and above the next limit is larger.
skipped : (o x : Outline) (least cells : ℕ) → 0 < least → least ≤ x.width.0 → cells ≤ area_of x → next_limit o least cells < x.height.0 → Larger o x
skipped o x least cells p v c = go (leb o.width.0 least) refl (leb (area_of o) cells) refl
  where
    above : (a : ℕ) → a / least < x.height.0 → a < area_of x
    above a h =
        let k : a / least + 1 ≤ x.height.0 = omega arith in
        omega (arith, lt-mul-div-succ a p, mul-le-mul_left least k, mul-le-mul_right x.height.0 v)

    go : (t : Bool) → leb o.width.0 least ≡ t → (u : Bool) → leb (area_of o) cells ≡ u → cond t (cond u 0 ((area_of o - 1) / least)) (area_of o / least) < x.height.0 → Larger o x
    go true e true f h = larger_of o x (omega (arith, leb-true (area_of o) cells f)) (omega (arith, leb-true o.width.0 least e))
    go true e false f h = larger_of o x (omega (arith, above (area_of o - 1) h)) (omega (arith, leb-true o.width.0 least e))
    go false e u f h = inl (above (area_of o) h)

-- An area of at most w slices by h rows leaves limits under h to what is wider than w.
pub limit_falls : (o : Outline) (w h cells : ℕ) → area_of o ≤ w * h → 0 < h → next_limit o (w + 1) cells < h
limit_falls o w h cells a p = go (leb o.width.0 (w + 1)) (leb (area_of o) cells)
  where
    below : (b : ℕ) → b ≤ area_of o → b / (w + 1) < h
    below b l =
        let more : b < h * (w + 1) = omega (arith, mul_comm w h, mul-add h w 1) in
        (div-lt_iff_lt-mul {k = w + 1} (omega arith)).1 more

    go : (t u : Bool) → cond t (cond u 0 ((area_of o - 1) / (w + 1))) (area_of o / (w + 1)) < h
    go true true = p
    go true false = below (area_of o - 1) (omega arith)
    go false u = below (area_of o) (omega arith)

pub limit_most : (o : Outline) (w h cells : ℕ) → area_of o ≤ w * h → next_limit o w cells ≤ h
limit_most o w h cells a = go (leb o.width.0 w) (leb (area_of o) cells)
  where
    below : (b : ℕ) → b ≤ area_of o → b / w ≤ h
    below b l = let less : b ≤ w * h = omega arith in div-le_of_le-mul w less

    go : (t u : Bool) → cond t (cond u 0 ((area_of o - 1) / w)) (area_of o / w) ≤ h
    go true true = omega arith
    go true false = below (area_of o - 1) (omega arith)
    go false u = below (area_of o) (omega arith)

module _ {F : Type 0} {Legal : F → Type 0} {outline_of : F → Outline} {best : ℕ → Layout} (s : Search Legal outline_of best) where
  module _ (cells : ℕ) (most : (f : F) → Legal f → cells ≤ area_of (outline_of f)) where
    -- Where every folding is at least so wide.
    pub leads_first : (o : Outline) (least : ℕ) → 0 < o.width.0 → 0 < least → ((f : F) → Legal f → least ≤ (outline_of f).width.0) → (best o.height.0).width ≤ o.width.0
        → Leads Legal outline_of best o (next_limit o least cells)
    leads_first o least p q n r = record { wide = p; above = λ f l h. skipped o (outline_of f) least cells q (n f l) (most f l) h; reached = r }

    module _ (o : Outline) (limit : ℕ) (i : Leads Legal outline_of best o limit) (met : (best limit).width < none) where
      abbrev here : Outline
      here = outline_by (best limit)

      abbrev next : Outline
      next = smaller_of here o

      pub next_small : area_of next ≤ (best limit).width * (best limit).height
      next_small = no_larger next here (smaller_first here o)

      pub falls : next_limit next ((best limit).width + 1) cells < limit
      falls = omega (arith, limit_falls next (best limit).width (best limit).height cells next_small (layout_high s limit met), s.keeps limit met)

      above_next : (f : F) → Legal f → next_limit next ((best limit).width + 1) cells < (outline_of f).height.0 → Larger next (outline_of f)
      above_next f l h = go (order (outline_of f).height.0 limit)
        where
          within : NoWorse (best limit) (outline_of f).width.0 (outline_of f).height.0 → Larger next (outline_of f)
          within (inl n) = skipped next (outline_of f) ((best limit).width + 1) cells (omega arith) (omega arith) (most f l) h
          within (inr n) = larger_than next here (outline_of f) (smaller_first here o) (omega (arith, n.0)) n.1

          go : ((outline_of f).height.0 ≤ limit) ⊎ (limit < (outline_of f).height.0) → Larger next (outline_of f)
          go (inl k) = within (s.every limit f l k).0
          go (inr k) = larger_trans next o (outline_of f) (smaller_second here o) (i.above f l k)

      pub leads_on : 0 < (best limit).width → Leads Legal outline_of best next (next_limit next ((best limit).width + 1) cells)
      leads_on some = record {
        wide = smaller_either (λ x. 0 < x.width.0) here o some i.wide;
        above = above_next;
        reached = smaller_either (λ x. (best x.height.0).width ≤ x.width.0) here o (own_height s limit met) i.reached;
      }

  -- The pass ends where no folding is within the limit.
  pub leads_all : (o : Outline) (limit : ℕ) → Leads Legal outline_of best o limit → ((f : F) → Legal f → (outline_of f).height.0 ≤ limit → ⊥) → (f : F) → Legal f → Larger o (outline_of f)
  leads_all o limit i unmet f l = go (order (outline_of f).height.0 limit)
    where
      go : ((outline_of f).height.0 ≤ limit) ⊎ (limit < (outline_of f).height.0) → Larger o (outline_of f)
      go (inl h) = absurd (unmet f l h)
      go (inr h) = i.above f l h

  -- What leads then is the best for its own height.
  module _ (o : Outline) (limit : ℕ) (i : Leads Legal outline_of best o limit) (all : (f : F) → Legal f → Larger o (outline_of f)) (low : o.width.0 < none) where
    abbrev own : Layout
    own = best o.height.0

    pub smallest_met : own.width < none
    smallest_met = omega (arith, i.reached)

    pub smallest_is : outline_by own ≡ o
    smallest_is =
        let r = s.some o.height.0 smallest_met in
        let k = s.keeps o.height.0 smallest_met in
        sym (one_smallest o (outline_by own) i.wide (rw r.2 at (all r.0 r.1)) (larger_of (outline_by own) o (mul-le-mul i.reached k) i.reached))

  -- What is no larger than any unbeaten outline is no larger than any folding.
  pub among_unbeaten : (o : Outline) → ((p : Outline) → Unbeaten Legal outline_of p → Larger o p) → (f : F) → Legal f → Larger o (outline_of f)
  among_unbeaten o u f l = go (s.every (outline_of f).height.0 f l (omega arith))
    where
      go : NoWorse (best (outline_of f).height.0) (outline_of f).width.0 (outline_of f).height.0 × ((best (outline_of f).height.0).width < none) → Larger o (outline_of f)
      go e =
          let limit = (outline_of f).height.0 in
          larger_than o (outline_by (best limit)) (outline_of f) (u (outline_by (best limit)) (layout_unbeaten s limit e.1)) (no_wider e.0) (s.keeps limit e.1)
