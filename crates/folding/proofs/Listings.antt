-- The table of a stack: there is only one, and it has no more outlines than the widths add up to.
use Prim.Native.Nat.{ℕ, ◌+◌, ◌≤◌, ◌<◌}
use mathlib.Core.Path.{◌≡◌, refl, sym, ap, subst}
use mathlib.Core.Logic.{inl, inr}
use mathlib.Core.List.{List, [], ◌∷◌}
use native.Mathlib.Omega.{arith}
use lib.ListN.{length}
use Rattle.terms.specs.declared.Component.{Component}
use Rattle.terms.specs.declared.Kind.{Kind}
use Rattle.terms.specs.Component.{width_sum}
use Rattle.terms.proofs.Lists.{AllSized}
use Rattle.folding.specs.declared.Outline.{Outline}
use Rattle.folding.specs.Best.{Among, Rising, Unbeaten, Listing}
use Rattle.folding.proofs.WidthSum.{width_most, width_some}

-- Behind the first outline of a rising list all are wider.
tail_rising : (o : Outline) (os : List Outline) → Rising (o ∷ os) → Rising os
tail_rising o [] r = tt
tail_rising o (p ∷ os) r = r.2

later_wider : (o : Outline) (os : List Outline) → Rising (o ∷ os) → (p : Outline) → Among p os → o.width.0 < p.width.0
later_wider o [] r p a = absurd a
later_wider o (q ∷ os) r p (inl e) = rw e r.0
later_wider o (q ∷ os) r p (inr a) = omega (arith, r.0, later_wider q os r.2 p a)

-- Rising lists with the same members are equal.
heads : (o p : Outline) (os ps : List Outline) → Rising (o ∷ os) → Rising (p ∷ ps) → Among o (p ∷ ps) → Among p (o ∷ os) → o ≡ p
heads o p os ps r s (inl e) b = e
heads o p os ps r s (inr a) (inl e) = sym e
heads o p os ps r s (inr a) (inr b) = absurd (omega (arith, later_wider p ps s o a, later_wider o os r p b))

tails : (o : Outline) (os ps : List Outline) → Rising (o ∷ os) → ((x : Outline) → Among x (o ∷ os) → Among x (o ∷ ps)) → (x : Outline) → Among x os → Among x ps
tails o os ps r h x a = go (h x (inr a))
  where
    go : Among x (o ∷ ps) → Among x ps
    go (inl e) = absurd (omega (arith, later_wider o os r x a, ap (λ (z : Outline). z.width.0) e))
    go (inr b) = b

same_members : (os ps : List Outline) → Rising os → Rising ps → ((o : Outline) → Among o os → Among o ps) → ((o : Outline) → Among o ps → Among o os) → os ≡ ps
same_members [] [] r s h k = refl
same_members [] (p ∷ ps) r s h k = absurd (k p (inl refl))
same_members (o ∷ os) [] r s h k = absurd (h o (inl refl))
same_members (o ∷ os) (p ∷ ps) r s h k =
    let e : o ≡ p = heads o p os ps r s (h o (inl refl)) (k p (inl refl)) in
    let h' : (x : Outline) → Among x (o ∷ os) → Among x (o ∷ ps) = subst (λ (q : Outline). (x : Outline) → Among x (o ∷ os) → Among x (q ∷ ps)) (sym e) h in
    let k' : (x : Outline) → Among x (o ∷ ps) → Among x (o ∷ os) = subst (λ (q : Outline). (x : Outline) → Among x (q ∷ ps) → Among x (o ∷ os)) (sym e) k in
    let s' : Rising (o ∷ ps) = subst (λ (q : Outline). Rising (q ∷ ps)) (sym e) s in
    let i : os ≡ ps = same_members os ps (tail_rising o os r) (tail_rising o ps s') (tails o os ps r h') (tails o ps os s' k') in
    cc

-- The table is fixed by the stack and the kind.
pub one_listing : (kind : Kind) (cs : List Component) (os ps : List Outline) → Listing kind cs os → Listing kind cs ps → os ≡ ps
one_listing kind cs os ps l m =
    same_members os ps l.ordered m.ordered (λ o a. m.complete o (l.sound o a)) (λ o a. l.complete o (m.sound o a))

-- Widths that rise strictly up to a number are no more than that number.
rising_few : (n : ℕ) (o : Outline) (os : List Outline) → Rising (o ∷ os) → ((p : Outline) → Among p (o ∷ os) → p.width.0 ≤ n) → o.width.0 + length os ≤ n
rising_few n o [] r h = omega (arith, h o (inl refl))
rising_few n o (p ∷ os) r h = omega (arith, r.0, rising_few n p os r.2 (λ q a. h q (inr a)))

pub few_listed : (kind : Kind) (cs : List Component) (os : List Outline) → AllSized cs → 0 < length cs → Listing kind cs os → length os ≤ width_sum cs
few_listed kind cs [] s h l = omega arith
few_listed kind cs (o ∷ os) s h l =
    let u = l.sound o (inl refl) in
    omega (arith, rising_few (width_sum cs) o os l.ordered (λ p a. listed_most p (l.sound p a)), width_some cs u.folding s h u.is_legal.whole, ap (λ (x : Outline). x.width.0) u.has)
  where
    listed_most : (p : Outline) → Unbeaten kind cs p → p.width.0 ≤ width_sum cs
    listed_most p u = omega (arith, width_most cs u.folding, ap (λ (x : Outline). x.width.0) u.has)
