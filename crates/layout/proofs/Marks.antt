-- The rule of marks is one about neighbours, and one about the ways in which groups stand: of a first group x and a, and the
-- rest b, the two say the same.
use Prim.Native.Nat.{◌+◌, ◌≤◌}
use mathlib.Core.Path.{◌≡◌, refl, sym, ◌∙◌}
use mathlib.Core.Logic.{◌⊎◌, inl, inr}
use mathlib.Core.List.{List, [], ◌∷◌, ◌++◌}
use mathlib.Core.Bool.{Bool, true, false, not, true≢false, false≢true, ◌&&◌}
use native.Mathlib.Omega.{arith}
use lib.ListN.{length, take}
use borrow.Author.Tests.{eqb-true, eqb-false, eq-eqb, ne_eqb, not-true}
use Rattle.terms.specs.declared.Component.{Component}
use Rattle.terms.specs.declared.Kind.{Kind}
use Rattle.terms.specs.Component.{barred, good_mark, every}
use Rattle.terms.proofs.Bools.{both, one_of, or_left, or_right, and_is}
use Rattle.folding.specs.declared.Placed.{Placed}
use Rattle.folding.specs.declared.Placement.{Placement}
use Rattle.folding.specs.Placement.{group_of, left, placed_of}
use Rattle.folding.specs.Legal.{same_group, same_side, unparted}
use Rattle.folding.proofs.Rules.{Within, down, turn, up, LegalFrom, Unparted, LastFree}
use Rattle.folding.proofs.Groups.{Run}
use Rattle.model.specs.Groups.{gap_behind}
use Rattle.group.specs.Group.{unbarred, may_stand}
use Rattle.group.proofs.Ways.{may_fold, may_end}
use Rattle.group.proofs.Lower.{components_of, lefts_in}

-- Whoever is parted from the one after it is not barred.
parted_free : (x y : Placed) → unparted x y ≡ true → (same_group x y && same_side x y) ≡ false → not (barred x.component) ≡ true
parted_free x y u e = go (one_of (not (barred x.component)) (same_group x y && same_side x y) u)
  where
    go : (not (barred x.component) ≡ true) ⊎ ((same_group x y && same_side x y) ≡ true) → not (barred x.component) ≡ true
    go (inl h) = h
    go (inr h) = absurd (false≢true (sym e ∙ h))

other_group : (x y : Placed) → group_of y ≡ group_of x + 1 → (same_group x y && same_side x y) ≡ false
other_group x y e = rw (ne_eqb (group_of y) (group_of x) (λ f. omega arith))

other_side : (x y : Placed) → left x ≡ true → left y ≡ false → (same_group x y && same_side x y) ≡ false
other_side x y u v =
    let a = eqb-true x.placement.side 0 u in
    let b = eqb-false y.placement.side 0 v in
    rw (ne_eqb y.placement.side x.placement.side (λ e. b (e ∙ a))) (go (same_group x y))
  where
    go : (c : Bool) → (c && false) ≡ false
    go true = refl
    go false = refl

together : (x y : Placed) → group_of y ≡ group_of x → y.placement.side ≡ x.placement.side → unparted x y ≡ true
together x y g s = or_right (not (barred x.component)) (and_is (eq-eqb _ _ g) (eq-eqb _ _ s))

-- Of a folding that obeys the rule of marks, the first group's end and fold are not behind barred components, and the rest
-- obeys it too.
module _ (kind : Kind) where
  pub rest_unparted : (x : Placed) (a b : List Placed) → Unparted (x ∷ (a ++ b)) → Unparted b
  rest_unparted x [] [] u = tt
  rest_unparted x [] (y ∷ b) u = u.1
  rest_unparted x (y ∷ a) b u = rest_unparted y a b u.1

  pub end_free : (x : Placed) (a b : List Placed) → Run kind x a → LegalFrom kind (group_of x + 1) b → Unparted (x ∷ (a ++ b)) → unbarred (components_of (x ∷ a)) ≡ true
  unfolding gap_behind
  end_free x [] [] r f u = rw u
  end_free x [] (y ∷ b) r f u = parted_free x y u.0 (other_group x y f.0)
  end_free x (y ∷ a) b r f u = end_free y a b r.3 (rw r.0 f) u.1

  pub fold_free : (x : Placed) (a b : List Placed) → left x ≡ true → Run kind x a → LegalFrom kind (group_of x + 1) b → Unparted (x ∷ (a ++ b))
      → unbarred (take (lefts_in (x ∷ a)) (components_of (x ∷ a))) ≡ true
  unfolding lefts_in gap_behind
  fold_free x [] b l r f u = rw l (end_free x [] b r f u)
  fold_free x (y ∷ a) b l r f u = go r.1 (fold_free y a b)
    where
      go : Within x y → (left y ≡ true → Run kind y a → LegalFrom kind (group_of y + 1) b → Unparted (y ∷ (a ++ b)) → unbarred (take (lefts_in (y ∷ a)) (components_of (y ∷ a))) ≡ true)
          → unbarred (take (lefts_in (x ∷ y ∷ a)) (components_of (x ∷ y ∷ a))) ≡ true
      go (down p q h) i = rw (p, q) (rw q at (i q r.3 (rw r.0 f) u.1))
      go (turn p q) i = rw (p, q) (parted_free x y u.0 (other_side x y p q))
      go (up p q h) i = absurd (false≢true (sym p ∙ l))

  -- The other way.
  join_unparted : (x : Placed) (a b : List Placed) → x.placement.side ≤ 1 → Run kind x a → Unparted b → unbarred (components_of (x ∷ a)) ≡ true
      → (left x ≡ true → unbarred (take (lefts_in (x ∷ a)) (components_of (x ∷ a))) ≡ true) → Unparted (x ∷ (a ++ b))
  unfolding lefts_in gap_behind
  join_unparted x [] [] s r u e h = not-true _ e
  join_unparted x [] (y ∷ b) s r u e h = (or_left _ e, u)
  join_unparted x (y ∷ a) b s r u e h = go r.1 (join_unparted y a b r.2.two_sides r.3 u e)
    where
      right_side_lem : (z : Placed) → z.placement.side ≤ 1 → left z ≡ false → z.placement.side ≡ 1
      right_side_lem z m q = let n = eqb-false z.placement.side 0 q in omega arith

      go : Within x y → ((left y ≡ true → unbarred (take (lefts_in (y ∷ a)) (components_of (y ∷ a))) ≡ true) → Unparted (y ∷ (a ++ b))) → Unparted (x ∷ y ∷ (a ++ b))
      go (down p q k) i = (together x y r.0 (eqb-true _ _ q ∙ sym (eqb-true _ _ p)), i (λ n. rw q (rw (p, q) at (h p))))
      go (turn p q) i = (or_left _ (rw (p, q) at (h p)), i (λ n. absurd (true≢false (sym n ∙ q))))
      go (up p q k) i = (together x y r.0 (right_side_lem y r.2.two_sides q ∙ sym (right_side_lem x s p)), i (λ n. absurd (true≢false (sym n ∙ q))))

-- A group that stands in a way that is allowed, in front of placements that obey.
pub join_allowed : (kind : Kind) (last : Bool) (x : Placed) (a b : List Placed) → left x ≡ true → Run kind x a → Unparted b → may_stand kind last (components_of (x ∷ a)) (lefts_in (x ∷ a)) ≡ true
    → Unparted (x ∷ (a ++ b))
join_allowed kind last x a b l r u w =
    let s : x.placement.side ≤ 1 = omega (arith, eqb-true x.placement.side 0 l) in
    join_unparted kind x a b s r u (may_end kind last (components_of (x ∷ a)) (lefts_in (x ∷ a)) w) (λ n. may_fold kind last (components_of (x ∷ a)) (lefts_in (x ∷ a)) w)

-- The last mark of a stack is 0.
pub stack_free : (cs : List Component) → every good_mark cs ≡ true → unbarred cs ≡ true
unfolding every gap_behind
stack_free [] e = refl
stack_free (c ∷ []) e = let z = eqb-true c.mark 0 (both (good_mark c true) true e).0 in rw z
stack_free (c ∷ d ∷ cs) e = stack_free (d ∷ cs) (both (good_mark c false) (every good_mark (d ∷ cs)) e).1

pub last_free : (cs : List Component) (ps : List Placement) → length ps ≡ length cs → unbarred cs ≡ true → LastFree (placed_of cs ps)
unfolding placed_of gap_behind
last_free [] ps e f = tt
last_free (c ∷ cs) [] e f = absurd (omega arith)
last_free (c ∷ []) (p ∷ ps) e f = not-true _ f
last_free (c ∷ d ∷ cs) (p ∷ []) e f = absurd (omega arith)
last_free (c ∷ d ∷ cs) (p ∷ q ∷ ps) e f = last_free (d ∷ cs) (q ∷ ps) (omega arith) f
