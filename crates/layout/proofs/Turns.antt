-- The rule of turning is one about neighbours, and one about the ways in which groups stand: of a first group x and a, and the
-- rest b, the two say the same.
use Prim.Native.Nat.{suc, ◌+◌}
use mathlib.Core.Path.{◌≡◌, refl, sym, ◌∙◌}
use mathlib.Core.Logic.{◌⊎◌, inl, inr}
use mathlib.Core.List.{List, [], ◌∷◌, ◌++◌}
use mathlib.Core.Bool.{true, false, true≢false, false≢true}
use native.Mathlib.Omega.{arith}
use lib.ListN.{length}
use borrow.Author.Tests.{eq-eqb, ne_eqb}
use Rattle.terms.specs.declared.Kind.{Kind}
use Rattle.terms.specs.declared.Kind.TheVariants.{Apart, Nested}
use Rattle.terms.proofs.Bools.{either, or_left, or_right}
use Rattle.folding.specs.declared.Placed.{Placed}
use Rattle.folding.specs.Placement.{group_of, left}
use Rattle.folding.specs.Legal.{same_group, turned}
use Rattle.folding.proofs.Rules.{Within, down, turn, up, LegalFrom, Turned}
use Rattle.folding.proofs.Groups.{Run}
use Rattle.model.specs.Groups.{is_end}
use Rattle.group.proofs.Ways.{FlatStands}
use Rattle.group.proofs.Lower.{components_of, lefts_in}

-- All components of a group are on the left.
abbrev pub Flat : List Placed → Type 0
Flat l = lefts_in l ≡ length (components_of l)

-- Where all are, the second is on the left and so are all from it on; and the other way.
flat_mates : (x y : Placed) (a : List Placed) → Within x y → left x ≡ true → Flat (x ∷ y ∷ a) → (left y ≡ true) × Flat (y ∷ a)
unfolding lefts_in
flat_mates x y a (down p q h) l e = (q, let z : suc (lefts_in (y ∷ a)) ≡ suc (length (components_of (y ∷ a))) = rw l at e in omega (arith, z))
flat_mates x y a (turn p q) l e = absurd (omega (arith, rw (l, q) at e))
flat_mates x y a (up p q h) l e = absurd (false≢true (sym p ∙ l))

flat_more : (x y : Placed) (a : List Placed) → Within x y → left y ≡ true → Flat (y ∷ a) → (left x ≡ true) × Flat (x ∷ y ∷ a)
unfolding lefts_in
flat_more x y a (down p q h) l e = (p, let z : lefts_in (x ∷ y ∷ a) ≡ suc (lefts_in (y ∷ a)) = rw p in omega (arith, z, e))
flat_more x y a (turn p q) l e = absurd (true≢false (sym l ∙ q))
flat_more x y a (up p q h) l e = absurd (true≢false (sym l ∙ q))

together : (kind : Kind) (x y : Placed) → group_of y ≡ group_of x → turned kind x y ≡ true
together Apart x y e = refl
together Nested x y e = or_left _ (eq-eqb _ _ e)

-- Of a folding that obeys the rule of turning, a nested first group without a right side is the last, and the rest obeys it too.
pub rest_turned : (kind : Kind) (x : Placed) (a b : List Placed) → Turned kind (x ∷ (a ++ b)) → Turned kind b
rest_turned kind x [] [] t = tt
rest_turned kind x [] (y ∷ b) t = t.1
rest_turned kind x (y ∷ a) b t = rest_turned kind y a b t.1

no_left_end : (x y : Placed) → group_of y ≡ group_of x + 1 → left x ≡ true → turned Nested x y ≡ true → ⊥
no_left_end x y e l t = false≢true (rw (ne_eqb (group_of y) (group_of x) (λ f. omega arith), l) at t)

flat_nested : (x : Placed) (a b : List Placed) → left x ≡ true → Run Nested x a → LegalFrom Nested (group_of x + 1) b → Turned Nested (x ∷ (a ++ b)) → Flat (x ∷ a) → is_end b ≡ true
flat_nested x [] [] l r f t e = refl
flat_nested x [] (y ∷ b) l r f t e = absurd (no_left_end x y f.0 l t.0)
flat_nested x (y ∷ a) b l r f t e =
    let m = flat_mates x y a r.1 l e in
    flat_nested y a b m.0 r.3 (rw r.0 f) t.1 m.1

pub flat_last : (kind : Kind) (x : Placed) (a b : List Placed) → left x ≡ true → Run kind x a → LegalFrom kind (group_of x + 1) b → Turned kind (x ∷ (a ++ b)) → Flat (x ∷ a) → FlatStands kind (is_end b)
flat_last Apart x a b l r f t e = tt
flat_last Nested x a b l r f t e = flat_nested x a b l r f t e

-- The other way.
last_turned : (kind : Kind) (x y : Placed) → (left x ≡ true → FlatStands kind false) → turned kind x y ≡ true
last_turned Apart x y h = refl
last_turned Nested x y h = go (either (left x))
  where
    go : (left x ≡ true) ⊎ (left x ≡ false) → turned Nested x y ≡ true
    go (inl l) = absurd (false≢true (h l))
    go (inr r) = or_right (same_group x y) (rw r)

pub join_turned : (kind : Kind) (x : Placed) (a b : List Placed) → Run kind x a → Turned kind b → (left x ≡ true → Flat (x ∷ a) → FlatStands kind (is_end b)) → Turned kind (x ∷ (a ++ b))
unfolding lefts_in
join_turned kind x [] [] r t h = tt
join_turned kind x [] (y ∷ b) r t h = (last_turned kind x y (λ l. h l (rw l)), t)
join_turned kind x (y ∷ a) b r t h = (together kind x y r.0, join_turned kind y a b r.3 t (λ l e. let m = flat_more x y a r.1 l e in h m.0 m.1))
