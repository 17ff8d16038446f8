-- What the rules say at an index.
use Prim.Native.Nat.{ℕ, zero, suc, ◌+◌, ◌≤◌, ◌<◌}
use mathlib.Core.Path.{◌≡◌}
use mathlib.Core.List.{List, [], ◌∷◌}
use mathlib.Core.Bool.{Bool, true}
use native.Mathlib.Numerals.{add-one}
use native.Mathlib.Omega.{arith}
use lib.ListN.{length, get_or, drop}
use lib.Dec.{leb}
use borrow.Author.Tests.{leb-true}
use Rattle.terms.specs.declared.Kind.{Kind}
use Rattle.terms.specs.Component.{tabulate}
use Rattle.terms.proofs.Bools.{both, and_is}
use Rattle.terms.proofs.Tabulate.{tabulate-length, tabulate_at, tabulate-drop}
use Rattle.folding.specs.declared.Placed.{Placed}
use Rattle.folding.specs.Placement.{group_of, start_of, left}
use Rattle.folding.specs.Legal.{each, each_pair, in_range, in_order, left_first, left_clear, right_clear, legal}
use Rattle.folding.proofs.Rules.{Within, Next, within, opens, next_is, legal_is, legal_holds}

-- What the rules of a legal folding say at an index.
module _ (g : ℕ → Placed) (n : ℕ) where
  at_each : (rule : Placed → Bool) (l : List Placed) → each rule l ≡ true → (i : ℕ) (d : Placed) → i < length l → rule (get_or l i d) ≡ true
  unfolding each
  at_each rule [] e i d h = absurd (omega arith)
  at_each rule (x ∷ l) e zero d h = (both (rule x) (each rule l) e).0
  at_each rule (x ∷ l) e (suc i) d h = at_each rule l (both (rule x) (each rule l) e).1 i d (omega arith)

  at_pair : (rule : Placed → Placed → Bool) (l : List Placed) → each_pair rule l ≡ true → (i : ℕ) (d : Placed) → suc i < length l → rule (get_or l i d) (get_or l (suc i) d) ≡ true
  unfolding each_pair
  at_pair rule [] e i d h = absurd (omega arith)
  at_pair rule (x ∷ []) e i d h = absurd (omega arith)
  at_pair rule (x ∷ y ∷ l) e zero d h = (both (rule x y) (each_pair rule (y ∷ l)) e).0
  at_pair rule (x ∷ y ∷ l) e (suc i) d h = at_pair rule (y ∷ l) (both (rule x y) (each_pair rule (y ∷ l)) e).1 i d (omega arith)

  module _ (kind : Kind) (e : legal kind (tabulate g n) ≡ true) where
    pub legal_low : (i : ℕ) → i < n → start_of (g i) ≤ 1024000
    legal_low i h =
        let r = legal_holds kind (tabulate g n) e in
        let a = at_each in_range (tabulate g n) r.ranges i (g 0) (omega (arith, tabulate-length g n)) in
        leb-true _ _ (both (leb (g i).placement.side 1) (leb (start_of (g i)) 1024000) (rw (tabulate_at g n i (g 0) h) at a)).1

    -- The first of a group is on the left.
    pub legal_first : 0 < n → left (g 0) ≡ true
    legal_first h = (legal_is kind (g 0 ∷ drop 1 (tabulate g n)) (rw (tabulate-drop g n 0 h) at e)).1

    -- How a component may follow the one before it.
    legal_next : (i : ℕ) → i + 1 < n → Next (g i) (g (i + 1))
    legal_next i h =
        let r = legal_holds kind (tabulate g n) e in
        rw add-one
        (next_is (g i) (g (suc i)) (and_is (and_is (and_is (pair in_order r.order) (pair left_first r.lefts)) (pair left_clear r.clear_left)) (pair right_clear r.clear_right)))
      where
        pair : (rule : Placed → Placed → Bool) → each_pair rule (tabulate g n) ≡ true → rule (g i) (g (suc i)) ≡ true
        pair rule a =
            let b = at_pair rule (tabulate g n) a i (g 0) (omega (arith, tabulate-length g n)) in
            rw (tabulate_at g n i (g 0) (omega arith), tabulate_at g n (suc i) (g 0) (omega arith)) at b

    pub legal_opens : (i : ℕ) → i + 1 < n → (group_of (g (i + 1)) ≡ group_of (g i) → ⊥) → left (g (i + 1)) ≡ true
    legal_opens i h d = go (legal_next i h)
      where
        go : Next (g i) (g (i + 1)) → left (g (i + 1)) ≡ true
        go (within s w) = absurd (d s)
        go (opens s v) = v

    pub legal_within : (i : ℕ) → i + 1 < n → group_of (g (i + 1)) ≡ group_of (g i) → Within (g i) (g (i + 1))
    legal_within i h d = go (legal_next i h)
      where
        go : Next (g i) (g (i + 1)) → Within (g i) (g (i + 1))
        go (within s w) = w
        go (opens s v) = absurd (omega arith)
