-- What `min_by_key` asks and gives over m and then 1 to m - 1, where the key of a number is always the same.
use Prim.Native.Nat.{ℕ, zero, suc, ◌-◌, ◌≤◌, ◌<◌}
use mathlib.Core.Path.{◌≡◌, refl, sym, ap, ◌∙◌, subst}
use mathlib.Core.Logic.{◌⊎◌, inl, inr}
use mathlib.Core.List.{List, ◌∷◌, map-id}
use mathlib.Core.Bool.{false, true}
use native.Mathlib.Omega.{arith}
use lib.ListN.{length, get_or}
use denote.Ref.{Bor}
use denote.Param.Members.{Mut}
use Rattle.std.specs.declared.option.Option.{Option}
use Rattle.std.specs.declared.option.Option.TheVariants.{None, Some}
use Rattle.std.specs.Option.{MatchOption, IfSome, IsSomeAnd, unwrap_or}
use Rattle.std.specs.List.{range_with_len, slice_get}
use Rattle.std.specs.Ordering.{is_lt, nat_cmp, min_by_ordering}
use Rattle.std.specs.Fn.{CalledAt, TakesAt}
use Rattle.std.specs.Iterator.{CallableInMinByKey, KeyTurn}
use Rattle.std.specs.Iterator.Runs.{Run, WholeRun, AllItems, AnyItem, NoKeyBeyond, CallKeepsClosure, YieldsRun}
use Rattle.std.proofs.lemmas.Fn.{serves_by}
use Rattle.std.specs.declared.iter.Chain.{Chain}
use Rattle.std.specs.declared.iter.Once.{Once}
use Rattle.std.specs.declared.ops.Range.{Range}
use Rattle.std.specs.Iterator.Adapters.{once_item, once_steps, chain_first, chain_second, chain_first_done, chain_second_done, chain_steps}
use Rattle.std.proofs.iter.Yields.{nat_range_steps}
use Rattle.std.proofs.lemmas.Iterator.{YieldsList, YieldsList-from_range, items_from_drains}
use Rattle.std.proofs.lemmas.Iterator.Adapters.{YieldsList-from_once}
use Rattle.std.proofs.lemmas.Iterator.Consumers.{YieldsList-at, YieldsList-from_chain, YieldsList-turn}
use Rattle.std.proofs.lemmas.List.FromFn.{get_or-range_with_len, length-range_with_len}
use Rattle.std.proofs.lemmas.Option.{slice_get-get_or, slice_get_read}
use Rattle.std.proofs.lemmas.Map.Keys.{ge_from_not_lt}
use Rattle.terms.proofs.Order.{order}

-- How the numbers come.
pub m_first : {s : Chain (Once ℕ) (Range ℕ)} {o : Once ℕ} {m : ℕ} → chain_first s ≡ o → once_item o ≡ Some m → chain_second s ≡ record { start = 1; end = m } → chain_first_done s ≡ false → chain_second_done s ≡ false
    → YieldsList (chain_steps once_steps nat_range_steps) (λ x. x) s (m ∷ range_with_len 1 (m - 1))
m_first {s} {o} {m} f i r d e = YieldsList-from_chain (YieldsList-at f (YieldsList-from_once (Some m) i)) (YieldsList-from_range 1 m (m - 1) r refl) d e

module _ {S F : Type 0} {steps : S → Option ℕ → S → Type 0} {g : Mut F (Bor ℕ × Unit {0}) ℕ} {s : S} {f : F} {m : ℕ} (some : 0 < m)
    (road : YieldsList steps (λ x. x) s (m ∷ range_with_len 1 (m - 1))) (key : ℕ → ℕ) (same : (x k : ℕ) (q : F) → CalledAt g f x k q → (q ≡ f) × (k ≡ key x)) where
  abbrev others : List ℕ
  others = range_with_len 1 (m - 1)

  in_others : (i d x : ℕ) → i < length others → x ≡ get_or others i d → (0 < x) × (x ≤ m)
  in_others i d x l e =
      let n = length-range_with_len 1 (m - 1) in
      let v = get_or-range_with_len 1 (m - 1) i d (omega arith) in
      (omega arith, omega arith)

  -- A key is asked of such numbers only.
  pub callable : ((x : ℕ) → 0 < x → x ≤ m → TakesAt g f x) → CallableInMinByKey steps g nat_cmp s f
  callable takes x t e =
      let here = road.runs.1 x t e in (
        takes x (omega (arith, here.0)) (omega (arith, here.0)),
        λ k q c. serves_by {P = (F × ℕ) × ℕ} (KeyTurn min_by_ordering min_by_ordering g nat_cmp) (λ xs p. p.0.0 ≡ f)
            (λ xs p y v j r. (same y r.0 v.0.0 (subst (λ (z : F). CalledAt g z y r.0 v.0.0) j r.2)).0)
            steps (λ p y. TakesAt g p.0.0 y) t ((q, k), x) (same x k q c).0
            (λ xs u p y w d r j.
            let h = YieldsList-turn {steps = steps} {v = λ x. x} {all = others} (record { runs = here.1 }) xs u d (Some y) w y refl r in
            let b = in_others (length xs) y y h.0 h.1 in
            subst (λ (z : F). TakesAt g z y) (sym j) (takes y b.0 b.1)),
      )

  keeps : CallKeepsClosure g f
  keeps a r q c = (same a.0.now r q (record { shown = a.0; shows = refl; called = c })).0

  module _ (p : Run steps) (from : p.from ≡ s) (whole : p.whole ≡ true) where
    items : p.items ≡ m ∷ others
    unfolding YieldsRun
    items = let d = p.gave.0 in sym (map-id p.items) ∙ items_from_drains p.items (d.0, d.1, λ u. d.2 whole) (subst (λ (z : S). YieldsList steps (λ x. x) z (m ∷ others)) (sym from) road)

    at : (k : ℕ) → p.at k ≡ slice_get (m ∷ others) k
    unfolding YieldsRun
    at k = p.gave.1 k ∙ ap (λ (l : List ℕ). slice_get l k) items

    -- Each item is such a number, and each such number is an item.
    item_in : (w k : ℕ) → k < p.len → IsSomeAnd (p.at k) (λ x. x ≡ w) → (0 < w) × (w ≤ m)
    item_in w k l e = go k (omega (arith, p.long, ap length items)) (subst (λ (o : Option ℕ). IsSomeAnd o (λ x. x ≡ w)) (at k) e)
      where
        go : (k : ℕ) → k < length (m ∷ others) → IsSomeAnd (slice_get (m ∷ others) k) (λ x. x ≡ w) → (0 < w) × (w ≤ m)
        go zero l e = (omega (arith, e), omega (arith, e))
        go (suc k) l e = in_others k m w (omega arith) (sym (subst (λ (o : Option ℕ). IsSomeAnd o (λ x. x ≡ w)) (slice_get-get_or others k m (omega arith)) e))

    is_item : (P : ℕ → Type 0) → AllItems p P → (q : ℕ) → 0 < q → q ≤ m → P q
    is_item P all q a b = go q a b (order m q)
      where
        go : (q : ℕ) → 0 < q → q ≤ m → (m ≤ q) ⊎ (q < m) → P q
        go q a b (inl h) = let e : m ≡ q = omega arith in subst P e (subst (λ (o : Option ℕ). IfSome o P) (at 0) (all 0))
        go zero a b (inr h) = absurd (omega arith)
        go (suc j) a b (inr h) =
            let n = length-range_with_len 1 (m - 1) in
            let e : slice_get others j ≡ Some (suc j) = slice_get_read others (length others) j (suc j) refl (omega arith) (omega (arith, get_or-range_with_len 1 (m - 1) j (suc j) (omega arith))) in
            subst (λ (o : Option ℕ). IfSome o P) (at (suc j) ∙ e) (all (suc j))

  -- The number found is one of them, and none has a smaller key.
  pub least : (r : Option ℕ) → WholeRun steps s (λ p. MatchOption r (p.len ≡ 0) (λ w. AnyItem p (λ x. x ≡ w) × NoKeyBeyond p g f is_lt nat_cmp w))
      → (0 < unwrap_or r m) × (unwrap_or r m ≤ m) × ((q : ℕ) → 0 < q → q ≤ m → key (unwrap_or r m) ≤ key q)
  least None w = absurd (omega (arith, w.3, w.0.long, ap length (items w.0 w.1 w.2)))
  least (Some v) w =
      let b = item_in w.0 w.1 w.2 v w.3.0.0 w.3.0.1 w.3.0.2 in
      let n = w.3.1 keeps in (
        b.0,
        b.1,
        is_item w.0 w.1 w.2 (λ q. key v ≤ key q)
            (λ k. weaker (w.0.at k) (λ x h. omega (arith, (same x h.0 f h.1).1, (same v n.0 f n.1).1, ge_from_not_lt h.0 n.0 h.2)) (n.2 k)),
      )
    where
      weaker : {P Q : ℕ → Type 0} (o : Option ℕ) → ((x : ℕ) → P x → Q x) → IfSome o P → IfSome o Q
      weaker None h i = tt
      weaker (Some x) h i = h x i
