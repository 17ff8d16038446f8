-- The ways in which the checks of a fold call end.
use Prim.Native.Nat.{ℕ, ◌/◌, ◌≤◌}
use mathlib.Core.Path.{◌≡◌}
use mathlib.Core.Bool.{Bool, true, false, not}
use native.Mathlib.Omega.{arith}
use lib.Dec.{leb, ltb}
use borrow.Author.Tests.{le-leb, le-ltb, leb-true, ltb-false, not-false}
use Rattle.terms.specs.Answer.{Answer, refusal, result, refuse_if}
use Rattle.terms.proofs.Answers.{passed, result_same}
use Rattle.terms.proofs.Bools.{both}
use Rattle.fold.specs.Calls.{in_limit, fold_checks}

pub all_well : {A : Type 0} (limit out work n : ℕ) (v : A) → 1 ≤ limit → limit ≤ 2000000 → n ≤ out / 3 → 8192 ≤ work → result v ≡ fold_checks limit out work n v
all_well limit out work n v low high o h = rw (le-leb 1 limit low, le-leb limit 2000000 high, le-ltb (out / 3) n o, le-ltb work 8192 h)

-- What follows where they pass.
pub record Lent (limit out work n : ℕ) : Type 0 where
  pub low : 1 ≤ limit
  pub high : limit ≤ 2000000
  pub room : n ≤ out / 3
  pub work_room : 8192 ≤ work

pub lent : {A : Type 0} (limit out work n : ℕ) (v u : A) → fold_checks limit out work n v ≡ result u → Lent limit out work n
lent limit out work n v u e =
    let a = passed (not (in_limit limit)) 7 _ u e in
    let b = passed (ltb (out / 3) n) 8 _ u a.1 in
    let c = passed (ltb work 8192) 8 (result v) u b.1 in
    let l = both (leb 1 limit) (leb limit 2000000) (not-false _ a.0) in
    record { low = leb-true _ _ l.0; high = leb-true _ _ l.1; room = ltb-false _ _ b.0; work_room = ltb-false _ _ c.0 }

pub handed_on : {A : Type 0} (limit out work n : ℕ) (v u : A) → fold_checks limit out work n v ≡ result u → v ≡ u
handed_on limit out work n v u e =
    let a = passed (not (in_limit limit)) 7 _ u e in
    let b = passed (ltb (out / 3) n) 8 _ u a.1 in
    result_same (passed (ltb work 8192) 8 (result v) u b.1).1

-- A refusal is the same whatever the checks would have handed on.
pub refused_alike : {A B : Type 0} (limit out work n : ℕ) (v : A) (u : B) (k : ℕ) → fold_checks limit out work n v ≡ refusal k → fold_checks limit out work n u ≡ refusal k
refused_alike {A = A} {B = B} limit out work n v u k = go (not (in_limit limit)) (ltb (out / 3) n) (ltb work 8192)
  where
    same : (j : ℕ) → ◌≡◌ {A = Answer A} (refusal j) (refusal k) → ◌≡◌ {A = Answer B} (refusal j) (refusal k)
    same j e = let m : j ≡ k = cc in rw m

    go : (a b c : Bool) → refuse_if a 7 (refuse_if b 8 (refuse_if c 8 (result v))) ≡ refusal k → refuse_if a 7 (refuse_if b 8 (refuse_if c 8 (result u))) ≡ refusal k
    go true b c e = same 7 e
    go false true c e = same 8 e
    go false false true e = same 8 e
    go false false false e = let z : ◌≡◌ {A = ℕ} 0 1 = cc in absurd (omega arith)
