-- What follows where a check gives a result: each test that it passed, as a fact.
use Prim.Native.Nat.{ℕ, ◌≤◌}
use mathlib.Core.Path.{◌≡◌, refl}
use mathlib.Core.Logic.{◌≢◌}
use mathlib.Core.List.{List}
use mathlib.Core.Bool.{Bool, true, false, not}
use native.Mathlib.Omega.{arith}
use Rattle.std.proofs.Common.{Result, Ok, Err, IsErrAnd}
use lib.ListN.{length}
use lib.Dec.{ltb, eqb}
use borrow.Author.Tests.{ltb-false, eqb-false, not-false}
use Rattle.terms.specs.declared.Component.{Component}
use Rattle.terms.specs.declared.Kind.{Kind}
use Rattle.terms.specs.declared.Refusal.{Refusal}
use Rattle.terms.specs.Answer.{Answer, refusal, result, refuse_if, and_then, number_of, answer_of}
use Rattle.terms.specs.Component.{good_size, good_gap, good_mark, every, most_of, stack_of, count_of}

module _ {A : Type 0} where
  -- a result came past this check
  pub passed : (b : Bool) (k : ℕ) (a : Answer A) (v : A) → refuse_if b k a ≡ result v → (b ≡ false) × (a ≡ result v)
  passed true k a v e = let z : ◌≡◌ {A = ℕ} 0 1 = cc in absurd (omega arith)
  passed false k a v e = (refl, e)

  pub went_on : {B : Type 0} (a : Answer B) (f : B → Answer A) (v : A) → and_then a f ≡ result v → (b : B) × (a ≡ result b) × (f b ≡ result v)
  went_on (refusal k) f v e = let z : ◌≡◌ {A = ℕ} 0 1 = cc in absurd (omega arith)
  went_on (result b) f v e = (b, refl, e)

pub result_same : {A : Type 0} {u v : A} → result u ≡ result v → u ≡ v
result_same e = cc

pub record Stack (most : ℕ) (cs : List Component) : Type 0 where
  pub some : 1 ≤ length cs
  pub few : length cs ≤ most
  pub sizes : every good_size cs ≡ true
  pub gaps : every good_gap cs ≡ true
  pub marks : every good_mark cs ≡ true

pub stack_is : (most : ℕ) (cs ds : List Component) → stack_of most cs ≡ result ds → (cs ≡ ds) × Stack most ds
unfolding stack_of
stack_is most cs ds e =
    let e1 = passed (eqb (length cs) 0) 4 _ ds e in
    let e2 = passed (ltb most (length cs)) 4 _ ds e1.1 in
    let e3 = passed (not (every good_size cs)) 5 _ ds e2.1 in
    let e4 = passed (not (every good_gap cs)) 6 _ ds e3.1 in
    let e5 = passed (not (every good_mark cs)) 11 (result cs) ds e4.1 in
    let m : cs ≡ ds = result_same e5.1 in
    let n : length cs ≢ 0 = eqb-false _ _ e1.0 in
    let s : Stack most cs = record { some = omega arith; few = ltb-false _ _ e2.0; sizes = not-false _ e3.0; gaps = not-false _ e4.0; marks = not-false _ e5.0 } in
    (m, rw m at s)

pub most_256 : (kind : Kind) → most_of kind ≤ 256
most_256 Kind.Apart = omega arith
most_256 Kind.Nested = omega arith

-- A count stands for the components that were counted, and its refusal for theirs.
pub counted : (a : Answer (List Component)) (n : ℕ) → count_of a ≡ result n → (cs : List Component) × (a ≡ result cs) × (length cs ≡ n)
counted a n e = let w = went_on a (λ cs. result (length cs)) n e in (w.0, w.1, result_same w.2)

pub uncounted : (a : Answer (List Component)) (k : ℕ) → count_of a ≡ refusal k → a ≡ refusal k
uncounted (refusal j) k e = let m : j ≡ k = cc in rw m
uncounted (result cs) k e = let z : ◌≡◌ {A = ℕ} 0 1 = cc in absurd (omega arith)

-- The exit of a `?`: the refusal of the call that is asked.
pub handed_on : {A : Type 0} (k : Refusal) (r : Result A Refusal) → IsErrAnd r (λ j. j ≡ k) → answer_of r ≡ refusal (number_of k)
handed_on k (Ok v) h = absurd h
handed_on k (Err j) h = rw h
