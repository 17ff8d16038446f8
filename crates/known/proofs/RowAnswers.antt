-- The calls over rows of cells can answer nothing else than the lines say: their promises leave one number of stacks, and one
-- height of the lowest.
use Prim.Native.Nat.{ℕ, ◌≤◌, ◌<◌}
use mathlib.Core.Path.{◌≡◌, refl, ap, ◌∙◌, subst}
use mathlib.Core.Logic.{◌⊎◌, inl, inr}
use mathlib.Core.List.{List}
use native.Mathlib.Omega.{arith}
use lib.ListN.{length}
use Rattle.terms.specs.Answer.{Answer, refusal, result}
use Rattle.cells.specs.declared.Stacks.{Stacks}
use Rattle.cells.specs.Endings.{greatest_height, FewestFor, LowestFor}
use Rattle.cells.specs.Calls.{row_of, row_within, Stacked, RowAnswered}
use Rattle.known.specs.Rows.{fewest, none, lowest, refused, Holds, Refused, Answers, stacks}

-- Behind the checks of a row.
module _ (Best : List ℕ → Type 0) (ends ends' : List ℕ) (answer : Answer Stacks) (asked : Answer (List ℕ)) (t : RowAnswered Best ends ends' answer asked) where
  turned_away : (k : ℕ) → asked ≡ refusal k → Refused k ends ends' answer
  turned_away k e = rw e at t

  let_in : (hs : List ℕ) → asked ≡ result hs → Stacked Best hs ends ends' answer
  let_in hs e = rw e at t

-- Where all stacks that a call may write are n.
module _ (Best : List ℕ → Type 0) (hs ends ends' : List ℕ) (n : ℕ) (one : (es : List ℕ) → Best es → length es ≡ n) where
  count_is : (s : Stacks) → Stacked Best hs ends ends' (result s) → s.count ≡ n
  count_is s a = a.2.count ∙ one a.0 a.1

  short : (answer : Answer Stacks) → Stacked Best hs ends ends' answer → length ends < n → Refused 8 ends ends' answer
  short (refusal k) a l = (ap refusal a.0, a.2)
  short (result s) a l = absurd (omega (arith, l, one a.0 a.1, a.2.fits))

  room : (answer : Answer Stacks) → Stacked Best hs ends ends' answer → n ≤ length ends → (s : Stacks) × (answer ≡ result s)
  room (refusal k) a l = absurd (omega (arith, l, one a.1.0 a.1.1, a.1.2))
  room (result s) a l = (s, refl)

one_count : (hs : List ℕ) (limit : ℕ) (es other : List ℕ) → FewestFor hs limit es → FewestFor hs limit other → length other ≡ length es
one_count hs limit es other f g = omega (arith, f.fewest other g.ending g.keeps, g.fewest es f.ending f.keeps)

-- Of two, neither better: the first number decides, then the second.
neither : {a b c d : ℕ} → (a < c) ⊎ ((a ≡ c) × (b ≤ d)) → (c < a) ⊎ ((c ≡ a) × (d ≤ b)) → (c ≡ a) × (d ≡ b)
neither (inl x) (inl y) = absurd (omega arith)
neither (inl x) (inr y) = absurd (omega (arith, y.0))
neither (inr x) (inl y) = absurd (omega (arith, x.0))
neither (inr x) (inr y) = (y.0, omega (arith, x.1, y.1))

one_lowest : (hs : List ℕ) (most : ℕ) (es other : List ℕ) → LowestFor hs most es → LowestFor hs most other
    → (greatest_height hs other ≡ greatest_height hs es) × (length other ≡ length es)
one_lowest hs most es other f g = neither (f.lowest other g.ending g.keeps) (g.lowest es f.ending f.keeps)

same_stacks : {s t : Stacks} → s.count ≡ t.count → s.height.0 ≡ t.height.0 → s ≡ t
same_stacks {s} {t} n h = let e : stacks s.count s.height.0 ≡ stacks t.count t.height.0 = rw (n, h) in e

-- What each kind of line says of the answers.
module _ (hs : List ℕ) (limit : ℕ) where
  pub fewest_answers : (n : ℕ) → row_within hs limit ≡ result hs → Holds (fewest hs limit n) → Answers (fewest hs limit n)
  fewest_answers n e h = λ ends ends' answer t.
      let Best = FewestFor hs limit in
      let one : (es : List ℕ) → Best es → length es ≡ n = λ es f. one_count hs limit h.0 es h.1 f ∙ h.2 in
      let a = let_in Best ends ends' answer (row_within hs limit) t hs e in (
        λ l.
            let r = room Best hs ends ends' n one answer a l in
            (r.0, r.1, count_is Best hs ends ends' n one r.0 (subst (Stacked Best hs ends ends') r.1 a)),
        short Best hs ends ends' n one answer a,
      )

  pub none_answers : row_within hs limit ≡ refusal 9 → Answers (none hs limit)
  none_answers e = λ ends ends' answer t. turned_away (FewestFor hs limit) ends ends' answer (row_within hs limit) t 9 e

  pub lowest_answers : (s : Stacks) → row_of hs limit ≡ result hs → Holds (lowest hs limit s) → Answers (lowest hs limit s)
  lowest_answers s e h = λ ends ends' answer t.
      let Best = LowestFor hs limit in
      let n = s.count in
      let one : (es : List ℕ) → Best es → length es ≡ n = λ es f. (one_lowest hs limit h.0 es h.1 f).1 ∙ h.2 in
      let a = let_in Best ends ends' answer (row_of hs limit) t hs e in (
        λ l.
            let r = room Best hs ends ends' n one answer a l in
            let w = subst (Stacked Best hs ends ends') r.1 a in
            let high : r.0.height.0 ≡ s.height.0 = omega (arith, w.2.greatest, (one_lowest hs limit h.0 w.0 h.1 w.1).0, h.3) in
            r.1 ∙ ap result (same_stacks (count_is Best hs ends ends' n one r.0 w) high),
        short Best hs ends ends' n one answer a,
      )

  pub refused_answers : (k : ℕ) → row_of hs limit ≡ refusal k → Answers (refused hs limit k)
  refused_answers k e = λ ends ends' answer.
      let w : row_within hs limit ≡ refusal k = rw e in
      (λ t. turned_away (FewestFor hs limit) ends ends' answer (row_within hs limit) t k w, λ t. turned_away (LowestFor hs limit) ends ends' answer (row_of hs limit) t k e)
