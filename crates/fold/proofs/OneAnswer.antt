-- What a fold call promises fixes its answer: a known best folding, or that there is none, leaves it no choice.
use Prim.Native.Nat.{ℕ, ◌/◌, ◌≤◌, ◌<◌}
use mathlib.Core.Path.{◌≡◌, refl, sym, ap}
use mathlib.Core.Logic.{◌⊎◌, inl, inr}
use mathlib.Core.List.{List}
use native.Mathlib.Omega.{arith}
use lib.ListN.{length}
use borrow.Author.Tests.{le-ltb}
use Rattle.terms.specs.declared.Component.{Component}
use Rattle.terms.specs.declared.Kind.{Kind}
use Rattle.terms.specs.Answer.{Answer, refusal, result}
use Rattle.folding.specs.declared.Outline.{Outline}
use Rattle.folding.specs.declared.Placement.{Placement}
use Rattle.terms.proofs.Answers.{went_on}
use Rattle.stack.specs.File.{check_of}
use Rattle.folding.specs.Placement.{placements_of}
use Rattle.folding.specs.Legal.{Legal}
use Rattle.folding.specs.Outline.{outline_of}
use Rattle.folding.specs.Calls.{measure_in, measure_of}
use Rattle.folding.specs.Best.{BestForHeight, BestForWidth, UnmeetableHeight, UnmeetableWidth}
use Rattle.model.proofs.Area.{same_outline}
use Rattle.fold.specs.Calls.{fold_checks, valid_of, Wanted, Searched, Answered}
use Rattle.fold.proofs.Checks.{lent, handed_on}

-- Two outlines of which neither is better: the first number decides, then the second.
both_ways : (a b c d a' b' c' d' : ℕ) → a' ≡ a → b' ≡ b → c' ≡ c → d' ≡ d → (a < c') ⊎ ((a ≡ c') × (b ≤ d')) → (c < a') ⊎ ((c ≡ a') × (d ≤ b')) → (a ≡ c) × (b ≡ d)
both_ways a b c d a' b' c' d' p q r s (inl x) (inl y) = absurd (omega arith)
both_ways a b c d a' b' c' d' p q r s (inl x) (inr y) = absurd (omega (arith, y.0))
both_ways a b c d a' b' c' d' p q r s (inr x) (inl y) = absurd (omega (arith, x.0))
both_ways a b c d a' b' c' d' p q r s (inr x) (inr y) = (omega (arith, x.0), omega (arith, x.1, y.1))

abbrev wide : Outline → ℕ
wide o = o.width.0

abbrev high : Outline → ℕ
high o = o.height.0

module _ (kind : Kind) (cs : List Component) (limit : ℕ) (ps qs : List Placement) (o p : Outline) where
  pub one_for_height : BestForHeight kind cs limit ps o → BestForHeight kind cs limit qs p → o ≡ p
  one_for_height b c =
      let e = both_ways (wide o) (high o) (wide p) (high p) _ _ _ _ (ap wide b.has) (ap high b.has) (ap wide c.has) (ap high c.has) (b.best qs c.is_legal c.keeps) (c.best ps b.is_legal b.keeps) in
      same_outline e.0 e.1

  pub one_for_width : BestForWidth kind cs limit ps o → BestForWidth kind cs limit qs p → o ≡ p
  one_for_width b c =
      let e = both_ways (high o) (wide o) (high p) (wide p) _ _ _ _ (ap high b.has) (ap wide b.has) (ap high c.has) (ap wide c.has) (b.best qs c.is_legal c.keeps) (c.best ps b.is_legal b.keeps) in
      same_outline e.1 e.0

module _ (wanted : Wanted) (cs : List Component) (one : (ps qs : List Placement) (o p : Outline) → wanted.Best cs ps o → wanted.Best cs qs p → o ≡ p)
    (met : (ps : List Placement) (o : Outline) → wanted.Best cs ps o → wanted.Unmeetable cs → ⊥) where
  best_answer : (ps : List Placement) (o : Outline) → wanted.Best cs ps o → (out out' : List ℕ) (answer : Answer Outline) → Searched wanted cs out out' answer → answer ≡ result o
  best_answer ps o b out out' (refusal k) s = absurd (met ps o b s.1)
  best_answer ps o b out out' (result p) s = ap result (sym (one ps _ o p b s.0))

  no_answer : wanted.Unmeetable cs → (out out' : List ℕ) (answer : Answer Outline) → Searched wanted cs out out' answer → answer ≡ refusal 9
  no_answer u out out' (refusal k) s = ap refusal s.0
  no_answer u out out' (result p) s = absurd (met _ p s.0 u)

  module _ (out work out' work' : List ℕ) (answer : Answer Outline) (valid : Answer (List Component)) (e : valid ≡ result cs) (a : Answered wanted out work out' work' answer valid) where
    searched : Searched wanted cs out out' answer
    searched = rw e at a

    pub the_best : (ps : List Placement) (o : Outline) → wanted.Best cs ps o → answer ≡ result o
    the_best ps o b = best_answer ps o b out out' answer searched

    pub there_is_none : wanted.Unmeetable cs → answer ≡ refusal 9
    there_is_none u = no_answer u out out' answer searched

    -- What stands in the placements' buffer.
    pub best_left : (o : Outline) → answer ≡ result o → Searched wanted cs out out' (result o)
    best_left o q = rw q at searched

    pub none_left : (k : ℕ) → answer ≡ refusal k → out' ≡ out
    none_left k q = let s : Searched wanted cs out out' (refusal k) = rw q at searched in s.2

module _ (kind : Kind) (cs : List Component) (limit : ℕ) (ps : List Placement) (o : Outline) where
  pub met_height : BestForHeight kind cs limit ps o → UnmeetableHeight kind cs limit → ⊥
  met_height b u = u ps b.is_legal b.keeps

  pub met_width : BestForWidth kind cs limit ps o → UnmeetableWidth kind cs limit → ⊥
  met_width b u = u ps b.is_legal b.keeps

-- A call that its checks refuse answers so, and leaves what was lent as it was.
module _ (wanted : Wanted) (out work out' work' : List ℕ) (answer : Answer Outline) where
  pub refused_call : (k : ℕ) (valid : Answer (List Component)) → valid ≡ refusal k → Answered wanted out work out' work' answer valid → (answer ≡ refusal k) × (out' ≡ out) × (work' ≡ work)
  refused_call k valid e a = rw e at a

-- Such an answer is what a call promises then.
module _ (wanted : Wanted) (out work : List ℕ) where
  pub refused : (k : ℕ) (a : Answer (List Component)) → a ≡ refusal k → Answered wanted out work out work (refusal k) a
  refused k a e = rw e (refl, refl, refl)

-- A folding that a call writes measures to the outline that it gives.
module _ (kind : Kind) (file : List ℕ) (limit : ℕ) (out work : List ℕ) (cs : List Component) (v : valid_of kind file limit out work ≡ result cs) where
  pub valid_file : (check_of kind file ≡ result cs) × (length cs ≤ length out / 3)
  valid_file =
      let w = went_on (check_of kind file) (λ ds. fold_checks limit (length out) (length work) (length ds) ds) cs v in
      let e : w.0 ≡ cs = handed_on limit (length out) (length work) (length w.0) w.0 cs w.2 in
      let l : length w.0 ≤ length out / 3 = (lent limit (length out) (length work) (length w.0) w.0 cs w.2).room in
      (rw e at w.1, rw e at l)

  pub measures : (out' : List ℕ) (o : Outline) → length out' ≡ length out → Legal kind cs (placements_of out' (length cs)) → outline_of cs (placements_of out' (length cs)) ≡ o → measure_of kind file out' ≡ result o
  unfolding measure_in
  measures out' o n l h = rw (valid_file.0, n, le-ltb (length out / 3) (length cs) valid_file.1, l.rules, h)
