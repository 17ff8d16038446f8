-- The ways in which choosing ends.
use Rattle.std.proofs.Common.{◌≡◌, ℕ, ◌*◌, ◌/◌, ◌≤◌, List, Option, Some, length, ltb, refl, sym, ◌∙◌, arith}
use borrow.Author.Tests.{ltb-false}
use Rattle.terms.specs.declared.Component.{Component}
use Rattle.terms.specs.declared.Kind.{Kind}
use Rattle.terms.specs.declared.Piece.{Piece}
use Rattle.terms.specs.Answer.{Answer, refusal, result}
use Rattle.terms.specs.Pieces.{stack_in}
use Rattle.terms.proofs.Answers.{passed}
use Rattle.stack.proofs.Reading.{Held, components_held, count_held}
use Rattle.folding.specs.declared.Outline.{Outline}
use Rattle.folding.specs.declared.Winner.{Winner}
use Rattle.folding.specs.declared.Winner.TheVariants.{First, Second}
use Rattle.folding.specs.Calls.{measure_in, winner_is, winners_part, choose_of}
use Rattle.measure.specs.Inner.{better_in}

-- A folding that wins was measured.
first_measured : (a b : Answer Outline) → winner_is a b ≡ Some First → (o : Outline) × (a ≡ result o)
first_measured (refusal j) b e = cc
first_measured (result o) b e = (o, refl)

second_measured : (a b : Answer Outline) → winner_is a b ≡ Some Second → (o : Outline) × (b ≡ result o)
second_measured (refusal j) b e = cc
second_measured (result o) (refusal k) e = cc
second_measured (result o) (result p) e = (p, refl)

-- A measured folding has its placements.
long : (kind : Kind) (cs : List Component) (flat : List ℕ) (o : Outline) → measure_in kind cs flat ≡ result o → 3 * length cs ≤ length flat
unfolding measure_in
long kind cs flat o e = let p = passed (ltb (length flat / 3) (length cs)) 8 _ o e in omega (arith, ltb-false (length flat / 3) (length cs) p.0)

-- What was chosen by the pieces that were read.
module _ {kind : Kind} {file : List ℕ} {s : List Piece} (h : Held kind file s) (first second : List ℕ) {r w : Option Winner}
    (e : r ≡ better_in kind (stack_in s) first second) (i : r ≡ w) where
  outcome : winner_is (measure_in kind h.components first) (measure_in kind h.components second) ≡ w
  outcome = sym (rw (components_held h) at e) ∙ i

  pub chose : winners_part (length s) w first second ≡ choose_of kind file first second
  chose = rw (h.checked, outcome, count_held h)

  pub first_long : w ≡ Some First → 3 * length s ≤ length first
  first_long f =
      let v = first_measured (measure_in kind h.components first) (measure_in kind h.components second) (outcome ∙ f) in
      omega (arith, long kind h.components first v.0 v.1, count_held h)

  pub second_long : w ≡ Some Second → 3 * length s ≤ length second
  second_long f =
      let v = second_measured (measure_in kind h.components first) (measure_in kind h.components second) (outcome ∙ f) in
      omega (arith, long kind h.components second v.0 v.1, count_held h)
