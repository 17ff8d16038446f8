-- What the two fold calls answer, and what the lent buffers hold afterwards (document 01, "Calls"; demand 3). The smallest
-- area shares `Wanted` to `Answered`.
use Rattle.std.specs.Prelude.{ℕ, ◌*◌, ◌/◌, ◌≡◌, List, Bool, not, ◌&&◌, length, drop, leb, ltb}
use Rattle.terms.specs.Numbers.{most_limit, least_work}
use Rattle.terms.specs.declared.Component.{Component}
use Rattle.terms.specs.declared.Kind.{Kind}
use Rattle.terms.specs.Answer.{Answer, refusal, result, refuse_if, and_then}
use Rattle.stack.specs.File.{check_of}
use Rattle.folding.specs.declared.Outline.{Outline}
use Rattle.folding.specs.declared.Placement.{Placement}
use Rattle.folding.specs.Placement.{placements_of}
use Rattle.folding.specs.Best.{BestForHeight, BestForWidth, UnmeetableHeight, UnmeetableWidth}

-- "H and W are 1 to 2,000,000."
abbrev pub in_limit : ℕ → Bool
in_limit x = leb 1 x && leb x most_limit

-- Refusal 8, "a short work buffer".
abbrev pub work_check : {A : Type 0} → ℕ → A → Answer A
work_check work v = refuse_if (ltb work least_work) 8 (result v)

-- Refusal 8, "fewer than n placements, .. a short work buffer". n is the number of components, `out` and `work` are the
-- lengths of the two lent buffers.
abbrev pub room_checks : {A : Type 0} → ℕ → ℕ → ℕ → A → Answer A
room_checks out work n v = refuse_if (ltb (out / 3) n) 8 (work_check work v)

-- Refusal 7, "H or W outside its range", then 8: what a fold call checks behind the file's own refusals.
abbrev pub fold_checks : {A : Type 0} → ℕ → ℕ → ℕ → ℕ → A → Answer A
fold_checks limit out work n v = refuse_if (not (in_limit limit)) 7 (room_checks out work n v)

-- "Input is valid and buffers are long enough for a call where none of its refusals but 9 applies": the file's own
-- refusals, then 7 and 8, or the stack's components.
abbrev pub valid_of : Kind → List ℕ → ℕ → List ℕ → List ℕ → Answer (List Component)
valid_of kind file limit out work = and_then (check_of kind file) (λ cs. fold_checks limit (length out) (length work) (length cs) cs)

-- What a call looks for: the foldings that it may write for a stack, each with its outline, and when there is none.
pub record Wanted : Type 1 where
  pub Best : List Component → List Placement → Outline → Type 0
  pub Unmeetable : List Component → Type 0

module _ (wanted : Wanted) where
  -- "With valid input and buffers long enough, a limit is refused as unmeetable exactly when no legal folding keeps it, and
  -- a folding is returned exactly when one does." "the folding that a fold call returns is the first n placements of its
  -- buffer"; "Only the first n placements .. are written; all beyond stay unchanged."
  -- Which legal folding with the fixed outline is written is free.
  abbrev pub Searched : List Component → List ℕ → List ℕ → Answer Outline → Type 0
  Searched cs out out' (refusal k) = (k ≡ 9) × wanted.Unmeetable cs × (out' ≡ out)
  Searched cs out out' (result o) =
      wanted.Best cs (placements_of out' (length cs)) o
      × (drop (3 * length cs) out' ≡ drop (3 * length cs) out)
      × (length out' ≡ length out)

  -- "a refusal leaves every buffer lent for results unchanged", "and so is the work buffer where its content is not free":
  -- it is free "after a result or refusal 9".
  abbrev pub Answered : List ℕ → List ℕ → List ℕ → List ℕ → Answer Outline → Answer (List Component) → Type 0
  Answered out work out' work' answer (refusal k) = (answer ≡ refusal k) × (out' ≡ out) × (work' ≡ work)
  Answered out work out' work' answer (result cs) = Searched cs out out' answer

-- By a height and by a width.
abbrev pub by_height : Kind → ℕ → Wanted
by_height kind limit = record { Best = λ cs. BestForHeight kind cs limit; Unmeetable = λ cs. UnmeetableHeight kind cs limit }

abbrev pub by_width : Kind → ℕ → Wanted
by_width kind limit = record { Best = λ cs. BestForWidth kind cs limit; Unmeetable = λ cs. UnmeetableWidth kind cs limit }

-- "Fold to height H: writes a legal folding of height at most H; the outline is the narrowest, and of those the lowest."
abbrev pub ToHeight : Kind → List ℕ → ℕ → List ℕ → List ℕ → Answer Outline → List ℕ → List ℕ → Type 0
ToHeight kind file limit out work answer out' work' =
    Answered (by_height kind limit) out work out' work' answer (valid_of kind file limit out work)

-- "Fold to width W: width at most W; the lowest, and of those the narrowest."
abbrev pub ToWidth : Kind → List ℕ → ℕ → List ℕ → List ℕ → Answer Outline → List ℕ → List ℕ → Type 0
ToWidth kind file limit out work answer out' work' =
    Answered (by_width kind limit) out work out' work' answer (valid_of kind file limit out work)
