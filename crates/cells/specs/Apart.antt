-- What ties rows of cells to apart foldings (ticket 4): "Up to 256 cells its count for a height, or height for a count, must
-- equal the apart answer for widths 1, gaps and marks 0, at limits that both take."
use Rattle.std.specs.Prelude.{ℕ, ◌≤◌, ◌≡◌, List, length, map}
use Rattle.terms.specs.Numbers.{most_apart}
use Rattle.terms.specs.Answer.{Answer, refusal, result}
use Rattle.terms.specs.declared.Component.{Component}
use Rattle.terms.specs.declared.Kind.TheVariants.{Apart}
use Rattle.folding.specs.declared.Outline.{Outline}
use Rattle.fold.specs.Calls.{valid_of, ToHeight, ToWidth}
use Rattle.cells.specs.declared.Stacks.{Stacks}

-- "widths 1, gaps and marks 0"
abbrev pub cell : ℕ → Component
cell h = record { height = record { 0 = h }; width = record { 0 = 1 }; gap = record { 0 = 0 }; mark = 0 }

abbrev pub cell_stack : List ℕ → List Component
cell_stack hs = map cell hs

-- The count is the width, and 9 is refused by both or by neither. Where the list of ends is too short, 8, the apart call has a
-- result too, and of its width nothing is said.
abbrev pub SameWidth : Answer Stacks → Answer Outline → Type 0
SameWidth (result s) (result o) = s.count ≡ o.width.0
SameWidth (result s) (refusal k) = ⊥
SameWidth (refusal j) (result o) = j ≡ 8
SameWidth (refusal j) (refusal k) = j ≡ k

-- The height is the height, and neither refuses with 9.
abbrev pub SameHeight : Answer Stacks → Answer Outline → Type 0
SameHeight (result s) (result o) = s.height.0 ≡ o.height.0
SameHeight (result s) (refusal k) = ⊥
SameHeight (refusal j) (result o) = j ≡ 8
SameHeight (refusal j) (refusal k) = ⊥

-- The apart fold to the height, on every file that reads to these components, at a limit that it takes and with buffers that
-- are long enough: whatever it may answer. It takes no more than 256 components.
abbrev pub ToHeightAsApart : List ℕ → ℕ → Answer Stacks → Type 0
ToHeightAsApart hs limit answer = length hs ≤ most_apart
    → (file out work out' work' : List ℕ) (apart : Answer Outline)
    → valid_of Apart file limit out work ≡ result (cell_stack hs) → ToHeight Apart file limit out work apart out' work'
    → SameWidth answer apart

-- The apart fold to a width of as many slices as stacks are allowed.
abbrev pub ToCountAsApart : List ℕ → ℕ → Answer Stacks → Type 0
ToCountAsApart hs most answer = length hs ≤ most_apart
    → (file out work out' work' : List ℕ) (apart : Answer Outline)
    → valid_of Apart file most out work ≡ result (cell_stack hs) → ToWidth Apart file most out work apart out' work'
    → SameHeight answer apart
