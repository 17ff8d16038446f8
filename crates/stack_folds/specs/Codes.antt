-- Answers in numbers, as C and Rust receive them. A refusal is its number, 1 to 12; a result has the refusal 0. So the two
-- cannot be confused.
use Rattle.std.specs.Prelude.{ℕ, ◌+◌, ◌-◌, ◌*◌, ◌≡◌, List, [], Bool, true, false, Option, Some, None, cond, ◌&&◌, length, take, leb, eqb}
use Rattle.std.specs.declared.ops.Range.{Range}
use Rattle.terms.specs.declared.Component.{Component}
use Rattle.terms.specs.declared.Kind.{Kind}
use Rattle.terms.specs.declared.Kind.TheVariants.{Apart, Nested}
use Rattle.terms.specs.Answer.{Answer, refusal, result}
use Rattle.stack.specs.File.{version_of, bytes_each}
use Rattle.folding.specs.declared.Outline.{Outline}
use Rattle.folding.specs.declared.Winner.{Winner}
use Rattle.folding.specs.declared.Winner.TheVariants.{First, Second}
use Rattle.cells.specs.declared.Stacks.{Stacks}
use Rattle.stack_folds.specs.declared.Count.{Count}
use Rattle.stack_folds.specs.declared.Extent.{Extent}
use Rattle.stack_folds.specs.declared.Part.{Part}
use Rattle.stack_folds.specs.declared.Stacking.{Stacking}

abbrev pub kind_of : Bool → Kind
kind_of true = Nested
kind_of false = Apart

abbrev pub count_code : Answer ℕ → Count
count_code (refusal k) = record { refusal = k; count = 0 }
count_code (result n) = record { refusal = 0; count = n }

abbrev pub outline_code : Answer Outline → Extent
outline_code (refusal k) = record { refusal = k; width = 0; height = 0 }
outline_code (result o) = record { refusal = 0; width = o.width.0; height = o.height.0 }

abbrev pub stacks_code : Answer Stacks → Stacking
stacks_code (refusal k) = record { refusal = k; count = 0; height = 0 }
stacks_code (result s) = record { refusal = 0; count = s.count; height = s.height.0 }

-- What the numbers say.
abbrev pub count_of_code : Count → Answer ℕ
count_of_code c = cond (eqb c.refusal 0) (result c.count) (refusal c.refusal)

abbrev pub outline_of_code : Extent → Answer Outline
outline_of_code e =
    cond (eqb e.refusal 0)
    (result (record { width = record { 0 = e.width }; height = record { 0 = e.height } }))
    (refusal e.refusal)

abbrev pub stacks_of_code : Stacking → Answer Stacks
stacks_of_code s = cond (eqb s.refusal 0) (result (record { count = s.count; height = record { 0 = s.height } })) (refusal s.refusal)

-- The numbers beside a refusal are 0.
abbrev pub PlainCount : Count → Type 0
PlainCount c = c ≡ count_code (count_of_code c)

abbrev pub PlainOutline : Extent → Type 0
PlainOutline e = e ≡ outline_code (outline_of_code e)

abbrev pub PlainStacks : Stacking → Type 0
PlainStacks s = s ≡ stacks_code (stacks_of_code s)

-- A part of a buffer, as a start and a length.
abbrev pub range_code : Range ℕ → Part
range_code at = record { start = at.start; length = at.end - at.start }

-- The bytes of one component of a stack file, as a start and a length; the empty part starts at 0.
abbrev pub part_code : Answer (List Component) → List ℕ → ℕ → Part
part_code (refusal k) file number = record { start = 0; length = 0 }
part_code (result cs) file number =
    cond (leb 1 number && leb number (length cs))
    (record { start = 7 + bytes_each (version_of file) * (number - 1); length = bytes_each (version_of file) })
    (record { start = 0; length = 0 })

-- Choose: 1 for the first, 2 for the second, 0 where measuring would refuse either.
abbrev pub choice_code : Option Winner → ℕ
choice_code (Some First) = 1
choice_code (Some Second) = 2
choice_code None = 0

-- The placements that the number stands for: "The winner's placements are the first 3n numbers of its buffer."
abbrev pub chosen_part : Answer (List Component) → ℕ → List ℕ → List ℕ → List ℕ
chosen_part (refusal k) choice first second = []
chosen_part (result cs) choice first second =
    cond (eqb choice 1) (take (3 * length cs) first)
    (cond (eqb choice 2) (take (3 * length cs) second)
    [])
