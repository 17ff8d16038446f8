-- Numbers say the answer that they were made from: no refusal has the number 0.
use Rattle.std.proofs.Common.{ℕ, Result, Ok, Err}
use mathlib.Core.Path.{◌≡◌, refl, sym, ap, ◌∙◌}
use Rattle.folding.specs.declared.Outline.{Outline}
use Rattle.terms.specs.Answer.{number_of, answer_of}
use lib.Dec.{eqb}
use mathlib.Core.Bool.{false}
use Rattle.terms.specs.declared.Refusal.{Refusal}
use Rattle.stack_folds.specs.declared.Count.{Count}
use Rattle.stack_folds.specs.declared.Extent.{Extent}
use Rattle.stack_folds.specs.declared.Stacking.{Stacking}
use Rattle.cells.specs.declared.Stacks.{Stacks}
use Rattle.stack_folds.specs.Codes.{count_code, count_of_code, outline_code, outline_of_code, stacks_code, stacks_of_code, PlainCount, PlainOutline, PlainStacks}

some_number : (k : Refusal) → eqb (number_of k) 0 ≡ false
some_number Refusal.WrongFile = refl
some_number Refusal.WrongVersion = refl
some_number Refusal.WrongLength = refl
some_number Refusal.StackSize = refl
some_number Refusal.BadComponent = refl
some_number Refusal.BadGap = refl
some_number Refusal.BadLimit = refl
some_number Refusal.ShortBuffer = refl
some_number Refusal.Unmeetable = refl
some_number Refusal.BrokenFolding = refl
some_number Refusal.BadMark = refl
some_number Refusal.RowSize = refl

pub outline_said : (a : Result Outline Refusal) → outline_of_code (outline_code (answer_of a)) ≡ answer_of a
outline_said (Ok o) = refl
outline_said (Err k) = rw (some_number k)

pub count_said : (a : Result ℕ Refusal) → count_of_code (count_code (answer_of a)) ≡ answer_of a
count_said (Ok n) = refl
count_said (Err k) = rw (some_number k)

pub stacks_said : (a : Result Stacks Refusal) → stacks_of_code (stacks_code (answer_of a)) ≡ answer_of a
stacks_said (Ok s) = refl
stacks_said (Err k) = rw (some_number k)

-- Numbers that were made from an answer are 0 beside a refusal.
pub plain_outline : (e : Extent) (a : Result Outline Refusal) → e ≡ outline_code (answer_of a) → PlainOutline e
plain_outline e a h = h ∙ ap outline_code (sym (ap outline_of_code h ∙ outline_said a))

pub plain_count : (n : Count) (a : Result ℕ Refusal) → n ≡ count_code (answer_of a) → PlainCount n
plain_count n a h = h ∙ ap count_code (sym (ap count_of_code h ∙ count_said a))

pub plain_stacks : (s : Stacking) (a : Result Stacks Refusal) → s ≡ stacks_code (answer_of a) → PlainStacks s
plain_stacks s a h = h ∙ ap stacks_code (sym (ap stacks_of_code h ∙ stacks_said a))
