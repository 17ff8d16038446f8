-- What the functions inside this crate promise each other. Nothing here is part of a public promise.
use Rattle.std.specs.Prelude.{ℕ, ◌≤◌, ◌<◌, ◌≡◌, Some, Result, Ok, Err}
use Rattle.std.specs.Result.{result_ok}
use Rattle.terms.specs.declared.Slices.{Slices}
use Rattle.folding.specs.declared.Outline.{Outline}
use Rattle.model.specs.Outlines.{outline}
use Rattle.group_search.specs.Widths.{bound_in}
use Rattle.group_memory.specs.Memory.{widths, word_width, word_height, unknown}

-- What a search found fits into a word.
abbrev pub Small : Result Outline Slices → Type 0
Small (Ok o) = (o.width.0 < widths) × (o.height.0 < unknown)
Small (Err least) = Unit {0}

-- A bound has no height.
abbrev pub height_in : Result Outline Slices → ℕ
height_in (Ok o) = o.height.0
height_in (Err least) = unknown

-- What a word says for a limit: its width, and its height if that is known and keeps the limit.
pub record Recalled (word limit : ℕ) (r : Result Outline Slices) : Type 0 where
  pub width_is : bound_in r ≡ word_width word
  pub height_is : (o : Outline) → r ≡ Ok o → (o.height.0 ≡ word_height word) × (o.height.0 < unknown) × (o.height.0 ≤ limit)
  pub found_is : word_height word < unknown → word_height word ≤ limit → result_ok r ≡ Some (outline (word_width word) (word_height word))
