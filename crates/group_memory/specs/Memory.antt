-- What is known of one group from earlier searches, in one number of 32 bits: a word.
use Rattle.std.specs.Prelude.{ℕ, ◌/◌, ◌%◌, ◌≤◌, ◌<◌, ◌≡◌, List, Bool}
use Rattle.terms.specs.declared.Kind.TheVariants.{Nested}
use Rattle.terms.specs.Seams.{components_in}
use Rattle.group.specs.Group.{flat_height, least_height}
use Rattle.group_search.specs.Widths.{WidthAsks, Over}

-- A word has a width in its high 13 bits and a height in its low 19.
abbrev pub widths : ℕ
widths = 8192

abbrev pub heights : ℕ
heights = 524288

abbrev pub word_width : ℕ → ℕ
word_width word = word / heights

abbrev pub word_height : ℕ → ℕ
word_height word = word % heights

-- The height that says that none is known, and a width that is over every cap.
abbrev pub unknown : ℕ
unknown = 524287

abbrev pub never : ℕ
never = 8191

-- No cap below the width keeps the limit; and the height, if it is known, is the least one at that width.
pub record Holds (last : Bool) (g0 : ℕ) (hs ws gs : List ℕ) (limit wide word : ℕ) : Type 0 where
  pub over : Over last g0 hs ws gs limit wide (word_width word)
  pub least : word_height word < unknown
      → (wide ≤ word_width word) × (word_height word ≡ least_height Nested last g0 (components_in hs ws gs) (word_width word))

-- The table of the search, and the word of the group.
pub record MemoryAsks (last : Bool) (g0 flat : ℕ) (hs ws gs es : List ℕ) (word limit wide cap : ℕ) : Type 0 where
  pub asks : WidthAsks g0 hs ws gs es limit wide cap
  pub is_flat : flat ≡ flat_height g0 (components_in hs ws gs)
  pub holds : Holds last g0 hs ws gs limit wide word
