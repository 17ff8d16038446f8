-- Worked examples of the table's buffer, by computation.
use Rattle.std.specs.Prelude.{ℕ, ◌≡◌, refl, List, [], ◌∷◌}
use Rattle.folding.specs.declared.Outline.{Outline}
use Rattle.fold_table.specs.Calls.{pairs_of, table_into}

o : ℕ → ℕ → Outline
o w h = record { width = record { 0 = w }; height = record { 0 = h } }

two : List Outline
two = o 3 4 ∷ o 6 2 ∷ []

-- Widths before heights, and all beyond as it was.
written : table_into two (9 ∷ 9 ∷ 9 ∷ 9 ∷ 9 ∷ []) ≡ 3 ∷ 4 ∷ 6 ∷ 2 ∷ 9 ∷ []
unfolding two o pairs_of
written = refl

-- A buffer that is too short is left as it was.
too_short : table_into two (9 ∷ 9 ∷ 9 ∷ []) ≡ 9 ∷ 9 ∷ 9 ∷ []
unfolding two o pairs_of
too_short = refl
