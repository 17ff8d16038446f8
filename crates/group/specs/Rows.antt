-- Two chains of components under a cap, lowest first: the least number of rows that they take side by side, and start rows
-- that need no more.
-- Components of the two chains may share a row where their widths together are at most the cap.
-- Nothing here is part of a public promise: `proofs/Chains.antt` shows what it comes to.
use Rattle.std.specs.Prelude.{ℕ, ◌+◌, min, List, [], ◌∷◌, true, false, leb}
use Rattle.terms.specs.declared.Component.{Component}

abbrev pub ht : Component → ℕ
ht x = x.height.0

abbrev pub wd : Component → ℕ
wd x = x.width.0

abbrev pub gap : Component → ℕ
gap x = x.gap.0

-- The rows of a chain without empty rows.
unfoldable pub tall : List Component → ℕ
tall [] = 0
tall (x ∷ l) = ht x + tall l

-- The least number of rows, where the left chain may start at row a and the right one at row b. Both are packed until two
-- of them clash; then one of the two goes on top of the other.
unfoldable pub rows : ℕ → ℕ → ℕ → List Component → List Component → ℕ
rows cap a b [] r = b + tall r
rows cap a b (x ∷ l) [] = a + tall (x ∷ l)
rows cap a b (x ∷ l) (y ∷ r) =
    elim (leb (wd x + wd y) cap) [
      | true ↦ elim (leb (a + ht x) (b + ht y)) [ true ↦ rows cap (a + ht x) b l (y ∷ r) | false ↦ rows cap a (b + ht y) (x ∷ l) r ]
      | false ↦ min (a + ht x + rows cap 0 0 l (y ∷ r)) (b + ht y + rows cap 0 0 (x ∷ l) r)
    ]

-- Start rows for both chains.
pub record Starts : Type 0 where
  pub on_the_left : List ℕ
  pub on_the_right : List ℕ

unfoldable pub packed : ℕ → List Component → List ℕ
packed a [] = []
packed a (x ∷ l) = a ∷ packed (a + ht x) l

abbrev pub put_left : ℕ → Starts → Starts
put_left a s = record { on_the_left = a ∷ s.on_the_left; on_the_right = s.on_the_right }

abbrev pub put_right : ℕ → Starts → Starts
put_right b s = record { on_the_left = s.on_the_left; on_the_right = b ∷ s.on_the_right }

unfoldable pub place : ℕ → ℕ → ℕ → List Component → List Component → Starts
place cap a b [] r = record { on_the_left = []; on_the_right = packed b r }
place cap a b (x ∷ l) [] = record { on_the_left = packed a (x ∷ l); on_the_right = [] }
place cap a b (x ∷ l) (y ∷ r) =
    elim (leb (wd x + wd y) cap) [
      | true ↦ elim (leb (a + ht x) (b + ht y)) [ true ↦ put_left a (place cap (a + ht x) b l (y ∷ r)) | false ↦ put_right b (place cap a (b + ht y) (x ∷ l) r) ]
      | false ↦ elim (leb (a + ht x + rows cap 0 0 l (y ∷ r)) (b + ht y + rows cap 0 0 (x ∷ l) r)) [
        | true ↦ put_left a (place cap (a + ht x) (a + ht x) l (y ∷ r))
        | false ↦ put_right b (place cap (b + ht y) (b + ht y) (x ∷ l) r)
      ]
    ]
