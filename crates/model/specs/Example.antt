-- A small model in which it matters whether a group stands last. Each group is one slice wide and as high as it has
-- components, and only the last may have a single one.
use Rattle.std.specs.Prelude.{ℕ, ◌≤◌, ◌<◌, ◌≡◌, List, Bool, true, cond, ◌&&◌, ◌||◌, length, leb}
use Rattle.terms.specs.Numbers.{most_apart}
use Rattle.model.specs.Groups.{none, Model, Rule}

abbrev pub may_stand : Bool → List ℕ → Bool
may_stand last cs = last || leb 2 (length cs)

abbrev pub pairs : Model ℕ
pairs = record {
  gap = λ x. 0;
  width = λ limit g0 last cs. cond (may_stand last cs && leb (length cs) limit) 1 none;
  height = λ limit g0 last cs. length cs;
}

abbrev pub Few : List ℕ → Type 0
Few cs = length cs ≤ most_apart

abbrev pub PairRule : Rule ℕ
PairRule m g0 last cs w h = (0 < length cs) × (may_stand last cs ≡ true) × (w ≡ 1) × (h ≡ length cs)
