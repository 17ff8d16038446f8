-- The best layout of a stack: its first group followed by the best layout of the rest, over all ends of the first group; first
-- whatever is made of the two, then for a height.
-- Nothing here is part of a public promise: `proofs/` shows what it comes to against every layout.
use Rattle.std.specs.Prelude.{ℕ, zero, suc, ◌+◌, ◌≤◌, ◌<◌, max, ◌≡◌, ◌⊎◌, List, [], ◌∷◌, Bool, cond, ◌&&◌, ◌||◌, length, get_or, take, drop, ltb, eqb}
use Rattle.model.specs.Groups.{none, is_end, Model}

-- A layout by its width, its height, and the number of components in its first group. The recurrence uses of the first two
-- only that less is better, in the width before the height; a `Step` may count something else in them.
pub record Layout : Type 0 where
  pub width : ℕ
  pub height : ℕ
  pub end : ℕ

-- There is none.
abbrev pub unmet : Layout
unmet = record { width = none; height = none; end = 0 }

abbrev pub empty : Layout
empty = record { width = 0; height = 0; end = 0 }

-- Narrower, or as wide and lower.
abbrev pub better : Layout → Layout → Bool
better a b = ltb a.width b.width || (eqb a.width b.width && ltb a.height b.height)

abbrev pub choice : Layout → Layout → Layout
choice a b = cond (better a b) a b

-- Narrower than w, or as wide and at most h high.
abbrev pub NoWorse : Layout → ℕ → ℕ → Type 0
NoWorse b w h = (b.width < w) ⊎ ((b.width ≡ w) × (b.height ≤ h))

-- What a first group makes of the best layout of the rest: from the gap before it, whether it stands last, its components, that
-- layout, and the number of its components.
abbrev pub Step : Type 0 → Type 0
Step C = ℕ → Bool → List C → Layout → ℕ → Layout

-- The best of those with at most k components in the first group; `later` has the best layouts behind 1, 2, 3 and so on
-- components.
unfoldable pub scan_by : {C : Type 0} → Step C → ℕ → List C → List Layout → ℕ → Layout
scan_by step g0 cs later zero = unmet
scan_by step g0 cs later (suc k) =
    choice (step g0 (is_end (drop (suc k) cs)) (take (suc k) cs) (get_or later k unmet) (suc k)) (scan_by step g0 cs later k)

-- The best layouts of a stack and of what is left of it behind 1, 2, 3 and so on components; g0 is the gap before it.
unfoldable pub layouts_by : {C : Type 0} → (C → ℕ) → Step C → ℕ → List C → List Layout
layouts_by gap step g0 [] = empty ∷ []
layouts_by gap step g0 (x ∷ cs) = scan_by step g0 (x ∷ cs) (layouts_by gap step (gap x) cs) (suc (length cs)) ∷ layouts_by gap step (gap x) cs

abbrev pub layout_by : {C : Type 0} → (C → ℕ) → Step C → ℕ → List C → Layout
layout_by gap step g0 cs = get_or (layouts_by gap step g0 cs) 0 unmet

-- A first group of k components, as narrow as the limit lets it be and then as low, in front of the rest.
abbrev pub joined_for : {C : Type 0} → Model C → ℕ → Step C
joined_for model limit g0 last group rest k = record {
  width = model.width limit g0 last group + rest.width;
  height = max (model.height limit g0 last group) rest.height;
  end = k;
}

-- The step for a height limit: that, where group and rest can keep the limit.
abbrev pub candidate_for : {C : Type 0} → Model C → ℕ → Step C
candidate_for model limit g0 last group rest k =
    cond (ltb (model.width limit g0 last group) none && ltb rest.width none) (joined_for model limit g0 last group rest k) unmet

abbrev pub layout_for : {C : Type 0} → Model C → ℕ → ℕ → List C → Layout
layout_for model limit g0 cs = layout_by model.gap (candidate_for model limit) g0 cs
