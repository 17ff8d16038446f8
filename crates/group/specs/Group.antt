-- The least height of one group whose width may be at most a cap, over all its ways of standing, and the least width for a
-- height.
-- Nothing here is part of a public promise: `proofs/Lower.antt` and `proofs/Exact.antt` show what it comes to.
use Rattle.std.specs.Prelude.{ℕ, zero, suc, ◌+◌, ◌≤◌, ◌<◌, min, max, ◌≡◌, Bool, true, false, not, cond, ◌&&◌, ◌||◌, length, take, drop, leb, eqb}
use mathlib.Core.List.{List, [], ◌∷◌, reverse_aux, map}
use Rattle.terms.specs.declared.Component.{Component}
use Rattle.terms.specs.declared.Kind.{Kind}
use Rattle.terms.specs.declared.Kind.TheVariants.{Apart, Nested}
use Rattle.folding.specs.declared.Placement.{Placement}
use Rattle.model.specs.Groups.{is_end, gap_behind}
use Rattle.group.specs.Rows.{wd, gap, tall, rows, place}
pub use Rattle.model.specs.Groups.{none}

-- The two sides of a group with a fold behind its first p components, each lowest first.
abbrev pub left_side : ℕ → List Component → List Component
left_side p cs = reverse_aux (take p cs) []

abbrev pub right_side : ℕ → List Component → List Component
right_side p cs = drop p cs

-- The gap of the last one, and the greatest width.
abbrev pub gap_after : List Component → ℕ
gap_after cs = gap_behind (λ x. gap x) cs

unfoldable pub widest : List Component → ℕ
widest [] = 0
widest (x ∷ l) = max (wd x) (widest l)

-- The height without a fold, and the least one with a fold behind the first p components. g0 is the gap before the group.
abbrev pub flat_height : ℕ → List Component → ℕ
flat_height g0 cs = tall cs + g0 + gap_after cs

abbrev pub fold_height : ℕ → List Component → ℕ → ℕ → ℕ
fold_height g0 cs cap p = rows cap 0 0 (left_side p cs) (right_side p cs) + max g0 (gap_after cs) + gap_after (take p cs)

-- A group's way of standing is the number p of components on its left: its fold is behind them, and it has none where they
-- are all of them. A rule says which ways are allowed to a group of these components.
abbrev pub May : Type 0
May = List Component → ℕ → Bool

-- The rule of document 01: apart all of them, nested any; and with ticket 5, nested, all of them only where the group stands
-- last.
abbrev pub on_sides : Kind → Bool → May
on_sides Apart last cs p = eqb p (length cs)
on_sides Nested last cs p = last || not (eqb p (length cs))

-- The last of them is not barred.
abbrev pub unbarred : List Component → Bool
unbarred cs = not (eqb (gap_behind (λ x. x.mark) cs) 1)

-- With the rule of ticket 3: a group has neither its fold nor its end behind a barred component.
unfoldable pub may_stand : Kind → Bool → May
may_stand kind last cs p = on_sides kind last cs p && unbarred (take p cs) && unbarred cs

-- The height of the group that stands so.
abbrev pub way_height : ℕ → List Component → ℕ → ℕ → ℕ
way_height g0 cs cap p = cond (eqb p (length cs)) (flat_height g0 cs) (fold_height g0 cs cap p)

-- The ways that are allowed, out of 1 to n.
unfoldable pub ways : (ℕ → Bool) → ℕ → List ℕ
ways may zero = []
ways may (suc n) = cond (may (suc n)) (suc n ∷ ways may n) (ways may n)

-- The least of f over a list of ways; over an empty one there is none.
unfoldable pub lowest : (ℕ → ℕ) → List ℕ → ℕ
lowest f [] = none
lowest f (p ∷ []) = f p
lowest f (p ∷ q ∷ l) = min (f p) (lowest f (q ∷ l))

abbrev pub ways_of : May → List Component → List ℕ
ways_of may cs = ways (may cs) (length cs)

-- Some way is allowed to the group.
abbrev pub SomeWay : May → List Component → Type 0
SomeWay may cs = is_end (ways_of may cs) ≡ false

unfoldable pub least_height_by : May → ℕ → List Component → ℕ → ℕ
least_height_by may g0 cs cap = lowest (way_height g0 cs cap) (ways_of may cs)

-- The first of n numbers from c on at which f is at most the limit.
unfoldable pub first_from : (ℕ → ℕ) → ℕ → ℕ → ℕ → ℕ
first_from f limit c zero = none
first_from f limit c (suc n) = cond (leb (f c) limit) c (first_from f limit (suc c) n)

-- The first cap at which the group is within the limit. No row of a group holds more than two components, so no group is wider
-- than twice its widest.
abbrev pub least_cap : May → ℕ → List Component → ℕ → ℕ
least_cap may g0 cs limit = first_from (least_height_by may g0 cs) limit (widest cs) (suc (widest cs))

-- Where no way is allowed there is no width, at limits of `none` and over too.
unfoldable pub least_width_by : May → ℕ → List Component → ℕ → ℕ
least_width_by may g0 cs limit = cond (is_end (ways_of may cs)) none (least_cap may g0 cs limit)

-- A way that is allowed and in which the group is as low as it can be.
pub record FoldPointBy (may : May) (g0 : ℕ) (cs : List Component) (cap p : ℕ) : Type 0 where
  pub some : 0 < p
  pub within : p ≤ length cs
  pub allowed : may cs p ≡ true
  pub least : least_height_by may g0 cs cap ≡ way_height g0 cs cap p

-- The same for a kind, and for a group that stands last or not.
abbrev pub least_height : Kind → Bool → ℕ → List Component → ℕ → ℕ
least_height kind last g0 cs cap = least_height_by (may_stand kind last) g0 cs cap

abbrev pub least_width : Kind → Bool → ℕ → List Component → ℕ → ℕ
least_width kind last g0 cs limit = least_width_by (may_stand kind last) g0 cs limit

abbrev pub FoldPoint : Kind → Bool → ℕ → List Component → ℕ → ℕ → Type 0
FoldPoint kind last g0 cs cap p = FoldPointBy (may_stand kind last) g0 cs cap p

-- The placements of the group numbered m that stands so.
abbrev pub on_left : ℕ → List ℕ → List Placement
on_left m ss = map (λ s. record { group = m; side = 0; start = s }) ss

abbrev pub on_right : ℕ → List ℕ → List Placement
on_right m ss = map (λ s. record { group = m; side = 1; start = s }) ss

unfoldable pub group_places : ℕ → List Component → ℕ → ℕ → List Placement
group_places cap cs m p =
    let s = place cap 0 0 (left_side p cs) (right_side p cs) in
    reverse_aux (on_left m s.on_the_left) (on_right m s.on_the_right)
