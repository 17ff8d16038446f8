-- Placements (document 01, "Foldings").
use Rattle.std.specs.Prelude.{ℕ, ◌+◌, ◌*◌, List, [], ◌∷◌, Bool, get_or, eqb, map}
use Rattle.terms.specs.declared.Component.{Component}
use Rattle.terms.specs.Component.{tabulate}
use Rattle.folding.specs.declared.Placed.{Placed}
use Rattle.folding.specs.declared.Placement.{Placement}

-- "A folding gives each component a placement": `Placed` is a component with its placement.
abbrev pub height_of : Placed → ℕ
height_of x = x.component.height.0

abbrev pub width_of : Placed → ℕ
width_of x = x.component.width.0

abbrev pub gap_of : Placed → ℕ
gap_of x = x.component.gap.0

-- "group (from 0), side (0 left, 1 right), start row"
abbrev pub group_of : Placed → ℕ
group_of x = x.placement.group

abbrev pub start_of : Placed → ℕ
start_of x = x.placement.start

abbrev pub left : Placed → Bool
left x = eqb x.placement.side 0

-- "The end of a component is s+h."
abbrev pub end_of : Placed → ℕ
end_of x = start_of x + height_of x

-- The components of a stack with their placements, one for each.
unfoldable pub placed_of : List Component → List Placement → List Placed
placed_of [] ps = []
placed_of (c ∷ cs) [] = []
placed_of (c ∷ cs) (p ∷ ps) = record { component = c; placement = p } ∷ placed_of cs ps

-- "Each is 32 bits", three numbers a placement: the placement that has i others before it in a run of flat numbers.
abbrev pub placement_at : List ℕ → ℕ → Placement
placement_at flat i = record { group = get_or flat (3 * i) 0; side = get_or flat (3 * i + 1) 0; start = get_or flat (3 * i + 2) 0 }

abbrev pub placements_of : List ℕ → ℕ → List Placement
placements_of flat n = tabulate (placement_at flat) n

-- The flat numbers of a run of placements.
abbrev pub flat_of : List Placement → List ℕ
flat_of [] = []
flat_of (p ∷ ps) = p.group ∷ p.side ∷ p.start ∷ flat_of ps

-- The three numbers of a placement, and the placement that they stand for.
abbrev pub numbers_of : Placement → List ℕ
numbers_of p = p.group ∷ p.side ∷ p.start ∷ []

abbrev pub placement_of : List ℕ → Placement
placement_of numbers = record { group = get_or numbers 0 0; side = get_or numbers 1 0; start = get_or numbers 2 0 }

abbrev pub placements_in : List (List ℕ) → List Placement
placements_in = map placement_of

-- Where a placement is asked for past the end of a list.
abbrev pub none : Placement
none = record { group = 0; side = 0; start = 0 }
