-- Components, and which lists of them are a stack (document 01, "Components and stack files"; ticket 3).
use Rattle.std.specs.Prelude.{ℕ, zero, suc, ◌+◌, ◌*◌, max, List, [], ◌∷◌, ◌++◌, Bool, true, false, not, ◌&&◌, length, leb, ltb, eqb}
use Rattle.terms.specs.declared.Component.{Component}
use Rattle.terms.specs.declared.Kind.{Kind}
use Rattle.terms.specs.declared.Kind.TheVariants.{Apart, Nested}
use Rattle.terms.specs.Numbers.{most_size, most_apart, most_nested}
use Rattle.terms.specs.Answer.{Answer, result, refuse_if, and_then}

-- "Height and width are 1 to 4,000".
abbrev pub in_size : ℕ → Bool
in_size x = leb 1 x && leb x most_size

-- Refusal 5, "a height or width outside its range", does not apply to the component.
abbrev pub good_size : Component → Bool → Bool
good_size c last = in_size c.height.0 && in_size c.width.0

-- Refusal 6, "a gap over 4,000, or the last gap not 0", does not apply to the component.
abbrev pub good_gap : Component → Bool → Bool
good_gap c true = eqb c.gap.0 0
good_gap c false = leb c.gap.0 most_size

-- Ticket 3: "a 16-bit fold mark, 0 for a fold allowed after it, 1 for barred".
abbrev pub barred : Component → Bool
barred c = eqb c.mark 1

-- Refusal 11, "a mark over 1 or a last mark of 1", does not apply to the component.
abbrev pub good_mark : Component → Bool → Bool
good_mark c true = eqb c.mark 0
good_mark c false = leb c.mark 1

-- Nothing follows: the component before is the last.
abbrev pub ends : List Component → Bool
ends [] = true
ends (c ∷ cs) = false

-- Each component keeps the rule, which is told whether the component is the last.
unfoldable pub every : (Component → Bool → Bool) → List Component → Bool
every rule [] = true
every rule (c ∷ cs) = rule c (ends cs) && every rule cs

-- The most components that a call of the kind takes. A call without a kind takes as many as an apart one.
abbrev pub most_of : Kind → ℕ
most_of Apart = most_apart
most_of Nested = most_nested

-- Refusals 4 to 6 and 11 of a list of components, in order: all heights and widths before any gap, all gaps before any mark.
unfoldable pub stack_of : ℕ → List Component → Answer (List Component)
stack_of most cs =
    refuse_if (eqb (length cs) 0) 4
    (refuse_if (ltb most (length cs)) 4
    (refuse_if (not (every good_size cs)) 5
    (refuse_if (not (every good_gap cs)) 6
    (refuse_if (not (every good_mark cs)) 11
    (result cs)))))

-- g 0, g 1, .., g (n - 1)
unfoldable pub tabulate : {A : Type 0} → (ℕ → A) → ℕ → List A
tabulate g zero = []
tabulate g (suc n) = tabulate g n ++ (g n ∷ [])

-- The check and the reading of a stack give the number of its components.
abbrev pub count_of : Answer (List Component) → Answer ℕ
count_of a = and_then a (λ cs. result (length cs))

-- The widths of all components together.
unfoldable pub width_sum : List Component → ℕ
width_sum [] = 0
width_sum (c ∷ cs) = c.width.0 + width_sum cs

-- The cells of all components together: "the sum of each component's width times its height" (ticket 6).
unfoldable pub cell_sum : List Component → ℕ
cell_sum [] = 0
cell_sum (c ∷ cs) = c.width.0 * c.height.0 + cell_sum cs

-- The tallest component's height.
unfoldable pub tallest : List Component → ℕ
tallest [] = 0
tallest (c ∷ cs) = max c.height.0 (tallest cs)
