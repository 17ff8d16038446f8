-- The known rows of cells, proved: each line by filling its row from the front.
use Prim.Native.Nat.{ℕ, ◌-◌, ◌≤◌, ◌<◌, min}
use mathlib.Core.Path.{◌≡◌, refl, ap, subst}
use mathlib.Core.Logic.{◌⊎◌, inl, inr}
use mathlib.Core.List.{List, [], ◌∷◌}
use mathlib.Core.Bool.{Bool, true, ◌||◌}
use native.Mathlib.Omega.{arith}
use lib.ListN.{length}
use lib.Dec.{leb, ltb, eqb}
use Rattle.std.proofs.lemmas.Bool.{cases_lt, leb-true, ltb-true, eqb-true, le-leb, le-ltb, lt-ltb, eq-eqb}
use Rattle.std.proofs.lemmas.List.{length-replicate}
use Rattle.terms.specs.Answer.{refusal, result}
use Rattle.terms.proofs.Bools.{one_of, or_left, or_right}
use Rattle.cells.specs.Numbers.{most_row_limit}
use Rattle.cells.specs.Endings.{total, greatest_behind, greatest_height, Ending}
use Rattle.cells.specs.Calls.{all_in_size, tallest_cell, row_of, row_within}
use Rattle.cells.specs.Filling.{filled_behind, filled, Between}
use Rattle.cells.proofs.Fewest.{no_more, ends_no_earlier, filled_fewest}
use Rattle.cells.proofs.Least.{tallest_held, tallest_total, lowest_for}
use Rattle.cells.proofs.Agreeing.{none_for}
use Rattle.known.specs.Rows.{RowLine, fewest, none, lowest, refused, Holds, Answers, AllKnown, stacks, largest, rows}
use Rattle.known.proofs.EqualRows.{equal_total, equal_row, too_many, one_stack, one_height, more_stacks}
use Rattle.known.proofs.RowAnswers.{fewest_answers, none_answers, lowest_answers, refused_answers}

-- One lower, the cells fill more stacks, or a cell is too tall.
abbrev no_lower : List ℕ → ℕ → ℕ → Bool
no_lower hs most height = eqb height (tallest_cell hs) || ltb most (length (filled (height - 1) hs))

-- No more stacks are of use than there are cells.
abbrev useful : List ℕ → ℕ → ℕ
useful hs most = min most (length hs)

-- A line by computation.
abbrev Computed : RowLine → Type 0
Computed (fewest hs limit n) = (row_within hs limit ≡ result hs) × (ltb 0 (length hs) ≡ true) × (leb (tallest_cell hs) limit ≡ true) × (length (filled limit hs) ≡ n)
Computed (none hs limit) = (row_within hs limit ≡ refusal 9) × (ltb limit (tallest_cell hs) ≡ true)
Computed (lowest hs most s) =
    (row_of hs most ≡ result hs)
    × (ltb 0 (length hs) ≡ true)
    × (leb (tallest_cell hs) s.height.0 ≡ true)
    × (leb s.height.0 most_row_limit ≡ true)
    × (no_lower hs (useful hs most) s.height.0 ≡ true)
    × (leb (length (filled s.height.0 hs)) (useful hs most) ≡ true)
    × (length (filled s.height.0 hs) ≡ s.count)
    × (greatest_height hs (filled s.height.0 hs) ≡ s.height.0)
Computed (refused hs limit k) = row_of hs limit ≡ refusal k

abbrev AllComputed : List RowLine → Type 0
AllComputed [] = Unit {0}
AllComputed (l ∷ ls) = Computed l × AllComputed ls

-- One stack of all cells: the fewest where it keeps the limit, and for a count of 1 the lowest.
module _ (hs : List ℕ) (some : 0 < length hs) where
  whole_fewest : (limit : ℕ) → row_of hs limit ≡ result hs → total hs ≤ limit → Computed (fewest hs limit 1)
  whole_fewest limit e l =
      let tall : tallest_cell hs ≤ limit = omega (arith, l, tallest_total hs) in
      (rw (e, le-ltb limit (tallest_cell hs) tall), lt-ltb _ _ some, le-leb _ _ tall, ap length (one_stack hs limit l))

  whole_no_lower : no_lower hs (useful hs 1) (total hs) ≡ true
  whole_no_lower = elim (cases_lt (tallest_cell hs) (total hs)) [
    | inl l ↦ let m : useful hs 1 < length (filled (total hs - 1) hs) = omega (arith, more_stacks hs some l) in or_right (eqb (total hs) (tallest_cell hs)) (lt-ltb _ _ m)
    | inr l ↦ let e : total hs ≡ tallest_cell hs = omega (arith, l, tallest_total hs) in or_left _ (eq-eqb _ _ e)
  ]

  whole_lowest : (height : ℕ) → row_of hs 1 ≡ result hs → total hs ≡ height → height ≤ most_row_limit → Computed (lowest hs 1 (stacks 1 height))
  whole_lowest height e t l =
      let one : length (filled (total hs) hs) ≡ 1 = ap length (one_stack hs (total hs) (omega arith)) in
      let own : Computed (lowest hs 1 (stacks 1 (total hs))) =
      (e, lt-ltb _ _ some, le-leb _ _ (tallest_total hs), le-leb _ _ (omega (arith, t, l)), whole_no_lower, le-leb _ _ (omega (arith, one, some)), one, one_height hs) in
      subst (λ (h : ℕ). Computed (lowest hs 1 (stacks 1 h))) t own

some_largest : 0 < length largest
some_largest = omega (arith, length-replicate {A = ℕ} 60000 4000)

largest_fewest : Computed (fewest largest 240000000 1)
largest_fewest = whole_fewest largest some_largest 240000000 (equal_row 60000 4000 240000000 refl refl refl) (omega (arith, equal_total 60000 4000))

largest_lowest : Computed (lowest largest 1 (stacks 1 240000000))
largest_lowest = whole_lowest largest some_largest 240000000 (equal_row 60000 4000 1 refl refl refl) (equal_total 60000 4000) (omega arith)

computed : AllComputed rows
unfolding rows all_in_size tallest_cell filled_behind total greatest_behind
computed =
    ((refl, refl, refl, refl), ((refl, refl, refl, refl), ((refl, refl, refl, refl), ((refl, refl, refl, refl), ((refl, refl, refl, refl), ((refl, refl, refl, refl), ((refl, refl), ((refl, refl), ((refl, refl, refl, refl, refl, refl, refl, refl), ((refl, refl, refl, refl, refl, refl, refl, refl), ((refl, refl, refl, refl, refl, refl, refl, refl), ((refl, refl, refl, refl, refl, refl, refl, refl), ((refl, refl, refl, refl, refl, refl, refl, refl), ((refl, refl, refl, refl, refl, refl, refl, refl), ((refl, refl, refl, refl, refl, refl, refl, refl), ((refl, refl, refl, refl, refl, refl, refl, refl), ((refl, refl, refl, refl, refl, refl, refl, refl), ((refl, refl, refl, refl, refl, refl, refl, refl), ((refl, refl, refl, refl), ((refl, refl), ((refl, refl, refl, refl, refl, refl, refl, refl), (largest_fewest, (largest_lowest, (refl, (refl, (too_many 60001 0 0 refl, (refl, (refl, (refl, (refl, (refl, tt)))))))))))))))))))))))))))))))

module _ (hs : List ℕ) (most height : ℕ) (some : 0 < length hs) (tall : tallest_cell hs ≤ height) where
  floor : (height ≡ tallest_cell hs) ⊎ (most < length (filled (height - 1) hs)) → (other : List ℕ) → Ending hs other → length other ≤ most → height ≤ greatest_height hs other
  floor c other e l = elim (cases_lt (greatest_height hs other) height) [
    | inl m ↦ elim c [
      | inl t ↦ omega (arith, t, tallest_held hs other e)
      | inr f ↦
          let k : greatest_height hs other ≤ height - 1 = omega (arith, m) in
          let t : tallest_cell hs ≤ height - 1 = omega (arith, k, tallest_held hs other e) in
          absurd (omega (arith, l, f, no_more _ _ (ends_no_earlier hs (height - 1) some t other e k)))
    ]
    | inr m ↦ m
  ]

  between_at : no_lower hs most height ≡ true → length (filled height hs) ≤ most → height ≤ most_row_limit → Between hs most height height
  between_at n f m =
      let c : (height ≡ tallest_cell hs) ⊎ (most < length (filled (height - 1) hs)) = elim (one_of _ _ n) [
        | inl e ↦ inl (eqb-true _ _ e)
        | inr e ↦ inr (ltb-true _ _ e)
      ] in
      record { tall = tall; floor = floor c; enough = f; hi_tall = tall; hi_most = omega (arith, m) }

sound : (l : RowLine) → Computed l → Holds l × Answers l
sound (fewest hs limit n) c =
    let h : Holds (fewest hs limit n) = (filled limit hs, filled_fewest hs limit (ltb-true _ _ c.1) (leb-true _ _ c.2), c.3) in
    (h, fewest_answers hs limit n c.0 h)
sound (none hs limit) c = (none_for hs limit (ltb-true _ _ c.1), none_answers hs limit c.0)
sound (lowest hs most s) c =
    let some = ltb-true _ _ c.1 in
    let b = between_at hs (useful hs most) s.height.0 some (leb-true _ _ c.2) c.4 (leb-true _ _ c.5) (leb-true _ _ c.3) in
    let h : Holds (lowest hs most s) = (filled s.height.0 hs, lowest_for hs some most s.height.0 b, c.6, c.7) in
    (h, lowest_answers hs most s c.0 h)
sound (refused hs limit k) c = (c, refused_answers hs limit k c)

all_sound : (ls : List RowLine) → AllComputed ls → AllKnown ls
all_sound [] c = tt
all_sound (l ∷ ls) c = let s = sound l c.0 in (s.0, s.1, all_sound ls c.1)

-- Every known row is as its line says.
pub known : AllKnown rows
known = all_sound rows computed
