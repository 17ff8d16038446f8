-- Filling from the front uses no more stacks than any others within the limit, and its k-th stack ends no earlier.
use Prim.Native.Nat.{ℕ, ◌+◌, ◌≤◌, ◌<◌}
use mathlib.Core.Path.{◌≡◌, refl, sym, ap, ◌∙◌}
use mathlib.Core.List.{List, [], ◌∷◌}
use mathlib.Core.Bool.{true}
use mathlib.Core.Logic.{inl, inr}
use native.Mathlib.Omega.{arith}
use lib.ListN.{length, drop, get_or}
use lib.Dec.{leb}
use Rattle.std.proofs.lemmas.Bool.{cond_both, cases_lt, leb-false, le-leb}
use Rattle.std.proofs.lemmas.List.{drop_more}
use Rattle.cells.specs.Endings.{ends_behind, stack_height, greatest_behind, greatest_height, Ending, FewestFor}
use Rattle.cells.specs.Calls.{tallest_cell}
use Rattle.cells.specs.Filling.{filled_behind, filled, filled_height}
use Rattle.cells.proofs.Heights.{height_is, first_end, ends_most, none_left, tallest_at}
use Rattle.cells.proofs.Fills.{next_cell, no_cell, grown, begun, Stands, onto, next, ending, height, low}

-- Each ends no earlier than the other's of its number, and there is one of that number.
abbrev pub NoEarlier : List ℕ → List ℕ → Type 0
NoEarlier [] es = Unit {0}
NoEarlier (g ∷ gs) [] = ⊥
NoEarlier (g ∷ gs) (e ∷ es) = (e ≤ g) × NoEarlier gs es

pub no_more : (gs es : List ℕ) → NoEarlier gs es → length gs ≤ length es
no_more [] es n = omega arith
no_more (g ∷ gs) [] n = absurd n
no_more (g ∷ gs) (e ∷ es) n = omega (arith, no_more gs es n.1)

module _ (hs : List ℕ) (limit : ℕ) where
  -- Other stacks, of which one began behind the cell c: not behind the one that grows.
  record Other (c b : ℕ) (es : List ℕ) : Type 0 where
    pub no_later : c ≤ b
    pub ends : ends_behind (length hs) c es ≡ true
    pub keeps : greatest_behind hs c es ≤ limit

  -- Where the next cell does not fit, the other one has ended.
  ended : (b at high h c e : ℕ) (es rest : List ℕ) → Stands hs limit b at high → h ∷ rest ≡ drop at hs → Other c b (e ∷ es)
      → limit < high + h → e ≤ at
  unfolding greatest_behind
  ended b at high h c e es rest s d o over =
      let n = next_cell hs at h rest d in
      let f = first_end (length hs) c e es o.ends in
      let k : stack_height hs c e ≤ limit = omega (arith, o.keeps) in
      let g : limit < stack_height hs b (at + 1) = omega (arith, over, s.high_is, n.1, grown hs b at (omega (arith, s.behind)) n.0) in
      elim (cases_lt at e) [
        | inl l ↦
            absurd (omega (
              arith,
              k,
              g,
              height_is hs c b o.no_later,
              height_is hs b (at + 1) (omega (arith, s.behind)),
              height_is hs c e (omega (arith, f.0)),
              height_is hs (at + 1) e (omega (arith, l)),
            ))
        | inr l ↦ l
      ]

  rest_of : (at c b e : ℕ) (es : List ℕ) → Other c b (e ∷ es) → e ≤ at → Other e at es
  unfolding greatest_behind
  rest_of at c b e es o l = record { no_later = l; ends = (first_end (length hs) c e es o.ends).1; keeps = omega (arith, o.keeps) }

  -- None of the cells is left to the other before they are all put.
  some_left : (c b at : ℕ) → b < at → at ≤ length hs → Other c b [] → ⊥
  some_left c b at l w o = omega (arith, l, w, o.no_later, none_left (length hs) c o.ends)

  no_earlier : (rest es : List ℕ) (b at high c : ℕ) → Stands hs limit b at high → rest ≡ drop at hs → Other c b es
      → NoEarlier (filled_behind limit at high rest) es
  unfolding filled_behind
  no_earlier [] [] b at high c s d o = some_left c b at s.behind s.within o
  no_earlier [] (e ∷ es) b at high c s d o =
      let f = first_end (length hs) c e es o.ends in
      (omega (arith, no_cell hs at d, ends_most (length hs) e es f.1), tt)
  no_earlier (h ∷ rest) [] b at high c s d o = absurd (some_left c b at s.behind s.within o)
  no_earlier (h ∷ rest) (e ∷ es) b at high c s d o =
      cond_both (leb (high + h) limit) _ _ (λ gs. NoEarlier gs (e ∷ es))
      (λ t. no_earlier rest (e ∷ es) b (at + 1) (high + h) c (onto hs limit b at high h rest s d) (next_cell hs at h rest d).2 o)
      (λ t.
      let l = ended b at high h c e es rest s d o (leb-false _ _ t) in
      (l, no_earlier rest es at (at + 1) h e (next hs limit at h rest d) (next_cell hs at h rest d).2 (rest_of at c b e es o l)))

-- The first cell is put onto the first stack.
open_first : (limit h : ℕ) (rest : List ℕ) → h ≤ limit → filled limit (h ∷ rest) ≡ filled_behind limit 1 h rest
unfolding filled_behind
open_first limit h rest l = let z : 0 + h ≡ h = omega arith in rw (z, le-leb h limit l)

open_height : (limit h : ℕ) (rest : List ℕ) → h ≤ limit → filled_height limit 0 (h ∷ rest) ≡ filled_height limit h rest
unfolding filled_height
open_height limit h rest l = let z : 0 + h ≡ h = omega arith in rw (z, le-leb h limit l)

-- All cells, each within the limit.
module _ (hs : List ℕ) (limit : ℕ) (some : 0 < length hs) (tall : tallest_cell hs ≤ limit) where
  abbrev first : ℕ
  first = get_or hs 0 0

  first_within : first ≤ limit
  first_within = omega (arith, tall, tallest_at hs 0)

  parts : hs ≡ first ∷ drop 1 hs
  parts = drop_more hs 0 0 some

  begins : Stands hs limit 0 1 first
  begins = record { behind = omega arith; within = omega (arith, some); high_is = sym (begun hs 0 some) }

  opened : filled limit hs ≡ filled_behind limit 1 first (drop 1 hs)
  opened = ap (λ (l : List ℕ). filled limit l) parts ∙ open_first limit first (drop 1 hs) first_within

  opened_height : filled_height limit 0 hs ≡ filled_height limit first (drop 1 hs)
  opened_height = ap (λ (l : List ℕ). filled_height limit 0 l) parts ∙ open_height limit first (drop 1 hs) first_within

  rest_low : tallest_cell (drop 1 hs) ≤ limit
  unfolding tallest_cell
  rest_low = omega (arith, tall, ap tallest_cell parts)

  pub filled_ends : Ending hs (filled limit hs)
  filled_ends = rw opened (ending hs limit (drop 1 hs) 0 1 first begins refl)

  pub filled_is_high : greatest_height hs (filled limit hs) ≡ filled_height limit 0 hs
  filled_is_high = rw opened (height hs limit (drop 1 hs) 0 1 first begins refl) ∙ sym opened_height

  pub filled_keeps : greatest_height hs (filled limit hs) ≤ limit
  filled_keeps = rw (filled_is_high, opened_height) (low hs limit (drop 1 hs) first first_within rest_low)

  pub ends_no_earlier : (es : List ℕ) → Ending hs es → greatest_height hs es ≤ limit → NoEarlier (filled limit hs) es
  ends_no_earlier es e k =
      rw opened (no_earlier hs limit (drop 1 hs) es 0 1 first 0 begins refl (record { no_later = omega arith; ends = e; keeps = k }))

  pub filled_fewest : FewestFor hs limit (filled limit hs)
  filled_fewest = record {
    ending = filled_ends;
    keeps = filled_keeps;
    fewest = λ other e k. no_more (filled limit hs) other (ends_no_earlier other e k);
  }
