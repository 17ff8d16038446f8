-- Stacks that are filled from the front: they are an ending, and no higher than the limit.
use Prim.Native.Nat.{ℕ, suc, ◌+◌, ◌-◌, ◌≤◌, ◌<◌, max}
use mathlib.Core.Path.{◌≡◌, sym, ap, ◌∙◌}
use mathlib.Core.List.{List, [], ◌∷◌}
use mathlib.Core.Bool.{Bool, true, false, cond}
use native.Mathlib.Omega.{arith}
use lib.ListN.{length, drop, get_or, length-drop}
use lib.Dec.{leb}
use Rattle.std.proofs.lemmas.Bool.{cond_both, leb-true, lt-ltb, eq-eqb}
use Rattle.std.proofs.lemmas.List.{drop_more}
use Rattle.terms.proofs.Bools.{and_is}
use Rattle.cells.specs.Endings.{ends_behind, stack_height, greatest_behind}
use Rattle.cells.specs.Calls.{tallest_cell}
use Rattle.cells.specs.Filling.{filled_behind, filled_height}
use Rattle.cells.proofs.Heights.{height_is, up_to_more}

module _ (hs : List ℕ) where
  -- The next cell of a row behind `at` of them.
  pub next_cell : (at h : ℕ) (rest : List ℕ) → h ∷ rest ≡ drop at hs → (at < length hs) × (h ≡ get_or hs at 0) × (rest ≡ drop (at + 1) hs)
  next_cell at h rest e =
      let l : suc (length rest) ≡ length hs - at = ap length e ∙ length-drop at hs in
      let some : at < length hs = omega (arith, l) in
      let d : h ∷ rest ≡ get_or hs at 0 ∷ drop (at + 1) hs = e ∙ drop_more hs at 0 some in
      (some, ap (λ (r : List ℕ). get_or r 0 0) d, ap (λ (r : List ℕ). drop 1 r) d)

  pub no_cell : (at : ℕ) → [] ≡ drop at hs → length hs ≤ at
  no_cell at e = let l : 0 ≡ length hs - at = ap length e ∙ length-drop at hs in omega (arith, l)

  -- The stack that grows with one more cell, and a stack of one cell.
  pub grown : (b at : ℕ) → b ≤ at → at < length hs → stack_height hs b (at + 1) ≡ stack_height hs b at + get_or hs at 0
  grown b at l some = omega (arith, height_is hs b at l, height_is hs b (at + 1) (omega arith), up_to_more hs at some)

  pub begun : (at : ℕ) → at < length hs → stack_height hs at (at + 1) ≡ get_or hs at 0
  begun at some = omega (arith, height_is hs at (at + 1) (omega arith), up_to_more hs at some)

  module _ (limit : ℕ) where
    -- Where filling stands: the stack that grows begins behind the cell b, and `at` cells stand.
    pub record Stands (b at high : ℕ) : Type 0 where
      pub behind : b < at
      pub within : at ≤ length hs
      pub high_is : high ≡ stack_height hs b at

    pub onto : (b at high h : ℕ) (rest : List ℕ) → Stands b at high → h ∷ rest ≡ drop at hs → Stands b (at + 1) (high + h)
    onto b at high h rest s e =
        let c = next_cell at h rest e in
        record { behind = omega (arith, s.behind); within = omega (arith, c.0); high_is = omega (arith, s.high_is, c.1, grown b at (omega (arith, s.behind)) c.0) }

    pub next : (at h : ℕ) (rest : List ℕ) → h ∷ rest ≡ drop at hs → Stands at (at + 1) h
    next at h rest e =
        let c = next_cell at h rest e in
        record { behind = omega arith; within = omega (arith, c.0); high_is = c.1 ∙ sym (begun at c.0) }

    pub ending : (rest : List ℕ) (b at high : ℕ) → Stands b at high → rest ≡ drop at hs
        → ends_behind (length hs) b (filled_behind limit at high rest) ≡ true
    unfolding ends_behind filled_behind
    ending [] b at high s e = and_is (lt-ltb b at s.behind) (eq-eqb at (length hs) (omega (arith, s.within, no_cell at e)))
    ending (h ∷ rest) b at high s e =
        cond_both (leb (high + h) limit) _ _ (λ es. ends_behind (length hs) b es ≡ true)
        (λ t. ending rest b (at + 1) (high + h) (onto b at high h rest s e) (next_cell at h rest e).2)
        (λ t. and_is (lt-ltb b at s.behind) (ending rest at (at + 1) h (next at h rest e) (next_cell at h rest e).2))

    pub height : (rest : List ℕ) (b at high : ℕ) → Stands b at high → rest ≡ drop at hs
        → greatest_behind hs b (filled_behind limit at high rest) ≡ filled_height limit high rest
    unfolding greatest_behind filled_behind filled_height
    height [] b at high s e = omega (arith, s.high_is)
    height (h ∷ rest) b at high s e =
        go (leb (high + h) limit)
        (height rest b (at + 1) (high + h) (onto b at high h rest s e) (next_cell at h rest e).2)
        (height rest at (at + 1) h (next at h rest e) (next_cell at h rest e).2)
      where
        go : (t : Bool)
            → greatest_behind hs b (filled_behind limit (at + 1) (high + h) rest) ≡ filled_height limit (high + h) rest
            → greatest_behind hs at (filled_behind limit (at + 1) h rest) ≡ filled_height limit h rest
            → greatest_behind hs b (cond t (filled_behind limit (at + 1) (high + h) rest) (at ∷ filled_behind limit (at + 1) h rest))
            ≡ cond t (filled_height limit (high + h) rest) (max high (filled_height limit h rest))
        go true i j = i
        go false i j = omega (arith, s.high_is, j)

    pub low : (rest : List ℕ) (high : ℕ) → high ≤ limit → tallest_cell rest ≤ limit → filled_height limit high rest ≤ limit
    unfolding filled_height tallest_cell
    low [] high l t = l
    low (h ∷ rest) high l t =
        cond_both (leb (high + h) limit) _ _ (λ v. v ≤ limit)
        (λ e. low rest (high + h) (leb-true _ _ e) (omega (arith, t)))
        (λ e. omega (arith, l, low rest h (omega (arith, t)) (omega (arith, t))))

-- One stack grows to the end.
pub some_stack : (limit at high : ℕ) (rest : List ℕ) → 0 < length (filled_behind limit at high rest)
unfolding filled_behind
some_stack limit at high [] = omega arith
some_stack limit at high (h ∷ rest) =
    cond_both (leb (high + h) limit) (filled_behind limit (at + 1) (high + h) rest) (at ∷ filled_behind limit (at + 1) h rest)
    (λ gs. 0 < length gs)
    (λ e. some_stack limit (at + 1) (high + h) rest)
    (λ e. omega arith)
