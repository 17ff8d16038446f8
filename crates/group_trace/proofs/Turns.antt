-- What one turn does, by cases on the sides that have components left.
use Prim.Native.Nat.{ℕ, ◌+◌, ◌-◌, ◌*◌, ◌≤◌, ◌<◌, max}
use mathlib.Core.Path.{◌≡◌, refl, ap, ◌∙◌}
use mathlib.Core.List.{List, [], ◌∷◌}
use native.Mathlib.Omega.{arith}
use lib.ListN.{length, get_or}
use Rattle.std.proofs.Common.{Fits, w32}
use Rattle.terms.specs.declared.Component.{Component}
use Rattle.terms.specs.Seams.{component_in}
use Rattle.group.specs.Rows.{rows, put_left, put_right}
use Rattle.group.specs.Group.{left_side, right_side}
use Rattle.group.specs.Table.{bare}
use Rattle.group.proofs.Chains.{place_left, place_right, place_left_first, place_right_first}
use Rattle.group_table.specs.declared.Standing.{Standing}
use Rattle.group_trace.specs.declared.Turn.{Turn}
use Rattle.group_trace.specs.Trace.{TurnAsks, starts_of, left_turn, right_turn, Turned}
use Rattle.group_trace.proofs.Sides.{place_only_right, place_only_left, left_last, right_suc, right_end, entry_le}

module _ {hs ws es : List ℕ} {at : Standing} {cap : ℕ} (s : TurnAsks hs ws es at cap) where
  abbrev cs : List Component
  cs = bare hs ws

  module _ (a b : ℕ) (m : max a b ≤ max at.left_row at.right_row + 4000) {t : Turn} where
    went_left : 0 < at.left → starts_of cap cs at ≡ put_left at.left_row (starts_of cap cs (left_turn at a b).next) → t ≡ left_turn at a b → Turned cap hs ws at t
    went_left h e w = rw w record { to_left = λ t. (h, refl, e); to_right = λ t. absurd (cc); low = m }

    went_right : at.right < length hs → starts_of cap cs at ≡ put_right at.right_row (starts_of cap cs (right_turn at a b).next) → t ≡ right_turn at a b → Turned cap hs ws at t
    went_right h e w = rw w record { to_left = λ t. absurd (cc); to_right = λ t. (h, refl, e); low = m }

  -- One side is used up.
  pub only_right : (n : ℕ) → n ≡ get_or hs at.right 0 → at.left ≡ 0 → {t : Turn} → t ≡ right_turn at at.left_row (at.right_row + n) → Turned cap hs ws at t
  only_right n e z =
      let h : at.right < length hs = omega (arith, s.more) in
      went_right at.left_row (at.right_row + n) (omega (arith, s.columns.low at.right)) h
      (rw (z, e, right_suc hs ws at.right h) (place_only_right cap at.left_row at.right_row (component_in hs ws [] at.right) (right_side (at.right + 1) cs)))

  pub only_left : (n : ℕ) → n ≡ get_or hs (at.left - 1) 0 → 0 < at.left → at.right ≡ length hs → {t : Turn} → t ≡ left_turn at (at.left_row + n) at.right_row → Turned cap hs ws at t
  only_left n e h z =
      went_left (at.left_row + n) at.right_row (omega (arith, s.columns.low (at.left - 1))) h
      (rw (e, left_last hs ws at.left h (omega (arith, s.apart)), right_end hs ws at.right (omega arith)) (place_only_left cap at.left_row at.right_row (component_in hs ws [] (at.left - 1)) (left_side (at.left - 1) cs)))

  -- Both have components left: m and n are the heights of the next two, u and v their widths.
  module _ (h : 0 < at.left) (k : at.right < length hs) where
    abbrev x : Component
    x = component_in hs ws [] (at.left - 1)

    abbrev y : Component
    y = component_in hs ws [] at.right

    abbrev l : List Component
    l = left_side (at.left - 1) cs

    abbrev r : List Component
    r = right_side (at.right + 1) cs

    ls : left_side at.left cs ≡ x ∷ l
    ls = left_last hs ws at.left h (omega (arith, s.apart))

    rs : right_side at.right cs ≡ y ∷ r
    rs = right_suc hs ws at.right k

    first_cell : get_or es ((at.left - 1) * 65 + at.right) 0 ≡ rows cap 0 0 l (y ∷ r)
    first_cell = (s.table k).1.right (at.left - 1) at.right (omega (arith, s.apart)) (omega arith) ∙ ap (λ (z : List Component). rows cap 0 0 l z) rs

    second_cell : get_or es (at.left * 65 + (at.right + 1)) 0 ≡ rows cap 0 0 (x ∷ l) r
    second_cell = (s.table k).1.right at.left (at.right + 1) (omega (arith, s.apart)) (omega arith) ∙ ap (λ (z : List Component). rows cap 0 0 z r) ls

    -- What is compared where the two do not fit side by side is a number of 32 bits.
    pub left_fits : (m i : ℕ) → m < 65536 → i ≡ get_or es ((at.left - 1) * 65 + at.right) 0 → Fits w32 (at.left_row + m + i)
    left_fits m i u e =
        omega (arith, u, e, s.few, s.within, s.low_left, (s.table k).1.right (at.left - 1) at.right (omega (arith, s.apart)) (omega arith), entry_le hs ws s.columns cap (at.left - 1) at.right (omega (arith, s.apart)) (omega arith))

    pub right_fits : (n j : ℕ) → n < 65536 → j ≡ get_or es (at.left * 65 + (at.right + 1)) 0 → Fits w32 (at.right_row + n + j)
    right_fits n j u e =
        omega (arith, u, e, s.few, s.within, s.low_right, (s.table k).1.right at.left (at.right + 1) (omega (arith, s.apart)) (omega arith), entry_le hs ws s.columns cap at.left (at.right + 1) (omega (arith, s.apart)) (omega arith))

    module _ (m n u v : ℕ) (em : m ≡ get_or hs (at.left - 1) 0) (en : n ≡ get_or hs at.right 0) (eu : u ≡ get_or ws (at.left - 1) 0) (ev : v ≡ get_or ws at.right 0) where
      pub beside_left : u + v ≤ cap → at.left_row + m ≤ at.right_row + n → {t : Turn} → t ≡ left_turn at (at.left_row + m) at.right_row → Turned cap hs ws at t
      beside_left f o =
          went_left (at.left_row + m) at.right_row (omega (arith, s.columns.low (at.left - 1))) h
          (rw (em, ls, rs) (place_left cap at.left_row at.right_row x l y r (omega arith) (omega arith)))

      pub beside_right : u + v ≤ cap → at.right_row + n < at.left_row + m → {t : Turn} → t ≡ right_turn at at.left_row (at.right_row + n) → Turned cap hs ws at t
      beside_right f o =
          went_right at.left_row (at.right_row + n) (omega (arith, s.columns.low at.right)) k
          (rw (en, ls, rs) (place_right cap at.left_row at.right_row x l y r (omega arith) (omega arith)))

      module _ (i j : ℕ) (ei : i ≡ get_or es ((at.left - 1) * 65 + at.right) 0) (ej : j ≡ get_or es (at.left * 65 + (at.right + 1)) 0) (f : cap < u + v) where
        pub left_comes_first : at.left_row + m + i ≤ at.right_row + n + j → {t : Turn} → t ≡ left_turn at (at.left_row + m) (at.left_row + m) → Turned cap hs ws at t
        left_comes_first o =
            went_left (at.left_row + m) (at.left_row + m) (omega (arith, s.columns.low (at.left - 1))) h
            (rw (em, ls, rs) (place_left_first cap at.left_row at.right_row x l y r (omega arith) (omega (arith, first_cell, second_cell))))

        pub right_first : at.right_row + n + j < at.left_row + m + i → {t : Turn} → t ≡ right_turn at (at.right_row + n) (at.right_row + n) → Turned cap hs ws at t
        right_first o =
            went_right (at.right_row + n) (at.right_row + n) (omega (arith, s.columns.low at.right)) k
            (rw (en, ls, rs) (place_right_first cap at.left_row at.right_row x l y r (omega arith) (omega (arith, first_cell, second_cell))))
