-- What the library says of a run of placements says where the right side of a group begins, and what is a group.
use Prim.Native.Nat.{ℕ, zero, suc, ◌+◌, ◌-◌, ◌≤◌, ◌<◌}
use mathlib.Core.Path.{◌≡◌, sym, ap, subst, ◌∙◌}
use mathlib.Core.List.{List, [], ◌++◌}
use native.Mathlib.Omega.{arith}
use lib.ListN.{length, get_or, take, drop, length-drop}
use lib.Seq.{get_or-drop, take-append_seam, drop-append_seam}
use borrow.Author.Tests.{eqb-true, eqb-false}
use Rattle.std.specs.List.{prefix_len, IsChunkByPrefix}
use Rattle.std.proofs.lemmas.List.{get_or-map, length-map, length-append, drop-drop}
use Rattle.std.proofs.lemmas.List.Sums.{prefix_len-le-length, prefix_len_passes, prefix_len_stops}
use Rattle.folding.specs.declared.Placement.{Placement}
use Rattle.folding.specs.Placement.{placement_of, placements_in, none}
use Rattle.folding.specs.Asks.{group_at}
use Rattle.outline.specs.Inner.{alike, is_left, GroupEnd, Lefts}
use Rattle.outline.proofs.Walk.{part, map_part}

read_at : (lent : List (List ℕ)) (i : ℕ) → i < length lent → get_or (placements_in lent) i none ≡ placement_of (get_or lent i [])
read_at lent i h = get_or-map placement_of lent i [] none h

lefts_are : (lent : List (List ℕ)) → Lefts (placements_in lent) (length lent) (prefix_len is_left lent)
lefts_are lent = record {
  within = prefix_len-le-length is_left lent;
  on_the_left = λ i h. ap (λ (p : Placement). p.side) (read_at lent i (omega (arith, prefix_len-le-length is_left lent)))
      ∙ eqb-true _ _ (prefix_len_passes is_left lent i [] h);
  next = λ h e. eqb-false _ _ (prefix_len_stops is_left lent [] h)
      (sym (ap (λ (p : Placement). p.side) (read_at lent (prefix_len is_left lent) h)) ∙ e);
}

pub lefts_of : (lent : List (List ℕ)) {n k : ℕ} → length lent ≡ n → k ≡ prefix_len is_left lent → Lefts (placements_in lent) n k
lefts_of lent h e = rw e (rw h at (lefts_are lent))

-- Where none is left, all have been walked over.
pub none_left : (lent rest : List (List ℕ)) (from : ℕ) → rest ≡ drop from lent → length rest ≡ 0 → length (placements_in lent) ≤ from
none_left lent rest from r e = omega (arith, ap length r, length-drop from lent, length-map lent placement_of)

-- A run of placements that is handed out as one group, the first of the `rest` behind `from` others.
module _ (lent run more rest : List (List ℕ)) (from : ℕ) (r : rest ≡ drop from lent) (cut : rest ≡ run ++ more) (some : 0 < length run) (by : IsChunkByPrefix alike rest (length run)) where
  abbrev ps : List Placement
  ps = placements_in lent

  all : length ps ≡ length lent
  all = length-map lent _

  long : length rest ≡ length lent - from
  long = ap length r ∙ length-drop from lent

  parts : length rest ≡ length run + length more
  parts = ap length cut ∙ length-append run more

  read : (j : ℕ) → j < length rest → group_at ps (from + j) ≡ (placement_of (get_or rest j [])).group
  read j h =
      ap (λ (p : Placement). p.group) (read_at lent (from + j) (omega (arith, long))
      ∙ ap placement_of (sym (ap (λ (v : List (List ℕ)). get_or v j []) r ∙ get_or-drop from lent j [])))

  same : (j : ℕ) → j < length run → group_at ps (from + j) ≡ group_at ps from
  same zero h = ap (λ (k : ℕ). group_at ps k) (omega arith)
  same (suc j) h =
      let z : j + 1 ≡ suc j = omega arith in
      let e = rw z at (eqb-true _ _ (by.0 j [] (omega arith))) in
      read (suc j) (omega (arith, parts)) ∙ sym e ∙ sym (read j (omega (arith, parts))) ∙ same j (omega arith)

  pub group_ends : GroupEnd ps from (from + length run)
  group_ends = record {
    some = omega (arith, some);
    within = omega (arith, all, long, parts);
    same = λ i a b. let z : from + (i - from) ≡ i = omega arith in
        subst (λ (k : ℕ). group_at ps k ≡ group_at ps from) z (same (i - from) (omega arith));
    other = λ h e.
        let m : length run < length rest = omega (arith, all, long) in
        eqb-false _ _ (by.1 m [])
        (sym (read (length run - 1) (omega (arith, m))) ∙ same (length run - 1) (omega (arith, some)) ∙ sym e ∙ read (length run) m);
  }

  pub run_placed : placements_in run ≡ part from (from + length run) ps
  run_placed = ap placements_in (sym (ap (take (length run)) cut ∙ take-append_seam run more)) ∙ map_part placement_of from (length run) lent rest r

  pub more_left : more ≡ drop (from + length run) lent
  more_left = sym (sym (drop-drop (length run) from lent) ∙ ap (drop (length run)) (sym r ∙ cut) ∙ drop-append_seam run more)
