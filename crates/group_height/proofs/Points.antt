-- A fold point of the least height by a filled table is one of the group, and its height is the least that there is.
use Prim.Native.Nat.{ℕ, ◌+◌, ◌-◌, ◌*◌, ◌≤◌, ◌<◌, max}
use mathlib.Core.Path.{◌≡◌, refl, sym, ap, ◌∙◌}
use mathlib.Core.Logic.{◌⊎◌, inl, inr, ⊎_elim}
use mathlib.Core.List.{List, []}
use mathlib.Core.Bool.{Bool, true, false}
use native.Mathlib.Nat.{le_antisymm}
use native.Mathlib.Omega.{arith}
use lib.ListN.{length, get_or, take}
use lib.Seq.{take_all}
use Rattle.std.proofs.lemmas.Bool.{eq-eqb, ne_eqb}
use Rattle.terms.specs.declared.Component.{Component}
use Rattle.terms.specs.declared.Kind.TheVariants.{Nested}
use Rattle.terms.specs.Seams.{gap_at, component_in, components_in}
use Rattle.numbers.specs.Table.{stride}
use Rattle.terms.proofs.Tabulate.{tabulate-length}
use Rattle.group.specs.Group.{none, flat_height, fold_height, unbarred, may_stand, way_height, least_height, FoldPoint, SomeWay}
use Rattle.group.specs.Table.{Filled}
use Rattle.terms.proofs.Order.{order}
use Rattle.group.proofs.Ways.{Stands, way_flat, way_fold, least_at, fold_point, may_fold, flat_stands, stands_allowed}
use Rattle.group.proofs.Indices.{at_le}
use Rattle.group_height.specs.Heights.{flat_rows, fold_rows, HeightAsks}
use Rattle.group_height.specs.Inner.{flat_by, fold_by, height_by, PointAsks}
use Rattle.group.proofs.Bare.{rows_bare}
use Rattle.group.proofs.Gaps.{tall_entry, gap_behind_lem, gap_behind_all}
use Rattle.group_height.proofs.Barred.{rows_free, free_or_far}

-- What the height at a fold point is.
module _ (g0 : ℕ) (last : Bool) (gs es : List ℕ) (p : ℕ) where
  by_flat : p ≡ length gs → height_by g0 last gs es p ≡ flat_rows last (flat_by g0 gs es)
  by_flat e = rw (eq-eqb p (length gs) e)

  by_fold : p < length gs → height_by g0 last gs es p ≡ fold_by g0 gs es p
  by_fold h = rw (ne_eqb p (length gs) (λ e. omega arith))

-- The table may have been filled after the question whether it has room.
module _ {g0 : ℕ} {hs ws gs old es : List ℕ} {cap : ℕ} (r : HeightAsks g0 hs ws gs old) (f : Filled hs ws es cap) where
  pub point_asks : PointAsks g0 gs es
  point_asks = record {
    some = omega (arith, r.some, r.seams_long);
    few = omega (arith, r.table.few, r.seams_long);
    room = f.room;
    gaps_low = r.gaps_low;
    first_low = r.first_low;
    small = λ p h. rw (f.right p p (omega arith) (omega (arith, r.seams_long))) (omega (arith, r.seams_long, r.table.few, at_le (component_in hs ws []) (length hs) r.table.columns.low cap p p (omega (arith, r.seams_long)) (omega (arith, r.seams_long))));
  }

  flat_is : flat_by g0 gs es ≡ flat_height g0 (components_in hs ws gs)
  flat_is = rw (tall_entry hs ws gs cap, gap_behind_all hs ws gs r.some, r.seams_long) (ap (λ (k : ℕ). k + g0 + gap_at gs (length hs - 1)) (f.right 0 0 (omega arith) (omega arith)))

  -- A fold that is not barred has its height, and one that is barred is too high for every limit.
  module _ (p : ℕ) (s : 0 < p) (h : p < length hs) where
    fold_is : unbarred (take p (components_in hs ws gs)) ≡ true → fold_by g0 gs es p ≡ fold_height g0 (components_in hs ws gs) cap p
    fold_is u =
        let n : fold_by g0 gs es p ≡ get_or es (p * stride + p) 0 + (max g0 (gap_at gs (length gs - 1)) + gap_at gs (p - 1)) =
        ap (λ (k : ℕ). get_or es (p * stride + p) 0 + k) (rows_free hs ws gs (max g0 (gap_at gs (length gs - 1))) p s (omega arith) u) in
        let e : fold_by g0 gs es p ≡ get_or es (p * stride + p) 0 + max g0 (gap_at gs (length hs - 1)) + gap_at gs (p - 1) = n ∙ rw r.seams_long (omega arith) in
        e
        ∙ rw (rows_bare hs ws gs cap 0 0 p p, gap_behind_all hs ws gs r.some, gap_behind_lem hs ws gs p s (omega arith))
        (ap (λ (k : ℕ). k + max g0 (gap_at gs (length hs - 1)) + gap_at gs (p - 1)) (f.right p p (omega arith) (omega arith)))

    fold_free : fold_by g0 gs es p < none → unbarred (take p (components_in hs ws gs)) ≡ true
    fold_free l = ⊎_elim
        (λ (u : unbarred (take p (components_in hs ws gs)) ≡ true). u)
        (λ (f : none ≤ fold_rows (max g0 (gap_at gs (length gs - 1))) gs p). absurd (omega arith))
        (free_or_far hs ws gs (max g0 (gap_at gs (length gs - 1))) p s (omega arith))

  long : length gs ≡ length (components_in hs ws gs)
  long = r.seams_long ∙ sym (tabulate-length (component_in hs ws gs) (length hs))

  abbrev cs : List Component
  cs = components_in hs ws gs

  -- A way that is allowed has its height, which is under every number that says that there is none.
  module _ (last : Bool) (p : ℕ) (s : 0 < p) (l : p ≤ length gs) (may : may_stand Nested last cs p ≡ true) where
    flat_last : length gs ≤ p → last ≡ true
    flat_last h = flat_stands Nested last cs p (omega (arith, long)) may

    way_is : height_by g0 last gs es p ≡ way_height g0 cs cap p
    way_is = go (order (length gs) p)
      where
        go : (length gs ≤ p) ⊎ (p < length gs) → height_by g0 last gs es p ≡ way_height g0 cs cap p
        go (inl h) = let e : p ≡ length gs = omega arith in by_flat g0 last gs es p e ∙ rw (flat_last h) (flat_is ∙ sym (way_flat g0 cs cap p (e ∙ long)))
        go (inr h) = by_fold g0 last gs es p h ∙ fold_is p s (omega (arith, r.seams_long)) (may_fold Nested last cs p may) ∙ sym (way_fold g0 cs cap p (omega (arith, long)))

    way_low : height_by g0 last gs es p < none
    way_low = go (order (length gs) p)
      where
        ends : g0 + gap_at gs (length gs - 1) ≤ 8000
        ends = omega (arith, r.first_low, r.gaps_low (length gs - 1))

        go : (length gs ≤ p) ⊎ (p < length gs) → height_by g0 last gs es p < none
        go (inl h) = let e : p ≡ length gs = omega arith in rw (by_flat g0 last gs es p e, flat_last h) (omega (arith, ends, point_asks.small 0 (omega (arith, point_asks.some))))
        go (inr h) = rw (by_fold g0 last gs es p h)
            (omega (
              arith,
              ends,
              point_asks.small p h,
              r.gaps_low (p - 1),
              rows_free hs ws gs (max g0 (gap_at gs (length gs - 1))) p s (omega (arith, r.seams_long)) (may_fold Nested last cs p may),
            ))

  -- No way is lower than that with `at` components on the left, and some way is allowed.
  module _ (last : Bool) (way : SomeWay (may_stand Nested last) cs) (at : ℕ) (some : 0 < at) (within : at ≤ length gs)
      (least : (q : ℕ) → 0 < q → q ≤ length gs → height_by g0 last gs es at ≤ height_by g0 last gs es q) where
    abbrev v : ℕ
    v = height_by g0 last gs es at

    lowest_way : (p : ℕ) × FoldPoint Nested last g0 cs cap p
    lowest_way = fold_point (may_stand Nested last) cs g0 cap way

    none_lower : (p : ℕ) → 0 < p → p ≤ length cs → may_stand Nested last cs p ≡ true → v ≤ way_height g0 cs cap p
    none_lower p s l may = omega (arith, least p s (omega (arith, long)), way_is last p s (omega (arith, long)) may)

    low : v < none
    low =
        let f = lowest_way.1 in
        let l : lowest_way.0 ≤ length gs = omega (arith, long, f.within) in
        omega (arith, least lowest_way.0 f.some l, way_low last lowest_way.0 f.some l f.allowed)

    may : may_stand Nested last cs at ≡ true
    may = go (order (length gs) at)
      where
        flat_far : (b : Bool) (n : ℕ) → flat_rows b n < none → b ≡ true
        flat_far true n h = refl
        flat_far false n h = absurd (omega arith)

        here : Stands Nested (length cs) at
        here = record { some = some; within = omega (arith, long); folded = λ h. refl }

        go : (length gs ≤ at) ⊎ (at < length gs) → may_stand Nested last cs at ≡ true
        go (inl h) =
            let e : at ≡ length gs = omega arith in
            stands_allowed Nested last cs at here (λ q. flat_far last (flat_by g0 gs es) (omega (arith, low, by_flat g0 last gs es at e))) (rw (take_all at cs (omega (arith, long))) r.free) r.free
        go (inr h) =
            stands_allowed Nested last cs at here (λ q. absurd (omega (arith, long))) (fold_free at some (omega (arith, r.seams_long)) (omega (arith, low, by_fold g0 last gs es at h))) r.free

    is_least : v ≡ least_height Nested last g0 cs cap
    is_least =
        let f = lowest_way.1 in
        le_antisymm (omega (arith, f.least, none_lower lowest_way.0 f.some f.within f.allowed))
        (omega (arith, way_is last at some within may, least_at (may_stand Nested last) cs g0 cap at (some, omega (arith, long), may)))

    pub is_point : FoldPoint Nested last g0 cs cap at
    is_point = record { some = some; within = omega (arith, long); allowed = may; least = sym is_least ∙ way_is last at some within may }
