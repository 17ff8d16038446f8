-- A whole search: the table at its start, and the least height at its end.
use Prim.Native.Nat.{ℕ, ◌+◌, ◌-◌, ◌≤◌, ◌<◌, min, max}
use mathlib.Core.Path.{◌≡◌, refl, ap, ◌∙◌}
use mathlib.Core.Logic.{◌⊎◌, inl, inr, ⊎_elim}
use mathlib.Core.List.{List, []}
use native.Mathlib.Omega.{arith}
use mathlib.Core.Bool.{Bool, true, false}
use lib.ListN.{length, get_or, take}
use lib.Seq.{take_all}
use Rattle.terms.specs.declared.Component.{Component}
use Rattle.terms.specs.declared.Kind.TheVariants.{Nested}
use Rattle.terms.specs.Seams.{gap_at, component_in, components_in}
use Rattle.model.specs.Groups.{is_end}
use Rattle.terms.proofs.Bools.{either}
use Rattle.terms.proofs.Order.{order}
use Rattle.terms.proofs.Tabulate.{tabulate-length}
use Rattle.group.specs.Group.{none, unbarred, flat_height, fold_height, may_stand, way_height, ways_of, least_height, SomeWay}
use Rattle.group.specs.Table.{entry}
use Rattle.group.proofs.Indices.{corner}
use Rattle.group.proofs.Bare.{rows_bare}
use Rattle.group.proofs.Gaps.{gap_behind_lem, gap_behind_all}
use Rattle.group.proofs.Falls.{falls}
use Rattle.group.proofs.Ways.{Allowed, way_flat, way_fold, no_height, least_at, fold_point, may_fold, flat_stands, stands_allowed}
use Rattle.group_table.specs.Inner.{Low, TopDone}
use Rattle.group_height.specs.Heights.{flat_rows, fold_rows}
use Rattle.group_height.proofs.Barred.{rows_free, free_or_far}
use Rattle.group_search.specs.Outward.{Fresh, LeastFound}
use Rattle.group_search.specs.declared.Run.{Run}
use Rattle.group_search.specs.Inner.{RowsMoved, Cleared, SearchAsks, Searched, Met, Missed}
use Rattle.model.specs.Outlines.{outline}
use Rattle.group_search.proofs.Outwards.{all_found}

-- The borders.
module _ {hs es : List ℕ} (r : Low hs es) where
  pub side_asks : (fs : List ℕ) → length fs ≡ length es → TopDone hs fs 0 → Low hs fs × (get_or fs (length hs) 0 ≡ 0)
  side_asks fs e t =
      (record { few = r.few; low = r.low; room = omega (arith, r.room) }, t [] 0 (length hs) (omega arith) (omega arith) ∙ corner (component_in hs [] []) (length hs) 0 (length hs) (omega arith))

-- Without a fold where it stands last, and with one behind the first components: ways of a nested group.
module _ (last : Bool) (g0 : ℕ) (cs : List Component) (some : 0 < length cs) (free : unbarred cs ≡ true) (c : ℕ) where
  allowed : (p : ℕ) → 0 < p → p ≤ length cs → (p ≡ length cs → last ≡ true) → unbarred (take p cs) ≡ true → Allowed (may_stand Nested last cs) (length cs) p
  allowed p s l t u = (s, l, stands_allowed Nested last cs p (record { some = s; within = l; folded = λ h. refl }) t u free)

  pub least_flat : last ≡ true → least_height Nested last g0 cs c ≤ flat_height g0 cs
  least_flat t =
      let a = allowed (length cs) some (omega arith) (λ e. t) (rw (take_all (length cs) cs (omega arith)) free) in
      omega (arith, least_at (may_stand Nested last) cs g0 c (length cs) a, way_flat g0 cs c (length cs) refl)

  least_fold : (p : ℕ) → 0 < p → p < length cs → unbarred (take p cs) ≡ true → least_height Nested last g0 cs c ≤ fold_height g0 cs c p
  least_fold p s l u = omega (arith, least_at (may_stand Nested last) cs g0 c p (allowed p s (omega arith) (λ e. absurd (omega arith)) u), way_fold g0 cs c p l)

  -- What is at most each of these is at most the least height, if that is not none.
  least_most : (b : ℕ) → b ≤ none → (last ≡ true → b ≤ flat_height g0 cs) → ((p : ℕ) → 0 < p → p < length cs → unbarred (take p cs) ≡ true → b ≤ fold_height g0 cs c p)
      → b ≤ least_height Nested last g0 cs c
  least_most b n h f = go (either (is_end (ways_of (may_stand Nested last) cs)))
    where
      of_way : (p : ℕ) → 0 < p → p ≤ length cs → may_stand Nested last cs p ≡ true → (length cs ≤ p) ⊎ (p < length cs) → b ≤ way_height g0 cs c p
      of_way p s l m (inl o) = let e : p ≡ length cs = omega arith in omega (arith, h (flat_stands Nested last cs p e m), way_flat g0 cs c p e)
      of_way p s l m (inr o) = omega (arith, way_fold g0 cs c p o, f p s o (may_fold Nested last cs p m))

      go : (is_end (ways_of (may_stand Nested last) cs) ≡ true) ⊎ SomeWay (may_stand Nested last) cs → b ≤ least_height Nested last g0 cs c
      go (inl e) = omega (arith, no_height (may_stand Nested last) cs g0 c e)
      go (inr e) =
          let k = fold_point (may_stand Nested last) cs g0 c e in
          omega (arith, k.1.least, of_way k.0 k.1.some k.1.within k.1.allowed (order (length cs) k.0))

-- Where a search for a width from `low` on starts: no pair clashed.
abbrev pub start_at : ℕ → ℕ → Run
start_at low end = record { height = record { 0 = end }; fit = record { 0 = low }; clash = record { 0 = 4000000 } }

module _ {g0 flat : ℕ} {hs ws gs es : List ℕ} {limit low cap : ℕ} (r : SearchAsks g0 flat hs ws gs es limit low cap) where
  abbrev cs : List Component
  cs = components_in hs ws gs

  -- The table once its entries are cleared.
  module _ {new : List ℕ} {outer behind : ℕ} (clear : Cleared gs es new outer (length gs)) (is_behind : behind ≡ gap_at gs (length gs - 1)) (is-outer : outer ≡ max g0 behind) where
    fresh : Fresh (length hs) (fold_rows outer gs) new
    fresh = record {
      fold = λ x s l. clear.fold x s (omega (arith, r.asks.seams_long));
      far = λ x y s o l. clear.far x y s (omega (arith, r.asks.seams_long)) o (omega (arith, r.asks.seams_long));
    }

    count : length cs ≡ length hs
    count = tabulate-length (component_in hs ws gs) (length hs)

    is_gap : behind ≡ gap_at gs (length hs - 1)
    is_gap = is_behind ∙ ap (λ (k : ℕ). gap_at gs (k - 1)) r.asks.seams_long

    fold_is : (c x : ℕ) → 0 < x → x < length hs → unbarred (take x cs) ≡ true → fold_rows outer gs x + entry hs ws c x x ≡ fold_height g0 cs c x
    fold_is c x s l u =
        rw (rows_bare hs ws gs c 0 0 x x, gap_behind_all hs ws gs r.asks.some, gap_behind_lem hs ws gs x s (omega arith))
        (omega (arith, is_gap, rows_free hs ws gs outer x s (omega arith) u))

    flat_more : (last : Bool) (c end : ℕ) → 0 < length cs → end ≡ min (limit + 1) (flat_rows last flat) → min (limit + 1) (least_height Nested last g0 cs c) ≤ end
    flat_more true c end some e = omega (arith, r.is_flat, least_flat true g0 cs some r.asks.free c refl)
    flat_more false c end some e = omega (arith, r.limit_low)

    least_is : (last : Bool) (c end v : ℕ) → end ≡ min (limit + 1) (flat_rows last flat) → LeastFound (entry hs ws c) (length hs) (fold_rows outer gs) end v
        → v ≡ min (limit + 1) (least_height Nested last g0 cs c)
    least_is last c end v e f =
        let some : 0 < length cs = omega (arith, count, r.asks.some) in
        let no_more : v ≤ least_height Nested last g0 cs c =
        least_most last g0 cs some r.asks.free c v (omega (arith, f.from_start, r.limit_low)) (λ t. omega (arith, f.from_start, r.is_flat, rw t at e)) (λ p s l u. omega (arith, f.from_fold p s (omega (arith, count)), fold_is c p s (omega (arith, count)) u)) in
        let no_less : min (limit + 1) (least_height Nested last g0 cs c) ≤ v =
        f.no_less (min (limit + 1) (least_height Nested last g0 cs c)) (flat_more last c end some e)
        (λ p s l. ⊎_elim
        (λ (u : unbarred (take p cs) ≡ true). omega (arith, fold_is c p s l u, least_fold last g0 cs some r.asks.free c p s (omega (arith, count)) u))
        (λ (n : none ≤ fold_rows outer gs p). omega (arith, r.limit_low))
        (free_or_far hs ws gs outer p s (omega arith))) in
        omega (arith, no_more, no_less, f.from_start)

    module _ {last-table : List ℕ} {end : ℕ} {s : Run} (last : Bool) (e : end ≡ min (limit + 1) (flat_rows last flat)) (i : RowsMoved hs ws new last-table cap (start_at low end) s) where
      pub searched : Searched last g0 hs ws gs limit cap s
      searched = record {
        fits = i.fits;
        clashes = i.clashes;
        least = λ c l u.
            least_is last c end s.height.0 e
            (all_found (entry hs ws c) (length hs) r.asks.table.few (fold_rows outer gs) new end fresh (omega (arith, r.limit_low)) last-table s.height.0 (i.same c l u));
      }

-- What a search is taken for.
module _ {last : Bool} {g0 : ℕ} {hs ws gs : List ℕ} {limit cap : ℕ} {s : Run} (d : Searched last g0 hs ws gs limit cap s) where
  pub met : {low : ℕ} → low ≤ s.fit.0 → s.height.0 ≤ limit → Met last g0 hs ws gs limit low cap (outline s.fit.0 s.height.0)
  met l h = record {
    from = l;
    to = d.fits;
    height = omega (arith, d.least s.fit.0 (omega arith) (omega (arith, d.fits, d.clashes)));
    within = h;
  }

  pub missed : limit < s.height.0 → Missed last g0 hs ws gs limit cap s.clash.0
  missed h = record {
    clashes = d.clashes;
    over = λ c k. ⊎_elim
        (λ (n : c ≤ cap). omega (arith, falls (may_stand Nested last) g0 (components_in hs ws gs) c cap n, d.least cap d.fits d.clashes))
        (λ (n : cap < c). omega (arith, d.least c (omega (arith, d.fits)) k))
        (order c cap);
  }
