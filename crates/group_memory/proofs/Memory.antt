-- What a word says of a group, and what a search adds to it.
use Prim.Native.Nat.{ℕ, suc, ◌+◌, ◌-◌, ◌≤◌, ◌<◌, min, max}
use mathlib.Core.Bool.{Bool, true, false}
use mathlib.Core.Path.{◌≡◌, refl, sym, ap, ◌∙◌}
use mathlib.Core.Logic.{◌⊎◌, inl, inr}
use mathlib.Core.List.{List, []}
use native.Mathlib.Omega.{arith}
use lib.ListN.{length}
use Rattle.std.specs.Prelude.{Some, None, Result, Ok, Err}
use Rattle.std.specs.Bool.{then_some}
use Rattle.std.specs.Result.{result_ok}
use Rattle.std.proofs.lemmas.Option.{none-some, same_Some}
use Rattle.folding.specs.declared.Outline.{Outline}
use Rattle.terms.specs.declared.Component.{Component}
use Rattle.terms.specs.declared.Kind.TheVariants.{Nested}
use Rattle.terms.specs.declared.Slices.{Slices}
use Rattle.terms.specs.Seams.{component_in, components_in}
use Rattle.numbers.specs.Table.{cells}
use Rattle.terms.proofs.Order.{order}
use Rattle.terms.proofs.Tabulate.{tabulate-length}
use Rattle.group.specs.Group.{widest, gap_after, fold_height, way_height, may_stand, least_height, least_cap, least_width, SomeWay}
use Rattle.group.proofs.Exact.{least_keeps}
use Rattle.group.proofs.Falls.{falls}
use Rattle.group.proofs.First.{first_is, first_met}
use Rattle.group.specs.Table.{entry}
use Rattle.group.proofs.Bare.{rows_bare}
use Rattle.group.proofs.Gaps.{tall_entry, gap_behind_lem, gap_behind_all}
use Rattle.group.proofs.Indices.{at_le}
use Rattle.group.proofs.Ways.{way_flat, way_fold, width_first, width_some, fold_point}
use Rattle.group_search.specs.Widths.{Over, LowAsks, Narrow, bound_in}
use Rattle.group_search.proofs.Halves.{cap_low}
use Rattle.group_memory.specs.Memory.{word_width, word_height, unknown, never, Holds, MemoryAsks}
use Rattle.group_memory.specs.Inner.{Small, Recalled, height_in}

-- What holds for a limit holds for a lower one.
pub holds_lower : {last : Bool} {g0 : ℕ} {hs ws gs : List ℕ} {limit limit' wide word : ℕ} → limit' ≤ limit → Holds last g0 hs ws gs limit wide word → Holds last g0 hs ws gs limit' wide word
holds_lower l h = record { over = λ c p q. omega (arith, h.over c p q); least = h.least }

module _ {last : Bool} {g0 flat : ℕ} {hs ws gs es : List ℕ} {limit wide low cap : ℕ} (r : LowAsks last g0 flat hs ws gs es limit wide low cap) where
  abbrev cs : List Component
  cs = components_in hs ws gs

  is_first : least_width Nested last g0 cs limit ≡ least_cap (may_stand Nested last) g0 cs limit
  is_first = width_first (may_stand Nested last) cs g0 limit (omega (arith, r.asks.limit_low))

  -- Heights are at most those of 64 components of 4,000 rows on top of each other, and two gaps.
  way_most : (c p : ℕ) → 0 < p → p ≤ length cs → way_height g0 cs c p ≤ 264000
  way_most c p s l = go (order (length cs) p)
    where
      n : length cs ≡ length hs
      n = tabulate-length (component_in hs ws gs) (length hs)

      entry_most : (c p : ℕ) → p ≤ length hs → entry hs ws c p p ≤ 256000
      entry_most c p l = omega (arith, at_le (component_in hs ws []) (length hs) r.asks.asks.table.columns.low c p p l l, r.asks.asks.table.few)

      ends : g0 + gap_after cs ≤ 8000
      ends = omega (arith, gap_behind_all hs ws gs r.asks.asks.some, r.asks.asks.gaps_low (length hs - 1), r.asks.asks.first_low)

      go : (length cs ≤ p) ⊎ (p < length cs) → way_height g0 cs c p ≤ 264000
      go (inl h) = omega (arith, way_flat g0 cs c p (omega arith), tall_entry hs ws gs 0, entry_most 0 0 (omega arith), ends)
      go (inr h) =
          let fold : fold_height g0 cs c p ≤ 264000 =
          rw (rows_bare hs ws gs c 0 0 p p) (omega (arith, entry_most c p (omega (arith, n)), gap_behind_lem hs ws gs p s (omega (arith, n)), r.asks.asks.gaps_low (p - 1), gap_behind_all hs ws gs r.asks.asks.some, r.asks.asks.gaps_low (length hs - 1), r.asks.asks.first_low)) in
          omega (arith, way_fold g0 cs c p h, fold)

  height_low : SomeWay (may_stand Nested last) cs → (c : ℕ) → least_height Nested last g0 cs c ≤ 264000
  height_low way c =
      let f = fold_point (may_stand Nested last) cs g0 c way in
      omega (arith, f.1.least, way_most c f.0 f.1.some f.1.within)

  -- A width below which no cap will do, over the cap.
  ruled_out : {least : ℕ} → Over last g0 hs ws gs limit wide least → cap < least → Narrow last g0 hs ws gs limit cap None
  ruled_out o l = record {
    within = λ u. absurd (omega (arith, o cap r.asks.from l, least_keeps (may_stand Nested last) g0 cs limit (omega (arith, cap_low r)), falls (may_stand Nested last) g0 cs (least_width Nested last g0 cs limit) cap u));
    over = λ u. refl;
  }

  -- A width that keeps the limit and below which no cap will do.
  least_known : (o : Outline) → wide ≤ o.width.0 → o.width.0 ≤ cap → Over last g0 hs ws gs limit wide o.width.0 → o.height.0 ≡ least_height Nested last g0 cs o.width.0 → o.height.0 ≤ limit
      → Narrow last g0 hs ws gs limit cap (Some o)
  least_known o f t v e k =
      let z : least_width Nested last g0 cs limit ≡ o.width.0 =
      is_first
      ∙ first_is (least_height Nested last g0 cs) limit (widest cs) (suc (widest cs)) o.width.0 (omega (arith, r.asks.is_widest)) (omega (arith, r.asks.to, r.asks.is_widest)) (omega arith)
      (λ j l u. v j (omega (arith, r.asks.is_widest)) (omega arith)) in
      record { within = λ u. rw (z, ← e) refl; over = λ u. absurd (omega arith) }

  least_from : least_width Nested last g0 cs limit ≤ cap → wide ≤ least_width Nested last g0 cs limit
  least_from t = omega (
    arith,
    r.asks.is_widest,
    cap_low r,
    is_first,
    (first_met (least_height Nested last g0 cs) limit (widest cs) (suc (widest cs)) (omega (arith, is_first, cap_low r))).0,
  )

  -- An outline that was found is that of the group.
  found_is : {o : Outline} → Narrow last g0 hs ws gs limit cap (Some o) → (wide ≤ o.width.0) × (o.width.0 ≤ cap) × (o.height.0 ≡ least_height Nested last g0 cs o.width.0)
  found_is {o} n = go (order (least_width Nested last g0 cs limit) cap)
    where
      go : (least_width Nested last g0 cs limit ≤ cap) ⊎ (cap < least_width Nested last g0 cs limit) → (wide ≤ o.width.0) × (o.width.0 ≤ cap) × (o.height.0 ≡ least_height Nested last g0 cs o.width.0)
      go (inl k) = let e = same_Some _ _ (n.within k) in rw e (least_from k, k, refl)
      go (inr k) = absurd (none-some o (sym (n.over k)))

  -- So some way is allowed to the group.
  way_of : {o : Outline} → Narrow last g0 hs ws gs limit cap (Some o) → SomeWay (may_stand Nested last) cs
  way_of {o} n = go (order (least_width Nested last g0 cs limit) cap)
    where
      go : (least_width Nested last g0 cs limit ≤ cap) ⊎ (cap < least_width Nested last g0 cs limit) → SomeWay (may_stand Nested last) cs
      go (inl k) = width_some (may_stand Nested last) cs g0 limit (omega (arith, cap_low r))
      go (inr k) = absurd (none-some o (sym (n.over k)))

  -- Whatever the table holds.
  pub table_alone : (es' : List ℕ) → cells ≤ length es' → LowAsks last g0 flat hs ws gs es' limit wide low cap
  table_alone es' long = record {
    asks = record {
      asks = record {
        table = record { columns = r.asks.asks.table.columns; few = r.asks.asks.table.few; room = long };
        some = r.asks.asks.some;
        seams_long = r.asks.asks.seams_long;
        gaps_low = r.asks.asks.gaps_low;
        first_low = r.asks.asks.first_low;
        free = r.asks.asks.free;
      };
      is_widest = r.asks.is_widest;
      from = r.asks.from;
      to = r.asks.to;
      limit_low = r.asks.limit_low;
    };
    is_flat = r.is_flat;
    from = r.from;
    to = r.to;
    over = r.over;
  }

  -- What a search found is small, and holds as it is noted.
  pub found_small : (found : Result Outline Slices) → Narrow last g0 hs ws gs limit cap (result_ok found) → Small found
  found_small (Ok o) n = let e = found_is n in (omega (arith, e.1, cap_low r), omega (arith, e.2, height_low (way_of n) o.width.0))
  found_small (Err least) n = tt

  pub found_holds : (found : Result Outline Slices) {word : ℕ} → Narrow last g0 hs ws gs limit cap (result_ok found) → Over last g0 hs ws gs limit wide (bound_in found)
      → word_width word ≡ min (bound_in found) never → word_height word ≡ height_in found → Holds last g0 hs ws gs limit wide word
  found_holds (Err least) n v ew eh = record { over = λ c l u. v c l (omega (arith, ew)); least = λ u. absurd (omega (arith, eh)) }
  found_holds (Ok o) {word} n v ew eh =
      let e = found_is n in
      let z : word_width word ≡ o.width.0 = omega (arith, ew, e.1, cap_low r) in
      record {
        over = λ c l u. v c l (omega (arith, ew));
        least = λ u. (omega (arith, z, e.0), eh ∙ e.2 ∙ ap (least_height Nested last g0 cs) (sym z));
      }

module _ {last : Bool} {g0 flat : ℕ} {hs ws gs es : List ℕ} {word limit wide cap : ℕ} (m : MemoryAsks last g0 flat hs ws gs es word limit wide cap) where
  from_widest : LowAsks last g0 flat hs ws gs es limit wide wide cap
  from_widest = record { asks = m.asks; is_flat = m.is_flat; from = omega arith; to = m.asks.from; over = λ c l u. absurd (omega arith) }

  over_below : {width : ℕ} → width ≡ word_width word → Over last g0 hs ws gs limit wide width
  over_below e c l u = m.holds.over c l (omega (arith, e))

  -- The word answers.
  pub recalled : {o : Outline} → Recalled word limit (Ok o) → (b : Bool) → (b ≡ true → o.width.0 ≤ cap) → (b ≡ false → cap < o.width.0) → Narrow last g0 hs ws gs limit cap (then_some b o)
  recalled {o} q = go
    where
      known : (o.height.0 ≡ word_height word) × (o.height.0 < unknown) × (o.height.0 ≤ limit)
      known = q.height_is o refl

      least : (wide ≤ word_width word) × (word_height word ≡ least_height Nested last g0 (components_in hs ws gs) (word_width word))
      least = m.holds.least (omega (arith, known.0, known.1))

      go : (b : Bool) → (b ≡ true → o.width.0 ≤ cap) → (b ≡ false → cap < o.width.0) → Narrow last g0 hs ws gs limit cap (then_some b o)
      go true f g =
          least_known from_widest o (omega (arith, q.width_is, least.0)) (f refl) (over_below q.width_is)
          (known.0 ∙ least.1 ∙ ap (least_height Nested last g0 (components_in hs ws gs)) (sym q.width_is)) known.2
      go false f g = ruled_out from_widest (over_below q.width_is) (g refl)

  -- It rules out the caps asked for, or those below a width from which a search may start.
  module _ {least : Slices} (q : Recalled word limit (Err least)) {low : ℕ} (b : low ≡ max least.0 wide) where
    pub too_narrow : cap < low → Narrow last g0 hs ws gs limit cap None
    too_narrow t = ruled_out from_widest (over_below q.width_is) (omega (arith, m.asks.from))

    pub search_asks : low ≤ cap → LowAsks last g0 flat hs ws gs es limit wide low cap
    search_asks t = record { asks = m.asks; is_flat = m.is_flat; from = omega arith; to = t; over = λ c l u. over_below q.width_is c l (omega arith) }
