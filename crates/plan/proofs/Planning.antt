-- The plan, from the last component to the first.
use Prim.Native.Nat.{ℕ, zero, suc, ◌+◌, ◌-◌, ◌≤◌, ◌<◌}
use mathlib.Core.Path.{◌≡◌, refl, sym, ap, ◌∙◌}
use mathlib.Core.Logic.{◌⊎◌, inl, inr}
use mathlib.Core.List.{List, []}
use native.Mathlib.Nat.{eq-or-lt_of_le}
use native.Mathlib.Omega.{arith}
use lib.ListN.{length, get_or, drop, set, length-drop, length-map}
use lib.Seq.{get_or-drop, get_or-set_same, get_or-set_other}
use Rattle.terms.specs.declared.Component.{Component}
use Rattle.terms.specs.declared.Kind.{Kind}
use Rattle.terms.specs.Seams.{gap_at, component_in, components_in}
use Rattle.group.specs.Rows.{gap}
use Rattle.group.specs.Group.{may_stand}
use Rattle.group.proofs.Ways.{suits}
use Rattle.model.proofs.Falling.{layouts_fall}
use Rattle.model.specs.Layout.{candidate_for}
use Rattle.model.proofs.Scan.{layouts-drop, layouts_end}
use Rattle.layout.specs.Layout.{Layout, unmet, empty, groups, layouts, layout_of}
use Rattle.layout.specs.Plan.{layout_in, PlannedAt, lists}
use Rattle.layout.specs.declared.Entry.{Entry}
use Rattle.plan.specs.Asks.{Later, FirstAsks, FromAsks, PlanAsks, PlannedFrom, KnownTo, EntryAsks, EntryDone, gap_before}
use Rattle.plan.specs.Memory.{Known}
use Rattle.plan.proofs.Columns.{component_at_lem, gap_last}
use Rattle.layout.proofs.Groups.{groups_laws}
use Rattle.layout.proofs.Columns.{components_length, components_drop, lists_drop, good_lists}

gap_near : (gs : List ℕ) (i : ℕ) → ((j : ℕ) → gap_at gs j ≤ 4000) → gap_before gs i ≤ 4000
gap_near gs zero h = omega arith
gap_near gs (suc i) h = h i

module _ (kind : Kind) (limit : ℕ) where
  rest-drop : (hs ws gs : List ℕ) (i : ℕ) → i ≤ length hs
      → layouts kind limit (gap_before gs i) (components_in (drop i hs) (drop i ws) (drop i gs)) ≡ drop i (layouts kind limit 0 (components_in hs ws gs))
  rest-drop hs ws gs zero h = refl
  rest-drop hs ws gs (suc i) h =
      rw (components_drop hs ws gs (suc i) h)
      (sym (layouts-drop (λ x. gap x) (candidate_for (groups kind) limit) 0 (components_in hs ws gs) (suc i) (omega arith) (omega (arith, components_length hs ws gs))
      ∙ rw (gap_last (components_in hs ws gs) i (component_in [] [] [] 0) (omega (arith, components_length hs ws gs)), component_at_lem hs ws gs i (omega arith))))

module _ {kind : Kind} {limit i : ℕ} {hs ws gs widths heights : List ℕ} (a : FromAsks kind limit i hs ws gs widths heights) where
  abbrev all : List Layout
  all = layouts kind limit 0 (components_in hs ws gs)

  rest : layouts kind limit (gap_before gs i) (components_in (drop i hs) (drop i ws) (drop i gs)) ≡ drop i (layouts kind limit 0 (components_in hs ws gs))
  rest = rest-drop kind limit hs ws gs i (omega (arith, a.within))

  rest_at : (k : ℕ) → get_or (layouts kind limit (gap_before gs i) (components_in (drop i hs) (drop i ws) (drop i gs))) k unmet ≡ get_or (layouts kind limit 0 (components_in hs ws gs)) (i + k) unmet
  rest_at k = rw rest (get_or-drop i all k unmet)

  few : length (components_in (drop i hs) (drop i ws) (drop i gs)) ≡ length hs - i
  few = components_length (drop i hs) (drop i ws) (drop i gs) ∙ length-drop i hs

  later : Later kind limit (gap_before gs i) (components_in (drop i hs) (drop i ws) (drop i gs)) (drop (i + 1) widths) (drop (i + 1) heights)
  later = record {
    width_is = λ k h.
        rw (get_or-drop (i + 1) widths k 0, rest_at (suc k))
        (a.width_is (i + 1 + k) (omega arith) (omega (arith, few)) ∙ ap (λ (z : ℕ). (get_or all z unmet).width) (omega arith));
    height_is = λ k h.
        rw (get_or-drop (i + 1) heights k 0, rest_at (suc k))
        (a.height_is (i + 1 + k) (omega arith) (omega (arith, few)) ∙ ap (λ (z : ℕ). (get_or all z unmet).height) (omega arith));
  }

  first_drops : FirstAsks kind limit (gap_before gs i) (drop i hs) (drop i ws) (drop i gs) (drop (i + 1) widths) (drop (i + 1) heights)
  first_drops = record {
    lists = lists_drop a.lists i (omega (arith, a.within));
    some = omega (arith, length-drop i hs, a.within);
    limit_most = a.limit_most;
    before = gap_near gs i a.lists.near;
    widths_long = omega (arith, length-drop i hs, length-drop (i + 1) widths, a.widths_long, a.within);
    heights_long = omega (arith, length-drop i hs, length-drop (i + 1) heights, a.heights_long, a.within);
    later = later;
  }

  module _ (g0 : ℕ) (eg : g0 ≡ gap_before gs i) where
    pub first_asks : FirstAsks kind limit g0 (drop i hs) (drop i ws) (drop i gs) (drop (i + 1) widths) (drop (i + 1) heights)
    first_asks = rw eg first_drops

    pub first_is : (r : Layout) → r ≡ layout_of kind limit g0 (components_in (drop i hs) (drop i ws) (drop i gs)) → r ≡ get_or (layouts kind limit 0 (components_in hs ws gs)) i unmet
    first_is r e = e ∙ rw eg (rest_at 0 ∙ ap (λ (z : ℕ). get_or all z unmet) (omega arith))

-- What is known in front of i outlives the entry i.
known-set : {kind : Kind} {known limit : ℕ} {cs : List Component} {widths heights ends : List ℕ} {to : ℕ} (i a b c : ℕ) → i ≤ to → KnownTo kind known limit cs widths heights ends to
    → KnownTo kind known limit cs (set widths i a) (set heights i b) (set ends i c) i
known-set {widths = widths} {heights = heights} {ends = ends} i a b c h k = record {
  at = λ l j o.
      let n : j ≡ i → ⊥ = λ z. omega arith in
      rw (get_or-set_other widths i j a 0 n, get_or-set_other heights i j b 0 n, get_or-set_other ends i j c 0 n) (k.at l j (omega arith));
}

-- The entries that are filled.
module _ {kind : Kind} {limit : ℕ} {hs ws gs widths heights ends es : List ℕ} (a : PlanAsks kind limit hs ws gs widths heights ends es) where
  abbrev cs : List Component
  cs = components_in hs ws gs

  long : length (components_in hs ws gs) ≡ length hs
  long = components_length hs ws gs

  at_end : get_or (layouts kind limit 0 (components_in hs ws gs)) (length hs) unmet ≡ empty
  at_end = ap (λ (z : ℕ). get_or (layouts kind limit 0 cs) z unmet) (sym long) ∙ layouts_end (λ x. gap x) (candidate_for (groups kind) limit) cs 0

  plan_start : PlannedFrom kind limit (components_in hs ws gs) (set widths (length hs) 0) (set heights (length hs) 0) (set ends (length hs) 0) (length hs)
  plan_start = record {
    at = λ j h k.
        let e : j ≡ length hs = omega (arith, long) in
        rw (e, at_end) (record {
          width_is = get_or-set_same widths (length hs) 0 0 a.widths_long;
          height_is = get_or-set_same heights (length hs) 0 0 a.heights_long;
          end_is = get_or-set_same ends (length hs) 0 0 a.ends_long;
        });
  }

  known_start : {known : ℕ} → Known kind known limit hs ws gs widths heights ends es
      → KnownTo kind known limit (components_in hs ws gs) (set widths (length hs) 0) (set heights (length hs) 0) (set ends (length hs) 0) (length hs)
  known_start k = known-set {widths = widths} {heights = heights} {ends = ends} {to = length hs} (length hs) 0 0 0 (omega arith) (record { at = λ l j h. (k l).0.at j (omega (arith, long)) })

  pub entries_start : {known : ℕ} → Known kind known limit hs ws gs widths heights ends es → EntryDone kind known limit (length hs) hs ws gs (set widths (length hs) 0) (set heights (length hs) 0) (set ends (length hs) 0)
  entries_start k = record { behind = plan_start; before = known_start k }

-- The next entry.
pub entry_next : {kind : Kind} {known limit i later : ℕ} {hs ws gs es : List ℕ} (p q : List Entry) → length q ≡ length p → i + 1 ≡ later → later ≤ length hs → lists p (PlanAsks kind limit hs ws gs) es → lists q (EntryDone kind known limit later hs ws gs)
    → lists q (EntryAsks kind known limit i hs ws gs)
entry_next {i = i} {later = later} p q l e h a d =
    let z : suc i ≡ later = omega arith in
    record {
      lists = a.lists;
      within = omega arith;
      limit_most = a.limit_most;
      widths_long = omega (arith, a.widths_long, length-map p (λ (b : Entry). b.width.0), length-map q (λ (b : Entry). b.width.0));
      heights_long = omega (arith, a.heights_long, length-map p (λ (b : Entry). b.height.0), length-map q (λ (b : Entry). b.height.0));
      ends_long = omega (arith, a.ends_long, length-map p (λ (b : Entry). b.end), length-map q (λ (b : Entry). b.end));
      behind = rw z d.behind;
      before = rw z d.before;
    }

module _ {kind : Kind} {known limit i : ℕ} {hs ws gs widths heights ends : List ℕ} (a : EntryAsks kind known limit i hs ws gs widths heights ends) where
  pub from_asks : FromAsks kind limit i hs ws gs widths heights
  from_asks = record {
    lists = a.lists;
    within = a.within;
    limit_most = a.limit_most;
    widths_long = a.widths_long;
    heights_long = a.heights_long;
    width_is = λ j h k. (a.behind.at j h (omega (arith, components_length hs ws gs))).width_is;
    height_is = λ j h k. (a.behind.at j h (omega (arith, components_length hs ws gs))).height_is;
  }

  -- The entry is searched.
  plan_more : (b : Entry) → layout_in b ≡ get_or (layouts kind limit 0 (components_in hs ws gs)) i unmet
      → PlannedFrom kind limit (components_in hs ws gs) (set widths i b.width.0) (set heights i b.height.0) (set ends i b.end) i
  plan_more b f = record { at = λ j h k. go j k (eq-or-lt_of_le h) }
    where
      go : (j : ℕ) → j ≤ length (components_in hs ws gs) → (i ≡ j) ⊎ (i < j)
          → PlannedAt (get_or (layouts kind limit 0 (components_in hs ws gs)) j unmet) (get_or (set widths i b.width.0) j 0) (get_or (set heights i b.height.0) j 0) (get_or (set ends i b.end) j 0)
      go j k (inl q) = rw (← q, ← f) (record {
        width_is = get_or-set_same widths i b.width.0 0 (omega (arith, a.within, a.widths_long));
        height_is = get_or-set_same heights i b.height.0 0 (omega (arith, a.within, a.heights_long));
        end_is = get_or-set_same ends i b.end 0 (omega (arith, a.within, a.ends_long));
      })
      go j k (inr q) =
          let n : j ≡ i → ⊥ = λ z. omega arith in
          rw (get_or-set_other widths i j b.width.0 0 n, get_or-set_other heights i j b.height.0 0 n, get_or-set_other ends i j b.end 0 n) (a.behind.at j q k)

  known_more : (b : Entry) → KnownTo kind known limit (components_in hs ws gs) (set widths i b.width.0) (set heights i b.height.0) (set ends i b.end) i
  known_more b = known-set i b.width.0 b.height.0 b.end (omega arith) a.before

  -- It stays as it is.
  module _ (lower : limit < known) (keeps : get_or heights i 0 ≤ limit) where
    entry : PlannedAt (get_or (layouts kind known 0 (components_in hs ws gs)) i unmet) (get_or widths i 0) (get_or heights i 0) (get_or ends i 0)
    entry = a.before.at lower i (omega arith)

    same_layout : get_or (layouts kind limit 0 (components_in hs ws gs)) i unmet ≡ get_or (layouts kind known 0 (components_in hs ws gs)) i unmet
    same_layout =
        (layouts_fall (groups_laws kind (may_stand kind) (suits kind)) known limit (omega arith) (omega (arith, a.limit_most)) 0 (components_in hs ws gs) (good_lists a.lists) i
        ).stays (omega (arith, entry.height_is))

    plan_stays : PlannedFrom kind limit (components_in hs ws gs) widths heights ends i
    plan_stays = record { at = λ j h k. go j k (eq-or-lt_of_le h) }
      where
        go : (j : ℕ) → j ≤ length (components_in hs ws gs) → (i ≡ j) ⊎ (i < j) → PlannedAt (get_or (layouts kind limit 0 (components_in hs ws gs)) j unmet) (get_or widths j 0) (get_or heights j 0) (get_or ends j 0)
        go j k (inl q) = rw (← q, same_layout) entry
        go j k (inr q) = a.behind.at j q k

    known_stays : KnownTo kind known limit (components_in hs ws gs) widths heights ends i
    known_stays = record { at = λ l j h. a.before.at l j (omega arith) }

  -- Both ways in which it is planned.
  pub entry_stays : limit < known → get_or heights i 0 ≤ limit → EntryDone kind known limit i hs ws gs widths heights ends
  entry_stays lower keeps = record { behind = plan_stays lower keeps; before = known_stays lower keeps }

  pub entry_more : (b : Entry) → layout_in b ≡ get_or (layouts kind limit 0 (components_in hs ws gs)) i unmet
      → EntryDone kind known limit i hs ws gs (set widths i b.width.0) (set heights i b.height.0) (set ends i b.end)
  entry_more b f = record { behind = plan_more b f; before = known_more b }
