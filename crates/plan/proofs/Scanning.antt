-- The search over all first groups.
use Prim.Native.Nat.{ℕ, suc, ◌+◌, ◌≤◌, ◌<◌, max}
use mathlib.Core.Path.{◌≡◌, refl, sym, ap, subst, ◌∙◌}
use mathlib.Core.Logic.{◌⊎◌, inl, inr}
use mathlib.Core.List.{List}
use mathlib.Core.Bool.{Bool}
use native.Mathlib.Numerals.{add-one}
use native.Mathlib.Omega.{arith}
use lib.Dec.{eqb}
use lib.ListN.{length, get_or, take, drop}
use lib.Seq.{length-take-le}
use Rattle.std.specs.Prelude.{Option, Some, None}
use Rattle.std.specs.Option.{unwrap_or}
use Rattle.std.proofs.lemmas.Bool.{ltb-true}
use Rattle.std.proofs.lemmas.Option.{cond_some}
use Rattle.terms.specs.declared.Component.{Component}
use Rattle.terms.specs.declared.Kind.{Kind}
use Rattle.terms.specs.declared.Kind.TheVariants.{Nested}
use Rattle.terms.specs.declared.Piece.{Piece}
use Rattle.terms.specs.declared.Slices.{Slices}
use Rattle.terms.specs.Pieces.{heights_in, stack_in, columns}
use Rattle.terms.proofs.Answers.{most_256}
use Rattle.terms.proofs.Order.{order}
use Rattle.terms.proofs.Pieces.{heights_length}
use Rattle.folding.specs.declared.Outline.{Outline}
use Rattle.group.specs.Rows.{gap, tall}
use Rattle.group.specs.Group.{none, widest}
use Rattle.layout.specs.Layout.{Layout, unmet, groups, candidate, choice, layouts, layout_of}
use Rattle.layout.specs.Plan.{layout_in, outline_in, extents, StackLists}
use Rattle.layout.specs.declared.Entry.{Entry}
use Rattle.plan.specs.declared.Left.{Left}
use Rattle.plan.specs.declared.Sizes.{Sizes}
use Rattle.plan.specs.Asks.{GroupAsks, tried, most_rows, SizesAsk, SizesOf, FirstAsks, Under, best_to}
use Rattle.plan.proofs.Columns.{stack_length, stack_take, stack_lists_take, entry_at, width_at, height_at}
use Rattle.layout.proofs.Columns.{end_drop}
use Rattle.plan.proofs.Sizing.{no_piece, SizesTo, sizes_start, sizes_more}
use Rattle.model.specs.Groups.{is_end}
use Rattle.model.specs.Layout.{NoWorse, candidate_for}
use Rattle.model.proofs.Choice.{no_wider, no_wider_nor_higher, Fair, fair_choice, Below, below_choice}
use Rattle.model.proofs.Scan.{layouts_fair}
use Rattle.plan.proofs.Bests.{best_none, best_more, best_stop, best_of_all, best_bound}

same_rest : (kind : Kind) (limit g0 : ℕ) (last last' : Bool) (cs : List Component) (p q : Layout) (k : ℕ) → last ≡ last' → p.width ≡ q.width → p.height ≡ q.height
    → candidate kind limit g0 last cs p k ≡ candidate kind limit g0 last' cs q k
same_rest kind limit g0 last last' cs p q k l e f = rw (l, e, f)

-- A step of the search, in names.
below_step : (bound : ℕ) (c c' s s' b r : Layout) → r ≡ choice c b → c ≡ c' → s' ≡ choice c' s → Below bound s b → Below bound s' r
below_step bound c c' s s' b r e f q p = rw (e, f, q) (below_choice bound c' s b p)

fair_step : (c b r : Layout) → r ≡ choice c b → Fair b → Fair r
fair_step c b r e f = rw e (fair_choice c b f)

no_worse_step : (l c c' u b : Layout) → b ≡ choice c u → c ≡ c' → NoWorse l (choice c' u).width (choice c' u).height → NoWorse l b.width b.height
no_worse_step l c c' u b e f n = rw (e, f) n

-- A width to start from: the best layout stays under it, or it is over every layout.
abbrev pub Starts : Kind → ℕ → ℕ → List Component → ℕ → Type 0
Starts kind limit g0 cs bound = (bound ≤ none) × (bound < none → (layout_of kind limit g0 cs).width < bound)

-- All first groups of at most k components are searched for layouts under the bound.
pub record Scanned (kind : Kind) (limit g0 bound : ℕ) (s : List Piece) (best : Entry) (z : Sizes) (k : ℕ) : Type 0 where
  pub starts : Starts kind limit g0 (stack_in s) bound
  pub best_is : Below bound (best_to kind limit g0 (stack_in s) k) (layout_in best)
  pub fair : Fair (layout_in best)
  pub sizes : SizesTo s z k

-- In place of a layout, before one is found: any that is narrower is better.
abbrev pub start : ℕ → Entry
start bound = record { width = record { 0 = bound }; height = record { 0 = none }; end = 0 }

module _ (l : Left) where
  abbrev kind : Kind
  kind = l.ask.kind

  abbrev limit : ℕ
  limit = l.ask.limit.0

  abbrev g0 : ℕ
  g0 = l.ask.before.0

  abbrev s : List Piece
  s = l.stack.now

  abbrev p : List Entry
  p = l.later.now

  abbrev a : extents l.later.now (columns l.stack.now (FirstAsks l.ask.kind l.ask.limit.0 l.ask.before.0))
  a = l.first

  abbrev cs : List Component
  cs = stack_in s

  long : length (stack_in s) ≡ length s
  long = stack_length s

  -- The first j + 1 components as a group in front of the rest.
  module _ (j : ℕ) (h : j < length s) where
    part : stack_in (take (j + 1) s) ≡ take (j + 1) (stack_in s)
    part = stack_take s (j + 1) (omega arith)

    few : length (take (j + 1) s) ≡ j + 1
    few = length-take-le (j + 1) s (omega arith)

    lists : columns (take (j + 1) s) (StackLists kind)
    lists = stack_lists_take s (j + 1) (omega arith) a.lists

    pub sizes_asks : SizesAsk (heights_in (take (j + 1) s))
    sizes_asks = record { few = omega (arith, lists.few, most_256 kind); low = lists.low }

    group_asks : {best : Entry} {z : Sizes} → z.tall.0 ≡ tall (take (j + 1) (stack_in s)) → z.tall.0 ≤ none → z.widest.0 ≡ widest (take (j + 1) (stack_in s)) → Fair (layout_in best)
        → columns (take (j + 1) s) (GroupAsks kind limit g0 z) best (entry_at p j)
    group_asks t low w fair = record {
      lists = lists;
      some = omega (arith, heights_length (take (j + 1) s), few);
      limit_most = a.limit_most;
      before = a.before;
      tall_is = t ∙ ap tall (sym part);
      tall_low = low;
      widest_is = w ∙ ap widest (sym part);
      fair = fair;
      rest_width = omega (arith, width_at p j, a.later.width_is j (omega (arith, long)), no_wider (layouts_fair (λ x. gap x) (candidate_for (groups kind) limit) g0 cs (suc j)));
    }

    abbrev last : Bool
    last = eqb (j + 1) (length s)

    candidate_same : candidate kind limit g0 last (stack_in (take (j + 1) s)) (layout_in (entry_at p j)) (length (heights_in (take (j + 1) s)))
        ≡ candidate kind limit g0 (is_end (drop (suc j) cs)) (take (suc j) (stack_in s)) (get_or (layouts kind limit g0 (stack_in s)) (suc j) unmet) (suc j)
    candidate_same =
        let lk : j < length cs = omega (arith, long) in
        rw (part, heights_length (take (j + 1) s), few, add-one j)
        (same_rest kind limit g0 _ _ (take (suc j) cs) (layout_in (entry_at p j)) (get_or (layouts kind limit g0 cs) (suc j) unmet) (suc j) (rw (← long) (end_drop cs (suc j) (omega arith))) (width_at p j ∙ a.later.width_is j lk) (height_at p j ∙ a.later.height_is j lk))

  -- The best layout stays under the bound. Without one the search starts at `none`.
  starts : (bound : Option Slices) → Under kind limit g0 (stack_in s) bound → Starts kind limit g0 (stack_in s) (unwrap_or bound (record { 0 = none })).0
  starts None u = (omega arith, λ h. absurd (omega arith))
  starts (Some b) u = (u.0, λ h. u.1)

  scan_from : (bound : ℕ) → Starts kind limit g0 (stack_in s) bound → Scanned kind limit g0 bound s (start bound) (record { tall = record { 0 = 0 }; widest = record { 0 = 0 } }) 0
  scan_from bound u = record {
    starts = u;
    best_is = below (order none bound);
    fair = no_wider_nor_higher u.0 (λ e. omega arith);
    sizes = sizes_start s;
  }
    where
      below : (none ≤ bound) ⊎ (bound < none) → Below bound (best_to kind limit g0 (stack_in s) 0) (layout_in (start bound))
      below (inr h) = inr (h, rw (best_none kind limit g0 cs) (omega arith), omega arith)
      below (inl h) = let e : bound ≡ none = omega (arith, u.0) in rw e (inl (sym (best_none kind limit g0 cs)))

  pub scan_start : (bound : Option Slices) → Under kind limit g0 (stack_in s) bound
      → Scanned kind limit g0 (unwrap_or bound (record { 0 = none })).0 s (start (unwrap_or bound (record { 0 = none })).0) (record { tall = record { 0 = 0 }; widest = record { 0 = 0 } }) 0
  scan_start bound u = scan_from _ (starts bound u)

  module _ {bound : ℕ} {best : Entry} {z : Sizes} {k : ℕ} (t : Scanned kind limit g0 bound s best z k) where
    found : (f : Layout) → f ≡ layout_of kind limit g0 (stack_in s) → Below bound f (layout_in best) → layout_in best ≡ layout_of kind limit g0 (stack_in s)
    found f e (inl h) = h ∙ e
    found f e (inr h) = absurd (omega (arith, h.1, ap (λ (z : Layout). z.width) e, t.starts.1 h.0))

    pub scan_done : k ≡ length s → layout_in best ≡ layout_of kind limit g0 (stack_in s)
    scan_done h =
        let e : k ≡ length cs = omega (arith, long) in
        found _ (ap (λ (z : ℕ). best_to kind limit g0 cs z) e ∙ best_of_all kind limit g0 cs (omega (arith, long, heights_length s, a.some))) t.best_is

    -- With one more component.
    module _ (h : k < length s) {z' : Sizes} (et : z'.tall.0 ≡ z.tall.0 + (get_or s k no_piece).height) (ew : z'.widest.0 ≡ max z.widest.0 (get_or s k no_piece).width) where
      more : SizesTo s z' (k + 1)
      more = sizes_more s a.lists.low h t.sizes et ew

      pub scan_stop : most_rows kind limit < z'.tall.0 → layout_in best ≡ layout_of kind limit g0 (stack_in s)
      scan_stop over =
          let e : z'.tall.0 ≡ tall (take (suc k) (stack_in s)) = rw (add-one k) at more.tall_is in
          found _ (sym (best_stop kind limit g0 cs (length cs) k (omega (arith, long)) (omega (arith, e))) ∙ best_of_all kind limit g0 cs (omega (arith, long)))
          t.best_is

      pub next_asks : columns (take (k + 1) s) (GroupAsks kind limit g0 z') best (entry_at p k)
      next_asks = group_asks k h more.tall_is (omega (arith, more.low, heights_length s, a.lists.few, most_256 kind)) more.widest_is t.fair

      pub scan_more : (r : Entry) → layout_in r ≡ columns (take (k + 1) s) (tried kind (eqb (k + 1) (length s)) limit g0) best (entry_at p k) → Scanned kind limit g0 bound s r z' (k + 1)
      scan_more r e = record {
        starts = t.starts;
        best_is = rw (add-one k) (below_step bound _ _ _ _ _ (layout_in r) e (candidate_same k h) (best_more kind limit g0 cs k) t.best_is);
        fair = fair_step _ _ (layout_in r) e t.fair;
        sizes = more;
      }

  -- A layout whose first group ends with the component at `at` bounds the best one.
  module _ (nested : l.ask.kind ≡ Nested) (at : ℕ) (within : at < length s) where
    module _ {z : Sizes} (sizes : SizesOf (stack_in (take (at + 1) s)) z) where
      pub bound_asks : columns (take (at + 1) s) (GroupAsks Nested limit g0 z) (start none) (entry_at p at)
      bound_asks =
          subst (λ (k : Kind). columns (take (at + 1) s) (GroupAsks k limit g0 z) (start none) (entry_at p at)) nested
          (group_asks at within (rw (part at within) at sizes.tall_is) (omega (arith, sizes.low)) (rw (part at within) at sizes.widest_is) (inr (refl, omega arith)))

    module _ (b : Entry) (e : layout_in b ≡ columns (take (at + 1) s) (tried Nested (eqb (at + 1) (length s)) limit g0) (start none) (entry_at p at)) where
      best_is : layout_in b ≡ columns (take (at + 1) s) (tried kind (eqb (at + 1) (length s)) limit g0) (start none) (entry_at p at)
      best_is = subst (λ (k : Kind). layout_in b ≡ columns (take (at + 1) s) (tried k (eqb (at + 1) (length s)) limit g0) (start none) (entry_at p at)) (sym nested) e

      pub bound_under : {o : Outline} → outline_in (layout_in b) ≡ Some o → (r : Slices) → r.0 ≡ o.width.0 + 1 → Under kind limit g0 (stack_in s) (Some r)
      bound_under {o} m r f =
          let c = cond_some _ _ o m in
          let w : o.width.0 ≡ b.width.0 = ap (λ (o : Outline). o.width.0) (sym c.1) in
          let h : b.width.0 < none = ltb-true _ _ c.0 in
          (omega arith, omega (arith, no_wider narrow))
        where
          narrow : NoWorse (layout_of kind limit g0 (stack_in s)) (layout_in b).width (layout_in b).height
          narrow = no_worse_step (layout_of kind limit g0 (stack_in s)) _ _ unmet (layout_in b) best_is (candidate_same at within) (best_bound kind limit g0 (stack_in s) at (omega (arith, stack_length s)))
