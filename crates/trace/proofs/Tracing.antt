-- One step of the trace: the first group in front of the trace of the rest.
use Prim.Native.Nat.{ℕ, ◌+◌, ◌-◌, ◌*◌, ◌≤◌, ◌<◌}
use mathlib.Core.Path.{◌≡◌, refl, sym, ap, subst, ◌∙◌}
use mathlib.Core.List.{List, [], ◌∷◌, ◌++◌}
use mathlib.Core.Bool.{Bool, true, false}
use native.Mathlib.Omega.{arith}
use lib.Dec.{eqb}
use lib.ListN.{length, get_or, take, drop, length-drop, length-append}
use lib.Seq.{length-take-le, take_all, drop-drop, drop-append-add, take_at, drop-append_seam}
use borrow.Rule.Slice.PartMut.{put_mid}
use Rattle.std.proofs.lemmas.Bool.{eqb-true, eqb-false}
use Rattle.std.proofs.lemmas.List.{take-map, drop-map}
use Rattle.terms.specs.declared.Kind.{Kind}
use Rattle.terms.specs.declared.Piece.{Piece}
use Rattle.terms.specs.Pieces.{heights_in, widths_in, seams_in, columns, stack_in}
use Rattle.terms.proofs.Pieces.{heights_length}
use Rattle.layout.specs.declared.Entry.{Entry}
use Rattle.layout.specs.Plan.{plan_widths, plan_ends}
use Rattle.terms.specs.Component.{tabulate}
use Rattle.terms.specs.Seams.{gap_at, components_in}
use Rattle.terms.proofs.Answers.{most_256}
use Rattle.terms.proofs.Parts.{back}
use Rattle.folding.specs.declared.Placement.{Placement}
use Rattle.folding.specs.Placement.{placements_of}
use Rattle.group.specs.Rows.{gap}
use Rattle.group.specs.Group.{may_stand, FoldPoint, group_places, SomeWay}
use Rattle.group.specs.Table.{bare}
use Rattle.folding.specs.Placement.{flat_of}
use Rattle.group.proofs.Bare.{places_bare}
use Rattle.folding.proofs.Flat.{flat-length}
use Rattle.group.proofs.Exact.{places_length}
use Rattle.model.specs.Groups.{is_end}
use Rattle.model.specs.Layout.{candidate_for}
use Rattle.model.proofs.Scan.{layout_empty}
use Rattle.layout.specs.Layout.{groups, layout_of}
use Rattle.layout.proofs.Folds.{Folds, folds_none}
use Rattle.layout.proofs.Obeying.{Obeys}
use Rattle.trace.specs.Trace.{GroupAsks, GroupPut, Met, TraceAsks, Traced}
use Rattle.group.proofs.Gaps.{gap_behind_lem}
use Rattle.layout.proofs.Columns.{end_drop, components_length, lists_take, lists_drop, components_take, components_drop, sized_lists}
use Rattle.trace.proofs.First.{end_bounds, group_way, no_wider, rest_met, joined, placements_behind}

-- The part of a list from k on, as it is lent.
abbrev pub part : {A : Type 0} → ℕ → List A → List A
part k l = take (length l - k) (drop k l)

pub part_is : {A : Type 0} (k : ℕ) (l : List A) → part k l ≡ drop k l
part_is k l = take_all (length l - k) (drop k l) (omega (arith, length-drop k l))

-- The first pieces of a list are as many as they are.
pub first_is : {A : Type 0} (s l : List A) {k : ℕ} → l ≡ take k s → length l ≡ k → l ≡ take (length l) s
first_is s l q e = rw e q

-- Whether anything is left.
pub empty : (s : List Piece) {b : Bool} → b ≡ eqb (length s) 0 → b ≡ true → length s ≤ 0
empty s e t = omega (arith, eqb-true _ _ (sym e ∙ t))

pub not_empty : (s : List Piece) {b : Bool} → b ≡ eqb (length s) 0 → b ≡ false → 0 < length s
not_empty s e f = omega (arith, eqb-false _ _ (sym e ∙ f))

module _ {kind : Kind} {group g0 : ℕ} (s : List Piece) (plan : List Entry) {out work : List ℕ}
    (a : columns s (TraceAsks kind group g0) (plan_widths plan) (plan_ends plan) out work) (more : 0 < length s) where
  abbrev hs : List ℕ
  hs = heights_in s

  abbrev ws : List ℕ
  ws = widths_in s

  abbrev gs : List ℕ
  gs = seams_in s

  abbrev widths : List ℕ
  widths = plan_widths plan

  abbrev ends : List ℕ
  ends = plan_ends plan

  some : 0 < length hs
  some = rw (heights_length s) more

  n_is : length (components_in hs ws gs) ≡ length hs
  n_is = components_length hs ws gs

  few : length (components_in hs ws gs) ≤ 256
  few = omega (arith, n_is, a.lists.few, most_256 kind)

  some_in : 0 < length (components_in hs ws gs)
  some_in = omega (arith, n_is, some)

  pub first_asks : (0 < length ends) × (0 < get_or ends 0 0) × (get_or ends 0 0 ≤ length s)
  first_asks =
      let b = end_bounds kind a.limit g0 (components_in hs ws gs) widths a.heights ends some_in few (sized_lists a.lists) a.plan in
      (omega (arith, a.ends_long), b.0, omega (arith, b.1, n_is, heights_length s))

  module _ {k : ℕ} (e : k ≡ get_or ends 0 0) where
    k_some : 0 < k
    k_some = omega (arith, first_asks.1)

    k_within : k ≤ length hs
    k_within = omega (arith, first_asks.2, heights_length s)

    pub cap_asks : (0 < length widths) × (k < length widths) × (get_or widths k 0 ≤ get_or widths 0 0)
    cap_asks = (
      omega (arith, a.widths_long),
      omega (arith, a.widths_long, k_within),
      no_wider kind a.limit g0 (components_in hs ws gs) widths a.heights ends some_in few (sized_lists a.lists) a.plan k e,
    )

    -- Whether they stand last, as it is told.
    end_is : {last : Bool} → last ≡ eqb k (length s) → last ≡ is_end (drop k (components_in hs ws gs))
    end_is told = told ∙ ap (λ (n : ℕ). eqb k n) (sym (n_is ∙ heights_length s)) ∙ end_drop (components_in hs ws gs) k (omega (arith, k_within, n_is))

    way_in : SomeWay (may_stand kind (is_end (drop k (components_in hs ws gs)))) (take k (components_in hs ws gs))
    way_in = group_way kind a.limit g0 (components_in hs ws gs) widths a.heights ends some_in few (sized_lists a.lists) a.plan k e

    pub put_asks : {last : Bool} {first : List Piece} → last ≡ eqb k (length s) → first ≡ take k s → columns first (GroupAsks kind last g0) work × (3 * length (heights_in first) ≤ length out)
    put_asks {last} {first} told q =
        let n = length-take-le k hs k_within in
        let r : GroupAsks kind last g0 (take k hs) (take k ws) (take k gs) work = record {
          lists = lists_take a.lists k k_within;
          some = omega (arith, n, k_some);
          way = rw (components_take hs ws gs k k_within, end_is told) way_in;
          before = a.before;
          work_room = a.work_room;
        } in
        let p : columns (take k s) (GroupAsks kind last g0) work × (3 * length (heights_in (take k s)) ≤ length out) =
        (simp take-map at r, omega (arith, n, ap length (take-map (λ (p : Piece). p.height) k s), k_within, a.room)) in
        subst (λ (l : List Piece). columns l (GroupAsks kind last g0) work × (3 * length (heights_in l) ≤ length out)) (sym q) p

    pub group_put : {last : Bool} {cap : ℕ} {first : List Piece} {put : List ℕ} → first ≡ take k s → columns first (GroupPut kind last group g0 cap) out put
        → GroupPut kind last group g0 cap (take k hs) (take k ws) (take k gs) out put
    group_put {last} {cap} {first} {put} q g = simp take-map (subst (λ (l : List Piece). columns l (GroupPut kind last group g0 cap) out put) q g)

    module _ {cap : ℕ} (d : cap ≡ get_or widths 0 0 - get_or widths k 0) where
      -- The rest, behind the gap of the group's last component.
      module _ {gap-before : ℕ} (b : gap-before ≡ gap_at gs (k - 1)) where
        met_rest : (limit : ℕ) (heights : List ℕ) → Met kind limit g0 (components_in hs ws gs) widths heights ends
            → Met kind limit gap-before (components_in (drop k hs) (drop k ws) (drop k gs)) (drop k widths) (drop k heights) (drop k ends)
        met_rest limit heights m =
            let r = rest_met kind limit g0 (components_in hs ws gs) widths heights ends some_in few (sized_lists a.lists) m k e in
            rw (components_drop hs ws gs k k_within, b) (rw (gap_behind_lem hs ws gs k k_some k_within) at r)

        pub again : (put work' : List ℕ) → length put ≡ length out → length work' ≡ length work
            → columns (part k s) (TraceAsks kind (group + 1) gap-before) (plan_widths (part k plan)) (plan_ends (part k plan)) (part (3 * k) put) work'
        again put work' f g =
            let u = length-drop k hs in
            let v = length-drop k widths in
            let w = length-drop k ends in
            let z = length-drop (3 * k) put in
            let r : TraceAsks kind (group + 1) gap-before (drop k hs) (drop k ws) (drop k gs) (drop k widths) (drop k ends) (drop (3 * k) put) work' = record {
              lists = lists_drop a.lists k k_within;
              before = rw b (a.lists.near (k - 1));
              number = omega (arith, a.number, k_some, k_within);
              widths_long = omega (arith, a.widths_long, k_within);
              ends_long = omega (arith, a.ends_long, k_within);
              room = omega (arith, a.room, k_within);
              work_room = omega (arith, a.work_room);
              limit = a.limit;
              heights = drop k a.heights;
              plan = met_rest a.limit a.heights a.plan;
            } in
            rw (part_is k s, part_is k plan, part_is (3 * k) put) (simp drop-map at r)

        module _ {last : Bool} {put : List ℕ} (told : last ≡ eqb k (length s)) (g : GroupPut kind last group g0 cap (take k hs) (take k ws) (take k gs) out put) where
          group_long : length (components_in (take k hs) (take k ws) (take k gs)) ≡ k
          group_long = components_length (take k hs) (take k ws) (take k gs) ∙ length-take-le k hs k_within

          ps : List Placement
          ps = group_places cap (bare (take k hs) (take k ws)) group g.at

          ps_is : ps ≡ group_places cap (take k (components_in hs ws gs)) group g.at
          unfolding ps
          ps_is = sym (places_bare cap group g.at (take k hs) (take k ws) (take k gs)) ∙ rw (components_take hs ws gs k k_within)

          ps_long : length ps ≡ k
          unfolding ps
          ps_long =
              ap length (sym (places_bare cap group g.at (take k hs) (take k ws) (take k gs)))
              ∙ places_length cap (components_in (take k hs) (take k ws) (take k gs)) group g.at ∙ group_long

          put_is : put ≡ flat_of ps ++ drop (3 * k) out
          unfolding ps
          put_is = g.holds ∙ ap (λ (n : ℕ). flat_of ps ++ drop (3 * n) out) (length-take-le k hs k_within)

          flat_long : length (flat_of ps) ≡ 3 * k
          flat_long = omega (arith, flat-length ps, ps_long)

          put_long : length put ≡ length out
          put_long = ap length put_is ∙ omega (arith, length-append (flat_of ps) (drop (3 * k) out), flat_long, length-drop (3 * k) out, a.room, k_within)

          put_front : take (3 * k) put ≡ flat_of ps
          put_front = ap (λ (l : List ℕ). take (3 * k) l) put_is ∙ take_at (flat_of ps) (drop (3 * k) out) (3 * k) flat_long

          put_rest : drop (3 * k) put ≡ drop (3 * k) out
          put_rest = rw put_is (rw flat_long at (drop-append_seam (flat_of ps) (drop (3 * k) out)))

          -- The whole, once the rest is traced.
          module _ {new : List ℕ} (t : Traced kind (group + 1) gap-before (stack_in (part k s)) (plan_widths (part k plan)) (plan_ends (part k plan)) (part (3 * k) put) new) where
            traced_rest : Traced kind (group + 1) gap-before (drop k (components_in hs ws gs)) (drop k widths) (drop k ends) (drop (3 * k) out) new
            traced_rest =
                let r : Traced kind (group + 1) gap-before (components_in (drop k hs) (drop k ws) (drop k gs)) (drop k widths) (drop k ends) (drop (3 * k) put) new = simp drop-map (rw (part_is k s, part_is k plan, part_is (3 * k) put) at t) in
                rw (components_drop hs ws gs k k_within, put_rest) at r

            all : List ℕ
            all = flat_of ps ++ new

            rest_long : length (drop k (components_in hs ws gs)) ≡ length hs - k
            rest_long = omega (arith, length-drop k (components_in hs ws gs), n_is)

            whole_folds : (limit : ℕ) (heights : List ℕ) → Met kind limit g0 (components_in hs ws gs) widths heights ends
                → Folds kind group g0 (components_in hs ws gs) (placements_of all (length (components_in hs ws gs))) (layout_of kind limit g0 (components_in hs ws gs)).width (layout_of kind limit g0 (components_in hs ws gs)).height
            unfolding all
            whole_folds limit heights m =
                let cs = components_in hs ws gs in
                let r = traced_rest.folds limit (drop k heights) (rw (components_drop hs ws gs k k_within) at (met_rest limit heights m)) in
                let q : FoldPoint kind (is_end (drop k cs)) g0 (take k cs) (get_or widths 0 0 - get_or widths k 0) g.at = rw (components_take hs ws gs k k_within, d, end_is told) at g.point in
                let j = joined kind limit g0 cs widths heights ends some_in few (sized_lists a.lists) m k e group g.at (placements_of new (length (drop k cs))) q (rw (gap_behind_lem hs ws gs k k_some k_within, ← b) r) in
                rw (placements_behind ps new (length cs) (omega (arith, ps_long, n_is, k_within)), ps_long, ps_is, d, ← length-drop k cs) j

            pub done : Traced kind group g0 (components_in hs ws gs) widths ends out (put_mid (3 * k) (length put - 3 * k) put new)
            unfolding all
            done =
                let w : put_mid (3 * k) (length put - 3 * k) put new ≡ flat_of ps ++ new = back (3 * k) put new (omega (arith, put_long, a.room, k_within)) ∙ rw put_front in
                let n : 3 * length (components_in hs ws gs) ≡ length (flat_of ps) + 3 * (length hs - k) = omega (arith, flat_long, n_is, k_within) in
                let v : 3 * k + 3 * (length hs - k) ≡ 3 * length (components_in hs ws gs) = omega (arith, n_is, k_within) in
                rw w (record {
                  folds = whole_folds;
                  beyond = rw (n, drop-append-add (flat_of ps) new (3 * (length hs - k))) ((rw rest_long at traced_rest.beyond) ∙ drop-drop (3 * (length hs - k)) (3 * k) out ∙ rw (flat_long));
                  long = omega (arith, length-append (flat_of ps) new, flat_long, traced_rest.long, length-drop (3 * k) out, a.room, k_within);
                })

-- Nothing is left.
pub nothing : {kind : Kind} {group g0 : ℕ} (s : List Piece) {widths ends out : List ℕ} → length s ≤ 0 → Traced kind group g0 (stack_in s) widths ends out out
unfolding tabulate
nothing {kind} {group} {g0} [] h = record { folds = λ limit heights m. rw (layout_empty (λ x. gap x) (candidate_for (groups kind) limit) g0) (folds_none kind (Obeys kind) group g0 (record { unparted = tt; turned = tt })); beyond = refl; long = refl }
nothing (x ∷ s) h = absurd (omega arith)
