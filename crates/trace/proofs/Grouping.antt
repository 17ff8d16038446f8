-- One group: where its fold is, for both kinds, and what writing it asks.
use Prim.Native.Nat.{ℕ, ◌*◌, ◌≤◌}
use mathlib.Core.Path.{◌≡◌}
use mathlib.Core.List.{List}
use mathlib.Core.Bool.{Bool}
use native.Mathlib.Omega.{arith}
use lib.ListN.{length}
use Rattle.terms.specs.declared.Kind.{Kind}
use Rattle.terms.specs.declared.Kind.TheVariants.{Apart, Nested}
use Rattle.terms.specs.Seams.{components_in}
use Rattle.terms.proofs.Answers.{most_256}
use Rattle.group.specs.Group.{may_stand}
use Rattle.group.proofs.Ways.{suits, way_end}
use Rattle.group.proofs.Falls.{apart_point}
use Rattle.group_height.specs.Heights.{HeightAsks}
use Rattle.group_trace.specs.Trace.{WriteAsks}
use Rattle.trace.specs.Trace.{GroupAsks, FoldFound}
use Rattle.layout.proofs.Columns.{columns_of, components_length}

module _ {kind : Kind} {last : Bool} {g0 : ℕ} {hs ws gs work : List ℕ} (a : GroupAsks kind last g0 hs ws gs work) where
  pub height_asks : kind ≡ Nested → HeightAsks g0 hs ws gs work
  height_asks e = record {
    table = record { columns = columns_of a.lists; few = rw e at a.lists.few; room = a.work_room };
    some = a.some;
    seams_long = a.lists.same_seams;
    gaps_low = a.lists.near;
    first_low = a.before;
    free = way_end kind last (components_in hs ws gs) a.way;
  }

module _ {kind : Kind} {last : Bool} {g0 cap : ℕ} {hs ws gs work : List ℕ} (a : GroupAsks kind last g0 hs ws gs work) where
  pub apart_found : kind ≡ Apart → FoldFound kind last g0 cap hs ws gs work (length hs)
  apart_found e =
      let n = components_length hs ws gs in
      record { point = rw e (rw n at (apart_point (may_stand Apart last) g0 (components_in hs ws gs) cap (rw e at a.way) (suits Apart last))); table = λ h. absurd (omega arith) }

  pub write_asks : {out filled : List ℕ} {p : ℕ} → 3 * length hs ≤ length out → FoldFound kind last g0 cap hs ws gs filled p → WriteAsks hs ws filled out p cap
  write_asks room f =
      let n = components_length hs ws gs in
      record {
        columns = columns_of a.lists;
        few = omega (arith, a.lists.few, most_256 kind);
        some = f.point.some;
        within = omega (arith, n, f.point.within);
        table = f.table;
        room = room;
      }
