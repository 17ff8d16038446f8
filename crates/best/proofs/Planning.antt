-- What a plan holds, and the stack that it is for, as the trace asks for them.
use Prim.Native.Nat.{ℕ, ◌*◌, ◌≤◌, ◌<◌}
use mathlib.Core.Path.{◌≡◌}
use mathlib.Core.List.{List}
use native.Mathlib.Omega.{arith}
use lib.ListN.{length}
use Rattle.std.specs.Prelude.{Option, Some, None}
use Rattle.std.proofs.lemmas.List.{length-map}
use Rattle.numbers.specs.Table.{cells}
use Rattle.terms.specs.declared.Kind.{Kind}
use Rattle.terms.specs.declared.Piece.{Piece}
use Rattle.terms.specs.Pieces.{heights_in, widths_in, seams_in, columns, stack_in}
use Rattle.terms.proofs.Answers.{most_256}
use Rattle.terms.proofs.Pieces.{heights_length}
use Rattle.folding.specs.declared.Outline.{Outline}
use Rattle.group.specs.Group.{none}
use Rattle.layout.specs.Layout.{layout_of}
use Rattle.plan.specs.Asks.{best_at, met_at}
use Rattle.plan.proofs.Outlines.{outline_met, limit_unmet}
use Rattle.layout.specs.Plan.{lists, plan_widths, plan_heights, plan_ends}
use Rattle.layout.specs.declared.Entry.{Entry}
use Rattle.layout.proofs.Columns.{components_length}
use Rattle.trace.specs.Trace.{TraceAsks, Met}
use Rattle.best.specs.Asks.{Room, Foldable}
use Rattle.best.specs.Task.{Task}

pub trace_asks : (kind : Kind) (limit : ℕ) (s : List Piece) (plan : List Entry) (out work work' : List ℕ) → columns s (Room kind) work → length s < length plan
    → length work' ≡ length work → cells ≤ length work → 3 * length (stack_in s) ≤ length out → lists plan (Met kind limit 0 (stack_in s))
    → columns s (TraceAsks kind 0 0) (plan_widths plan) (plan_ends plan) out work'
trace_asks kind limit s plan out work work' r long same room o m = record {
  lists = r.lists;
  before = omega arith;
  number = omega (arith, r.lists.few, most_256 kind);
  widths_long = omega (arith, heights_length s, length-map plan (λ (b : Entry). b.width.0));
  ends_long = omega (arith, heights_length s, length-map plan (λ (b : Entry). b.end));
  room = omega (arith, o, components_length (heights_in s) (widths_in s) (seams_in s), heights_length s);
  work_room = omega arith;
  limit = limit;
  heights = plan_heights plan;
  plan = m;
}

-- A stack that can be folded leaves the room that writing asks for.
pub write_asks : (kind : Kind) (limit : ℕ) (s : List Piece) (out work : List ℕ) → columns s (Foldable kind limit) out work → (cells ≤ length work) × (3 * length (stack_in s) ≤ length out)
write_asks kind limit s out work a = (omega (arith, a.0.room), omega (arith, a.2, components_length (heights_in s) (widths_in s) (seams_in s)))

-- What a search answers for a limit: an outline is that of the best layout, which keeps it. None says that no layout keeps it.
module _ (t now : Task) (limit : ℕ) {r : Option Outline} (same : now ≡ t) (e : r ≡ met_at now.kind limit now.components) where
  is : r ≡ met_at t.kind limit t.components
  is = rw same at e

  pub met : {o : Outline} → r ≡ Some o → (o ≡ best_at t.kind limit t.components) × ((layout_of t.kind limit 0 t.components).width < none)
  met = outline_met t.kind limit t.components is

  pub unmet : r ≡ None → none ≤ (layout_of t.kind limit 0 t.components).width
  unmet = limit_unmet t.kind limit t.components is
