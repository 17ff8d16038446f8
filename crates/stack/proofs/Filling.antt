-- One more component in the four lists.
use Prim.Native.Nat.{ℕ, ◌+◌, ◌<◌, ◌≤◌}
use mathlib.Core.Path.{◌≡◌, refl}
use mathlib.Core.Bool.{Bool, true, false}
use mir.Val.{bool_byte}
use mathlib.Core.List.{List}
use lib.ListN.{length, set}
use Rattle.terms.specs.declared.Piece.{Piece}
use Rattle.terms.specs.Pieces.{mark_of, piece_of}
use Rattle.stack.specs.File.{component_at}
use Rattle.stack.specs.Inner.{Filled}
use Rattle.terms.proofs.Pieces.{mark_kept}
use Rattle.stack.proofs.Columns.{column_none, column_step}

one_if_barred : (b : Bool) → bool_byte b ≡ mark_of b
one_if_barred true = refl
one_if_barred false = refl

module _ (file heights₀ widths₀ gaps₀ marks₀ : List ℕ) where
  pub start : Filled file 0 heights₀ widths₀ gaps₀ marks₀ heights₀ widths₀ gaps₀ marks₀
  start = record {
    heights_hold = column_none (λ c. c.height.0) file heights₀;
    widths_hold = column_none (λ c. c.width.0) file widths₀;
    gaps_hold = column_none (λ c. c.gap.0) file gaps₀;
    marks_hold = column_none (λ c. c.mark) file marks₀;
  }

  pub turn : {heights widths gaps marks : List ℕ} {i : ℕ} {p : Piece}
      → (i < length heights₀) × (i < length widths₀) × (i < length gaps₀) × (i < length marks₀)
      → (component_at file i).mark ≤ 1
      → Filled file i heights₀ widths₀ gaps₀ marks₀ heights widths gaps marks
      → p ≡ piece_of (component_at file i)
      → Filled file (i + 1) heights₀ widths₀ gaps₀ marks₀ (set heights i p.height) (set widths i p.width) (set gaps i p.gap) (set marks i (bool_byte p.barred))
  turn {heights} {widths} {gaps} {marks} {i} {p} l m f e = record {
    heights_hold = column_step (λ c. c.height.0) file heights₀ heights i p.height l.0 f.heights_hold (rw e);
    widths_hold = column_step (λ c. c.width.0) file widths₀ widths i p.width l.1 f.widths_hold (rw e);
    gaps_hold = column_step (λ c. c.gap.0) file gaps₀ gaps i p.gap l.2 f.gaps_hold (rw e);
    marks_hold = column_step (λ c. c.mark) file marks₀ marks i (bool_byte p.barred) l.3 f.marks_hold (rw (one_if_barred, e) (mark_kept (component_at file i).mark m));
  }
