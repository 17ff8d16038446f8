-- A stack as a list of pieces: its columns are as long, and what its components become as pieces gives them back.
use Prim.Native.Nat.{ℕ, zero, suc, ◌≤◌}
use mathlib.Core.Path.{◌≡◌, refl, ap}
use mathlib.Core.List.{List, [], ◌∷◌, map}
use native.Mathlib.Omega.{arith}
use lib.ListN.{length}
use lib.Dec.{eqb}
use Rattle.std.proofs.lemmas.List.{length-map}
use Rattle.terms.specs.declared.Component.{Component}
use Rattle.terms.specs.declared.Piece.{Piece}
use Rattle.terms.specs.Pieces.{mark_of, piece_of, heights_in, widths_in, seams_in, stack_in}
use Rattle.terms.proofs.Lists.{heights_of, widths_of, seams_of, AllMarked, columns}

pub heights_length : (s : List Piece) → length (heights_in s) ≡ length s
heights_length s = length-map s _

pub seams_length : (s : List Piece) → length (seams_in s) ≡ length s
seams_length s = length-map s _

pub heights_packed : (cs : List Component) → heights_in (map piece_of cs) ≡ heights_of cs
heights_packed [] = refl
heights_packed (c ∷ cs) = ap (λ l. c.height.0 ∷ l) (heights_packed cs)

pub widths_packed : (cs : List Component) → widths_in (map piece_of cs) ≡ widths_of cs
widths_packed [] = refl
widths_packed (c ∷ cs) = ap (λ l. c.width.0 ∷ l) (widths_packed cs)

pub mark_kept : (m : ℕ) → m ≤ 1 → mark_of (eqb m 1) ≡ m
mark_kept zero h = refl
mark_kept (suc zero) h = refl
mark_kept (suc (suc m)) h = absurd (omega arith)

pub seams_packed : (cs : List Component) → AllMarked cs → seams_in (map piece_of cs) ≡ seams_of cs
seams_packed [] a = refl
seams_packed (c ∷ cs) a = rw (mark_kept c.mark a.0, seams_packed cs a.1)

pub unpacked : (cs : List Component) → AllMarked cs → stack_in (map piece_of cs) ≡ cs
unpacked cs a = rw (heights_packed cs, widths_packed cs, seams_packed cs a) (columns cs a)
