-- The part of a list from an index on, as it is lent and as it comes back.
use Prim.Native.Nat.{ℕ, ◌-◌, ◌≤◌}
use mathlib.Core.Path.{◌≡◌, ap, ◌∙◌}
use mathlib.Core.List.{List, ◌++◌, append-nil}
use native.Mathlib.Omega.{arith}
use lib.ListN.{length, take, drop, length-drop}
use lib.Seq.{take_all, drop-length}
use borrow.Rule.Slice.PartMut.{put_mid, Post-is}

pub from : (k : ℕ) (l : List ℕ) → take (length l - k) (drop k l) ≡ drop k l
from k l = take_all (length l - k) (drop k l) (omega (arith, length-drop k l))

pub back : (k : ℕ) (l new : List ℕ) → k ≤ length l → put_mid k (length l - k) l new ≡ take k l ++ new
back k l new h =
    ap (λ (z : List ℕ). take k l ++ (new ++ z)) (Post-is k (length l) l h ∙ drop-length l)
    ∙ ap (λ (z : List ℕ). take k l ++ z) (append-nil new)
