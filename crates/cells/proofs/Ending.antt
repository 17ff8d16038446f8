-- The ends that are written while cells are put.
use Prim.Native.Nat.{ℕ, ◌+◌, ◌-◌, ◌≤◌, ◌<◌}
use mathlib.Core.Path.{◌≡◌, refl, sym, ap, ◌∙◌}
use mathlib.Core.List.{List, [], ◌∷◌, ◌++◌, append_assoc}
use mathlib.Core.Bool.{Bool, true, false, cond}
use mathlib.Core.Logic.{inl, inr}
use native.Mathlib.Omega.{arith}
use lib.ListN.{length, drop, take, get_or, set, length-set}
use lib.Dec.{leb}
use Rattle.std.proofs.lemmas.Bool.{leb-false, cases_eq}
use Rattle.std.proofs.lemmas.List.{drop_all, take_more, take-set, drop-set-lt, get_or-set_same}
use Rattle.cells.specs.declared.Filling.{Filling}
use Rattle.cells.specs.Calls.{tallest_cell}
use Rattle.cells.specs.Filling.{filled_behind, filled, growing, put, none_put, stacks_in, Put, PutEnds, RowAsks, Ended}
use Rattle.cells.proofs.Heights.{tallest_at}
use Rattle.cells.proofs.Fills.{some_stack}
use Rattle.cells.proofs.Putting.{none, one, onto, next, opens_onto, opens_next, put_onto, put_next, put_more, put_all}

pub none_ended : (hs : List ℕ) (limit : ℕ) (ends : List ℕ) → PutEnds hs limit (none_put limit) 0 ends ends
none_ended hs limit ends =
    let z : limit - limit ≡ 0 = omega arith in
    record {
      put = none hs limit;
      written = ap (λ (g : ℕ). filled_behind limit 0 g hs) z;
      last = λ l. absurd (omega (arith, l));
      beyond = λ k l. refl;
      same_length = refl;
    }

module _ (hs : List ℕ) (limit : ℕ) (f : Filling) (at : ℕ) (ends new : List ℕ) (p : PutEnds hs limit f at ends new) (room : length (filled limit hs) ≤ length ends) where
  has_place : f.full < length new
  has_place = omega (arith, room, p.same_length, p.put.count_is, ap (λ (l : ℕ). length (filled l hs)) p.put.limit_is, some_stack f.limit at (growing f) (drop at hs))

  module _ (some : at < length hs) (tall : tallest_cell hs ≤ limit) where
    abbrev h : ℕ
    h = get_or hs at 0

    abbrev after : Filling → List ℕ
    after g = filled_behind f.limit (at + 1) (growing g) (drop (at + 1) hs)

    -- Not the first cell begins the next stack.
    begun : leb h f.left ≡ false → 0 < at
    begun e = elim (cases_eq at 0) [ inl z ↦ absurd (omega (arith, leb-false _ _ e, p.put.first z, p.put.limit_is, tall, tallest_at hs at)) | inr z ↦ omega (arith, z) ]

    -- The stacks that are full have their ends, and the others are those of the rest.
    ends_onto : leb h f.left ≡ true → take f.full new ++ after (onto hs f at) ≡ filled f.limit hs
    ends_onto e =
        ap (λ (l : List ℕ). take f.full new ++ l) (sym (opens_onto hs f at some p.put.low (one hs limit f at some tall p.put) e)) ∙ p.written

    ends_next : leb h f.left ≡ false → take (f.full + 1) new ++ after (next hs f at) ≡ filled f.limit hs
    ends_next e =
        ap (λ (l : List ℕ). l ++ after (next hs f at)) (take_more new f.full 0 has_place ∙ ap (λ (v : ℕ). take f.full new ++ v ∷ []) (p.last (begun e)))
        ∙ append_assoc (take f.full new) (at ∷ []) (after (next hs f at))
        ∙ ap (λ (l : List ℕ). take f.full new ++ l) (sym (opens_next hs f at some p.put.low (one hs limit f at some tall p.put) e))
        ∙ p.written

    put_ends : (g : Filling) → Put hs limit g (at + 1) → f.full ≤ g.full → g.full < length new → take g.full new ++ filled_behind g.limit (at + 1) (growing g) (drop (at + 1) hs) ≡ filled g.limit hs
        → PutEnds hs limit g (at + 1) ends (set new g.full (at + 1))
    put_ends g q l m e = record {
      put = q;
      written = ap (λ (l : List ℕ). l ++ filled_behind g.limit (at + 1) (growing g) (drop (at + 1) hs)) (take-set new g.full (at + 1)) ∙ e;
      last = λ n. get_or-set_same new g.full (at + 1) 0 m;
      beyond = λ k n. drop-set-lt k new g.full (at + 1) n ∙ p.beyond k (omega (arith, l, n));
      same_length = length-set new g.full (at + 1) ∙ p.same_length;
    }

    placed : (g : Filling) → Put hs limit g (at + 1) → g.full < length new
    placed g q = omega (arith, room, p.same_length, q.count_is, ap (λ (l : ℕ). length (filled l hs)) q.limit_is, some_stack g.limit (at + 1) (growing g) (drop (at + 1) hs))

    pub place : (put f h).full < length new
    place = placed (put f h) (put_more hs limit f at some tall p.put)

    pub ends_more : PutEnds hs limit (put f h) (at + 1) ends (set new (put f h).full (at + 1))
    ends_more = go (leb h f.left) refl
      where
        go : (t : Bool) → leb h f.left ≡ t
            → PutEnds hs limit (cond t (onto hs f at) (next hs f at)) (at + 1) ends (set new (cond t (onto hs f at) (next hs f at)).full (at + 1))
        go true e =
            let q = put_onto hs limit f at some tall p.put e in
            put_ends (onto hs f at) q (omega arith) (placed (onto hs f at) q) (ends_onto e)
        go false e =
            let q = put_next hs limit f at some tall p.put e in
            put_ends (next hs f at) q (omega arith) (placed (next hs f at) q) (ends_next e)

-- Behind the last cell.
module _ (hs : List ℕ) (limit : ℕ) (asks : RowAsks hs limit) (f : Filling) (at : ℕ) (ends new : List ℕ) (p : PutEnds hs limit f at ends new) (room : length (filled limit hs) ≤ length ends) (all : at ≡ length hs) where
  last_end : take f.full new ++ at ∷ [] ≡ filled limit hs
  unfolding filled_behind
  last_end = rw (drop_all at hs (omega (arith, all))) at p.written ∙ ap (λ (l : ℕ). filled l hs) p.put.limit_is

  pub all_ended : Ended hs limit ends new (stacks_in f)
  all_ended = record {
    stacks = put_all hs limit asks f at (omega (arith, all)) p.put;
    written =
        take_more new f.full 0 (has_place hs limit f at ends new p room)
        ∙ ap (λ (v : ℕ). take f.full new ++ v ∷ []) (p.last (omega (arith, all, asks.row.some)))
        ∙ last_end;
    beyond = p.beyond (f.full + 1) (omega arith);
    same_length = p.same_length;
  }
