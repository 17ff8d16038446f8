-- The writing of one group, turn by turn: what lies between the two sides that are still to be placed is written.
use Prim.Native.Nat.{ℕ, ◌+◌, ◌-◌, ◌*◌, ◌≤◌, ◌<◌}
use mathlib.Core.Path.{◌≡◌, refl, sym, ap, ◌∙◌}
use mathlib.Core.List.{List, [], ◌∷◌, ◌++◌, reverse_aux, append-nil, append_assoc}
use native.Mathlib.Omega.{arith}
use lib.ListN.{length, take, drop, length-append, take-append-drop}
use lib.Seq.{length-take-le, take-append-le, take-take, take_at, drop_at, drop-drop, append_snoc}
use Rattle.folding.specs.declared.Placement.{Placement}
use Rattle.group.specs.Rows.{Starts}
use Rattle.group.specs.Group.{on_left, on_right, group_places}
use Rattle.group.specs.Table.{bare}
use Rattle.folding.specs.Placement.{flat_of}
use Rattle.group_table.specs.declared.Standing.{Standing}
use Rattle.group_trace.specs.declared.Side.{Side}
use Rattle.group_trace.specs.declared.Side.TheVariants.{Left, Right}
use Rattle.group_trace.specs.declared.Turn.{Turn}
use Rattle.group_trace.specs.Trace.{WriteAsks, starts_of, side_number, Turned}
use Rattle.folding.proofs.Flat.{flat_append, flat-length}
use Rattle.group_trace.proofs.Sides.{place_none, right_end}

-- The list in three parts: as it was, written, as it was.
module _ (old : List ℕ) where
  front : (rest : List ℕ) (m n : ℕ) → m ≤ n → n ≤ length old → take m (take n old ++ rest) ≡ take m old
  front rest m n h k = take-append-le m (take n old) rest (omega (arith, length-take-le n old k)) ∙ take-take m n old h

  wrote_left : (f rest : List ℕ) (p g a : ℕ) → 0 < p → 3 * p ≤ length old
      → take (3 * (p - 1)) (take (3 * p) old ++ (f ++ rest)) ++ (g ∷ 0 ∷ a ∷ drop (3 * (p - 1) + 3) (take (3 * p) old ++ (f ++ rest))) ≡ take (3 * (p - 1)) old ++ ((g ∷ 0 ∷ a ∷ f) ++ rest)
  wrote_left f rest p g a s h =
      let e : 3 * (p - 1) + 3 ≡ 3 * p = omega arith in
      rw (e, front (f ++ rest) (3 * (p - 1)) (3 * p) (omega arith) h, drop_at (take (3 * p) old) (f ++ rest) (3 * p) (length-take-le (3 * p) old h)) refl

  wrote_right : (f : List ℕ) (p q g b : ℕ) → 3 * p ≤ length old → length f + 3 * p ≡ 3 * q
      → take (3 * q) (take (3 * p) old ++ (f ++ drop (3 * q) old)) ++ (g ∷ 1 ∷ b ∷ drop (3 * q + 3) (take (3 * p) old ++ (f ++ drop (3 * q) old))) ≡ take (3 * p) old ++ ((f ++ (g ∷ 1 ∷ b ∷ [])) ++ drop (3 * (q + 1)) old)
  wrote_right f p q g b h k =
      let t = take (3 * p) old in
      let d = drop (3 * q) old in
      let n : length (t ++ f) ≡ 3 * q = omega (arith, length-append t f, length-take-le (3 * p) old h) in
      let e : 3 * q + 3 ≡ 3 * (q + 1) = omega arith in
      rw (← append_assoc t f d, take_at (t ++ f) d (3 * q) n, ← drop-drop 3 (3 * q) (t ++ f ++ d), drop_at (t ++ f) d (3 * q) n, drop-drop 3 (3 * q) old, e, append_assoc t f (g ∷ 1 ∷ b ∷ drop (3 * (q + 1)) old), append_assoc f (g ∷ 1 ∷ b ∷ []) (drop (3 * (q + 1)) old)) refl

pub record Writing (hs ws old : List ℕ) (g from cap : ℕ) (out : List ℕ) (at : Standing) : Type 0 where
  pub mid : List Placement
  pub count : length mid + at.left ≡ at.right
  pub below : at.left ≤ from
  pub above : from ≤ at.right
  pub within : at.right ≤ length hs
  pub low_left : at.left_row ≤ 4000 * (at.right - at.left)
  pub low_right : at.right_row ≤ 4000 * (at.right - at.left)
  pub whole : reverse_aux (on_left g (starts_of cap (bare hs ws) at).on_the_left) (mid ++ on_right g (starts_of cap (bare hs ws) at).on_the_right) ≡ group_places cap (bare hs ws) g from
  pub written : out ≡ take (3 * at.left) old ++ (flat_of mid ++ drop (3 * at.right) old)
  pub long : length out ≡ length old

module _ {hs ws es old : List ℕ} {from cap : ℕ} (s : WriteAsks hs ws es old from cap) (g : ℕ) where
  pub start : Writing hs ws old g from cap old (record { left = from; right = from; left_row = 0; right_row = 0 })
  unfolding group_places
  start = record {
    mid = [];
    count = omega arith;
    below = omega arith;
    above = omega arith;
    within = s.within;
    low_left = omega arith;
    low_right = omega arith;
    whole = refl;
    written = sym (take-append-drop (3 * from) old);
    long = refl;
  }

  module _ {out : List ℕ} {at : Standing} (i : Writing hs ws old g from cap out at) where
    -- What the start rows of the rest make with the part that is written.
    abbrev whole_of : List Placement → Starts → List Placement
    whole_of ps t = reverse_aux (on_left g t.on_the_left) (ps ++ on_right g t.on_the_right)

    module _ {t : Turn} (n : Turned cap hs ws at t) where
      pub one_more : (k : ℕ) → at.left + k ≡ at.right → t.next.left + (k + 1) ≡ t.next.right
      one_more k c = go t.side refl
        where
          go : (side : Side) → t.side ≡ side → t.next.left + (k + 1) ≡ t.next.right
          go Left l = rw (n.to_left l).1 (omega (arith, (n.to_left l).0, c))
          go Right l = rw (n.to_right l).1 (omega (arith, c))

      module _ {new : List ℕ} (len : length new ≡ length out) (e : new ≡ take (3 * t.index) out ++ (g ∷ side_number t.side ∷ t.start ∷ drop (3 * t.index + 3) out)) where
        left_more : t.side ≡ Left → Writing hs ws old g from cap new t.next
        left_more l =
            let h = n.to_left l in
            rw h.1 record {
              mid = record { group = g; side = 0; start = at.left_row } ∷ i.mid;
              count = omega (arith, h.0, i.count);
              below = omega (arith, i.below);
              above = i.above;
              within = i.within;
              low_left = omega (arith, h.0, n.low, i.low_left, i.low_right, i.count);
              low_right = omega (arith, h.0, n.low, i.low_left, i.low_right, i.count);
              whole = ap (λ (z : Starts). whole_of i.mid z) (sym (rw h.1 at h.2)) ∙ i.whole;
              written =
                  (rw h.1 at e)
                  ∙ rw i.written
                  (wrote_left old (flat_of i.mid) (drop (3 * at.right) old) at.left g at.left_row h.0 (omega (arith, s.room, i.count, i.within)));
              long = len ∙ i.long;
            }

        right_more : t.side ≡ Right → Writing hs ws old g from cap new t.next
        right_more l =
            let h = n.to_right l in
            let y : Placement = record { group = g; side = 1; start = at.right_row } in
            let z = starts_of cap (bare hs ws) t.next in
            rw h.1 record {
              mid = i.mid ++ (y ∷ []);
              count = omega (arith, i.count, length-append i.mid (y ∷ []));
              below = i.below;
              above = omega (arith, i.above);
              within = omega (arith, h.0);
              low_left = omega (arith, n.low, i.low_left, i.low_right, i.count);
              low_right = omega (arith, n.low, i.low_left, i.low_right, i.count);
              whole =
                  rw h.1 at (
                  ap (λ (k : List Placement). reverse_aux (on_left g z.on_the_left) k) (append_snoc i.mid y (on_right g z.on_the_right))
                  ∙ ap (λ (k : Starts). whole_of i.mid k) (sym h.2) ∙ i.whole
                  );
              written =
                  (rw h.1 at e)
                  ∙ rw (i.written, flat_append i.mid (y ∷ []))
                  (wrote_right old (flat_of i.mid) at.left at.right g at.right_row (omega (arith, s.room, i.count, i.within)) (omega (arith, flat-length i.mid, i.count)));
              long = len ∙ i.long;
            }

        -- The component is written, and the sides stand where the turn says.
        pub turn_more : Writing hs ws old g from cap new t.next
        turn_more = go t.side refl
          where
            go : (side : Side) → t.side ≡ side → Writing hs ws old g from cap new t.next
            go Left l = left_more l
            go Right l = right_more l

    pub ended : length hs ≤ at.right - at.left → out ≡ flat_of (group_places cap (bare hs ws) g from) ++ drop (3 * length hs) old
    ended h =
        let z : at.left ≡ 0 = omega (arith, i.within) in
        let e : at.right ≡ length hs = omega (arith, i.within) in
        i.written ∙ rw (z, e) (ap (λ (ps : List Placement). flat_of ps ++ drop (3 * length hs) old) (none_left z e))
      where
        none_left : at.left ≡ 0 → at.right ≡ length hs → i.mid ≡ group_places cap (bare hs ws) g from
        none_left z e =
            let d : starts_of cap (bare hs ws) at ≡ record { on_the_left = []; on_the_right = [] } = rw (z, right_end hs ws at.right (omega arith)) (place_none cap at.left_row at.right_row) in
            sym (append-nil i.mid) ∙ ap (λ (k : Starts). whole_of i.mid k) (sym d) ∙ i.whole
