-- The entries of the borders, the end of a walk, and a turn of the outward search, over plain lists.
use Prim.Native.Nat.{ℕ, ◌+◌, ◌-◌, ◌*◌, ◌≤◌, ◌<◌, min, max}
use mathlib.Core.Path.{◌≡◌, refl}
use mathlib.Core.List.{List, []}
use native.Mathlib.Nat.{zero-add}
use native.Mathlib.Omega.{arith}
use lib.ListN.{length, get_or}
use Rattle.terms.specs.Seams.{component_in}
use Rattle.group.specs.Rows.{tall}
use Rattle.group.specs.Group.{left_side, right_side}
use Rattle.group.specs.Table.{bare, entry}
use Rattle.group.proofs.Indices.{at_top, at_side, at_clash, at_le, rows_no_left, rows_only_left}
use Rattle.group.proofs.Falls.{rows_left_side, rows_right_side}
use Rattle.terms.proofs.Tabulate.{tabulate_end}
use Rattle.group_search.specs.declared.Run.{Run}
use Rattle.group_table.specs.declared.Stop.{Stop}
use Rattle.group_table.specs.Walks.{rest_of, Walked, Stopped}
use Rattle.group_search.specs.Inner.{Bordered, Offered, SettleAsks, Settled, Moved, TurnAsks}
use Rattle.group_search.proofs.Outwards.{adds_nothing, adds_both, turn_over, same_trans, next_row}

-- Each entry of the borders is at most the height of all components.
module _ {hs es : List ℕ} (r : Bordered hs es) where
  pub top_low : (y : ℕ) → y ≤ length hs → get_or es y 0 ≤ 512000
  top_low y l = rw (r.top [] 0 y l) (omega (arith, at_le (component_in hs [] []) (length hs) r.low 0 0 y (omega arith) l, r.few))

  pub side_low : (x : ℕ) → x ≤ length hs → get_or es (x * 65 + length hs) 0 ≤ 512000
  side_low x l = rw (r.side [] 0 x l) (omega (arith, at_le (component_in hs [] []) (length hs) r.low 0 x (length hs) l (omega arith), r.few))

-- The end of a walk.
module _ {hs ws es : List ℕ} {t : Stop} (r : SettleAsks hs ws es t) (s : Run) where
  pub settle_top : {new : List ℕ} {end : ℕ} → t.at.left ≡ 0 → Offered hs es new t.at.left t.at.right t.at.right_row s.height.0 end → Settled hs ws es new t s (record s { height = record { 0 = end }; fit = t.fit })
  settle_top {new} {end} z o = record {
    ready = o.ready;
    fit_value = refl;
    fewer = omega arith;
    clashes = λ cap h v. h;
    adds = λ c p q h l u.
        let k : rest_of hs ws c t.at ≡ t.at.right_row + entry hs ws c t.at.left t.at.right = rw z (at_top (component_in hs ws []) (length hs) c t.at.left_row t.at.right_row 0 t.at.right) in
        rw k (o.adds ws c p q (λ s v. absurd (omega arith)));
  }

  pub settle_side : {new : List ℕ} {end : ℕ} → 0 < t.at.left → t.at.right ≡ length hs → Offered hs es new t.at.left t.at.right t.at.left_row s.height.0 end → Settled hs ws es new t s (record s { height = record { 0 = end }; fit = t.fit })
  settle_side {new} {end} g z o = record {
    ready = o.ready;
    fit_value = refl;
    fewer = omega arith;
    clashes = λ cap h v. h;
    adds = λ c p q h l u.
        let k : rest_of hs ws c t.at ≡ t.at.left_row + entry hs ws c t.at.left t.at.right = at_side (component_in hs ws []) (length hs) c t.at.left_row t.at.right_row t.at.left t.at.right g (omega (arith, r.ordered, r.within)) (omega arith) in
        rw k (o.adds ws c p q (λ s v. absurd (omega arith)));
  }

  pub settle_clash : {mid new : List ℕ} {end end' a' b' : ℕ} (clash : ℕ) → 0 < t.at.left → t.at.right < length hs → a' ≡ t.at.left_row + get_or hs (t.at.left - 1) 0 → b' ≡ t.at.right_row + get_or hs t.at.right 0
      → clash ≡ min s.clash.0 (get_or ws (t.at.left - 1) 0 + get_or ws t.at.right 0) → Offered hs es mid (t.at.left - 1) t.at.right a' s.height.0 end → Offered hs mid new t.at.left (t.at.right + 1) b' end end'
      → Settled hs ws es new t s (record { height = record { 0 = end' }; fit = t.fit; clash = record { 0 = clash } })
  settle_clash {mid} {new} {end} {end'} {a'} {b'} clash g m ea eb ec o o' = record {
    ready = o'.ready;
    fit_value = refl;
    fewer = omega arith;
    clashes = λ cap h v. omega (arith, v g m);
    adds = λ c p q h l u.
        let k : rest_of hs ws c t.at ≡ min (a' + entry hs ws c (t.at.left - 1) t.at.right) (b' + entry hs ws c t.at.left (t.at.right + 1)) = rw (ea, eb) (at_clash (component_in hs ws []) (length hs) c t.at.left_row t.at.right_row t.at.left t.at.right g (omega (arith, r.ordered)) m (omega arith)) in
        rw k (adds_both (entry hs ws c) (length hs) r.ready.borders.few (o.adds ws c p q (λ s v. omega arith)) (o'.adds ws c p q (λ s v. omega arith)));
  }

-- Each side alone is as tall as its border says, and both together are no lower.
entry_left : (hs ws : List ℕ) (c p q : ℕ) → entry hs ws c p (length hs) ≤ entry hs ws c p q
entry_left hs ws c p q =
    rw (tabulate_end (component_in hs ws []) (length hs) (length hs) (omega arith), rows_only_left c (left_side p (bare hs ws)))
    (rows_left_side c (left_side p (bare hs ws)) (right_side q (bare hs ws)))

entry_right : (hs ws : List ℕ) (c p q : ℕ) → entry hs ws c 0 q ≤ entry hs ws c p q
entry_right hs ws c p q =
    rw (rows_no_left c 0 0 (right_side q (bare hs ws)), zero-add (tall (right_side q (bare hs ws))))
    (rows_right_side c (left_side p (bare hs ws)) (right_side q (bare hs ws)))

-- A turn.
module _ {hs ws es : List ℕ} {cap : ℕ} {s : Run} {p q : ℕ} (r : TurnAsks hs ws es cap s p q) where
  -- It cannot get under the height found.
  pub left_out : s.height.0 ≤ get_or es (p * 65 + q) 0 + max (get_or es (p * 65 + length hs) 0) (get_or es q 0) → Moved hs ws es es cap s s p q p (q + 1)
  left_out h = record {
    ready = r.asks.ready;
    more_fits = omega arith;
    fits = r.asks.fits;
    fewer = omega arith;
    clashes = r.asks.clashes;
    same = λ c l u. turn_over (entry hs ws c) (length hs) r.asks.ready.borders.few es p q s.height.0 r.some r.ordered r.more es s.height.0
        (adds_nothing (entry hs ws c) (length hs) r.asks.ready.borders.few es p (q + 1) s.height.0 (get_or es (p * 65 + q) 0 + entry hs ws c p q)
        (omega (arith, entry_left hs ws c p q, entry_right hs ws c p q, r.asks.ready.borders.top ws c q (omega (arith, r.more)), r.asks.ready.borders.side ws c p (omega (arith, r.ordered, r.more)))));
  }

  module _ {t : Stop} (row : ℕ) (e : row ≡ get_or es (p * 65 + q) 0) (i : Walked hs ws p q row cap s.fit.0 t) where
    pub taken : {new : List ℕ} {s' : Run} → Stopped hs ws cap t.at.left t.at.right → Settled hs ws es new t s s' → Moved hs ws es new cap s s' p q p (q + 1)
    taken {new} {s'} k d = record {
      ready = d.ready;
      more_fits = omega (arith, i.more_fits, d.fit_value);
      fits = omega (arith, i.fits r.asks.fits, d.fit_value);
      fewer = d.fewer;
      clashes = d.clashes cap r.asks.clashes k;
      same = λ c l u. turn_over (entry hs ws c) (length hs) r.asks.ready.borders.few es p q s.height.0 r.some r.ordered r.more new s'.height.0
          (rw (i.same c (omega (arith, d.fit_value)), e) at (d.adds c p (q + 1) u i.left_in (omega (arith, i.right_from))));
    }

-- Turns one after the other.
module _ {hs ws old mid : List ℕ} {cap : ℕ} {s s' : Run} {p q p' q' : ℕ} (i : Moved hs ws old mid cap s s' p q p' q') where
  pub move_on : {new : List ℕ} {s'' : Run} {p'' q'' : ℕ} → Moved hs ws mid new cap s' s'' p' q' p'' q'' → Moved hs ws old new cap s s'' p q p'' q''
  move_on j = record {
    ready = j.ready;
    more_fits = omega (arith, i.more_fits, j.more_fits);
    fits = j.fits;
    fewer = omega (arith, i.fewer, j.fewer);
    clashes = j.clashes;
    same = λ c l u. same_trans (i.same c (omega (arith, j.more_fits)) (omega (arith, j.fewer))) (j.same c l u);
  }

pub move_row : {hs ws old es : List ℕ} {cap : ℕ} {s s' : Run} {p q p' : ℕ} → 0 < p' → p' ≤ length hs → Moved hs ws old es cap s s' p q p' (length hs)
    → Moved hs ws old es cap s s' p q (p' - 1) (p' - 1)
move_row {hs} {ws} {old} {es} {cap} {s} {s'} {p} {q} {p'} g l i = record {
  ready = i.ready;
  more_fits = i.more_fits;
  fits = i.fits;
  fewer = i.fewer;
  clashes = i.clashes;
  same = λ c h u. same_trans (i.same c h u) (next_row (entry hs ws c) (length hs) i.ready.borders.few es p' s'.height.0 g l);
}
