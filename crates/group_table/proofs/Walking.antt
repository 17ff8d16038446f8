-- The end of a walk in a table whose entries are there already.
use Prim.Native.Nat.{ℕ, ◌+◌, ◌-◌, ◌*◌, ◌≤◌, ◌<◌}
use mathlib.Core.Path.{◌≡◌, sym, ap, ◌∙◌}
use mathlib.Core.Logic.{◌⊎◌, inl, inr}
use mathlib.Core.List.{List, []}
use native.Mathlib.Nat.{zero-add}
use native.Mathlib.Omega.{arith}
use lib.ListN.{length, get_or}
use Rattle.terms.specs.Seams.{component_in}
use Rattle.group.specs.Table.{entry, most_entry}
use Rattle.terms.proofs.Order.{order}
use Rattle.group_table.specs.declared.Stop.{Stop}
use Rattle.group_table.specs.Walks.{rest_of, Walked, Stopped}
use Rattle.group_table.specs.Inner.{Ready, Ending, Ended}
use Rattle.group.proofs.Indices.{at_top, at_side, at_clash, at_le}

module _ {hs ws es : List ℕ} {p q cap : ℕ} (r : Ready hs ws es cap p q) where
  few : length hs ≤ 64
  few = r.asks.few

  low : (i : ℕ) → get_or hs i 0 ≤ 4000
  low = r.asks.columns.low

  entry_le : (c d : ℕ) → c ≤ p → q ≤ d → d ≤ length hs → c + q < p + d → get_or es (c * 65 + d) 0 ≤ most_entry
  entry_le c d l u v s = rw (r.right c d l u v s) (omega (arith, at_le (component_in hs ws []) (length hs) low cap c d (omega (arith, r.within)) v, few, r.within))

  module _ {t : Stop} (i : Walked hs ws p q 0 cap 0 t) where
    pub ending : Ending hs es t.at
    ending = record {
      few = few;
      low = low;
      room = r.asks.room;
      left_in = omega (arith, i.left_in, r.within);
      right_in = i.right_in;
      left_low = omega (arith, i.left_low, r.within, few);
      right_low = omega (arith, i.right_low, i.right_in, few);
      top = λ z. omega (arith, rw (zero-add t.at.right) at (entry_le 0 t.at.right (omega arith) i.right_from i.right_in (omega (arith, r.some, i.right_from))));
      side = λ z e. entry_le t.at.left t.at.right i.left_in i.right_from i.right_in (omega (arith, r.more, i.left_in));
      left_comes_first = λ z e. entry_le (t.at.left - 1) t.at.right (omega (arith, i.left_in)) i.right_from i.right_in (omega (arith, i.left_in, i.right_from));
      right_first = λ z e. entry_le t.at.left (t.at.right + 1) i.left_in (omega (arith, i.right_from)) (omega arith) (omega (arith, i.left_in, i.right_from));
    }

    -- What the end says is what the walk still gives.
    ended_is : (v : ℕ) → Ended hs es t.at v → Stopped hs ws cap t.at.left t.at.right → v ≡ rest_of hs ws cap t.at
    ended_is v d f = go (order t.at.left 0) (order (length hs) t.at.right)
      where
        go : (t.at.left ≤ 0) ⊎ (0 < t.at.left) → (length hs ≤ t.at.right) ⊎ (t.at.right < length hs) → v ≡ rest_of hs ws cap t.at
        go (inl z) w =
            let e : t.at.left ≡ 0 = omega arith in
            rw (e, at_top (component_in hs ws []) (length hs) cap t.at.left_row t.at.right_row p t.at.right)
            (d.top e ∙ ap (λ (k : ℕ). t.at.right_row + k) (rw (zero-add t.at.right) at (r.right 0 t.at.right (omega arith) i.right_from i.right_in (omega (arith, r.some, i.right_from)))))
        go (inr z) (inl w) =
            d.side z (omega (arith, i.right_in))
            ∙ ap (λ (k : ℕ). t.at.left_row + k) (r.right t.at.left t.at.right i.left_in i.right_from i.right_in (omega (arith, r.more, i.left_in)))
            ∙ sym (at_side (component_in hs ws []) (length hs) cap t.at.left_row t.at.right_row t.at.left t.at.right z (omega (arith, i.left_in, r.within)) w)
        go (inr z) (inr w) =
            d.clash z w
            ∙ rw (r.right (t.at.left - 1) t.at.right (omega (arith, i.left_in)) i.right_from i.right_in (omega (arith, i.left_in, i.right_from)), r.right t.at.left (t.at.right + 1) i.left_in (omega (arith, i.right_from)) (omega arith) (omega (arith, i.left_in, i.right_from)))
            (sym (at_clash (component_in hs ws []) (length hs) cap t.at.left_row t.at.right_row t.at.left t.at.right z (omega (arith, i.left_in, r.within)) w (f z w)))

    pub walk_ends : (v : ℕ) → Ended hs es t.at v → Stopped hs ws cap t.at.left t.at.right → v ≡ entry hs ws cap p q
    walk_ends v d f = ended_is v d f ∙ i.same cap (i.fits (omega arith)) ∙ zero-add (entry hs ws cap p q)
