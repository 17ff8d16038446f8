-- Filling the table: rows from the top, each from the right.
use Prim.Native.Nat.{ℕ, ◌+◌, ◌-◌, ◌*◌, ◌≤◌, ◌<◌}
use mathlib.Core.Path.{◌≡◌, refl, sym, ◌∙◌, subst}
use mathlib.Core.Logic.{⊎_elim}
use mathlib.Core.List.{List, []}
use native.Mathlib.Nat.{eq-or-lt_of_le, zero-add}
use native.Mathlib.Omega.{arith}
use lib.ListN.{length, get_or, set, length-set}
use lib.Seq.{get_or-set_same, get_or-set_other}
use Rattle.terms.specs.Seams.{component_in}
use Rattle.group.specs.Table.{entry, Columns}
use Rattle.group_table.specs.Inner.{Right, Low, TopDone, SideDone}
use Rattle.group.proofs.Indices.{corner, top_next, side_next}

-- Row 0 is filled down to column q.
pub record Top (hs es : List ℕ) (q : ℕ) : Type 0 where
  pub room : 4225 ≤ length es
  pub high : q ≤ length hs
  pub small : get_or es q 0 ≤ 4000 * (length hs - q)
  pub row : TopDone hs es q

module _ {hs es : List ℕ} (r : Low hs es) where
  top_corner : get_or (set es (length hs) 0) (length hs) 0 ≡ 0
  top_corner = get_or-set_same es (length hs) 0 0 (omega (arith, r.few, r.room))

  pub top_start : Top hs (set es (length hs) 0) (length hs)
  top_start = record {
    room = simp length-set r.room;
    high = omega arith;
    small = rw top_corner (omega arith);
    row = λ ws c b l u.
        subst (λ (k : ℕ). get_or (set es (length hs) 0) k 0 ≡ entry hs ws c 0 k) (let k : length hs ≡ b = omega arith in k)
        (top_corner ∙ sym (corner (component_in hs ws []) (length hs) c (length hs) (omega arith)));
  }

  module _ {now : List ℕ} {q : ℕ} (i : Top hs now q) (more : 0 < q) (s : ℕ) (e : s ≡ get_or now (q - 1 + 1) 0 + get_or hs (q - 1) 0) where
    same : get_or (set now (q - 1) s) (q - 1) 0 ≡ s
    same = get_or-set_same now (q - 1) s 0 (omega (arith, i.room, i.high, r.few))

    back : q - 1 + 1 ≡ q
    back = omega arith

    pub top_stored : Top hs (set now (q - 1) s) (q - 1)
    top_stored = record {
      room = simp length-set i.room;
      high = omega (arith, i.high);
      small = omega (arith, same, rw back at e, r.low (q - 1), i.small, i.high);
      row = λ ws c b l u. ⊎_elim
          (λ (n : q - 1 ≡ b). subst (λ (k : ℕ). get_or (set now (q - 1) s) k 0 ≡ entry hs ws c 0 k) n
          (omega (arith, same, e, i.row ws c (q - 1 + 1) (omega arith) (omega (arith, i.high)), top_next (component_in hs ws []) (length hs) c (q - 1) (omega (arith, i.high)))))
          (λ (n : q - 1 < b). get_or-set_other now (q - 1) b s 0 (λ z. omega arith) ∙ i.row ws c b (omega arith) u)
          (eq-or-lt_of_le l);
    }

-- The last column is filled down to row p.
pub record Side (hs old es : List ℕ) (p : ℕ) : Type 0 where
  pub long : length es ≡ length old
  pub high : p ≤ length hs
  pub small : get_or es (p * 65 + length hs) 0 ≤ 4000 * p
  pub col : SideDone hs old es p

module _ {hs old : List ℕ} (r : Low hs old) where
  pub side_start : get_or old (length hs) 0 ≡ 0 → Side hs old old 0
  side_start z = record {
    long = refl;
    high = omega arith;
    small = rw zero-add (omega arith);
    col = record {
      done = λ ws c a l.
          subst (λ (k : ℕ). Right hs ws old c k (length hs)) (let k : 0 ≡ a = omega arith in k)
          (rw (zero-add (length hs)) (z ∙ sym (corner (component_in hs ws []) (length hs) c (length hs) (omega arith))));
      kept = λ i l. refl;
    };
  }

  module _ {es : List ℕ} {p : ℕ} (i : Side hs old es p) (more : p < length hs) (s : ℕ) (e : s ≡ get_or es (p * 65 + length hs) 0 + get_or hs p 0) where
    same_side_lem : get_or (set es ((p + 1) * 65 + length hs) s) ((p + 1) * 65 + length hs) 0 ≡ s
    same_side_lem = get_or-set_same es ((p + 1) * 65 + length hs) s 0 (omega (arith, r.few, r.room, i.long))

    pub side_stored : Side hs old (set es ((p + 1) * 65 + length hs) s) (p + 1)
    side_stored = record {
      long = length-set es ((p + 1) * 65 + length hs) s ∙ i.long;
      high = omega arith;
      small = omega (arith, same_side_lem, r.low p, i.small);
      col = record {
        done = λ ws c a l. ⊎_elim
            (λ (n : a ≡ p + 1). subst (λ (k : ℕ). Right hs ws (set es ((p + 1) * 65 + length hs) s) c k (length hs)) (sym n)
            (omega (arith, same_side_lem, i.col.done ws c p (omega arith), side_next (component_in hs ws []) (length hs) c p (length hs) more (omega arith))))
            (λ (n : a < p + 1). get_or-set_other es ((p + 1) * 65 + length hs) (a * 65 + length hs) s 0 (λ z. omega arith) ∙ i.col.done ws c a (omega arith))
            (eq-or-lt_of_le l);
        kept = λ j l. get_or-set_other es ((p + 1) * 65 + length hs) j s 0 (λ z. omega arith) ∙ i.col.kept j l;
      };
    }

-- The rows above row p are filled, and so are the borders.
pub record Tabling (hs ws es : List ℕ) (cap p : ℕ) : Type 0 where
  pub done : (a b : ℕ) → a < p → a ≤ b → b ≤ length hs → Right hs ws es cap a b
  pub side : (a : ℕ) → a ≤ length hs → Right hs ws es cap a (length hs)

module _ {hs ws : List ℕ} (cap : ℕ) (g : Columns hs ws) (few : length hs ≤ 64) where
  pub borders : {es : List ℕ} → 4225 ≤ length es → Low hs es
  borders r = record { few = few; low = g.low; room = r }

  pub corner_empty : (es : List ℕ) → TopDone hs es 0 → get_or es (length hs) 0 ≡ 0
  corner_empty es t = t ws cap (length hs) (omega arith) (omega arith) ∙ corner (component_in hs ws []) (length hs) cap (length hs) (omega arith)
