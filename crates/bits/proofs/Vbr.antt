-- The chunks of a VBR number, one at a time, and that a number that is read leaves the place further on. Assumes nothing.
use Prim.Native.Nat.{ℕ, zero, suc, ◌+◌, ◌-◌, ◌*◌, ◌%◌, ◌^◌, ◌≤◌, ◌<◌}
use mathlib.Core.Path.{◌≡◌, refl, sym, ap, ◌∙◌}
use mathlib.Core.List.{List}
use native.Mathlib.Nat.{mod-le, mul-mod_left, add-zero, mod-lt, mod-eq_of_lt, add-mod-mod}
use native.Mathlib.Omega.{arith}
use lib.Arith.{digits_lt}
use lib.ListN.{length}
use lib.Pow as P
use borrow.Author.Tests.{lt-ltb, le-ltb}
use Rattle.terms.specs.Refusals.{No, vbr_overflow}
use Rattle.bits.specs.declared.Cursor.{Cursor}
use Rattle.bits.specs.Reader.{got, onward, ◌>>=◌, give, require, when◌then◌else◌, turns}
use Rattle.bits.specs.Bits.{limit, read, chunks, vbr}
use Rattle.bits.specs.Told.{At, Off}
use Rattle.bits.proofs.Laws.{Reads, read_gives, limit_in, outside_range, within_range}
use Rattle.bits.proofs.Steps.{fail}

-- a shift within a word keeps the digits that stay in it
shl_mod : (x j k : ℕ) → x * 2 ^ k % 2 ^ (j + k) ≡ x % 2 ^ j * 2 ^ k
shl_mod x j k = P.mod-pow-add (x * 2 ^ k) j k ∙ rw (P.shl-shr x k, mul-mod_left x (2 ^ k), add-zero)

-- a chunk's value bits stand above the sum so far, so that adding them fits a word
pub sum_fits : (x sum shift : ℕ) → sum < 2 ^ shift → shift < 64 → sum + x * 2 ^ shift % 2 ^ 64 < 2 ^ 64
sum_fits x sum shift h l =
    let e : 64 - shift + shift ≡ 64 = omega arith in
    let m : x * 2 ^ shift % 2 ^ 64 ≡ x % 2 ^ (64 - shift) * 2 ^ shift = rw e at (shl_mod x (64 - shift) shift) in
    let p : 2 ^ (64 - shift) * 2 ^ shift ≡ 2 ^ 64 = sym (P.pow-add 2 (64 - shift) shift) ∙ ap (λ (k : ℕ). 2 ^ k) e in
    let d : x % 2 ^ (64 - shift) * 2 ^ shift + sum < 2 ^ (64 - shift) * 2 ^ shift = digits_lt (mod-lt x (P.pow_pos (64 - shift))) h in
    omega arith

-- and it stays below the next chunk's place
pub sum_low : (x sum shift k : ℕ) → sum < 2 ^ shift → x < 2 ^ k → sum + x * 2 ^ shift % 2 ^ 64 < 2 ^ (shift + k)
sum_low x sum shift k h l =
    let p : 2 ^ (shift + k) ≡ 2 ^ shift * 2 ^ k = P.pow-add 2 shift k in
    let q : 2 ^ k * 2 ^ shift ≡ 2 ^ (k + shift) = sym (P.pow-add 2 k shift) in
    let r : k + shift ≡ shift + k = omega arith in
    let d : x * 2 ^ shift + sum < 2 ^ k * 2 ^ shift = digits_lt l h in
    let d2 : x * 2 ^ shift + sum < 2 ^ (shift + k) = rw (q, r) at d in
    omega (arith, mod-le (x * 2 ^ shift) (2 ^ 64))

-- the machine's sum is the definition's
pub sum_is : (x sum shift : ℕ) → sum < 2 ^ shift → shift < 64 → (sum + x * 2 ^ shift) % 2 ^ 64 ≡ sum + x * 2 ^ shift % 2 ^ 64
sum_is x sum shift h l = sym (add-mod-mod sum (x * 2 ^ shift) (2 ^ 64)) ∙ mod-eq_of_lt (sum_fits x sum shift h l)

-- where the loop stands: what the chunks from the cursor c on give, with `sum` in hand, is what the number from c₀ on is. Each chunk takes a bit,
-- so that the turns that are left are enough
pub record Going (s : List ℕ) (w : ℕ) (c₀ c : Cursor) (shift sum : ℕ) : Type 0 where
  pub fuel : ℕ
  pub enough : limit s c.end ≤ c.at + fuel
  pub low : sum < 2 ^ shift
  pub same_end : c.end ≡ c₀.end
  pub rest : chunks (suc fuel) w shift sum s c.end c.at ≡ vbr w s c₀.end c₀.at

module _ (s : List ℕ) (e p w : ℕ) where
  pub vbr_outside : (1 ≤ w → w ≤ 32 → ⊥) → Off (vbr w) s e p vbr_overflow
  unfolding vbr
  vbr_outside h = fail _ (outside_range _ _ _ h)

pub going_start : (s : List ℕ) (w : ℕ) (c : Cursor) → 1 ≤ w → w ≤ 32 → Going s w c c 0 0
unfolding vbr ◌>>=◌ onward require turns
going_start s w c l h =
    record { fuel = 8 * length s; enough = omega (arith, limit_in s c.end); low = omega arith; same_end = refl; rest = rw (within_range 1 w 32 l h) }

module _ {s : List ℕ} {w : ℕ} {c₀ c : Cursor} {shift sum : ℕ} (g : Going s w c₀ c shift sum) where
  -- the chunk can't be read
  pub going_refused : {r : No} → Off (read w) s c.end c.at r → Off (vbr w) s c₀.end c₀.at r
  unfolding chunks ◌>>=◌ onward
  going_refused o = record { why = sym (rw o.why at g.rest) }

  module _ {v : ℕ} {d : Cursor} (r : At (read w) s c.end c.at v d) where
    -- the chunk's bits would stand behind bit 63
    pub going_over : 64 ≤ shift → Off (vbr w) s c₀.end c₀.at vbr_overflow
    unfolding chunks ◌>>=◌ onward require
    going_over o = record { why = sym (rw (r.gives, le-ltb shift 64 o) at g.rest) }

    -- the last chunk
    pub going_last : {u : ℕ} → u ≡ 2 ^ (w - 1) → shift < 64 → v < u → At (vbr w) s c₀.end c₀.at (sum + v % u * 2 ^ shift % 2 ^ 64) d
    unfolding chunks ◌>>=◌ onward require when◌then◌else◌ give
    going_last i o l =
        record {
          gives =
              rw i (sym (rw (r.gives, lt-ltb shift 64 o, lt-ltb v (2 ^ (w - 1)) (omega arith), sum_is (v % 2 ^ (w - 1)) sum shift g.low o) at g.rest));
          ends = r.ends ∙ g.same_end;
        }

    -- another chunk follows
    pub going_more : {u : ℕ} → u ≡ 2 ^ (w - 1) → shift < 64 → u ≤ v → Going s w c₀ d (shift + (w - 1)) (sum + v % u * 2 ^ shift % 2 ^ 64)
    unfolding chunks ◌>>=◌ onward require when◌then◌else◌ give
    going_more {u} i o l = rw i (go g.fuel g.enough g.rest)
      where
        reads : Reads s c.end c.at w v d.at
        reads = read_gives s c.end c.at w v d.at r.gives

        go : (f : ℕ) → limit s c.end ≤ c.at + f → chunks (suc f) w shift sum s c.end c.at ≡ vbr w s c₀.end c₀.at
            → Going s w c₀ d (shift + (w - 1)) (sum + v % 2 ^ (w - 1) * 2 ^ shift % 2 ^ 64)
        go zero n x = absurd (omega (arith, reads.some, reads.inside))
        go (suc f) n x =
            record {
              fuel = f;
              enough = rw r.ends (omega (arith, reads.some, reads.moved));
              low = sum_low (v % 2 ^ (w - 1)) sum shift (w - 1) g.low (mod-lt v (P.pow_pos (w - 1)));
              same_end = r.ends ∙ g.same_end;
              rest =
                  rw r.ends
                  (rw (r.gives, lt-ltb shift 64 o, le-ltb v (2 ^ (w - 1)) (omega arith), sum_is (v % 2 ^ (w - 1)) sum shift g.low o) at x);
            }

-- ---- for callers: where a number that is read leaves the place
pub record Ahead (s : List ℕ) (e p q : ℕ) : Type 0 where
  pub past : p < q
  pub inside : q ≤ limit s e

pub read_ahead : (s : List ℕ) (e p n v q : ℕ) → read n s e p ≡ got v q → Ahead s e p q
read_ahead s e p n v q z =
    let g = read_gives s e p n v q z in
    record { past = omega (arith, g.some, g.moved); inside = omega (arith, g.inside, g.moved) }

-- the measure of a loop that reads: less is left behind a number that is read
pub ahead_less : (s : List ℕ) (c d : Cursor) → Ahead s c.end c.at d.at → d.end ≡ c.end → limit s d.end - d.at < limit s c.end - c.at
ahead_less s c d a i = rw i (omega (arith, a.past, a.inside))
