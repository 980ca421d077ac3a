-- A loop that sums what a reader gives, turn by turn, for any reader. Assumes nothing.
use Rattle.std.proofs.Common.{◌≡◌, ℕ, zero, suc, ◌+◌, ◌*◌, ◌%◌, ◌^◌, ◌<◌, ◌≤◌, List, length, sym, ◌∙◌, mod-lt, mod-eq_of_lt, zero-add, arith, pow_pos}
use Rattle.terms.specs.Refusals.{No}
use Rattle.bits.specs.declared.Cursor.{Cursor}
use Rattle.bits.specs.Reader.{Answer, got, refused, Reader}
use Rattle.bits.specs.Bits.{limit}
use Rattle.bits.specs.Told.{At, Off}
use Rattle.bits.proofs.Laws.{limit_in}
use Rattle.bits.proofs.Vbr.{Ahead}
use Rattle.tally.specs.Total.{added, sums, total}

-- a sum fits a word
added_lt : (a : Answer No ℕ) (behind : ℕ → ℕ) → added a behind < 2 ^ 64
unfolding added
added_lt (got v q) behind = mod-lt _ (pow_pos 64)
added_lt (refused r) behind = omega arith

-- a number may be added to what is in hand, or to what is behind it
regroup : (sum v behind : ℕ) → (sum + (v + behind) % 2 ^ 64) % 2 ^ 64 ≡ ((sum + v) % 2 ^ 64 + behind) % 2 ^ 64
regroup sum v behind = omega arith

-- where the loop stands: the sum in hand and the sum of what is left are the whole. Each number takes a bit, so that the turns that are left are
-- enough
pub record Summing (m : Reader No ℕ) (s : List ℕ) (c : Cursor) (sum : ℕ) : Type 0 where
  pub turns : ℕ
  pub enough : limit s c.end ≤ c.at + turns
  pub fits : sum < 2 ^ 64
  pub rest : (sum + sums m (suc turns) s c.end c.at) % 2 ^ 64 ≡ total m s

pub summing_start : (m : Reader No ℕ) (s : List ℕ) (c : Cursor) → (c.at ≡ 0) × (c.end ≡ length s) → Summing m s c 0
unfolding total sums
summing_start m s c z =
    record {
      turns = 8 * length s;
      enough = omega (arith, limit_in s c.end);
      fits = omega arith;
      rest = rw (z.0, z.1, zero-add) (mod-eq_of_lt (added_lt (m s (length s) 0) _));
    }

module _ {m : Reader No ℕ} {s : List ℕ} {c : Cursor} {sum : ℕ} (g : Summing m s c sum) where
  pub summing_more : {v next : ℕ} {d : Cursor} → At m s c.end c.at v d → Ahead s c.end c.at d.at → next ≡ (sum + v) % 2 ^ 64
      → Summing m s d next
  unfolding sums added
  summing_more {v} {next} {d} r a i = rw i (go g.turns g.enough g.rest)
    where
      go : (t : ℕ) → limit s c.end ≤ c.at + t → (sum + sums m (suc t) s c.end c.at) % 2 ^ 64 ≡ total m s → Summing m s d ((sum + v) % 2 ^ 64)
      go zero n x = absurd (omega (arith, a.past, a.inside))
      go (suc t) n x =
          record {
            turns = t;
            enough = rw r.ends (omega (arith, a.past));
            fits = mod-lt _ (pow_pos 64);
            rest = rw r.ends (sym (regroup sum v _) ∙ (rw r.gives at x));
          }

  pub summing_over : {r : No} → Off m s c.end c.at r → sum ≡ total m s
  unfolding sums added
  summing_over o = omega (arith, g.fits, rw o.why at g.rest)
