-- The sum of all numbers that a reader gives one after the other. Assumes nothing.
use Rattle.std.specs.Prelude.{◌≡◌, ℕ, zero, suc, ◌+◌, ◌*◌, ◌%◌, ◌^◌, ◌<◌, ◌≤◌, List, length, Result, Ok}
use Rattle.terms.specs.Refusals.{No}
use Rattle.terms.specs.declared.Reason.{Reason}
use Rattle.bits.specs.Bits.{limit}
use Rattle.bits.specs.Reader.{Answer, got, refused, Reader}
use Rattle.bits.specs.Told.{Gives, of_read}
use Rattle.bits.specs.declared.Cursor.{Cursor}

-- a number and the sum behind it, modulo 2^64; a refusal ends the sum
unfoldable pub added : Answer No ℕ → (ℕ → ℕ) → ℕ
added (got v q) behind = (v + behind q) % 2 ^ 64
added (refused r) behind = 0

-- the sum of what m gives from the place p on, in so many turns
unfoldable pub sums : Reader No ℕ → ℕ → List ℕ → ℕ → ℕ → ℕ
sums m zero s e p = 0
sums m (suc turns) s e p = added (m s e p) (λ q. sums m turns s e q)

-- from the slice's first bit on, up to the first refusal: each number takes a bit, so that there are turns for as many as there are bits, and
-- one for the refusal
unfoldable pub total : Reader No ℕ → List ℕ → ℕ
total m s = sums m (suc (8 * length s)) s (length s) 0

-- ---- what is asked of a reader that is handed over; `post` is what a call of it is known by
-- a number that it reads takes a bit at least, and ends within the end
abbrev pub Forward : List ℕ → (Cursor → Result (ℕ × Cursor) Reason → Type 0) → Type 0
Forward s post = (c : Cursor) (v : ℕ) (d : Cursor) → post c (Ok (v, d)) → (c.at < d.at) × (d.at ≤ limit s c.end) × (d.end ≡ c.end)

-- each call answers what m gives
abbrev pub Reads : List ℕ → Reader No ℕ → (Cursor → Result (ℕ × Cursor) Reason → Type 0) → Type 0
Reads s m post = (c : Cursor) (r : Result (ℕ × Cursor) Reason) → post c r → Gives c s m (of_read r)
