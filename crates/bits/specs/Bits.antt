-- Bits, fields, VBR numbers and the cursor's small calls (01, "Bits and VBR"). Assumes nothing.
use Rattle.std.specs.Prelude.{Bool, ◌&&◌, List, [], ℕ, zero, suc, ◌+◌, ◌-◌, ◌*◌, ◌/◌, ◌%◌, ◌^◌, min, get_or, length, take, drop, ℤ, pos, negsuc, neg_ℤ, ltb, leb, eqb}
use Rattle.terms.specs.Limits.{max_input}
use Rattle.terms.specs.Refusals.{No, buffer_overflow, vbr_overflow, alignment}
use Rattle.bits.specs.Reader.{Answer, got, refused, Reader, ◌>>=◌, ◌>>◌, give, stop, require, when◌then◌else◌, here, turns}

-- "Bit i of the stream is bit i mod 8 of byte i/8"
unfoldable pub bit : List ℕ → ℕ → ℕ
bit s i = get_or s (i / 8) 0 / 2 ^ (i % 8) % 2

-- "a field's first bit is its lowest": n bits from the place p on
unfoldable pub field : List ℕ → ℕ → ℕ → ℕ
field s p zero = 0
field s p (suc n) = bit s p + 2 * field s (p + 1) n

-- 8 × length, where length is "the least of the cursor's end, the slice and 16,777,216, in bytes"
unfoldable pub limit : List ℕ → ℕ → ℕ
limit s e = 8 * min e (min (length s) max_input)

-- lo ≤ n ≤ hi
abbrev pub in_range : ℕ → ℕ → ℕ → Bool
in_range lo hi n = leb lo n && leb n hi

-- ---- fields and moves that end within the length; else 2
unfoldable pub field_at : ℕ → Reader No ℕ
field_at n = λ s e p. when leb (p + n) (limit s e) then got (field s p n) (p + n) else refused buffer_overflow

unfoldable pub reach : (ℕ → ℕ) → Reader No (Unit {0})
reach to = λ s e p. when leb (to p) (limit s e) then got tt (to p) else refused buffer_overflow

-- "Read of n bits: n outside 1..64 gives 3. Else it succeeds exactly if place + n ≤ 8 × length; else 2"
unfoldable pub read : ℕ → Reader No ℕ
read n = do
  require (in_range 1 64 n) vbr_overflow
  field_at n

-- "Align: to the next multiple of 32 bits, none if already there; 2 if past the end"
unfoldable pub align : Reader No (Unit {0})
align = reach (λ p. (p + 31) / 32 * 32)

-- ---- VBR: "each chunk holds width−1 value bits and a top bit for 'more'"; `shift` is where the next chunk's bits go, `acc` the value so far
-- "A chunk is read first (2 if it can't be); a chunk whose shift is 64 or more is then refused with 3. Value bits past bit 63 are dropped"
unfoldable pub chunks : ℕ → ℕ → ℕ → ℕ → Reader No ℕ
chunks zero w shift acc = stop buffer_overflow
chunks (suc k) w shift acc = do
  c ← read w
  require (ltb shift 64) vbr_overflow
  let v = (acc + c % 2 ^ (w - 1) * 2 ^ shift) % 2 ^ 64
  when ltb c (2 ^ (w - 1)) then give v else chunks k w (shift + (w - 1)) v

-- "VBR of width 1..32 .. Other widths: 3"
unfoldable pub vbr : ℕ → Reader No ℕ
vbr w = do
  require (in_range 1 32 w) vbr_overflow
  turns (λ k. chunks k w 0 0)

-- ---- the cursor's other calls
-- a read that stays where it is, and whose every refusal is 2: "Peek with n outside 1..64 gives 2"
unfoldable pub staying : ℕ → Answer No ℕ → Answer No ℕ
staying p (got v q) = got v p
staying p (refused r) = refused buffer_overflow

unfoldable pub peek : ℕ → Reader No ℕ
peek n = λ s e p. staying p (read n s e p)

-- over n bytes: "off a byte boundary give 4, else 2 if short"
unfoldable pub skip : ℕ → Reader No (Unit {0})
skip n = do
  p ← here
  require (eqb (p % 8) 0) alignment
  reach (λ q. q + 8 * n)

-- "A cursor for the next bytes (take_slice): off a 32-bit boundary 4, else 2 if short". It gives that cursor's end, in bytes
unfoldable pub part : ℕ → Reader No ℕ
part n = do
  p ← here
  require (eqb (p % 32) 0) alignment
  skip n
  give (p / 8 + n)

-- the next n bytes themselves; none where the skip over them is refused
unfoldable pub shown : List ℕ → ℕ → ℕ → Answer No (Unit {0}) → List ℕ
shown s p n (got u q) = take n (drop (p / 8) s)
shown s p n (refused r) = []

unfoldable pub next_bytes : ℕ → List ℕ → ℕ → ℕ → List ℕ
next_bytes n s e p = shown s p n (skip n s e p)

-- "Bits left: 8 × length less the place, 0 if the place is past it"
unfoldable pub bits_left : List ℕ → ℕ → ℕ → ℕ
bits_left s e p = limit s e - p

-- the place is at the end of the bits or past it
unfoldable pub ends_at : List ℕ → ℕ → ℕ → Bool
ends_at s e p = leb (limit s e) p

-- "Signed: even v is v/2; odd v above 1 is −(v−1)/2; v = 1 is −9223372036854775808"
unfoldable pub signed_of : ℕ → ℤ
signed_of v =
    when eqb (v % 2) 0 then pos (v / 2) else
    when eqb v 1 then negsuc 9223372036854775807 else neg_ℤ (pos ((v - 1) / 2))
