-- The laws of fields, of the limit, and of each call of the cursor but `read_vbr`: forward by its tests, for its own proof, and back, for callers.
-- Assumes nothing.
use Prim.Native.Nat.{ℕ, zero, suc, ◌+◌, ◌-◌, ◌*◌, ◌/◌, ◌%◌, ◌^◌, ◌≤◌, ◌<◌}
use mathlib.Core.Path.{◌≡◌, refl, sym, ap, ◌∙◌}
use mathlib.Core.List.{List, []}
use native.Mathlib.Nat.{zero-add, add-zero, suc-add, mul_assoc, pow-suc, pow-zero, mul-one, div-one, lt_of_lt_of_le}
use native.Mathlib.Numerals.{add-one}
use native.Mathlib.Omega.{arith}
use lib.ListN.{length, get_or, take, drop}
use lib.Pow as P
use borrow.Author.Tests.{le-leb, lt-leb, eq-eqb, ne_eqb, eqb-true, leb-true}
use mathlib.Core.Bool.{Bool, true, false, ◌&&◌}
use lib.Dec.{leb}
use Rattle.bits.specs.declared.Cursor.{Cursor}
use Rattle.terms.specs.Refusals.{No, buffer_overflow, vbr_overflow, alignment}
use Rattle.bits.specs.Reader.{got, refused, onward, ◌>>=◌, when◌then◌else◌, here}
use Rattle.bits.specs.Bits.{bit, field, limit, in_range, reach, field_at, read, align, skip, part, peek, staying, next_bytes, shown}
use Rattle.bits.specs.Told.{At, Off}
use Rattle.bits.specs.Word.{word64}
use Rattle.bits.proofs.Steps.{on, off, from_here, off_here, ends, pass, pass_off, fail, never, passed, arms, got_value, got_place}

-- a bit is 0 or 1
pub bit_lt : (s : List ℕ) (i : ℕ) → bit s i < 2
unfolding bit
bit_lt s i = omega arith

-- a field of n bits is a number of n bits
pub field_lt : (s : List ℕ) (p n : ℕ) → field s p n < 2 ^ n
unfolding field
field_lt s p zero = omega arith
field_lt s p (suc n) = rw pow-suc (omega (arith, bit_lt s p, field_lt s (p + 1) n))

-- no bits are 0
field_none : (s : List ℕ) (p : ℕ) → field s p 0 ≡ 0
unfolding field
field_none s p = refl

-- m + n bits are m bits, and above them n bits
pub field_split : (s : List ℕ) (p m n : ℕ) → field s p (m + n) ≡ field s (p + m) n * 2 ^ m + field s p m
unfolding field
field_split s p zero n = simp (zero-add, add-zero, pow-zero, mul-one)
field_split s p (suc m) n =
    let ih = field_split s (p + 1) m n in
    let e : p + 1 + m ≡ p + suc m = omega arith in
    let ih2 : field s (p + 1) (m + n) ≡ field s (p + suc m) n * 2 ^ m + field s (p + 1) m = rw e at ih in
    let d : field s (p + suc m) n * (2 ^ m * 2) ≡ field s (p + suc m) n * 2 ^ m * 2 = sym (mul_assoc _ _ _) in
    rw (suc-add, pow-suc) (omega arith)

-- the n bits at j of a field are a field
pub field_part : (s : List ℕ) (p m j n : ℕ) → j + n ≤ m → field s p m / 2 ^ j % 2 ^ n ≡ field s (p + j) n
field_part s p m j n h =
    let r = m - (j + n) in
    let e : m ≡ j + (n + r) = omega arith in
    rw e
    (rw (field_split s p j (n + r), P.high (field s (p + j) (n + r)) j (field_lt s p j), field_split s (p + j) n r)
    (P.low (field s (p + j + n) r) n (field_lt s (p + j) n)))

-- a bit, by its byte and its place in it
bit_of : (s : List ℕ) (b j : ℕ) → j < 8 → bit s (8 * b + j) ≡ get_or s b 0 / 2 ^ j % 2
unfolding bit
bit_of s b j h =
    let d : (8 * b + j) / 8 ≡ b = omega arith in
    let m : (8 * b + j) % 8 ≡ j = omega arith in
    rw (d, m)

-- a field within a byte
pub field_in_byte : (s : List ℕ) (b j n : ℕ) → j + n ≤ 8 → field s (8 * b + j) n ≡ get_or s b 0 / 2 ^ j % 2 ^ n
unfolding field
field_in_byte s b j zero h = rw pow-zero (omega arith)
field_in_byte s b j (suc n) h =
    let x = get_or s b 0 in
    let e : 8 * b + j + 1 ≡ 8 * b + (j + 1) = omega arith in
    let ih = field_in_byte s b (j + 1) n (omega arith) in
    let a = bit_of s b j (omega arith) in
    let q : x / 2 ^ j / 2 ^ 1 ≡ x / 2 ^ (j + 1) = P.shr-shr x j 1 in
    let r : x / 2 ^ j % 2 ^ (n + 1) ≡ x / 2 ^ j / 2 ^ 1 % 2 ^ n * 2 ^ 1 + x / 2 ^ j % 2 ^ 1 = P.mod-pow-add (x / 2 ^ j) n 1 in
    rw (← add-one n, r, q, e, ih, a) (omega arith)

-- what is known of a slice of bytes
abbrev pub Bytes : List ℕ → Type 0
Bytes s = (i : ℕ) → get_or s i 0 < 256

-- a byte, and what stands above it
pub field_byte : (s : List ℕ) (b k n : ℕ) → get_or s (b + k) 0 < 256
    → field s (8 * (b + k)) (8 + n) ≡ get_or s (b + k) 0 + 256 * field s (8 * (b + suc k)) n
field_byte s b k n h =
    let e : 8 * (b + k) + 0 ≡ 8 * (b + k) = omega arith in
    let f : 8 * (b + k) + 8 ≡ 8 * (b + suc k) = omega arith in
    let i : field s (8 * (b + k)) 8 ≡ get_or s (b + k) 0 / 1 % 256 = rw e at (field_in_byte s (b + k) 0 8 (omega arith)) in
    let j : field s (8 * (b + k)) (8 + n) ≡ field s (8 * (b + suc k)) n * 256 + field s (8 * (b + k)) 8 = rw f at (field_split s (8 * (b + k)) 8 n) in
    omega arith

-- 64 bits from a byte on are eight bytes
pub field_word : (s : List ℕ) (b : ℕ) → Bytes s → field s (8 * b) 64 ≡ word64 s b
field_word s b h =
    let z : field s (8 * b) 64 ≡ get_or s b 0 + 256 * field s (8 * (b + 1)) 56 = rw (add-zero b) at (field_byte s b 0 56 (h (b + 0))) in
    omega (
      arith,
      field_byte s b 1 48 (h (b + 1)),
      field_byte s b 2 40 (h (b + 2)),
      field_byte s b 3 32 (h (b + 3)),
      field_byte s b 4 24 (h (b + 4)),
      field_byte s b 5 16 (h (b + 5)),
      field_byte s b 6 8 (h (b + 6)),
      field_byte s b 7 0 (h (b + 7)),
      field_none s (8 * (b + 8)),
    )

-- the n low bits of a word, by two shifts
pub two_shifts : (w n : ℕ) → n ≤ 64 → w * 2 ^ (64 - n) % 2 ^ 64 / 2 ^ (64 - n) ≡ w % 2 ^ n
two_shifts w n h =
    let e : n + (64 - n) ≡ 64 = omega arith in
    let f : w * 2 ^ (64 - n) % 2 ^ (n + (64 - n)) / 2 ^ (64 - n) ≡ w * 2 ^ (64 - n) / 2 ^ (64 - n) % 2 ^ n = P.field (w * 2 ^ (64 - n)) n (64 - n) in
    (rw e at f) ∙ rw (P.shl-shr w (64 - n))

-- a field of n bits at p, out of the word at p's byte, where they all lie in it
pub from_word : (s : List ℕ) (p n : ℕ) {w r : ℕ} → Bytes s → w ≡ word64 s (p / 8) → r ≡ w / 2 ^ (p % 8) % 2 ^ n → p % 8 + n ≤ 64 → r ≡ field s p n
from_word s p n {w} {r} hs hw hr h =
    let e : 8 * (p / 8) + p % 8 ≡ p = omega arith in
    let f : field s (8 * (p / 8)) 64 / 2 ^ (p % 8) % 2 ^ n ≡ field s (8 * (p / 8) + p % 8) n = field_part s (8 * (p / 8)) 64 (p % 8) n h in
    let g : field s (8 * (p / 8)) 64 / 2 ^ (p % 8) % 2 ^ n ≡ field s p n = rw e at f in
    let v : w ≡ field s (8 * (p / 8)) 64 = hw ∙ sym (field_word s (p / 8) hs) in
    rw (hr, v) g

-- a field in two parts, as the machine puts them together
pub from_two : (s : List ℕ) (p n m : ℕ) {x y : ℕ} → x ≡ field s p m → y ≡ field s (p + m) (n - m) → m ≤ n → n ≤ 64 → x + y * 2 ^ m % 2 ^ 64 ≡ field s p n
from_two s p n m {x} {y} hx hy l h =
    let e : m + (n - m) ≡ n = omega arith in
    let all : field s p n ≡ field s (p + m) (n - m) * 2 ^ m + field s p m = rw e at (field_split s p m (n - m)) in
    let shl : field s (p + m) (n - m) * 2 ^ m % 2 ^ 64 ≡ field s (p + m) (n - m) * 2 ^ m = P.shl_exact (n - m) m 64 (field_lt s (p + m) (n - m)) (omega arith) in
    rw (hx, hy, shl, all) (omega arith)

-- a field that lies in one byte
pub from_byte : (s : List ℕ) (p n : ℕ) {x r : ℕ} → x ≡ get_or s (p / 8) 0 → r ≡ x / 2 ^ (p % 8) % 2 ^ n → p % 8 + n ≤ 8 → r ≡ field s p n
from_byte s p n {x} {r} hx hr h =
    let e : 8 * (p / 8) + p % 8 ≡ p = omega arith in
    let f : field s p n ≡ get_or s (p / 8) 0 / 2 ^ (p % 8) % 2 ^ n = rw e at (field_in_byte s (p / 8) (p % 8) n h) in
    rw (hr, hx, f)

-- the bits of a number of m bits from the k-th on are m - k bits
whole_rest : (x k m : ℕ) → k ≤ m → x < 2 ^ m → x / 2 ^ k ≡ x / 2 ^ k % 2 ^ (m - k)
whole_rest x k m l h =
    let e : m - k + k ≡ m = omega arith in
    let g : x < 2 ^ (m - k + k) = rw e h in
    sym (P.shr_mod (m - k) k g)

-- a byte, and a word, from a place in its first byte on
pub rest_of_byte : (s : List ℕ) (p : ℕ) {x : ℕ} → x ≡ get_or s (p / 8) 0 → x < 256 → x / 2 ^ (p % 8) ≡ field s p (8 - p % 8)
rest_of_byte s p {x} hx l = whole_rest x (p % 8) 8 (omega arith) l ∙ from_byte s p (8 - p % 8) hx refl (omega arith)

rest_of_word : (s : List ℕ) (p : ℕ) {w : ℕ} → Bytes s → w ≡ word64 s (p / 8) → w / 2 ^ (p % 8) ≡ field s p (64 - p % 8)
rest_of_word s p {w} hs hw =
    let l : w < 2 ^ 64 = rw (hw ∙ sym (field_word s (p / 8) hs)) (field_lt s (8 * (p / 8)) 64) in
    whole_rest w (p % 8) 64 (omega arith) l ∙ from_word s p (64 - p % 8) hs hw refl (omega arith)

-- a field that nine bytes hold: the word's bits from its place on, and above them the low bits of the byte behind the word
pub from_nine : (s : List ℕ) (p n : ℕ) {w x y : ℕ} → Bytes s → w ≡ word64 s (p / 8) → x ≡ get_or s (p / 8 + 8) 0
    → y ≡ x % 2 ^ (n - (64 - p % 8)) → 64 < p % 8 + n → n ≤ 64 → w / 2 ^ (p % 8) + y * 2 ^ (64 - p % 8) % 2 ^ 64 ≡ field s p n
from_nine s p n {w} {x} {y} hs hw hx hy k l =
    let q = p + (64 - p % 8) in
    let i : p / 8 + 8 ≡ q / 8 = omega arith in
    let z : q % 8 ≡ 0 = omega arith in
    let a : x ≡ get_or s (q / 8) 0 = rw i at hx in
    let b : y ≡ x / 2 ^ (q % 8) % 2 ^ (n - (64 - p % 8)) = rw (z, pow-zero) (hy ∙ ap (λ (v : ℕ). v % 2 ^ (n - (64 - p % 8))) (sym (div-one x))) in
    from_two s p n (64 - p % 8) (rest_of_word s p hs hw) (from_byte s q (n - (64 - p % 8)) a b (omega arith)) (omega arith) l

-- a field of at most 64 bits fits a word
pub field_fits : (s : List ℕ) (p n : ℕ) {x : ℕ} → x ≡ field s p n → n ≤ 64 → x < 2 ^ 64
field_fits s p n e h = rw e (lt_of_lt_of_le (field_lt s p n) (P.pow_mono h))

-- ---- the limit: small, within the slice, whole bytes
pub limit_le : (s : List ℕ) (e : ℕ) → limit s e ≤ 2 ^ 27
unfolding limit
limit_le s e = omega arith

pub limit_in : (s : List ℕ) (e : ℕ) → limit s e ≤ 8 * length s
unfolding limit
limit_in s e = omega arith

pub limit_whole : (s : List ℕ) (e : ℕ) → limit s e % 8 ≡ 0
unfolding limit
limit_whole s e = omega arith

-- ---- a number in a range, as `in_range` tests it
module _ (lo n hi : ℕ) where
  pub below_range : n < lo → in_range lo hi n ≡ false
  below_range h = simp (lt-leb _ _ h)

  pub above_range : lo ≤ n → hi < n → in_range lo hi n ≡ false
  above_range l h = simp (le-leb _ _ l, lt-leb _ _ h)

  pub outside_range : (lo ≤ n → n ≤ hi → ⊥) → in_range lo hi n ≡ false
  outside_range h = go (leb lo n) (leb n hi) refl refl
    where
      go : (a b : Bool) → leb lo n ≡ a → leb n hi ≡ b → (a && b) ≡ false
      go true true i j = absurd (h (leb-true _ _ i) (leb-true _ _ j))
      go true false i j = refl
      go false b i j = refl

  pub within_range : lo ≤ n → n ≤ hi → in_range lo hi n ≡ true
  within_range l h = simp (le-leb _ _ l, le-leb _ _ h)

-- both of two tests
pub and_true : (a b : Bool) → a && b ≡ true → (a ≡ true) × (b ≡ true)
and_true true true h = (refl, refl)
and_true true false h = absurd (let z : ◌≡◌ {A = ℕ} 0 1 = cc in omega arith)
and_true false b h = absurd (let z : ◌≡◌ {A = ℕ} 0 1 = cc in omega arith)

pub between : (lo n hi : ℕ) → in_range lo hi n ≡ true → (lo ≤ n) × (n ≤ hi)
between lo n hi h = let w = and_true (leb lo n) (leb n hi) h in (leb-true _ _ w.0, leb-true _ _ w.1)

-- an answer within a limit, back: the place that it comes to is within
bounded : {A : Type 0} (t l : ℕ) (x : A) {v : A} {q : ℕ} → (when leb t l then got x t else refused buffer_overflow) ≡ got v q → (t ≤ l) × (v ≡ x) × (q ≡ t)
bounded t l x {v} {q} z =
    arms (λ a. a ≡ got v q) (leb t l) _ _ z (λ i h. (leb-true _ _ i, sym (got_value h), sym (got_place h))) (λ i h. absurd (never h))

-- ---- a read, by its tests
module _ (s : List ℕ) (e p n : ℕ) where
  pub read_outside : (1 ≤ n → n ≤ 64 → ⊥) → Off (read n) s e p vbr_overflow
  unfolding read
  read_outside h = fail _ (outside_range _ _ _ h)

  pub read_short : 1 ≤ n → n ≤ 64 → limit s e < p + n → Off (read n) s e p buffer_overflow
  unfolding read field_at when◌then◌else◌
  read_short l h o = pass_off _ _ (within_range _ _ _ l h) record { why = rw (lt-leb (p + n) (limit s e) o) }

  pub read_value : {v : ℕ} → v ≡ field s p n → 1 ≤ n → n ≤ 64 → p + n ≤ limit s e → At (read n) s e p v record { at = p + n; end = e }
  unfolding read field_at when◌then◌else◌
  read_value i l h o = pass _ _ (within_range _ _ _ l h) record { gives = rw (i, le-leb (p + n) (limit s e) o); ends = refl }

-- and back: what a read that gives a value says of it
pub record Reads (s : List ℕ) (e p n v q : ℕ) : Type 0 where
  pub some : 1 ≤ n
  pub most : n ≤ 64
  pub inside : p + n ≤ limit s e
  pub value : v ≡ field s p n
  pub moved : q ≡ p + n

pub read_gives : (s : List ℕ) (e p n v q : ℕ) → read n s e p ≡ got v q → Reads s e p n v q
unfolding read field_at
read_gives s e p n v q z =
    let w = passed _ _ _ _ _ z in
    let r = between 1 n 64 w.0 in
    let b = bounded (p + n) (limit s e) (field s p n) w.1 in
    record { some = r.0; most = r.1; inside = b.0; value = b.1; moved = b.2 }

-- ---- moves within the limit
module _ (s : List ℕ) (e p : ℕ) where
  pub reach_off : (to : ℕ → ℕ) → limit s e < to p → Off (reach to) s e p buffer_overflow
  unfolding reach when◌then◌else◌
  reach_off to h = record { why = rw (lt-leb (to p) (limit s e) h) }

  pub reach_to : (to : ℕ → ℕ) → to p ≤ limit s e → At (reach to) s e p tt record { at = to p; end = e }
  unfolding reach when◌then◌else◌
  reach_to to h = record { gives = rw (le-leb (to p) (limit s e) h); ends = refl }

  pub align_off : limit s e < (p + 31) / 32 * 32 → Off align s e p buffer_overflow
  unfolding align
  align_off h = reach_off (λ p. (p + 31) / 32 * 32) h

  pub align_to : (p + 31) / 32 * 32 ≤ limit s e → At align s e p tt record { at = (p + 31) / 32 * 32; end = e }
  unfolding align
  align_to h = reach_to (λ p. (p + 31) / 32 * 32) h

  pub skip_odd : (n : ℕ) → (p % 8 ≡ 0 → ⊥) → Off (skip n) s e p alignment
  unfolding skip
  skip_odd n h = off_here _ (fail _ (ne_eqb _ _ h))

  pub skip_off : (n : ℕ) → p % 8 ≡ 0 → limit s e < p + 8 * n → Off (skip n) s e p buffer_overflow
  unfolding skip
  skip_off n o h = off_here _ (pass_off _ _ (eq-eqb _ _ o) (reach_off (λ q. q + 8 * n) h))

  pub skip_to : (n : ℕ) → p % 8 ≡ 0 → p + 8 * n ≤ limit s e → At (skip n) s e p tt record { at = p + 8 * n; end = e }
  unfolding skip
  skip_to n o h = from_here _ (pass _ _ (eq-eqb _ _ o) (reach_to (λ q. q + 8 * n) h))

-- and back: what a move that is made says
pub record Moves (s : List ℕ) (e p q to : ℕ) : Type 0 where
  pub inside : to ≤ limit s e
  pub moved : q ≡ to

pub reach_gives : (to : ℕ → ℕ) (s : List ℕ) (e p q : ℕ) → reach to s e p ≡ got tt q → Moves s e p q (to p)
unfolding reach
reach_gives to s e p q z = let b = bounded (to p) (limit s e) tt z in record { inside = b.0; moved = b.2 }

pub align_gives : (s : List ℕ) (e p q : ℕ) → align s e p ≡ got tt q → Moves s e p q ((p + 31) / 32 * 32)
unfolding align
align_gives s e p q z = reach_gives (λ p. (p + 31) / 32 * 32) s e p q z

pub skip_gives : (s : List ℕ) (e p q n : ℕ) → skip n s e p ≡ got tt q
    → (p % 8 ≡ 0) × Moves s e p q (p + 8 * n) × (limit s e ≤ 2 ^ 27) × (limit s e ≤ 8 * length s)
unfolding skip here ◌>>=◌ onward
skip_gives s e p q n z =
    let w = passed (λ u. reach (λ q. q + 8 * n)) alignment s e p z in
    (eqb-true _ _ w.0, reach_gives (λ q. q + 8 * n) s e p q w.1, limit_le s e, limit_in s e)

-- the bytes that a skip passes are bytes of the slice, and their places are small
pub skip_inside : (n : ℕ) {s : List ℕ} {e p : ℕ} {d : Cursor} → At (skip n) s e p tt d → (p / 8 + n ≤ length s) × (p / 8 + n ≤ 2 ^ 24)
skip_inside n {s} {e} {p} {d} g =
    let m = skip_gives s e p d.at n g.gives in
    let i : p + 8 * n ≤ limit s e = m.1.inside in
    let o : p % 8 ≡ 0 = m.0 in
    let a : limit s e ≤ 2 ^ 27 = m.2 in
    let b : limit s e ≤ 8 * length s = m.3 in
    (omega arith, omega arith)

-- ---- a peek, a part, the bytes: what the read or the skip that they are made of tells
pub peek_seen : (n : ℕ) {s : List ℕ} {c d : Cursor} {v : ℕ} → At (read n) s c.end c.at v d → At (peek n) s c.end c.at v c
unfolding peek staying
peek_seen n g = record { gives = rw g.gives; ends = refl }

module _ (n : ℕ) {s : List ℕ} {e p : ℕ} where
  pub peek_off : {r : No} → Off (read n) s e p r → Off (peek n) s e p buffer_overflow
  unfolding peek staying
  peek_off o = record { why = rw o.why }

  pub part_odd : (p % 32 ≡ 0 → ⊥) → Off (part n) s e p alignment
  unfolding part
  part_odd h = off_here _ (fail _ (ne_eqb _ _ h))

  pub part_off : {r : No} → p % 32 ≡ 0 → Off (skip n) s e p r → Off (part n) s e p r
  unfolding part
  part_off h o = off_here _ (pass_off _ _ (eq-eqb _ _ h) (off _ o))

  pub part_to : {v : ℕ} {d : Cursor} → p % 32 ≡ 0 → v ≡ p / 8 + n → At (skip n) s e p tt d → At (part n) s e p v d
  unfolding part
  part_to h i g = rw i (from_here _ (pass _ _ (eq-eqb _ _ h) (on _ g ends)))

  pub bytes_none : {r : No} → Off (skip n) s e p r → next_bytes n s e p ≡ []
  unfolding next_bytes shown
  bytes_none o = rw o.why

  pub bytes_some : {d : Cursor} → At (skip n) s e p tt d → next_bytes n s e p ≡ take n (drop (p / 8) s)
  unfolding next_bytes shown
  bytes_some g = rw g.gives
