-- Blobs: as many bytes as are asked for; and what the blob accessor shows is what the definition reads: the bytes, read as bits, are that part of the
-- stream. Assumes nothing.
use mathlib.Core.List.{List, ◌∷◌}
use mathlib.Core.Path.{◌≡◌, refl, ap, ap₂, sym}
use Prim.Native.Nat.{ℕ, zero, suc, ◌+◌, ◌*◌, ◌/◌, ◌%◌, ◌≤◌, ◌<◌}
use native.Mathlib.Omega.{arith}
use native.Mathlib.Numerals.{add-one}
use lib.ListN.{get_or, length, take, drop}
use lib.Seq.{drop-cons}
use borrow.Author.Tests.{le-leb}
use Rattle.bits.specs.Reader.{when◌then◌else◌}
use Rattle.bits.specs.Bits.{field}
use Rattle.bits.proofs.Laws.{Bytes, field_in_byte}
use Rattle.bitcode.specs.Header.{bytes_of}
use Rattle.walk.specs.Record.{octets}

pub octets_length : (s : List ℕ) (p n : ℕ) → length (octets s p n) ≡ n
unfolding octets
octets_length s p zero = refl
octets_length s p (suc n) = ap suc (octets_length s (p + 8) n)

-- eight bits from a byte's first on are that byte
byte_field : (s : List ℕ) (b : ℕ) → Bytes s → field s (8 * b) 8 ≡ get_or s b 0
byte_field s b h =
    let e : 8 * b + 0 ≡ 8 * b = omega arith in
    let f : field s (8 * b) 8 ≡ get_or s b 0 / 1 % 256 = rw e at (field_in_byte s b 0 8 (omega arith)) in
    omega (arith, h b)

octets_part : (s : List ℕ) (b n : ℕ) → Bytes s → b + n ≤ length s → octets s (8 * b) n ≡ take n (drop b s)
unfolding octets
octets_part s b zero h l = refl
octets_part s b (suc n) h l =
    let e : 8 * b + 8 ≡ 8 * (b + 1) = omega arith in
    let i : b < length s = omega arith in
    let rest : octets s (8 * b + 8) n ≡ take n (drop (b + 1) s) = rw e (octets_part s (b + 1) n h (omega arith)) in
    let cons : drop b s ≡ get_or s b 0 ∷ drop (b + 1) s = rw add-one (drop-cons s b 0 i) in
    rw cons (ap₂ (λ x xs. x ∷ xs) (byte_field s b h) rest)

-- a blob that the walk reads at the byte b of the stream is shown whole
pub blob_shown : (s : List ℕ) (b n : ℕ) → Bytes s → b + n ≤ length s → bytes_of s b n ≡ octets s (8 * b) n
unfolding bytes_of when◌then◌else◌
blob_shown s b n h l = rw (le-leb (b + n) (length s) l) (sym (octets_part s b n h l))
