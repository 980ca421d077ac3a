-- No second outcome: for each public call, two answers that both meet the contract are equal. Assumes nothing.
use Rattle.std.specs.Prelude.{Bool, ℤ, Result, Ok, Err}
use Rattle.terms.specs.declared.Reason.{Reason}
use mathlib.Core.List.{List}
use mathlib.Core.Path.{◌≡◌, refl, sym, ap, ◌∙◌}
use Prim.Native.Nat.{ℕ, ◌+◌, min}
use Rattle.bits.specs.Told.{Gives, of_read}
use Rattle.bits.specs.declared.Cursor.{Cursor}
use Rattle.terms.proofs.Once.{reason_back}
use Rattle.bits.proofs.Once.{from_told, told_once, because, read_back, same_once}
use Rattle.bitcode.specs.Scalar.{value}
use Rattle.bitcode.specs.Header.{signature, parsed, stream, bytes_of, blob_of}
use Rattle.bitcode.specs.Operands.{next, next_below, next_bool, next_signed, next_range, place_of, of_next}
use Rattle.bitcode.specs.declared.ScalarOperand.{ScalarOperand}
use Rattle.bitcode.specs.declared.ScalarOperand.TheVariants.{Char6}
use Rattle.bitcode.specs.declared.Signature.{Signature}
use Rattle.bitcode.specs.declared.Operands.{Operands}
use Rattle.bitcode.specs.declared.Range.{Range}

-- ---- a letter, and a scalar operand
pub read_char6_once : (c : Cursor) (s : List ℕ) (r r' : Result (ℕ × Cursor) Reason)
    → Gives c s (value Char6) (of_read r) → Gives c s (value Char6) (of_read r') → r ≡ r'
read_char6_once c s = told_once of_read (λ v d. Ok (v, d)) because read_back c s (value Char6)

pub read_scalar_operand_once : (c : Cursor) (s : List ℕ) (o : ScalarOperand) (r r' : Result (ℕ × Cursor) Reason)
    → Gives c s (value o) (of_read r) → Gives c s (value o) (of_read r') → r ≡ r'
read_scalar_operand_once c s o = told_once of_read (λ v d. Ok (v, d)) because read_back c s (value o)

-- ---- the header, the stream and a blob: the contract is one equation. A part of the input is told by its bytes
module _ (bs : List ℕ) where
  pub parse_once : (r r' : Result Signature Reason) → r ≡ parsed (signature bs) → r' ≡ parsed (signature bs) → r ≡ r'
  parse_once r r' x y = same_once x y

  pub stream_once : (r r' : List ℕ) → r ≡ stream (signature bs) → r' ≡ stream (signature bs) → r ≡ r'
  stream_once r r' x y = same_once x y

  pub bytes_of_once : (place n : ℕ) (r r' : List ℕ) → r ≡ bytes_of bs place n → r' ≡ bytes_of bs place n → r ≡ r'
  bytes_of_once place n r r' x y = same_once x y

  pub blob_once : (place n : ℕ) (r r' : List ℕ) → r ≡ blob_of bs place n → r' ≡ blob_of bs place n → r ≡ r'
  blob_once place n r r' x y = same_once x y

-- ---- typed operands
operands_same : {o u : Operands} → o.at ≡ u.at → o.end ≡ u.end → o ≡ u
operands_same {o} {u} i j = go o.at o.end u.at u.end i j
  where
    go : (a b x y : ℕ) → a ≡ x → b ≡ y → ◌≡◌ {A = Operands} (record { at = a; end = b }) (record { at = x; end = y })
    go a b x y i j = rw (i, j)

pub new_once : (first count : ℕ) (r r' : Operands)
    → (r.at ≡ first) × (r.end ≡ min (first + count) 18446744073709551615)
    → (r'.at ≡ first) × (r'.end ≡ min (first + count) 18446744073709551615) → r ≡ r'
new_once first count r r' x y = operands_same (x.0 ∙ sym y.0) (x.1 ∙ sym y.1)

-- a place among numbers as the code has it
abbrev rest : Cursor → Operands
rest d = record { at = d.at; end = d.end }

next_back : {A : Type 0} (r : Result (A × Operands) Reason) → from_told (λ v d. Ok (v, rest d)) because (of_next r) ≡ r
next_back (Ok (v, d)) = refl
next_back (Err r) = ap Err (reason_back r)

module _ (o : Operands) (s : List ℕ) where
  pub u8_once : (r r' : Result (ℕ × Operands) Reason) → Gives (place_of o) s (next_below 8) (of_next r) → Gives (place_of o) s (next_below 8) (of_next r') → r ≡ r'
  u8_once = told_once of_next (λ v d. Ok (v, rest d)) because next_back (place_of o) s (next_below 8)

  pub u16_once : (r r' : Result (ℕ × Operands) Reason) → Gives (place_of o) s (next_below 16) (of_next r) → Gives (place_of o) s (next_below 16) (of_next r') → r ≡ r'
  u16_once = told_once of_next (λ v d. Ok (v, rest d)) because next_back (place_of o) s (next_below 16)

  pub u32_once : (r r' : Result (ℕ × Operands) Reason) → Gives (place_of o) s (next_below 32) (of_next r) → Gives (place_of o) s (next_below 32) (of_next r') → r ≡ r'
  u32_once = told_once of_next (λ v d. Ok (v, rest d)) because next_back (place_of o) s (next_below 32)

  pub u64_once : (r r' : Result (ℕ × Operands) Reason) → Gives (place_of o) s next (of_next r) → Gives (place_of o) s next (of_next r') → r ≡ r'
  u64_once = told_once of_next (λ v d. Ok (v, rest d)) because next_back (place_of o) s next

  pub bool_once : (r r' : Result (Bool × Operands) Reason) → Gives (place_of o) s next_bool (of_next r) → Gives (place_of o) s next_bool (of_next r') → r ≡ r'
  bool_once = told_once of_next (λ v d. Ok (v, rest d)) because next_back (place_of o) s next_bool

  pub i64_once : (r r' : Result (ℤ × Operands) Reason) → Gives (place_of o) s next_signed (of_next r) → Gives (place_of o) s next_signed (of_next r') → r ≡ r'
  i64_once = told_once of_next (λ v d. Ok (v, rest d)) because next_back (place_of o) s next_signed

  pub range_once : (r r' : Result (Range × Operands) Reason) → Gives (place_of o) s next_range (of_next r) → Gives (place_of o) s next_range (of_next r') → r ≡ r'
  range_once = told_once of_next (λ v d. Ok (v, rest d)) because next_back (place_of o) s next_range
