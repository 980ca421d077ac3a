-- The header, the stream behind it, and a blob's part of it (01, "Header", "Walk"). Assumes nothing.
use Rattle.std.specs.Prelude.{◌&&◌, List, [], ℕ, ◌+◌, ◌-◌, ◌*◌, get_or, length, take, drop, ltb, leb, eqb, Result, Ok, Err}
use Rattle.terms.specs.declared.Reason.{Reason}
use Rattle.terms.specs.declared.Reason.TheVariants.{InvalidSignature}
use Rattle.bits.specs.Reader.{when◌then◌else◌}
use Rattle.bitcode.specs.declared.Signature.{Signature}

-- the 32-bit word at the byte k, its first byte lowest
unfoldable pub word : List ℕ → ℕ → ℕ
word bs k = get_or bs k 0 + 256 * get_or bs (k + 1) 0 + 65536 * get_or bs (k + 2) 0 + 16777216 * get_or bs (k + 3) 0

-- "If not 0x0B17C0DE (LLVM doc)": the wrapper's magic
abbrev pub wrapper_magic : ℕ
wrapper_magic = 0x0B17C0DE

-- an input's header numbers and its stream; or none
pub data Opened : Type 0 where
  unsigned : Opened
  opened : Signature → List ℕ → Opened

-- "under 20 bytes, 1; version, offset, size, cpu type follow; the bytes offset..offset+size must lie in the input and hold at least 4, else 1;
-- magic2 is their first word, the stream their rest"
unfoldable pub wrapped : List ℕ → Opened
wrapped bs =
    let offset : ℕ = word bs 8 in
    let size : ℕ = word bs 12 in
    when ltb (length bs) 20 then unsigned else
    when leb (offset + size) (length bs) && leb 4 size then
    opened (record { magic = word bs 0; magic2 = word bs offset; version = word bs 4; offset = offset; size = size; cpu = word bs 16 })
    (drop (offset + 4) (take (offset + size) bs))
    else unsigned

-- "Under 4 bytes: 1. First word is the magic. If not 0x0B17C0DE, the stream is the rest; offset 4, size its length, version, cpu type and magic2 zero"
unfoldable pub signature : List ℕ → Opened
signature bs =
    when ltb (length bs) 4 then unsigned else
    when eqb (word bs 0) wrapper_magic then wrapped bs else
    opened (record { magic = word bs 0; magic2 = 0; version = 0; offset = 4; size = length bs - 4; cpu = 0 }) (drop 4 bs)

-- what the code's call answers: the numbers, or 1
unfoldable pub parsed : Opened → Result Signature Reason
parsed unsigned = Err InvalidSignature
parsed (opened h s) = Ok h

-- the stream; none where there is no header
unfoldable pub stream : Opened → List ℕ
stream unsigned = []
stream (opened h s) = s

-- n bytes of a stream from the byte `at` on: "a place and length not inside the stream show an empty part"
unfoldable pub bytes_of : List ℕ → ℕ → ℕ → List ℕ
bytes_of s at n = when leb (at + n) (length s) then take n (drop at s) else []

-- "A blob is shown as that very part of the caller's input"
unfoldable pub blob_of : List ℕ → ℕ → ℕ → List ℕ
blob_of bs at n = bytes_of (stream (signature bs)) at n
