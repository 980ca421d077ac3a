-- What the exported calls for the header and for a blob's place return (01, "Header", "Walk"). Assumes nothing.
use Rattle.std.specs.Prelude.{◌≡◌, List, [], ◌∷◌, ℕ, ◌+◌, length, leb, eqb}
use Rattle.bits.specs.Reader.{when◌then◌else◌}
use Rattle.bitcode.specs.declared.Signature.{Signature}
use Rattle.bitcode.specs.Header.{Opened, unsigned, opened, wrapper_magic, signature, stream, blob_of}
use Rattle.gleanrime.specs.Told.{over}

-- ---- the header
-- "0 is acceptance"; "InvalidSignature" is 1
unfoldable pub header_status : Opened → ℕ
header_status unsigned = 1
header_status (opened h s) = 0

-- the six header numbers, in the order in which they are told
unfoldable pub six : Signature → List ℕ
six h = h.magic ∷ h.magic2 ∷ h.version ∷ h.offset ∷ h.size ∷ h.cpu ∷ []

-- what is told: those, and "zero header numbers" where the header is refused
unfoldable pub header_numbers : Opened → List ℕ
header_numbers unsigned = 0 ∷ 0 ∷ 0 ∷ 0 ∷ 0 ∷ 0 ∷ []
header_numbers (opened h s) = six h

-- what the contract of `gleanrime_header` says of the status r and of the store ts, which held `old`
abbrev pub ReturnsHeader : List ℕ → List ℕ → ℕ → List ℕ → Type 0
ReturnsHeader bs old r ts = (r ≡ header_status (signature bs)) × (ts ≡ over (header_numbers (signature bs)) old)

-- ---- a blob's place
-- the byte of the input at which the stream begins: "First word is the magic. If not 0x0B17C0DE, the stream is the rest"; if it is, "magic2 is their
-- first word, the stream their rest", of the bytes from the offset on
unfoldable pub stream_from : Opened → ℕ
stream_from unsigned = 0
stream_from (opened h s) = when eqb h.magic wrapper_magic then h.offset + 4 else 4

-- how many bytes a blob has: "a place and length not inside the stream show an empty part"
unfoldable pub blob_size : List ℕ → ℕ → ℕ → ℕ
blob_size bs place n = length (blob_of bs place n)

-- the byte of the input at which it begins, so that it is "that very part of the caller's input"; 0 where it is not inside the stream
unfoldable pub blob_from : List ℕ → ℕ → ℕ → ℕ
blob_from bs place n = when leb (place + n) (length (stream (signature bs))) then stream_from (signature bs) + place else 0

-- what the contract of `gleanrime_blob` says of the number r that it hands back and of the lent number f
abbrev pub ReturnsBlob : List ℕ → ℕ → ℕ → ℕ → ℕ → Type 0
ReturnsBlob bs place n r f = (r ≡ blob_size bs place n) × (f ≡ blob_from bs place n)
