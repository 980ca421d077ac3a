-- What an event shows to whoever looks it up in the operand store and in the input: all of it but the places (01, "Walk": "Body and blob places are bytes
-- of the stream; array places are in the operand store"). Assumes nothing.
use Rattle.std.specs.Prelude.{List, [], ◌∷◌, ℕ, ◌*◌, take, drop, eqb}
use Rattle.bits.specs.Reader.{when◌then◌else◌}
use Rattle.bitcode.specs.Header.{signature, stream}
use Rattle.walk.specs.Record.{octets}
use Rattle.walk.specs.Piece.{Event, enter, skip, leave, record_event}

pub data Shown : Type 0 where
  -- block, width, body length
  enters skips : ℕ → ℕ → ℕ → Shown
  -- block
  leaves : ℕ → Shown
  -- block, code, operands, payload kind, payload: an array's elements or a blob's bytes
  holds : ℕ → ℕ → List ℕ → ℕ → List ℕ → Shown

-- how a blob is read: its bytes, by place and length
abbrev pub Blobs : Type 0
Blobs = ℕ → ℕ → List ℕ

-- the bytes of an input's stream, as the definition reads them
unfoldable pub bytes_at : List ℕ → Blobs
bytes_at bs at n = octets (stream (signature bs)) (8 * at) n

-- "Payload: 0 none, 1 array, 2 Char6 array, 3 blob"; none has the length 0
unfoldable pub payload : Blobs → List ℕ → ℕ → ℕ → ℕ → List ℕ
payload blobs operands kind at n = when eqb kind 3 then blobs at n else take n (drop at operands)

unfoldable pub shown : Blobs → List ℕ → Event → Shown
shown blobs operands (enter b w at n) = enters b w n
shown blobs operands (skip b w at n) = skips b w n
shown blobs operands (leave b) = leaves b
shown blobs operands (record_event b code first count kind at n) = holds b code (take count (drop first operands)) kind (payload blobs operands kind at n)

unfoldable pub all_shown : Blobs → List ℕ → List Event → List Shown
all_shown blobs operands [] = []
all_shown blobs operands (x ∷ xs) = shown blobs operands x ∷ all_shown blobs operands xs
