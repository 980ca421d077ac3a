-- Demand 3: "Exchange their bytes". Assumes nothing.
use Rattle.std.specs.Prelude.{List, ◌++◌, ℕ, ◌+◌, ◌/◌, take, drop, eqb}
use Rattle.std.proofs.Math.Seq.{slice}
use Rattle.bits.specs.Reader.{when◌then◌else◌}
use Rattle.bitcode.specs.Header.{word, wrapper_magic}
use Rattle.walk.specs.Piece.{Piece}
use Rattle.relocation.specs.Spot.{from_of, to_of}

-- the bytes i to j and j to k of an input exchanged; `slice j k` are those from j on, up to k
unfoldable pub exchange : ℕ → ℕ → ℕ → List ℕ → List ℕ
exchange i j k bs = take i bs ++ (slice j k bs ++ (slice i j bs ++ drop k bs))

-- the byte of the input where the stream begins: behind the magic word; in a wrapper, behind the first word of the part that it names (01, "Header")
unfoldable pub base_of : List ℕ → ℕ
base_of bs = when eqb (word bs 0) wrapper_magic then word bs 8 + 4 else 4

-- the input with the block a and, directly behind it, the block b exchanged
unfoldable pub exchanged : List ℕ → Piece → Piece → List ℕ
exchanged bs a b = exchange (base_of bs + from_of a / 8) (base_of bs + to_of a / 8) (base_of bs + to_of b / 8) bs
