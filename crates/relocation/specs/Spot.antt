-- Demand 3: "two blocks that the walk meets, one directly behind the other in the same parent". What the walk met is a tree of pieces
-- (crates/walk/specs/Piece.antt); here are the place of the two in it, at any depth, and what stands around them. Assumes nothing.
use Rattle.std.specs.Prelude.{List, [], ◌∷◌, ◌++◌, ℕ, ◌+◌, ◌-◌, ◌*◌, ◌/◌}
use Rattle.walk.specs.Piece.{Head, head, Piece, the_record, definition, blockinfo, skipped, block, Pieces, done, ◌then◌, Event, entering, leaving, events, all_events, store, all_store}

-- where two pieces stand: right here, with the pieces behind them; later, behind a piece; or inside a block, with the bit where it began, its head, and the
-- pieces behind it
pub data Spot : Type 0 where
  right_here : Pieces → Spot
  later : Piece → Spot → Spot
  inside : ℕ → Head → Spot → Pieces → Spot

-- what was met, with a and, directly behind it in the same parent, b at the spot
unfoldable pub plug : Spot → Piece → Piece → Pieces
plug (right_here xs) a b = ◌then◌ a (◌then◌ b xs)
plug (later x t) a b = ◌then◌ x (plug t a b)
plug (inside from h t xs) a b = ◌then◌ (block from h (plug t a b)) xs

-- ---- a block: one that was entered, or one that was skipped
unfoldable pub IsBlock : Piece → Type 0
IsBlock (the_record from b first r) = ⊥
IsBlock (definition a) = ⊥
IsBlock (blockinfo from h sh) = ⊥
IsBlock (skipped from h) = Unit {0}
IsBlock (block from h inner) = Unit {0}

-- "no BLOCKINFO read as either or inside either"
unfoldable mutual
  pub Quiet : Piece → Type 0
  Quiet (the_record from b first r) = Unit {0}
  Quiet (definition a) = Unit {0}
  Quiet (blockinfo from h sh) = ⊥
  Quiet (skipped from h) = Unit {0}
  Quiet (block from h inner) = Quiets inner

  pub Quiets : Pieces → Type 0
  Quiets (done end) = Unit {0}
  Quiets (◌then◌ x xs) = Quiet x × Quiets xs

-- the bits of the stream where a block begins and where its body ends; what they are of a piece that is no block doesn't matter
unfoldable pub from_of : Piece → ℕ
from_of (the_record from b first r) = from
from_of (definition a) = 0
from_of (blockinfo from h sh) = from
from_of (skipped from h) = from
from_of (block from h inner) = from

unfoldable pub head_end : Head → ℕ
head_end (head b w at n) = 8 * at + 8 * n

unfoldable pub to_of : Piece → ℕ
to_of (the_record from b first r) = 0
to_of (definition a) = 0
to_of (blockinfo from h sh) = head_end h
to_of (skipped from h) = head_end h
to_of (block from h inner) = head_end h

-- how many bytes it takes
unfoldable pub byte_length : Piece → ℕ
byte_length x = (to_of x - from_of x) / 8

-- ---- what stands before the spot and behind it: events, and operands in the order of the store
unfoldable pub front : Spot → List Event
front (right_here xs) = []
front (later x t) = events x ++ front t
front (inside from h t xs) = entering h ∷ front t

unfoldable pub back : Spot → List Event
back (right_here xs) = all_events xs
back (later x t) = back t
back (inside from h t xs) = back t ++ leaving h ∷ [] ++ all_events xs

unfoldable pub front_store : Spot → List ℕ
front_store (right_here xs) = []
front_store (later x t) = store x ++ front_store t
front_store (inside from h t xs) = front_store t

unfoldable pub back_store : Spot → List ℕ
back_store (right_here xs) = all_store xs
back_store (later x t) = back_store t
back_store (inside from h t xs) = back_store t ++ all_store xs
