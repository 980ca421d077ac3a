-- DEMAND 3: "Take an accepted input with two blocks that the walk meets, one directly behind the other in the same parent, the first starting on a 32-bit
-- boundary of the stream, neither touching a wrapper's 20 bytes, and no BLOCKINFO read as either or inside either. Exchange their bytes. By demand 2's
-- definition, with the same skip list and store sizes, the new input is accepted, the two groups of events change places, and every other event is the
-- same. Within a group only byte places and operand store places move; operand and blob contents stay." Assumes nothing.
use Rattle.std.specs.Prelude.{◌≡◌, List, [], ◌∷◌, ◌++◌, ℕ, ◌+◌, ◌/◌, ◌%◌, ◌≤◌, ◌<◌, length}
use Rattle.bitcode.specs.declared.Signature.{Signature}
use Rattle.bitcode.specs.Header.{word, wrapper_magic}
use Rattle.walk.specs.Piece.{Piece, Pieces, Event, enter, skip, leave, record_event, events, all_events, store, all_store}
use Rattle.walk.specs.Shown.{Shown, bytes_at, all_shown}
use Rattle.walk.specs.Walk.{accepted, walk}
use Rattle.relocation.specs.Spot.{Spot, plug, IsBlock, Quiet, from_of, byte_length, front, back, front_store, back_store}
use Rattle.exchange.specs.Input.{base_of, exchanged}

-- ---- "only byte places and operand store places move": two events alike but for byte places, which go up by `up` and down by `down`, and operand
-- places, which go up by `plus` and down by `minus`. A record without payload (kind 0) has only the place of its operands; an array (1 or 2) has its
-- elements in the operand store too; a blob (3) is at a byte
pub data Shifted (up down plus minus : ℕ) : Event → Event → Type 0 where
  s_enter : (b w at at' n : ℕ) → at' + down ≡ at + up → Shifted up down plus minus (enter b w at n) (enter b w at' n)
  s_skip : (b w at at' n : ℕ) → at' + down ≡ at + up → Shifted up down plus minus (skip b w at n) (skip b w at' n)
  s_leave : (b : ℕ) → Shifted up down plus minus (leave b) (leave b)
  s_plain : (b code first first' count : ℕ) → first' + minus ≡ first + plus
      → Shifted up down plus minus (record_event b code first count 0 0 0) (record_event b code first' count 0 0 0)
  s_list : (b code first first' count kind at at' n : ℕ) → 0 < kind → kind < 3 → first' + minus ≡ first + plus → at' + minus ≡ at + plus
      → Shifted up down plus minus (record_event b code first count kind at n) (record_event b code first' count kind at' n)
  s_blob : (b code first first' count at at' n : ℕ) → first' + minus ≡ first + plus → at' + down ≡ at + up
      → Shifted up down plus minus (record_event b code first count 3 at n) (record_event b code first' count 3 at' n)

-- two groups, event by event
pub data Each (R : Event → Event → Type 0) : List Event → List Event → Type 0 where
  none : Each R [] []
  more : {x y : Event} {xs ys : List Event} → R x y → Each R xs ys → Each R (x ∷ xs) (y ∷ ys)

-- what events show, looked up in the operand store that a walk which met xs leaves, and in its input
abbrev pub looked : List ℕ → Pieces → List Event → List Shown
looked bs xs = all_shown (bytes_at bs) (all_store xs)

-- ---- the input bs, the skip list, the sizes n and m of the event store and of the operand store; the header h; the blocks a and b at the spot t
pub record Neighbours (bs skips : List ℕ) (n m : ℕ) (h : Signature) (t : Spot) (a b : Piece) : Type 0 where
  -- "an accepted input with two blocks that the walk meets, one directly behind the other in the same parent"
  pub meets : walk bs skips n m ≡ accepted h (plug t a b)
  pub first_block : IsBlock a
  pub second_block : IsBlock b
  -- "the first starting on a 32-bit boundary of the stream"
  pub aligned : from_of a % 32 ≡ 0
  -- "neither touching a wrapper's 20 bytes": the first's first byte is behind them
  pub clear : word bs 0 ≡ wrapper_magic → 20 ≤ base_of bs + from_of a / 8
  -- "no BLOCKINFO read as either or inside either"
  pub first_quiet : Quiet a
  pub second_quiet : Quiet b

pub record Exchanged (bs skips : List ℕ) (n m : ℕ) (h : Signature) (t : Spot) (a b : Piece) : Type 0 where
  -- "with the same skip list and store sizes, the new input is accepted"; its header numbers are the old ones
  pub new : Pieces
  pub accepts : walk (exchanged bs a b) skips n m ≡ accepted h new
  -- "the two groups of events change places, and every other event is the same"
  pub first : List Event
  pub second : List Event
  pub was : all_events (plug t a b) ≡ front t ++ events a ++ events b ++ back t
  pub is : all_events new ≡ front t ++ second ++ first ++ back t
  -- "Within a group only byte places and operand store places move": the first's go up by the second's bytes and operands, the second's go down by
  -- the first's
  pub first_moves : Each (Shifted (byte_length b) 0 (length (store b)) 0) (events a) first
  pub second_moves : Each (Shifted 0 (byte_length a) 0 (length (store a))) (events b) second
  -- "operand and blob contents stay": in the store they change places with their groups; and every event, looked up in its own store and its own
  -- input, shows what it showed before
  pub store_was : all_store (plug t a b) ≡ front_store t ++ store a ++ store b ++ back_store t
  pub store_is : all_store new ≡ front_store t ++ store b ++ store a ++ back_store t
  pub shows : looked (exchanged bs a b) new (all_events new)
      ≡ looked bs (plug t a b) (front t) ++ looked bs (plug t a b) (events b) ++ looked bs (plug t a b) (events a) ++ looked bs (plug t a b) (back t)

-- for every input, skip list, store size and two such blocks. The proof is `demand_3` in proofs/Demand3.antt
abbrev pub Demand3 : Type 0
Demand3 = (bs skips : List ℕ) (n m : ℕ) (h : Signature) (t : Spot) (a b : Piece) → Neighbours bs skips n m h t a b → Exchanged bs skips n m h t a b
