-- What a walk meets, as a tree of pieces; events, operands and shared abbreviations are read off it (01, "Walk"). Assumes nothing.
use Rattle.std.specs.Prelude.{List, [], ◌∷◌, ◌++◌, ℕ, ◌+◌, ◌-◌, length}
use Rattle.abbrev.specs.Abbrev.{Abbrev}
use Rattle.abbrev.specs.BlockInfo.{Shared, shared_for}
use Rattle.walk.specs.Record.{no_load, list_load, blob_load, Record, a_record, record_list}

-- a block's head: number, width, body byte, body length in bytes
pub data Head : Type 0 where
  head : ℕ → ℕ → ℕ → ℕ → Head

mutual
  -- each but a definition has the bit where it began. A record has its block number and the operand store's fill mark; BLOCKINFO the shared
  -- abbreviations that it adds; a block what it holds
  pub data Piece : Type 0 where
    the_record : ℕ → ℕ → ℕ → Record → Piece
    definition : Abbrev → Piece
    blockinfo : ℕ → Head → List Shared → Piece
    skipped : ℕ → Head → Piece
    block : ℕ → Head → Pieces → Piece

  -- one behind the other, and the bit where the end was met
  pub data Pieces : Type 0 where
    done : ℕ → Pieces
    ◌then◌ : Piece → Pieces → Pieces

-- ---- events: "1 enter (block, width, body byte, body length); 2 leave (block); 3 record (block, code, first operand place, operand count,
-- payload kind, payload place, payload length); 4 skip (as enter)"
pub data Event : Type 0 where
  enter skip : ℕ → ℕ → ℕ → ℕ → Event
  leave : ℕ → Event
  record_event : ℕ → ℕ → ℕ → ℕ → ℕ → ℕ → ℕ → Event

-- "an empty operand or array list has the store's fill mark as its place"; "Body and blob places are bytes of the stream; array places are in the operand store"
unfoldable pub record_of : ℕ → ℕ → Record → Event
record_of b first (a_record code vs no_load) = record_event b code first (length vs) 0 0 0
record_of b first (a_record code vs (list_load k xs)) = record_event b code first (length vs) k (first + length vs) (length xs)
record_of b first (a_record code vs (blob_load at bs)) = record_event b code first (length vs) 3 at (length bs)

unfoldable pub entering : Head → Event
entering (head b w at n) = enter b w at n

unfoldable pub skipping : Head → Event
skipping (head b w at n) = skip b w at n

unfoldable pub leaving : Head → Event
leaving (head b w at n) = leave b

-- a definition and BLOCKINFO give none
unfoldable mutual
  pub events : Piece → List Event
  events (the_record from b first r) = record_of b first r ∷ []
  events (definition a) = []
  events (blockinfo from h sh) = []
  events (skipped from h) = skipping h ∷ []
  events (block from h inner) = entering h ∷ all_events inner ++ leaving h ∷ []

  pub all_events : Pieces → List Event
  all_events (done end) = []
  all_events (◌then◌ x xs) = events x ++ all_events xs

-- how many they are
unfoldable mutual
  pub counted : Piece → ℕ
  counted (the_record from b first r) = 1
  counted (definition a) = 0
  counted (blockinfo from h sh) = 0
  counted (skipped from h) = 1
  counted (block from h inner) = all_counted inner + 2

  pub all_counted : Pieces → ℕ
  all_counted (done end) = 0
  all_counted (◌then◌ x xs) = counted x + all_counted xs

-- ---- operands, in the order of the store
unfoldable mutual
  pub store : Piece → List ℕ
  store (the_record from b first r) = record_list r
  store (definition a) = []
  store (blockinfo from h sh) = []
  store (skipped from h) = []
  store (block from h inner) = all_store inner

  pub all_store : Pieces → List ℕ
  all_store (done end) = []
  all_store (◌then◌ x xs) = store x ++ all_store xs

-- ---- shared abbreviations that are added, also by BLOCKINFO in nested blocks
unfoldable mutual
  pub added : Piece → List Shared
  added (the_record from b first r) = []
  added (definition a) = []
  added (blockinfo from h sh) = sh
  added (skipped from h) = []
  added (block from h inner) = all_added inner

  pub all_added : Pieces → List Shared
  all_added (done end) = []
  all_added (◌then◌ x xs) = added x ++ all_added xs

-- local abbreviations for the block that the piece stands in: "Leaving a block frees its local room", so a nested block leaves none
unfoldable pub own : Piece → List Abbrev
own (the_record from b first r) = []
own (definition a) = a ∷ []
own (blockinfo from h sh) = []
own (skipped from h) = []
own (block from h inner) = []

-- ---- the state between two items
pub record State : Type 0 where
  -- all shared abbreviations so far
  pub shareds : List Shared
  -- the block's: those shared for it when it was entered, then its local ones
  pub mine : List Abbrev
  -- local ones in use over all open blocks and the top level
  pub locals : ℕ
  -- events that there is room for
  pub room : ℕ
  -- the operand store's fill mark, and its room behind it
  pub fill : ℕ
  pub left : ℕ

unfoldable pub after : Piece → State → State
after x st = record {
  shareds = st.shareds ++ added x;
  mine = st.mine ++ own x;
  locals = st.locals + length (own x);
  room = st.room - counted x;
  fill = st.fill + length (store x);
  left = st.left - length (store x);
}

-- inside a block, behind its enter event: "the shared ones for this block number as they stood when the block was entered"
unfoldable pub entered : ℕ → State → State
entered b st = record {
  shareds = st.shareds;
  mine = shared_for b st.shareds;
  locals = st.locals;
  room = st.room - 1;
  fill = st.fill;
  left = st.left;
}
