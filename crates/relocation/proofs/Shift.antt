-- What was met, moved: bit and byte places by up - down (given in bits), operand places by og - oo. What it takes of the rooms stays. Assumes nothing.
use mathlib.Core.Path.{◌≡◌, refl, sym, ap, ap₂}
use mathlib.Core.Bool.{Bool}
use mathlib.Core.List.{[], ◌∷◌, ◌++◌}
use mathlib.Core.Option.{Option, none as nothing, some}
use Prim.Native.Nat.{ℕ, ◌+◌, ◌-◌, ◌*◌, ◌/◌, ◌%◌, ◌≤◌, ◌<◌}
use native.Mathlib.Omega.{arith}
use lib.ListN.{length}
use Rattle.abbrev.specs.BlockInfo.{shared_for}
use Rattle.walk.specs.Record.{Load, no_load, list_load, blob_load, Record, a_record, Part, whole, listing, blobbing, load_list, record_list}
use Rattle.walk.specs.Piece.{Head, head, Piece, the_record, definition, blockinfo, skipped, block, Pieces, done, ◌then◌, counted, all_counted, store, all_store, added, all_added, own, State, after, entered}
use Rattle.walk.specs.Item.{Begun, closing, heads, defines, records, Opening, ended, defined, recorded, headed}
use Rattle.walk.proofs.Contents.{record_held, enter_held, skip_held, leave_held, held, all_held}
use Rattle.walk.proofs.Answers.{PartFits, tail, Takes}

-- ---- what an item takes of the rooms; the end wants room for a leave event
unfoldable pub Wants : Bool → State → Option Piece → Type 0
Wants top st nothing = tail top ≤ st.room
Wants top st (some x) = Takes st x

-- ---- where pieces stand
-- a block that began at p and ended at q
unfoldable pub Began : Piece → ℕ → ℕ → Type 0
Began (the_record from b first r) p q = Unit {0}
Began (definition a) p q = Unit {0}
Began (blockinfo from (head b w at n) sh) p q = (from < 8 * at) × (q ≡ 8 * at + 8 * n) × (from ≡ p) × (q % 32 ≡ 0)
Began (skipped from (head b w at n)) p q = (from < 8 * at) × (q ≡ 8 * at + 8 * n) × (from ≡ p) × (q % 32 ≡ 0)
Began (block from (head b w at n) inner) p q = (from < 8 * at) × (q ≡ 8 * at + 8 * n) × (from ≡ p) × (q % 32 ≡ 0)

-- a head that ends at q
unfoldable pub Stands : Head → ℕ → Type 0
Stands (head b w at n) q = (q ≡ 8 * at) × (q % 32 ≡ 0) × (n % 4 ≡ 0)

-- and whose body ends at the bit `lim` at the latest
unfoldable pub Headed : ℕ → Head → ℕ → Type 0
Headed lim (head b w at n) q = (q ≡ 8 * at) × (q % 32 ≡ 0) × (q + 8 * n ≤ lim) × (n % 4 ≡ 0)

-- ---- moved
module _ (up down : ℕ) where
  -- a bit place, and a byte place
  abbrev pub mv : ℕ → ℕ
  mv p = p + up - down

  abbrev pub bmv : ℕ → ℕ
  bmv at = at + up / 8 - down / 8

  unfoldable pub move_load : Load → Load
  move_load no_load = no_load
  move_load (list_load k xs) = list_load k xs
  move_load (blob_load at bs) = blob_load (bmv at) bs

  unfoldable pub move_record : Record → Record
  move_record (a_record code vs l) = a_record code vs (move_load l)

  unfoldable pub move_part : Part → Part
  move_part (whole r) = whole (move_record r)
  move_part (listing code vs k n) = listing code vs k n
  move_part (blobbing code vs n) = blobbing code vs n

  unfoldable pub move_head : Head → Head
  move_head (head b w at n) = head b w (bmv at) n

  unfoldable pub move_begun : Begun → Begun
  move_begun closing = closing
  move_begun (heads h) = heads (move_head h)
  move_begun (defines a) = defines a
  move_begun (records x) = records (move_part x)

  -- no place falls below zero; and an array's kind is not a blob's
  unfoldable pub LoadFine : Load → Type 0
  LoadFine no_load = Unit {0}
  LoadFine (list_load k xs) = (0 < k) × (k < 3)
  LoadFine (blob_load at bs) = down / 8 ≤ at + up / 8

  unfoldable pub RecordFine : Record → Type 0
  RecordFine (a_record code vs l) = LoadFine l

  unfoldable pub PartFine : Part → Type 0
  PartFine (whole r) = RecordFine r
  PartFine (listing code vs k n) = Unit {0}
  PartFine (blobbing code vs n) = Unit {0}

  unfoldable pub HeadFine : Head → Type 0
  HeadFine (head b w at n) = down / 8 ≤ at + up / 8

  -- the moved head's body ends at the bit `lim` at the latest
  unfoldable pub Fitting : ℕ → Head → Type 0
  Fitting lim (head b w at n) = 8 * bmv at + 8 * n ≤ lim

  -- what an item's front that ended at q tells of the first run; what it asks of the second's room
  unfoldable pub Front : State → Begun → ℕ → Type 0
  Front st closing q = Unit {0}
  Front st (heads h) q = Stands h q
  Front st (defines a) q = Unit {0}
  Front st (records x) q = PartFits st.left x × PartFine x

  unfoldable pub FrontAsks : State → Begun → Type 0
  FrontAsks st closing = Unit {0}
  FrontAsks st (heads h) = Unit {0}
  FrontAsks st (defines a) = Unit {0}
  FrontAsks st (records x) = PartFits st.left x

  -- what an opening asks of the second run's rooms, and of its end `lim`
  unfoldable pub Asks : ℕ → Bool → State → Opening → Type 0
  Asks lim top st ended = tail top ≤ st.room
  Asks lim top st (defined a) = Unit {0}
  Asks lim top st (recorded from b first r) = (0 < st.room) × (length (record_list r) ≤ st.left)
  Asks lim top st (headed from h) = Fitting lim h

  module _ (og oo : ℕ) where
    -- what an opening that began at p₀ and ended at q tells of the first run, in a body that ends at `lim`
    unfoldable pub Open : ℕ → Bool → State → ℕ → Opening → ℕ → Type 0
    Open lim top st p₀ ended q = tail top ≤ st.room
    Open lim top st p₀ (defined a) q = (p₀ < q) × (p₀ < lim)
    Open lim top st p₀ (recorded from b first r) q =
        (p₀ < q) × (p₀ < lim) × (0 < st.room) × (length (record_list r) ≤ st.left) × (oo ≤ first + og) × RecordFine r
        × (from ≡ p₀)
    Open lim top st p₀ (headed from h) q = (from < q) × Headed lim h q × (from ≡ p₀)

    unfoldable mutual
      pub Fine : Piece → Type 0
      Fine (the_record from b first r) = (oo ≤ first + og) × RecordFine r × (down ≤ from + up)
      Fine (definition a) = Unit {0}
      Fine (blockinfo from h sh) = HeadFine h × (down ≤ from + up)
      Fine (skipped from h) = HeadFine h × (down ≤ from + up)
      Fine (block from h inner) = HeadFine h × (down ≤ from + up) × Fines inner

      pub Fines : Pieces → Type 0
      Fines (done end) = down ≤ end + up
      Fines (◌then◌ x xs) = Fine x × Fines xs

    -- what an item that began at p and ended at q tells of the first run; it takes a bit at least
    unfoldable pub Made : ℕ → Bool → State → ℕ → Option Piece → ℕ → Type 0
    Made lim top st p nothing q = tail top ≤ st.room
    Made lim top st p (some x) q = (p < q) × (p < lim) × Takes st x × Began x p q × Fine x

    unfoldable mutual
      pub move_piece : Piece → Piece
      move_piece (the_record from b first r) = the_record (mv from) b (first + og - oo) (move_record r)
      move_piece (definition a) = definition a
      move_piece (blockinfo from h sh) = blockinfo (mv from) (move_head h) sh
      move_piece (skipped from h) = skipped (mv from) (move_head h)
      move_piece (block from h inner) = block (mv from) (move_head h) (move_pieces inner)

      pub move_pieces : Pieces → Pieces
      move_pieces (done end) = done (mv end)
      move_pieces (◌then◌ x xs) = ◌then◌ (move_piece x) (move_pieces xs)

    unfoldable pub move_opening : Opening → Opening
    move_opening ended = ended
    move_opening (defined a) = defined a
    move_opening (recorded from b first r) = recorded (mv from) b (first + og - oo) (move_record r)
    move_opening (headed from h) = headed (mv from) (move_head h)

    unfoldable pub move_option : Option Piece → Option Piece
    move_option nothing = nothing
    move_option (some x) = some (move_piece x)

    -- ---- moving keeps the stored operands, what is held, what is added, what is defined and the number of events
    load_list_move : (l : Load) → load_list (move_load l) ≡ load_list l
    unfolding load_list move_load
    load_list_move no_load = refl
    load_list_move (list_load k xs) = refl
    load_list_move (blob_load at n) = refl

    record_list_move : (r : Record) → record_list (move_record r) ≡ record_list r
    unfolding record_list move_record
    record_list_move (a_record code vs l) = ap (λ x. vs ++ x) (load_list_move l)

    mutual
      unfolding store all_store move_piece move_pieces

      pub store_move : (x : Piece) → store (move_piece x) ≡ store x
      store_move (the_record from b first r) = record_list_move r
      store_move (definition a) = refl
      store_move (blockinfo from h sh) = refl
      store_move (skipped from h) = refl
      store_move (block from h inner) = all_store_move inner

      pub all_store_move : (xs : Pieces) → all_store (move_pieces xs) ≡ all_store xs
      all_store_move (done end) = refl
      all_store_move (◌then◌ x xs) = ap₂ (λ a b. a ++ b) (store_move x) (all_store_move xs)

    record_held_move : (b : ℕ) (r : Record) → record_held b (move_record r) ≡ record_held b r
    unfolding record_held move_record move_load
    record_held_move b (a_record code vs no_load) = refl
    record_held_move b (a_record code vs (list_load k xs)) = refl
    record_held_move b (a_record code vs (blob_load at bs)) = refl

    head_held_move : (h : Head) → (enter_held (move_head h) ≡ enter_held h) × (skip_held (move_head h) ≡ skip_held h) × (leave_held (move_head h) ≡ leave_held h)
    unfolding enter_held skip_held leave_held move_head
    head_held_move (head b w at n) = (refl, refl, refl)

    mutual
      unfolding held all_held move_piece move_pieces

      pub held_move : (x : Piece) → held (move_piece x) ≡ held x
      held_move (the_record from b first r) = ap (λ y. y ∷ []) (record_held_move b r)
      held_move (definition a) = refl
      held_move (blockinfo from h sh) = refl
      held_move (skipped from h) = ap (λ y. y ∷ []) (head_held_move h).1
      held_move (block from h inner) = ap₂ (λ x y. x ∷ y) (head_held_move h).0
          (ap₂ (λ x y. x ++ (y ∷ [])) (all_held_move inner) (head_held_move h).2)

      pub all_held_move : (xs : Pieces) → all_held (move_pieces xs) ≡ all_held xs
      all_held_move (done end) = refl
      all_held_move (◌then◌ x xs) = ap₂ (λ a b. a ++ b) (held_move x) (all_held_move xs)

    mutual
      unfolding added all_added move_piece move_pieces

      pub added_move : (x : Piece) → added (move_piece x) ≡ added x
      added_move (the_record from b first r) = refl
      added_move (definition a) = refl
      added_move (blockinfo from h sh) = refl
      added_move (skipped from h) = refl
      added_move (block from h inner) = all_added_move inner

      pub all_added_move : (xs : Pieces) → all_added (move_pieces xs) ≡ all_added xs
      all_added_move (done end) = refl
      all_added_move (◌then◌ x xs) = ap₂ (λ a b. a ++ b) (added_move x) (all_added_move xs)

    pub own_move : (x : Piece) → own (move_piece x) ≡ own x
    unfolding own move_piece
    own_move (the_record from b first r) = refl
    own_move (definition a) = refl
    own_move (blockinfo from h sh) = refl
    own_move (skipped from h) = refl
    own_move (block from h inner) = refl

    mutual
      unfolding counted all_counted move_piece move_pieces

      pub count_move : (x : Piece) → counted (move_piece x) ≡ counted x
      count_move (the_record from b first r) = refl
      count_move (definition a) = refl
      count_move (blockinfo from h sh) = refl
      count_move (skipped from h) = refl
      count_move (block from h inner) = ap (λ n. n + 2) (counts_move inner)

      pub counts_move : (xs : Pieces) → all_counted (move_pieces xs) ≡ all_counted xs
      counts_move (done end) = refl
      counts_move (◌then◌ x xs) = ap₂ (λ a b. a + b) (count_move x) (counts_move xs)

-- ---- two states that differ in the rooms, and in the fill mark by og - oo
pub record Like (og oo : ℕ) (st st' : State) : Type 0 where
  pub l_shareds : st'.shareds ≡ st.shareds
  pub l_mine : st'.mine ≡ st.mine
  pub l_locals : st'.locals ≡ st.locals
  pub l_fill : st'.fill + oo ≡ st.fill + og

pub like_self : (st : State) → Like 0 0 st st
like_self st = record { l_shareds = refl; l_mine = refl; l_locals = refl; l_fill = refl }

pub like_back : {og oo : ℕ} {st st' : State} → Like og oo st st' → Like oo og st' st
like_back l = record { l_shareds = sym l.l_shareds; l_mine = sym l.l_mine; l_locals = sym l.l_locals; l_fill = sym l.l_fill }

pub after_like : (up down : ℕ) {og oo : ℕ} {st st' : State} (x : Piece) → Like og oo st st'
    → Like og oo (after x st) (after (move_piece up down og oo x) st')
unfolding after
after_like up down {og} {oo} x l = record {
  l_shareds = ap₂ (λ a b. a ++ b) l.l_shareds (added_move up down og oo x);
  l_mine = ap₂ (λ a b. a ++ b) l.l_mine (own_move up down og oo x);
  l_locals = ap₂ (λ a b. a + length b) l.l_locals (own_move up down og oo x);
  l_fill = omega (arith, ap length (store_move up down og oo x));
}

pub entered_like : {og oo : ℕ} {st st' : State} (b : ℕ) → Like og oo st st' → Like og oo (entered b st) (entered b st')
unfolding entered
entered_like b l = record {
  l_shareds = l.l_shareds;
  l_mine = ap (λ a. shared_for b a) l.l_shareds;
  l_locals = l.l_locals;
  l_fill = l.l_fill;
}
