-- The theorem: demand 3 holds. Whole.antt has it in pieces; here are the events, operands and contents of those pieces. Assumes nothing.
use mathlib.Core.Path.{◌≡◌, refl, sym, ap₂, ◌∙◌, subst}
use mathlib.Core.List.{List, [], ◌++◌, append-nil}
use Prim.Native.Nat.{ℕ, ◌+◌, ◌-◌, ◌/◌, ◌≤◌}
use native.Mathlib.Omega.{arith}
use lib.ListN.{length}
use Rattle.bitcode.specs.declared.Signature.{Signature}
use Rattle.walk.specs.Record.{no_load, list_load, blob_load, Record, a_record}
use Rattle.walk.specs.Piece.{Head, head, Piece, the_record, definition, blockinfo, skipped, block, Pieces, done, ◌then◌, Event, record_of, entering, skipping, leaving, events, all_events, store, all_store}
use Rattle.walk.specs.Shown.{Blobs, bytes_at, all_shown}
use Rattle.walk.specs.Walk.{accepted, those, walk}
use Rattle.walk.proofs.Contents.{all_held}
use Rattle.walk.proofs.Shows.{reads_definition, shows_met}
use Rattle.relocation.specs.Spot.{Spot, plug, from_of, to_of, byte_length, front, back, front_store, back_store}
use Rattle.exchange.specs.Input.{exchanged}
use Rattle.exchange.specs.Demand3.{Shifted, s_enter, s_skip, s_leave, s_plain, s_list, s_blob, Each, none, more, Neighbours, Demand3}
use Rattle.relocation.proofs.Shift.{move_load, move_record, move_head, LoadFine, RecordFine, HeadFine, Fine, Fines, move_piece, move_pieces, store_move, held_move}
use Rattle.relocation.proofs.Blocks.{Blind}
use Rattle.relocation.proofs.Spots.{front_held, back_held, plug_events, plug_held, plug_store, shown_parts}
use Rattle.exchange.proofs.Whole.{moved_down, moved_up, PairFine, swapped_walk}

-- ---- within a group only places move
-- group behind group
pub each_append : {R : Event → Event → Type 0} {xs ys zs ws : List Event} → Each R xs ys → Each R zs ws → Each R (xs ++ zs) (ys ++ ws)
each_append none b = b
each_append (more r a) b = more r (each_append a b)

module _ (up down og oo : ℕ) where
  record_shifted : (b first : ℕ) (r : Record) → oo ≤ first + og → RecordFine up down r
      → Shifted (up / 8) (down / 8) og oo (record_of b first r) (record_of b (first + og - oo) (move_record up down r))
  unfolding record_of move_record move_load RecordFine LoadFine
  record_shifted b first (a_record code vs no_load) h f = s_plain b code first (first + og - oo) (length vs) (omega arith)
  record_shifted b first (a_record code vs (list_load k xs)) h f =
      s_list b code first (first + og - oo) (length vs) k (first + length vs) (first + og - oo + length vs) (length xs) f.0 f.1
      (omega arith) (omega arith)
  record_shifted b first (a_record code vs (blob_load at bs)) h f =
      s_blob b code first (first + og - oo) (length vs) at (at + up / 8 - down / 8) (length bs) (omega arith) (omega arith)

  entering_shifted : (h : Head) → HeadFine up down h → Shifted (up / 8) (down / 8) og oo (entering h) (entering (move_head up down h))
  unfolding entering move_head HeadFine
  entering_shifted (head b w at n) f = s_enter b w at (at + up / 8 - down / 8) n (omega arith)

  skipping_shifted : (h : Head) → HeadFine up down h → Shifted (up / 8) (down / 8) og oo (skipping h) (skipping (move_head up down h))
  unfolding skipping move_head HeadFine
  skipping_shifted (head b w at n) f = s_skip b w at (at + up / 8 - down / 8) n (omega arith)

  leaving_shifted : (h : Head) → Shifted (up / 8) (down / 8) og oo (leaving h) (leaving (move_head up down h))
  unfolding leaving move_head
  leaving_shifted (head b w at n) = s_leave b

  mutual
    unfolding events all_events move_piece move_pieces Fine Fines

    pub events_shifted : (x : Piece) → Fine up down og oo x → Each (Shifted (up / 8) (down / 8) og oo) (events x) (events (move_piece up down og oo x))
    events_shifted (the_record from b first r) f = more (record_shifted b first r f.0 f.1) none
    events_shifted (definition a) f = none
    events_shifted (blockinfo from h sh) f = none
    events_shifted (skipped from h) f = more (skipping_shifted h f.0) none
    events_shifted (block from h inner) f = more (entering_shifted h f.0)
        (each_append (all_events_shifted inner f.2) (more (leaving_shifted h) none))

    pub all_events_shifted : (xs : Pieces) → Fines up down og oo xs
        → Each (Shifted (up / 8) (down / 8) og oo) (all_events xs) (all_events (move_pieces up down og oo xs))
    all_events_shifted (done end) f = none
    all_events_shifted (◌then◌ x xs) f = each_append (events_shifted x f.0) (all_events_shifted xs f.1)

-- ---- the skip list doesn't look at the place
list_blind : (skips : List ℕ) → Blind (those skips)
unfolding those
list_blind skips from from' b = refl

-- ---- contents
-- where both walks' events show what was met, the second's show what the first's did, by whatever blobs and stores they are looked up in
pub shows_exchanged : (t : Spot) (a b : Piece) (blobs blobs' : Blobs) (l l' : List ℕ)
    → all_shown blobs l (all_events (plug t a b)) ≡ all_held (plug t a b)
    → all_shown blobs' l' (all_events (plug t (moved_down a b) (moved_up a b))) ≡ all_held (plug t (moved_down a b) (moved_up a b))
    → all_shown blobs' l' (all_events (plug t (moved_down a b) (moved_up a b)))
    ≡ all_shown blobs l (front t) ++ all_shown blobs l (events b) ++ all_shown blobs l (events a) ++ all_shown blobs l (back t)
unfolding moved_down moved_up
shows_exchanged t a b blobs blobs' l l' was is =
    let (f, ea, eb, k) = shown_parts blobs l t a b was in
    let ha = held_move (to_of b - to_of a) 0 (length (store b)) 0 a in
    let hb = held_move 0 (to_of a - from_of a) 0 (length (store a)) b in
    is ∙ plug_held t (moved_down a b) (moved_up a b)
    ∙ ap₂ (λ x y. front_held t ++ x ++ y ++ back_held t) (hb ∙ sym eb) (ha ∙ sym ea)
    ∙ ap₂ (λ x y. x ++ all_shown blobs l (events b) ++ all_shown blobs l (events a) ++ y) (sym f) (sym k)

-- ---- the exchanged input's walk
pub new_walk : (bs skips : List ℕ) (n m : ℕ) (h : Signature) (t : Spot) (a b : Piece) → Neighbours bs skips n m h t a b
    → (walk (exchanged bs a b) skips n m ≡ accepted h (plug t (moved_down a b) (moved_up a b))) × PairFine a b × (to_of a ≡ from_of b)
unfolding walk
new_walk bs skips n m h t a b z = swapped_walk (those skips) (list_blind skips) n m t a b z.first_block z.second_block z.first_quiet
    z.second_quiet z.aligned bs h z.meets z.clear

-- ---- DEMAND 3
pub demand_3 : Demand3
unfolding byte_length moved_down moved_up PairFine walk
demand_3 bs skips n m h t a b z =
    let (w, (fb, fa), next) = new_walk bs skips n m h t a b z in
    let sa : store (moved_up a b) ≡ store a = store_move (to_of b - to_of a) 0 (length (store b)) 0 a in
    let sb : store (moved_down a b) ≡ store b = store_move 0 (to_of a - from_of a) 0 (length (store a)) b in
    let old = shows_met bs (those skips) n m h (plug t a b) z.meets (bytes_at bs) (reads_definition bs) [] in
    let new = shows_met (exchanged bs a b) (those skips) n m h (plug t (moved_down a b) (moved_up a b)) w (bytes_at (exchanged bs a b))
    (reads_definition (exchanged bs a b)) [] in
    record {
      new = plug t (moved_down a b) (moved_up a b);
      accepts = w;
      first = events (moved_up a b);
      second = events (moved_down a b);
      was = plug_events t a b;
      is = plug_events t (moved_down a b) (moved_up a b);
      first_moves = subst (λ x. Each (Shifted ((to_of b - x) / 8) 0 (length (store b)) 0) (events a) (events (moved_up a b))) next
          (events_shifted (to_of b - to_of a) 0 (length (store b)) 0 a fa);
      second_moves = events_shifted 0 (to_of a - from_of a) 0 (length (store a)) b fb;
      store_was = plug_store t a b;
      store_is = plug_store t (moved_down a b) (moved_up a b) ∙ ap₂ (λ x y. front_store t ++ x ++ y ++ back_store t) sb sa;
      shows = shows_exchanged t a b (bytes_at bs) (bytes_at (exchanged bs a b)) (all_store (plug t a b))
          (all_store (plug t (moved_down a b) (moved_up a b))) (rw (append-nil (all_store (plug t a b))) at old)
          (rw (append-nil (all_store (plug t (moved_down a b) (moved_up a b)))) at new);
    }
