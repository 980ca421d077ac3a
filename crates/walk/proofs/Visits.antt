-- The loop of a block: the pieces so far stand in front of the answer from here, and their events, operands and shared abbreviations behind what
-- stood before the block. One law for each arm of the loop. Assumes nothing.
use mathlib.Core.Path.{◌≡◌, refl, sym, ap, ap₂, ◌∙◌}
use mathlib.Core.Bool.{false}
use mathlib.Core.List.{List, [], ◌∷◌, ◌++◌, map, append_assoc, append-nil}
use mathlib.Core.Option.{Option, none as nothing, some}
use Prim.Native.Nat.{ℕ, zero, suc, ◌+◌, ◌-◌, ◌*◌, ◌/◌, ◌≤◌, ◌<◌}
use native.Mathlib.Omega.{arith}
use lib.ListN.{length, take, drop, length-append}
use lib.Seq.{length-take-le, take_at}
use borrow.Author.Tests.{lt-ltb, ne_eqb}
use Rattle.terms.specs.Limits.{event_size}
use Rattle.terms.specs.Refusals.{Refusal}
use Rattle.bits.specs.Reader.{Reader, Answer, got, refused, onward, ◌>>=◌, give, require, turns, when◌then◌else◌}
use Rattle.bits.specs.Bits.{limit}
use Rattle.bits.proofs.Steps.{mapped, mapped_twice, mapped_same, mapped_got, mapped_off, gives_mapped, so, so_off}
use Rattle.bits.proofs.Vbr.{Ahead}
use Rattle.abbrev.specs.BlockInfo.{shared_for}
use Rattle.abbrev.specs.Tables.{Tables, row_of, rows, shareds, block_rows, picked, Kept, Whole, Below}
use Rattle.abbrev.proofs.Held.{kept_refl, kept_then, kept_less, whole_kept, shareds_kept, block_rows_kept, shared_for_picked, picked_below}
use Rattle.walk.specs.Piece.{Event, enter, leave, head, Piece, Pieces, done, ◌then◌, block, events, all_events, counted, store, all_store, added, all_added, entering, leaving, State, after, entered}
use Rattle.walk.specs.Item.{Context, headed, opening, event_room, Pass, Sub, within, body_of, complete, item, going_on, items, nested}
use Rattle.walk.specs.Walk.{entry, entries, those}
use Rattle.walk.specs.Promises.{frame, marks, context, state_of, start_of, Sits, Room, closed, completed, opening_of, Went, Entered, Ended, body_answer, Visited}
use Rattle.walk.specs.declared.Marks.{Marks}
use Rattle.walk.specs.declared.Frame.{Frame}
use Rattle.walk.specs.declared.Block.{Block}
use Rattle.walk.proofs.Answers.{nesteds}
use Rattle.walk.proofs.Turns.{items_turn, item_ahead}
use Rattle.walk.proofs.Whole.{count_events, entries_length}

-- ---- pieces, one run behind another: the end of the first goes
unfoldable pub joined : Pieces → Pieces → Pieces
joined (done end) ys = ys
joined (◌then◌ x xs) ys = ◌then◌ x (joined xs ys)

pub joined_then : (xs : Pieces) (x : Piece) (end : ℕ) (ys : Pieces) → joined xs (◌then◌ x ys) ≡ joined (joined xs (◌then◌ x (done end))) ys
unfolding joined
joined_then (done e) x end ys = refl
joined_then (◌then◌ y xs) x end ys = ap (◌then◌ y) (joined_then xs x end ys)

pub events_joined : (xs ys : Pieces) → all_events (joined xs ys) ≡ all_events xs ++ all_events ys
unfolding joined all_events
events_joined (done e) ys = refl
events_joined (◌then◌ x xs) ys = ap (λ l. events x ++ l) (events_joined xs ys) ∙ sym (append_assoc (events x) (all_events xs) (all_events ys))

pub store_joined : (xs ys : Pieces) → all_store (joined xs ys) ≡ all_store xs ++ all_store ys
unfolding joined all_store
store_joined (done e) ys = refl
store_joined (◌then◌ x xs) ys = ap (λ l. store x ++ l) (store_joined xs ys) ∙ sym (append_assoc (store x) (all_store xs) (all_store ys))

pub added_joined : (xs ys : Pieces) → all_added (joined xs ys) ≡ all_added xs ++ all_added ys
unfolding joined all_added
added_joined (done e) ys = refl
added_joined (◌then◌ x xs) ys = ap (λ l. added x ++ l) (added_joined xs ys) ∙ sym (append_assoc (added x) (all_added xs) (all_added ys))

-- the pieces so far, and one more
abbrev pub snoc : Pieces → Piece → Pieces
snoc xs x = joined xs (◌then◌ x (done 0))

one_event : (x : Piece) → all_events (◌then◌ x (done 0)) ≡ events x
unfolding all_events
one_event x = append-nil (events x)

one_store : (x : Piece) → all_store (◌then◌ x (done 0)) ≡ store x
unfolding all_store
one_store x = append-nil (store x)

one_added : (x : Piece) → all_added (◌then◌ x (done 0)) ≡ added x
unfolding all_added
one_added x = append-nil (added x)

-- the pieces so far, with their end
events_ended : (xs : Pieces) (end : ℕ) → all_events (joined xs (done end)) ≡ all_events xs
unfolding all_events
events_ended xs end = events_joined xs (done end) ∙ append-nil (all_events xs)

store_ended : (xs : Pieces) (end : ℕ) → all_store (joined xs (done end)) ≡ all_store xs
unfolding all_store
store_ended xs end = store_joined xs (done end) ∙ append-nil (all_store xs)

added_ended : (xs : Pieces) (end : ℕ) → all_added (joined xs (done end)) ≡ all_added xs
unfolding all_added
added_ended xs end = added_joined xs (done end) ∙ append-nil (all_added xs)

pub entries_append : (xs ys : List Event) → entries (xs ++ ys) ≡ entries xs ++ entries ys
unfolding entries
entries_append [] ys = refl
entries_append (x ∷ xs) ys = ap (λ l. entry x ++ l) (entries_append xs ys) ∙ sym (append_assoc (entry x) (entries xs) (entries ys))

-- ---- stores
pub room_then : {m m' m'' : Marks} {ev ev' ev'' ops ops' ops'' es es' os os' : List ℕ}
    → Room m m' ev ev' ops ops' es os → Room m' m'' ev' ev'' ops' ops'' es' os' → Room m m'' ev ev'' ops ops'' (es ++ es') (os ++ os')
room_then {m} {ev = ev} {ops = ops} {es = es} {es' = es'} {os = os} {os' = os'} a b = record {
  events = b.events ∙ ap (λ l. l ++ es') a.events ∙ append_assoc (take m.events ev) es es';
  operands = b.operands ∙ ap (λ l. l ++ os') a.operands ∙ append_assoc (take m.operands ops) os os';
  most_events = b.most_events;
  most_operands = b.most_operands;
}

pub room_as : {m m' : Marks} {ev ev' ops ops' es es' os os' : List ℕ} → es ≡ es' → os ≡ os' → Room m m' ev ev' ops ops' es os → Room m m' ev ev' ops ops' es' os'
room_as {m} {ev = ev} {ops = ops} p q r = record {
  events = r.events ∙ ap (λ l. take m.events ev ++ l) p;
  operands = r.operands ∙ ap (λ l. take m.operands ops ++ l) q;
  most_events = r.most_events;
  most_operands = r.most_operands;
}

-- the marks are the lengths of what is stored
pub room_lengths : {m m' : Marks} {ev ev' ops ops' es os : List ℕ} → m.events ≤ length ev → m.operands ≤ length ops → Room m m' ev ev' ops ops' es os
    → (m'.events ≡ m.events + length es) × (m'.operands ≡ m.operands + length os)
room_lengths {m} {m'} {ev} {ev'} {ops} {ops'} {es} {os} h k r =
    let a = length-take-le m'.events ev' r.most_events in
    let b = length-take-le m.events ev h in
    let c = length-take-le m'.operands ops' r.most_operands in
    let d = length-take-le m.operands ops k in (
      sym a ∙ ap length r.events ∙ length-append (take m.events ev) es ∙ ap (λ n. n + length es) b,
      sym c ∙ ap length r.operands ∙ length-append (take m.operands ops) os ∙ ap (λ n. n + length os) d,
    )

-- ---- one turn of the items
-- the items from a place on
abbrev pub rest_of_block : ℕ → Pass → Context → State → List ℕ → ℕ → ℕ → Answer Refusal Pieces
rest_of_block d skips c st s e p = turns (λ k. items k (nested d skips) skips c st) s e p

module _ (d : ℕ) (skips : Pass) (c : Context) (st : State) (s : List ℕ) (e p : ℕ) where
  rest_some : {x : Piece} {q : ℕ} → item (nested d skips) skips c st s e p ≡ got (some x) q → rest_of_block d skips c st s e p ≡ mapped (◌then◌ x) (rest_of_block d skips c (after x st) s e q)
  unfolding going_on
  rest_some {x} {q} z =
      items_turn (nested d skips) skips c s e (nesteds d skips) st p
      ∙ so (item (nested d skips) skips c st) (λ x. going_on p x (λ y. turns (λ k. items k (nested d skips) skips c (after y st)))) s e p z
      ∙ gives_mapped (turns (λ k. items k (nested d skips) skips c (after x st))) (◌then◌ x) s e q

  rest_none : {q : ℕ} → item (nested d skips) skips c st s e p ≡ got nothing q → rest_of_block d skips c st s e p ≡ got (done p) q
  unfolding going_on give
  rest_none z =
      items_turn (nested d skips) skips c s e (nesteds d skips) st p
      ∙ so (item (nested d skips) skips c st) (λ x. going_on p x (λ y. turns (λ k. items k (nested d skips) skips c (after y st)))) s e p z

  rest_off : {r : Refusal} → item (nested d skips) skips c st s e p ≡ refused r → rest_of_block d skips c st s e p ≡ refused r
  rest_off z =
      items_turn (nested d skips) skips c s e (nesteds d skips) st p
      ∙ so_off (item (nested d skips) skips c st) (λ x. going_on p x (λ y. turns (λ k. items k (nested d skips) skips c (after y st)))) s e p z

-- ---- where the loop stands
pub record Going (B : Block) (m₀ : Marks) (t₀ : Tables) (ev₀ ops₀ : List ℕ) (t : Tables) (ev ops : List ℕ) (m : Marks) : Type 0 where
  pub so_far : Pieces
  pub answer : body_answer B.stream.now B.skip.now B.frame m₀ t₀ (length ev₀) (length ops₀)
      ≡ mapped (joined so_far) (rest_of_block B.frame.left (those B.skip.now) (context B.frame) (state_of B m t (length ev₀) (length ops₀)) B.stream.now B.frame.end m.at)
  pub room : Room m₀ m ev₀ ev ops₀ ops (entries (all_events so_far)) (all_store so_far)
  pub shareds_are : shareds t 0 m.shared ≡ shareds t₀ 0 m₀.shared ++ all_added so_far
  pub more : m₀.shared ≤ m.shared
  pub from : m₀.local ≡ B.frame.base
  pub kept : Kept m₀.shared m₀.local t₀ t
  pub whole : Whole t
  pub same_events : length ev ≡ length ev₀
  pub same_operands : length ops ≡ length ops₀
  pub sits : Sits (length ev) (length ops) B.frame m
  pub below : Below m.shared B.own.now

-- the block begins: its shared rows are those that are for it now
first_rows : (f : Frame) (m : Marks) (own : List ℕ) (t : Tables) → m.local ≡ f.base → m.shared ≤ 32 → Whole t
    → own ≡ picked f.number t.owners m.shared 32 → shared_for f.number (shareds t 0 m.shared) ≡ block_rows t own f.base m.local
unfolding block_rows rows
first_rows f m own t h l w z =
    let n : m.local - f.base ≡ 0 = omega arith in
    let i : m.shared ≤ length t.owners = omega (arith, w.owners) in
    rw n (shared_for_picked f.number t m.shared 32 l i l ∙ ap (map (row_of t)) (sym z) ∙ sym (append-nil (map (row_of t) own)))

-- the rows that `shared_rows` has put into a store of 32
pub picked_part : (b have : ℕ) {r : ℕ} (owners rows : List ℕ) {rows' : List ℕ} → length rows ≡ 32 → r ≡ length (picked b owners have (length rows))
    → rows' ≡ picked b owners have (length rows) ++ drop r rows → take (r - 0) rows' ≡ picked b owners have 32
picked_part b have {r} owners rows {rows'} long h z =
    let n : r - 0 ≡ length (picked b owners have (length rows)) = omega (arith, h) in
    ap₂ take n z ∙ take_at (picked b owners have (length rows)) (drop r rows) (length (picked b owners have (length rows))) refl ∙ ap (picked b owners have) long

pub going_first : (B : Block) (m : Marks) (t : Tables) (ev ops : List ℕ)
    → Whole t → Sits (length ev) (length ops) B.frame m → m.local ≡ B.frame.base → B.own.now ≡ picked B.frame.number t.owners m.shared 32
    → Going B m t ev ops t ev ops m
unfolding joined entries all_events all_store all_added
going_first B m t ev ops whole sits from z = record {
  so_far = done 0;
  answer =
      ap (λ ms. rest_of_block B.frame.left (those B.skip.now) (context B.frame) (record { shareds = shareds t 0 m.shared; mine = ms; locals = m.local; room = (length ev - m.events) / event_size; fill = m.operands; left = length ops - m.operands }) B.stream.now B.frame.end m.at) (first_rows B.frame m B.own.now t from sits.shared whole z)
      ∙ sym (mapped_same (joined (done 0)) (λ a. refl) _);
  room = record {
    events = sym (append-nil (take m.events ev));
    operands = sym (append-nil (take m.operands ops));
    most_events = sits.events;
    most_operands = sits.operands;
  };
  shareds_are = sym (append-nil (shareds t 0 m.shared));
  more = omega arith;
  from = from;
  kept = kept_refl _ _ _;
  whole = whole;
  same_events = refl;
  same_operands = refl;
  sits = sits;
  below = rw z (picked_below B.frame.number t.owners m.shared 32 sits.shared);
}

module _ {B : Block} {m₀ : Marks} {t₀ : Tables} {ev₀ ops₀ : List ℕ} {t : Tables} {ev ops : List ℕ} {m : Marks}
    (g : Going B m₀ t₀ ev₀ ops₀ t ev ops m) where
  -- the state here, with the sizes of the stores as they were at the start; the item here; and the whole block's answer
  abbrev St : State
  St = state_of B m t (length ev₀) (length ops₀)

  abbrev ItemHere : Answer Refusal (Option Piece)
  ItemHere = item (nested B.frame.left (those B.skip.now)) (those B.skip.now) (context B.frame) St B.stream.now B.frame.end m.at

  abbrev Body : Answer Refusal Pieces
  Body = body_answer B.stream.now B.skip.now B.frame m₀ t₀ (length ev₀) (length ops₀)

  -- the item that a callee speaks of, by its own sizes of the stores
  item_here : {x : Answer Refusal (Option Piece)}
      → completed B (state_of B m t (length ev) (length ops)) (opening_of B m t (length ev) (length ops)) ≡ x → ItemHere ≡ x
  unfolding item ◌>>=◌
  item_here z = rw (g.same_events, g.same_operands) at z

  -- an item that is not the end goes forward
  pub ahead : {x : Piece} {q : ℕ} → ItemHere ≡ got (some x) q → Ahead B.stream.now B.frame.end m.at q
  ahead {x} {q} z = item_ahead (nested B.frame.left (those B.skip.now)) (those B.skip.now) (context B.frame) B.stream.now B.frame.end (nesteds B.frame.left (those B.skip.now)) St m.at q x z

  -- what the whole block has kept of the tables, behind an item
  pub kept_item : {t' : Tables} → Kept m.shared m.local t t' → Kept m₀.shared m₀.local t₀ t'
  kept_item k = kept_then g.kept (kept_less g.more (omega (arith, g.from, g.sits.base)) k)

  -- the loop goes on behind a piece
  going_with : {m' : Marks} {t' : Tables} {ev' ops' : List ℕ} (x : Piece) → ItemHere ≡ got (some x) m'.at
      → state_of B m' t' (length ev₀) (length ops₀) ≡ after x St
      → Room m m' ev ev' ops ops' (entries (events x)) (store x) → m.shared ≤ m'.shared → Sits (length ev') (length ops') B.frame m'
      → Kept m.shared m.local t t' → length ev' ≡ length ev → length ops' ≡ length ops
      → Going B m₀ t₀ ev₀ ops₀ t' ev' ops' m'
  unfolding after
  going_with {m'} {t'} x z i r more sits kept p q = record {
    so_far = snoc g.so_far x;
    answer =
        g.answer
        ∙ ap (mapped (joined g.so_far)) (rest_some B.frame.left (those B.skip.now) (context B.frame) St B.stream.now B.frame.end m.at z)
        ∙ mapped_twice (◌then◌ x) (joined g.so_far) (joined (snoc g.so_far x)) (λ a. joined_then g.so_far x 0 a) (rest_of_block B.frame.left (those B.skip.now) (context B.frame) (after x St) B.stream.now B.frame.end m'.at)
        ∙ ap (λ u. mapped (joined (snoc g.so_far x)) (rest_of_block B.frame.left (those B.skip.now) (context B.frame) u B.stream.now B.frame.end m'.at)) (sym i);
    room =
        room_as
        (sym (ap entries (events_joined g.so_far (◌then◌ x (done 0)) ∙ ap (λ l. all_events g.so_far ++ l) (one_event x)) ∙ entries_append (all_events g.so_far) (events x)))
        (sym (store_joined g.so_far (◌then◌ x (done 0)) ∙ ap (λ l. all_store g.so_far ++ l) (one_store x)))
        (room_then g.room r);
    shareds_are =
        ap (λ u. u.shareds) i ∙ ap (λ l. l ++ added x) g.shareds_are
        ∙ append_assoc (shareds t₀ 0 m₀.shared) (all_added g.so_far) (added x)
        ∙ ap (λ l. shareds t₀ 0 m₀.shared ++ l) (sym (added_joined g.so_far (◌then◌ x (done 0)) ∙ ap (λ l. all_added g.so_far ++ l) (one_added x)));
    more = omega (arith, g.more);
    from = g.from;
    kept = kept_item kept;
    whole = whole_kept g.whole kept;
    same_events = p ∙ g.same_events;
    same_operands = q ∙ g.same_operands;
    sits = sits;
    below = λ j h. let b = g.below j h in omega arith;
  }

  pub going_onward : {m' : Marks} {t' : Tables} {ev' ops' : List ℕ} → Kept m.shared m.local t t' → length ev' ≡ length ev → length ops' ≡ length ops
      → Went B m m' t t' ev ev' ops ops' (opening_of B m t (length ev) (length ops))
      → Going B m₀ t₀ ev₀ ops₀ t' ev' ops' m'
  going_onward k p q w =
      let st = rw (g.same_events, g.same_operands) at w.state in
      going_with w.piece (item_here w.gives) st w.room w.more w.sits k p q

  -- and comes nearer to the end
  pub onward_less : {m' : Marks} {t' : Tables} {ev' ops' : List ℕ} → Went B m m' t t' ev ev' ops ops' (opening_of B m t (length ev) (length ops))
      → limit B.stream.now B.frame.end - m'.at < limit B.stream.now B.frame.end - m.at
  onward_less w = let a = ahead (item_here w.gives) in omega (arith, a.past, a.inside)

  -- the block ends
  pub is_over : {m' : Marks} {t' : Tables} {ev' ops' : List ℕ} → Kept m.shared m.local t t'
      → Ended B m m' t ev ev' ops ops' (opening_of B m t (length ev) (length ops)) → Visited B.stream.now B.skip.now B.frame m₀ m' t₀ t' ev₀ ev' ops₀ ops'
  is_over {m'} {t'} k w = record {
    pieces = joined g.so_far (done m.at);
    gives =
        g.answer
        ∙ mapped_got (joined g.so_far) (rest_none B.frame.left (those B.skip.now) (context B.frame) St B.stream.now B.frame.end m.at (item_here w.gives));
    room = room_as (ap (λ l. entries l ++ entries (closed B.frame)) (sym (events_ended g.so_far m.at))) (append-nil (all_store g.so_far) ∙ sym (store_ended g.so_far m.at)) (room_then g.room w.room);
    shareds_are = ap (shareds t' 0) w.shared ∙ shareds_kept k m.shared (omega arith) (omega (arith, g.sits.shared)) ∙ g.shareds_are ∙ ap (λ l. shareds t₀ 0 m₀.shared ++ l) (sym (added_ended g.so_far m.at));
    more = omega (arith, w.shared, g.more);
    most = omega (arith, w.shared, g.sits.shared);
    freed = w.freed;
  }

  is_off : {r : Refusal} → ItemHere ≡ refused r → Body ≡ refused r
  is_off z = g.answer ∙ mapped_off (joined g.so_far) (rest_off B.frame.left (those B.skip.now) (context B.frame) St B.stream.now B.frame.end m.at z)

  -- an item is refused
  pub is_stopped : {r : Refusal} → completed B (state_of B m t (length ev) (length ops)) (opening_of B m t (length ev) (length ops)) ≡ refused r
      → Body ≡ refused r
  is_stopped z = is_off (item_here z)

-- ---- a nested block
-- with levels to go and room for its event
nested_is : (d : ℕ) (skips : Pass) (p b w at n : ℕ) (st : State) (s : List ℕ) (e q : ℕ) → 0 < d → 0 < st.room
    → nested d skips p (head b w at n) st s e q
    ≡ within n (turns (λ k. items k (nested (d - 1) skips) skips (record { number = b; wide = w; top = false }) (entered b st))) s e q
unfolding nested event_room ◌>>=◌ onward require
nested_is zero skips p b w at n st s e q h k = absurd (omega arith)
nested_is (suc d) skips p b w at n st s e q h k =
    let z : suc d - 1 ≡ d = omega arith in
    rw (lt-ltb 0 st.room k, z)

within_got : {A : Type 0} (n : ℕ) (m : Reader Refusal A) (s : List ℕ) (e q : ℕ) {a : A} {r : ℕ} → m s (q / 8 + n) q ≡ got a r → within n m s e q ≡ got a (q + 8 * n)
unfolding within onward
within_got n m s e q z = rw z

within_off : {A : Type 0} (n : ℕ) (m : Reader Refusal A) (s : List ℕ) (e q : ℕ) {r : Refusal} → m s (q / 8 + n) q ≡ refused r → within n m s e q ≡ refused r
unfolding within onward
within_off n m s e q z = rw z

module _ (sub : Sub) (skips : Pass) (c : Context) (st : State) (s : List ℕ) (e p q from b w at n : ℕ)
    (o : opening c st s e p ≡ got (headed from (head b w at n)) q) (h : b ≡ 0 → ⊥) (k : skips from b ≡ false) where
  item_block : {xs : Pieces} {r : ℕ} → sub from (head b w at n) st s e q ≡ got xs r → item sub skips c st s e p ≡ got (some (block from (head b w at n) xs)) r
  unfolding item complete body_of give ◌>>=◌ onward when◌then◌else◌
  item_block z = rw (o, ne_eqb b 0 h, k, z)

  item_no_block : {r : Refusal} → sub from (head b w at n) st s e q ≡ refused r → item sub skips c st s e p ≡ refused r
  unfolding item complete body_of give ◌>>=◌ onward when◌then◌else◌
  item_no_block z = rw (o, ne_eqb b 0 h, k, z)

module _ {B : Block} {m₀ : Marks} {t₀ : Tables} {ev₀ ops₀ : List ℕ} {t : Tables} {ev ops : List ℕ} {m u : Marks} {b w n : ℕ}
    {t' : Tables} {ev' ops' : List ℕ}
    (g : Going B m₀ t₀ ev₀ ops₀ t ev ops m)
    (k : Kept m.shared m.local t t') (p : length ev' ≡ length ev) (q : length ops' ≡ length ops)
    (d : Entered B m u b w n ev ev' ops ops' (opening_of B m t (length ev) (length ops))) where
  -- the nested block's frame, the state here, and the head
  abbrev Inner : Frame
  Inner = frame b w (u.at / 8 + n) (B.frame.left - 1) u.local

  abbrev Outer : State
  Outer = state_of B m t (length ev₀) (length ops₀)

  opens_here : opening (context B.frame) Outer B.stream.now B.frame.end m.at ≡ got (headed m.at (head b w (u.at / 8) n)) u.at
  opens_here = rw (g.same_events, g.same_operands) at d.opens

  room_here : 0 < Outer.room
  room_here = omega (arith, d.spare, g.same_events)

  -- the state that it begins in
  inner_state : start_of Inner u t' (length ev₀) (length ops₀) ≡ entered b Outer
  unfolding entered
  inner_state =
      let i = d.is in
      let e₁ : u.shared ≡ m.shared = ap (λ z. z.shared) i in
      let e₂ : u.local ≡ m.local = ap (λ z. z.local) i in
      let e₃ : u.events ≡ m.events + event_size = ap (λ z. z.events) i in
      let e₄ : u.operands ≡ m.operands = ap (λ z. z.operands) i in
      let e₅ : (length ev₀ - u.events) / event_size ≡ (length ev₀ - m.events) / event_size - 1 = omega arith in
      let e₆ = shareds_kept k m.shared (omega arith) (omega (arith, g.sits.shared)) in
      let e₇ : shareds t' 0 u.shared ≡ shareds t 0 m.shared = ap (shareds t' 0) e₁ ∙ e₆ in
      rw (e₇, e₂, e₅, e₄)

  body_here : {x : Answer Refusal Pieces} → body_answer B.stream.now B.skip.now Inner u t' (length ev') (length ops') ≡ x
      → turns (λ k. items k (nested (B.frame.left - 1) (those B.skip.now)) (those B.skip.now) (record { number = b; wide = w; top = false }) (entered b Outer)) B.stream.now (u.at / 8 + n) u.at ≡ x
  body_here z =
      let y = rw (p ∙ g.same_events, q ∙ g.same_operands) at z in
      rw inner_state at y

  -- what it keeps of the tables
  kept_both : {t'' : Tables} → Kept u.shared u.local t' t'' → Kept m.shared m.local t t''
  kept_both k' =
      let e₁ : m.shared ≡ u.shared = ap (λ z. z.shared) (sym d.is) in
      let e₂ : m.local ≡ u.local = ap (λ z. z.local) (sym d.is) in
      kept_then k (kept_less (omega arith) (omega arith) k')

  pub kept_nested : {t'' : Tables} → Kept u.shared u.local t' t'' → Kept m₀.shared m₀.local t₀ t''
  kept_nested k' = kept_item g (kept_both k')

  -- it is refused
  pub is_refused : {r : Refusal} → body_answer B.stream.now B.skip.now Inner u t' (length ev') (length ops') ≡ refused r → body_answer B.stream.now B.skip.now B.frame m₀ t₀ (length ev₀) (length ops₀) ≡ refused r
  is_refused z =
      is_off g
      (item_no_block (nested B.frame.left (those B.skip.now)) (those B.skip.now) (context B.frame) Outer B.stream.now B.frame.end m.at u.at m.at b w (u.at / 8) n opens_here d.entered_is.0 d.entered_is.1
      (nested_is B.frame.left (those B.skip.now) m.at b w (u.at / 8) n Outer B.stream.now B.frame.end u.at d.levels room_here
      ∙ within_off n _ B.stream.now B.frame.end u.at (body_here z)))

  -- it ends: the parent goes on behind the declared length
  module _ {v : Marks} {t'' : Tables} {ev'' ops'' : List ℕ} (k' : Kept u.shared u.local t' t'') (p' : length ev'' ≡ length ev') (q' : length ops'' ≡ length ops')
      (z : Visited B.stream.now B.skip.now Inner u v t' t'' ev' ev'' ops' ops'') where
    abbrev Nested : Piece
    Nested = block m.at (head b w (u.at / 8) n) z.pieces

    abbrev Here : Marks
    Here = marks (u.at + 8 * n) v.events v.operands v.shared v.local

    whole_room : Room m v ev ev'' ops ops'' (entries (events Nested)) (store Nested)
    unfolding events store entering leaving closed when◌then◌else◌ entries
    whole_room =
        room_as (ap (λ l. entry (enter b w (u.at / 8) n) ++ l) (sym (entries_append (all_events z.pieces) (leave b ∷ [])))) refl
        (room_then d.room z.room)

    local_here : v.local ≡ m.local
    local_here = z.freed ∙ ap (λ z. z.local) d.is

    block_item : item (nested B.frame.left (those B.skip.now)) (those B.skip.now) (context B.frame) Outer B.stream.now B.frame.end m.at ≡ got (some Nested) (u.at + 8 * n)
    block_item =
        item_block (nested B.frame.left (those B.skip.now)) (those B.skip.now) (context B.frame) Outer B.stream.now B.frame.end m.at u.at m.at b w (u.at / 8) n opens_here d.entered_is.0 d.entered_is.1
        (nested_is B.frame.left (those B.skip.now) m.at b w (u.at / 8) n Outer B.stream.now B.frame.end u.at d.levels room_here
        ∙ within_got n _ B.stream.now B.frame.end u.at (body_here z.gives))

    behind_state : state_of B Here t'' (length ev₀) (length ops₀) ≡ after Nested Outer
    unfolding after added Rattle.walk.specs.Piece.own
    behind_state =
        let l = room_lengths {m = m} g.sits.events g.sits.operands whole_room in
        let e = entries_length (events Nested) in
        let c = count_events Nested in
        let i = d.is in
        let s₁ : u.shared ≡ m.shared = ap (λ z. z.shared) i in
        let x₀ : shareds t'' 0 v.shared ≡ shareds t 0 m.shared ++ all_added z.pieces =
        z.shareds_are ∙ ap (λ l. l ++ all_added z.pieces) (ap (shareds t' 0) s₁ ∙ shareds_kept k m.shared (omega arith) (omega (arith, g.sits.shared))) in
        let x₁ : block_rows t'' B.own.now B.frame.base v.local ≡ block_rows t B.own.now B.frame.base m.local ++ [] =
        ap (block_rows t'' B.own.now B.frame.base) local_here ∙ block_rows_kept (kept_both k') B.own.now B.frame.base g.below (omega (arith, g.sits.shared)) g.sits.base
        ∙ sym (append-nil (block_rows t B.own.now B.frame.base m.local)) in
        let x₂ : v.local ≡ m.local + 0 = omega (arith, local_here) in
        let x₃ : (length ev₀ - v.events) / event_size ≡ (length ev₀ - m.events) / event_size - counted Nested = omega (arith, l.0, e, c) in
        let x₄ : v.operands ≡ m.operands + length (store Nested) = l.1 in
        let x₅ : length ops₀ - v.operands ≡ length ops₀ - m.operands - length (store Nested) = omega (arith, l.1) in
        cc

    pub going_behind : Going B m₀ t₀ ev₀ ops₀ t'' ev'' ops'' Here
    going_behind =
        let i = d.is in
        let s₁ : u.shared ≡ m.shared = ap (λ z. z.shared) i in
        going_with g Nested block_item behind_state
        (record { events = whole_room.events; operands = whole_room.operands; most_events = whole_room.most_events; most_operands = whole_room.most_operands })
        (omega (arith, z.more))
        (record { events = whole_room.most_events; operands = whole_room.most_operands; shared = z.most; base = omega (arith, local_here, g.sits.base); local = omega (arith, local_here, g.sits.local) })
        (kept_both k') (p' ∙ p) (q' ∙ q)

    -- and comes nearer to the end
    pub behind_less : limit B.stream.now B.frame.end - (u.at + 8 * n) < limit B.stream.now B.frame.end - m.at
    behind_less = let a = ahead g block_item in omega (arith, a.past, a.inside)
