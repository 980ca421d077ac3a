-- The corollary: demand 3 over what two walk calls return and leave in both stores. Assumes nothing.
use mathlib.Core.Path.{◌≡◌, refl, sym, ap, ap₂, ◌∙◌, subst}
use mathlib.Core.List.{List, ◌++◌}
use Prim.Native.Nat.{ℕ, suc, ◌+◌, ◌-◌}
use native.Mathlib.Omega.{arith}
use lib.ListN.{length, length-append, take, drop, replicate, length-take, get_or-append, get_or-eq_default}
use lib.Seq.{slice, get_or-take, get_or-drop}
use Rattle.bits.proofs.Laws.{Bytes}
use Rattle.bitcode.specs.declared.Signature.{Signature}
use Rattle.bitcode.specs.Header.{signature, stream, blob_of}
use Rattle.walk.specs.declared.Walked.{Walked}
use Rattle.walk.specs.Piece.{Pieces, Event, events, all_events, store, all_store}
use Rattle.walk.specs.Shown.{all_shown}
use Rattle.walk.specs.Walk.{accepted, those, walk, entries, filled, result, walked}
use Rattle.walk.specs.Promises.{answer}
use Rattle.walk.specs.Demands.{Meets}
use Rattle.walk.proofs.Contents.{all_held}
use Rattle.walk.proofs.Call.{walk_apart}
use Rattle.walk.proofs.Shows.{reads_call, shows_met}
use Rattle.relocation.specs.Spot.{plug, front, back, front_store, back_store}
use Rattle.exchange.specs.Input.{exchange, base_of, exchanged}
use Rattle.exchange.specs.Demand3.{Each, none, more}
use Rattle.exchange.specs.Calls.{Demand3Calls}
use Rattle.exchange.proofs.Exchange.{either, behind_first}
use Rattle.exchange.proofs.Input.{end_of, lies}
use Rattle.exchange.proofs.Demand3.{new_walk, shows_exchanged, demand_3}

-- ---- bytes exchanged are bytes, and so are those of a stream
bytes_append : (xs ys : List ℕ) → Bytes xs → Bytes ys → Bytes (xs ++ ys)
bytes_append xs ys f g i = either i (length xs)
    (λ h. rw (get_or-append xs ys 0 i h) (f i))
    (λ h. rw (behind_first xs ys i (length xs) refl h) (g (i - length xs)))

bytes_drop : (k : ℕ) (xs : List ℕ) → Bytes xs → Bytes (drop k xs)
bytes_drop k xs f i = rw (get_or-drop k xs i 0) (f (k + i))

bytes_take : (k : ℕ) (xs : List ℕ) → Bytes xs → Bytes (take k xs)
bytes_take k xs f i = either i k
    (λ h. rw (get_or-take k xs i 0 h) (f i))
    (λ h. rw (get_or-eq_default (take k xs) 0 {n = i} (omega (arith, length-take k xs))) (omega arith))

bytes_slice : (i j : ℕ) (xs : List ℕ) → Bytes xs → Bytes (slice i j xs)
bytes_slice i j xs f = bytes_drop i (take j xs) (bytes_take j xs f)

bytes_exchange : (i j k : ℕ) (xs : List ℕ) → Bytes xs → Bytes (exchange i j k xs)
unfolding exchange
bytes_exchange i j k xs f =
    bytes_append (take i xs) (slice j k xs ++ (slice i j xs ++ drop k xs)) (bytes_take i xs f)
    (bytes_append (slice j k xs) (slice i j xs ++ drop k xs) (bytes_slice j k xs f)
    (bytes_append (slice i j xs) (drop k xs) (bytes_slice i j xs f) (bytes_drop k xs f)))

bytes_stream : (bs skips : List ℕ) (n m : ℕ) (h : Signature) (xs : Pieces) → walk bs skips n m ≡ accepted h xs → Bytes bs → Bytes (stream (signature bs))
unfolding walk stream
bytes_stream bs skips n m h xs z f =
    let (s, q, e₁, e₂, e₃) = walk_apart bs (those skips) n m h xs z in
    subst Bytes (sym (ap stream e₂ ∙ (lies bs s h e₂).stream_is)) (bytes_slice (base_of bs) (end_of bs) bs f)

-- ---- groups of one length
each_length : {R : Event → Event → Type 0} {xs ys : List Event} → Each R xs ys → length ys ≡ length xs
each_length none = refl
each_length (more r e) = ap suc (each_length e)

-- ---- two calls
same_pieces : {h : Signature} {xs ys : Pieces} → accepted h xs ≡ accepted h ys → xs ≡ ys
same_pieces z = cc

-- the answers are the same if the counts are
same_answers : (n m : ℕ) (h : Signature) (xs ys : Pieces) → length (all_events ys) ≡ length (all_events xs) → length (all_store ys) ≡ length (all_store xs)
    → answer (result n m (accepted h ys)) ≡ answer (result n m (accepted h xs))
unfolding result
same_answers n m h xs ys e o = ap₂ (λ x y. record { status = 0; place = 0; first = 0; second = 0; header = h; events = x; operands = y }) e o

-- a call of an accepted input
module _ (bs skips : List ℕ) (n m : ℕ) (h : Signature) (xs : Pieces) (z : walk bs skips n m ≡ accepted h xs) {r : Walked} {es os : List ℕ}
    (meets : Meets bs skips n m r es os) where
  call_answer : r ≡ answer (result n m (accepted h xs))
  unfolding walked
  call_answer = meets.0 ∙ ap (λ x. answer (result n m x)) z

  call_events : es ≡ filled n (entries (all_events xs))
  unfolding walked result
  call_events = meets.1.0 ∙ ap (λ x. (result n m x).event_store) z

  call_operands : os ≡ filled m (all_store xs)
  unfolding walked result
  call_operands = meets.1.1 ∙ ap (λ x. (result n m x).operand_store) z

  -- shows what was met, blobs by the call `blob`
  call_shows : Bytes bs → all_shown (blob_of bs) os (all_events xs) ≡ all_held xs
  unfolding filled walk
  call_shows f = rw call_operands
      (shows_met bs (those skips) n m h xs z (blob_of bs) (reads_call bs (bytes_stream bs skips n m h xs z f)) (replicate (m - length (all_store xs)) 0))

-- as many events, as many operands
same_events : (f a b k a' b' : List Event) → length a' ≡ length a → length b' ≡ length b → length (f ++ b' ++ a' ++ k) ≡ length (f ++ a ++ b ++ k)
same_events f a b k a' b' i j = simp length-append (omega arith)

same_operands : (f a b k : List ℕ) → length (f ++ b ++ a ++ k) ≡ length (f ++ a ++ b ++ k)
same_operands f a b k = simp length-append (omega arith)

pub demand_3_calls : Demand3Calls
unfolding result exchanged
demand_3_calls bs skips n m h t a b bytes z r r' es es' os os' w w' =
    let x = demand_3 bs skips n m h t a b z in
    let new = x.new in
    let e = same_pieces (sym x.accepts ∙ (new_walk bs skips n m h t a b z).0) in
    let i = call_answer bs skips n m h (plug t a b) z.meets w in
    let i' = call_answer (exchanged bs a b) skips n m h new x.accepts w' in
    let counts = ap length x.is ∙ same_events (front t) (events a) (events b) (back t) x.first x.second (each_length x.first_moves)
    (each_length x.second_moves) ∙ ap length (sym x.was) in
    let stores = ap length x.store_is ∙ same_operands (front_store t) (store a) (store b) (back_store t) ∙ ap length (sym x.store_was) in
    let was = call_shows bs skips n m h (plug t a b) z.meets w bytes in
    let is = call_shows (exchanged bs a b) skips n m h new x.accepts w' (bytes_exchange _ _ _ bs bytes) in
    record {
      accepts = ap (λ v. v.status) i;
      same_answer = i' ∙ same_answers n m h (plug t a b) new counts stores ∙ sym i;
      first = x.first;
      second = x.second;
      events_were = call_events bs skips n m h (plug t a b) z.meets w ∙ ap (λ v. filled n (entries v)) x.was;
      events_are = call_events (exchanged bs a b) skips n m h new x.accepts w' ∙ ap (λ v. filled n (entries v)) x.is;
      first_moves = x.first_moves;
      second_moves = x.second_moves;
      operands_were = call_operands bs skips n m h (plug t a b) z.meets w ∙ ap (filled m) x.store_was;
      operands_are = call_operands (exchanged bs a b) skips n m h new x.accepts w' ∙ ap (filled m) x.store_is;
      shows = ap (all_shown (blob_of (exchanged bs a b)) os') (sym x.is ∙ ap all_events e)
          ∙ shows_exchanged t a b (blob_of bs) (blob_of (exchanged bs a b)) os os' was
          (subst (λ v. all_shown (blob_of (exchanged bs a b)) os' (all_events v) ≡ all_held v) e is);
    }
