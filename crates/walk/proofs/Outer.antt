-- The walk's outside: the skip list, the zeros behind what a store holds, the top level, and the whole call. Assumes nothing.
use Rattle.std.specs.Prelude.{Result, Ok, Err}
use mathlib.Core.Path.{◌≡◌, refl, sym, ap, ap₂, ◌∙◌}
use mathlib.Core.Bool.{Bool, true, false}
use Rattle.std.specs.Prelude.{◌||◌, eqb}
use Rattle.std.specs.List.{list_any}
use mathlib.Core.List.{List, [], ◌∷◌, ◌++◌, append-nil}
use Prim.Native.Nat.{ℕ, ◌-◌, ◌*◌, ◌/◌, ◌≤◌, ◌<◌}
use native.Mathlib.Nat.{sub-zero}
use native.Mathlib.Omega.{arith}
use lib.ListN.{length, take, replicate}
use lib.Seq.{length-take-le}
use borrow.Author.Tests.{lt-ltb, le-ltb}
use Rattle.terms.specs.Limits.{max_input, event_size}
use Rattle.terms.specs.Refusals.{No, no, Refusal, refusal, at_bit, no_of, refusal_of, number_of, first_of, second_of}
use Rattle.terms.specs.declared.Reason.{Reason}
use Rattle.terms.specs.declared.Refused.{Refused}
use Rattle.bits.specs.Reader.{Answer, refused, when◌then◌else◌, turns}
use Rattle.bitcode.specs.declared.Signature.{Signature}
use Rattle.bitcode.specs.Header.{Opened, unsigned, opened, signature, parsed, stream}
use Rattle.abbrev.specs.BlockInfo.{shared_for}
use Rattle.abbrev.specs.Tables.{Tables, shareds}
use Rattle.walk.specs.Piece.{Pieces, all_events, all_store}
use Rattle.walk.specs.Item.{items, nested}
use Rattle.walk.specs.Walk.{top_level, start, top_items, Outcome, denied, accepted, outcome, walk_stream, walk_by, listed, those, walk, entries, filled, no_header, result, walked}
use Rattle.walk.specs.Numbers.{numbers_of}
use Rattle.walk.specs.Promises.{answer, marks, closed, body_answer, Is, Streamed, Streams, cleared, Denies, Accepts}
use Rattle.walk.specs.declared.Walked.{Walked}
use Rattle.walk.specs.declared.Accepted.{Accepted}
use Rattle.walk.specs.declared.Marks.{Marks}
use Rattle.walk.specs.declared.Frame.{Frame}
use Rattle.walk.proofs.Whole.{entries_length}
use Rattle.walk.specs.Demands.{Meets}

-- ---- the skip list: the library's search for a number is the definition's
pub listed_as : (b : ℕ) (xs : List ℕ) → list_any (λ y. eqb y b) xs ≡ listed b xs
unfolding listed when◌then◌else◌
listed_as b [] = refl
listed_as b (x ∷ xs) = go (eqb x b) (listed_as b xs)
  where
    go : (t : Bool) → list_any (λ y. eqb y b) xs ≡ listed b xs → (t || list_any (λ y. eqb y b) xs) ≡ (when t then true else listed b xs)
    go true i = refl
    go false i = i

-- ---- the top level is a block's body, from the first bit, with no abbreviation
abbrev pub outermost : ℕ → Frame
outermost end = record { number = 4294967295; width = 2; end = end; left = 32; top = true; base = 0 }

body_is : (s skip : List ℕ) (t : Tables) (ne nops : ℕ)
    → body_answer s skip (outermost (length s)) (marks 0 0 0 0 0) t ne nops ≡ top_items (those skip) ne nops s (length s) 0
unfolding top_items top_level start shareds shared_for
body_is s skip t ne nops =
    ap₂ (λ n m. turns (λ k. items k (nested 32 (those skip)) (those skip) top_level record { shareds = []; mine = []; locals = 0; room = n / 8; fill = 0; left = m }) s (length s) 0)
    (sub-zero ne) (sub-zero nops)

none_closed : (end : ℕ) → entries (closed (outermost end)) ≡ []
unfolding closed when◌then◌else◌ entries
none_closed end = refl

pub stream_is : (s skip ev ev' ops ops' : List ℕ) (t t' : Tables) (have local : ℕ) (r : Result Marks Refused) → have ≡ 0 → local ≡ 0
    → Is s skip (outermost (length s)) (marks 0 0 0 have local) t t' ev ev' ops ops' r → Streams s skip ev ev' ops ops' r
stream_is s skip ev ev' ops ops' t t' have local r i j h = go r (rw (i, j) at h)
  where
    go : (r : Result Marks Refused) → Is s skip (outermost (length s)) (marks 0 0 0 0 0) t t' ev ev' ops ops' r → Streams s skip ev ev' ops ops' r
    go (Ok m) v = record {
      pieces = v.pieces;
      gives = sym (body_is s skip t (length ev) (length ops)) ∙ v.gives;
      events = v.room.events ∙ ap (λ z. entries (all_events v.pieces) ++ z) (none_closed (length s)) ∙ append-nil (entries (all_events v.pieces));
      operands = v.room.operands;
      most_events = v.room.most_events;
      most_operands = v.room.most_operands;
    }
    go (Err x) v = sym (body_is s skip t (length ev) (length ops)) ∙ v

-- ---- the whole call: 15, then 1, then the walk
module _ (bs skip : List ℕ) (ne nops : ℕ) where
  pub too_long : max_input < length bs → walk bs skip ne nops ≡ denied (refusal 15 0 0 0)
  unfolding walk walk_by when◌then◌else◌
  too_long h = rw (lt-ltb max_input (length bs) h)

  walks_on : length bs ≤ max_input → walk bs skip ne nops ≡ walk_stream (signature bs) (those skip) ne nops
  unfolding walk walk_by when◌then◌else◌
  walks_on h = rw (le-ltb max_input (length bs) h)

  pub unheaded : {e : Reason} → length bs ≤ max_input → Err e ≡ parsed (signature bs) → walk bs skip ne nops ≡ denied (at_bit 0 (no_of e))
  unfolding walk_stream parsed
  unheaded {e} h i = walks_on h ∙ go (signature bs) i
    where
      go : (o : Opened) → Err e ≡ parsed o → walk_stream o (those skip) ne nops ≡ denied (at_bit 0 (no_of e))
      go unsigned i = cc
      go (opened g s) i = cc

  pub headed_on : {g : Signature} {s : List ℕ} → length bs ≤ max_input → Ok g ≡ parsed (signature bs) → s ≡ stream (signature bs)
      → walk bs skip ne nops ≡ outcome g (top_items (those skip) ne nops s (length s) 0)
  unfolding walk_stream parsed stream
  headed_on {g} {s} h i j = walks_on h ∙ go (signature bs) i j
    where
      go : (o : Opened) → Ok g ≡ parsed o → s ≡ stream o → walk_stream o (those skip) ne nops ≡ outcome g (top_items (those skip) ne nops s (length s) 0)
      go unsigned i j = cc
      go (opened g' s') i j = cc

-- the stream's refusal is the call's
pub refused_so : {o : Outcome} {x : Answer Refusal Pieces} {r : Refusal} (g : Signature) → o ≡ outcome g x → x ≡ refused r → o ≡ denied r
unfolding outcome
refused_so g i j = i ∙ ap (outcome g) j

-- ---- what the call promises: the answer and both stores
meets_as : (bs skip : List ℕ) (ne nops : ℕ) (o : Outcome) {w : Walked} {es os : List ℕ} → walk bs skip ne nops ≡ o
    → w ≡ answer (result ne nops o) → es ≡ (result ne nops o).event_store → os ≡ (result ne nops o).operand_store → Meets bs skip ne nops w es os
unfolding walked
meets_as bs skip ne nops o i h j k = rw i (h, (j, k))

-- what is told of a refusal, by its number and its details
refusal_told : (ne nops at : ℕ) (x : No) → result ne nops (denied (at_bit at x)) ≡ record {
  status = number_of x;
  place = at;
  first = first_of x;
  second = second_of x;
  header = no_header;
  event_count = 0;
  operand_count = 0;
  event_store = filled ne [];
  operand_store = filled nops [];
}
unfolding result
refusal_told ne nops at (no n x y) = refl

-- all zero: a refusal, in stores of the sizes that were lent
pub meets_denied : (bs skip : List ℕ) (ne nops : ℕ) {ne' nops' : ℕ} (x : Refused) {w : Result Accepted Refused} {es os : List ℕ} {r : Refusal}
    → ne' ≡ ne → nops' ≡ nops → refusal_of x ≡ r → walk bs skip ne nops ≡ denied r → Denies x ne' nops' w es os
    → Meets bs skip ne nops (numbers_of w) es os
meets_denied bs skip ne nops x i j k o d =
    let z = refusal_told ne nops x.place (no_of x.reason) in
    meets_as bs skip ne nops (denied (refusal_of x)) (o ∙ ap denied (sym k)) (ap numbers_of d.0 ∙ ap answer (sym z))
    (d.1 ∙ ap (λ n. filled n []) i ∙ ap (λ t. t.event_store) (sym z)) (d.2 ∙ ap (λ n. filled n []) j ∙ ap (λ t. t.operand_store) (sym z))

-- a store that holds xs up to n, and zeros behind it
filled_is : (l xs : List ℕ) (n size : ℕ) → take n l ≡ xs → n ≤ length l → length l ≡ size → cleared n l ≡ filled size xs
unfolding filled
filled_is l xs n size e h k =
    let m : n ≡ length xs = sym (length-take-le n l h) ∙ ap length e in
    ap₂ (λ z i. z ++ replicate (length l - i) 0) e m ∙ ap (λ i. xs ++ replicate (i - length xs) 0) k

-- accepted: what the stream's walk left in the stores
pub meets_accepted : (bs skip ev ops : List ℕ) {g : Signature} {s ev' ops' : List ℕ} (m : Marks) {w : Result Accepted Refused} {es os : List ℕ}
    → walk bs skip (length ev) (length ops) ≡ outcome g (top_items (those skip) (length ev) (length ops) s (length s) 0)
    → Streamed s skip ev ev' ops ops' m → length ev' ≡ length ev → length ops' ≡ length ops
    → Accepts g m ev' ops' w es os → Meets bs skip (length ev) (length ops) (numbers_of w) es os
unfolding result outcome
meets_accepted bs skip ev ops {g} {s} {ev'} {ops'} m o h i j a =
    let xs = h.pieces in
    let n : m.events ≡ 8 * length (all_events xs) = sym (length-take-le m.events ev' h.most_events) ∙ ap length h.events ∙ entries_length (all_events xs) in
    let c : m.events / event_size ≡ length (all_events xs) = omega arith in
    let k : m.operands ≡ length (all_store xs) = sym (length-take-le m.operands ops' h.most_operands) ∙ ap length h.operands in
    meets_as bs skip (length ev) (length ops) (accepted g xs) (o ∙ ap (outcome g) h.gives)
    (ap numbers_of a.0 ∙ ap₂ (λ (x : ℕ) (y : ℕ). record { status = 0; place = 0; first = 0; second = 0; header = g; events = x; operands = y }) c k)
    (a.1 ∙ filled_is ev' (entries (all_events xs)) m.events (length ev) h.events h.most_events i)
    (a.2 ∙ filled_is ops' (all_store xs) m.operands (length ops) h.operands h.most_operands j)
