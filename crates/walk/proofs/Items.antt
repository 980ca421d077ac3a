-- One law for each case of an item: what the definition answers where the code stands. Assumes nothing.
use Rattle.std.specs.Prelude.{Result, Ok, Err}
use mathlib.Core.Path.{◌≡◌, refl, sym, ap, subst, ◌∙◌}
use mathlib.Core.Bool.{true, false}
use mathlib.Core.List.{List, [], ◌∷◌, ◌++◌, append-nil}
use mathlib.Core.Option.{none as nothing, some}
use Prim.Native.Nat.{ℕ, zero, suc, ◌+◌, ◌-◌, ◌*◌, ◌/◌, ◌≤◌, ◌<◌}
use native.Mathlib.Omega.{arith}
use lib.ListN.{length, take, set}
use borrow.Author.Tests.{lt-ltb, le-ltb, le-leb, lt-leb, ne_eqb}
use Rattle.terms.specs.Limits.{event_size}
use Rattle.terms.specs.Refusals.{No, no, Refusal, refusal, at_bit}
use Rattle.terms.specs.declared.Reason.{Reason}
use Rattle.bits.specs.Reader.{Reader, Answer, got, refused, onward, ◌>>=◌, give, stop, require, when◌then◌else◌, here, turns, at_place, placed}
use Rattle.bits.specs.Bits.{limit, align, ends_at}
use Rattle.bits.specs.Told.{Off}
use Rattle.bits.specs.declared.Cursor.{Cursor}
use Rattle.abbrev.specs.Abbrev.{Abbrev, define, number_of, look_up}
use Rattle.abbrev.specs.BlockInfo.{Shared, info}
use Rattle.abbrev.specs.Tables.{row_size, first_local, local_rows, Tables, tables, abbrev_of, row_of, shareds, block_rows, Outside, Kept, Whole, info_all, info_block, Adds, row_at}
use Rattle.abbrev.proofs.Held.{kept_less, kept_shape, shareds_kept, shareds_length, block_rows_kept, block_rows_more, look_up_some, look_up_none}
use Rattle.abbrev.proofs.Infos.{info_whole}
use Rattle.walk.specs.Record.{Record, record_list, unabbreviated, rest}
use Rattle.walk.specs.Piece.{Head, head, Event, enter, leave, record_event, record_of, skipping, Piece, the_record, definition, blockinfo, skipped, events, counted, store, added, State, after}
use Rattle.walk.specs.Item.{Context, Begun, heads, records, heading, used, begun, begin, Opening, ended, defined, recorded, headed, event_room, leave_room, fits, finish, at_end, opening, within, Pass, body_of, complete, nested}
use Rattle.walk.specs.Walk.{entry, entries, those, listed}
use Rattle.walk.specs.Promises.{marks, context, state_of, Stands, Room, closed, Behind, completed, numbered, headed_at, Went, Entered, Ended, Does, plain, abbreviated, head_fits, Reads, Tells, placed_at}
use Rattle.walk.specs.declared.Marks.{Marks}
use Rattle.walk.specs.declared.Block.{Block}
use Rattle.walk.specs.declared.RecordRead.{RecordRead}
use Rattle.walk.specs.declared.Step.{Step}
use Rattle.walk.specs.declared.Step.TheVariants as S
use Rattle.walk.proofs.Visits.{room_lengths}

-- ---- a whole item, by its opening
module _ (B : Block) (st : State) where
  pub completed_off : {x : Answer Refusal Opening} {r : Refusal} → x ≡ refused r → completed B st x ≡ refused r
  unfolding onward
  completed_off z = rw z

  pub completed_ended : {x : Answer Refusal Opening} {q : ℕ} → x ≡ got ended q → completed B st x ≡ got nothing q
  unfolding onward complete give
  completed_ended z = rw z

  pub completed_recorded : {x : Answer Refusal Opening} {from b first q : ℕ} {r : Record} → x ≡ got (recorded from b first r) q → completed B st x ≡ got (some (the_record from b first r)) q
  unfolding onward complete give
  completed_recorded z = rw z

  pub completed_defined : {x : Answer Refusal Opening} {a : Abbrev} {q : ℕ} → x ≡ got (defined a) q → completed B st x ≡ got (some (definition a)) q
  unfolding onward complete give
  completed_defined z = rw z

  module _ (m : Marks) (w n : ℕ) (g : Cursor) where
    -- BLOCKINFO
    pub info_done : {xs : List Shared} {to : ℕ} → turns (λ k. info k w nothing (length st.shareds)) B.stream.now (g.at / 8 + n) g.at ≡ got xs to
        → completed B st (headed_at m 0 w n g) ≡ got (some (blockinfo m.at (head 0 w (g.at / 8) n) xs)) (g.at + 8 * n)
    unfolding onward complete body_of when◌then◌else◌ within give ◌>>=◌
    info_done z = rw z

    pub info_off : {r : Refusal} → turns (λ k. info k w nothing (length st.shareds)) B.stream.now (g.at / 8 + n) g.at ≡ refused r
        → completed B st (headed_at m 0 w n g) ≡ refused r
    unfolding onward complete body_of when◌then◌else◌ within give ◌>>=◌
    info_off z = rw z

    module _ (b : ℕ) (h : b ≡ 0 → ⊥) where
      -- a block of the skip list
      pub skip_done : listed b B.skip.now ≡ true → 0 < st.room → completed B st (headed_at m b w n g) ≡ got (some (skipped m.at (head b w (g.at / 8) n))) (g.at + 8 * n)
      unfolding onward complete body_of when◌then◌else◌ within give event_room require those ◌>>=◌
      skip_done z r = rw (ne_eqb b 0 h, z, lt-ltb 0 st.room r)

      pub skip_full : listed b B.skip.now ≡ true → st.room ≡ 0 → completed B st (headed_at m b w n g) ≡ refused (refusal 18 m.at 0 0)
      unfolding onward complete body_of when◌then◌else◌ event_room require those ◌>>=◌
      skip_full z r = rw (ne_eqb b 0 h, z, r)

      -- a block that can't be entered
      pub enter_deep : listed b B.skip.now ≡ false → B.frame.left ≡ 0 → completed B st (headed_at m b w n g) ≡ refused (refusal 16 m.at b 0)
      unfolding onward complete body_of when◌then◌else◌ nested stop those ◌>>=◌
      enter_deep z l = rw (ne_eqb b 0 h, z, l)

      nested_full : (d : ℕ) (skips : Pass) (p at e q : ℕ) → 0 < d → st.room ≡ 0 → nested d skips p (head b w at n) st B.stream.now e q ≡ refused (refusal 18 p 0 0)
      unfolding nested event_room ◌>>=◌ onward require
      nested_full zero skips p at e q l r = absurd (omega arith)
      nested_full (suc d) skips p at e q l r = rw r

      pub enter_full : listed b B.skip.now ≡ false → 0 < B.frame.left → st.room ≡ 0 → completed B st (headed_at m b w n g) ≡ refused (refusal 18 m.at 0 0)
      unfolding onward complete body_of when◌then◌else◌ those ◌>>=◌
      enter_full z l r = rw (ne_eqb b 0 h, z, nested_full B.frame.left (λ from b. listed b B.skip.now) m.at (g.at / 8) B.frame.end g.at l r)

-- ---- an item, by its number
module _ (c : Context) (st : State) (from : ℕ) (s : List ℕ) (e q : ℕ) where
  -- 0
  pub leave_off : {x : No} → align s e q ≡ refused x → numbered c st from 0 s e q ≡ refused (at_bit from x)
  unfolding begun when◌then◌else◌ ◌>>=◌ onward placed at_place
  leave_off {x = no n u v} z = rw z

  pub leave_top : {r : ℕ} → align s e q ≡ got tt r → c.top ≡ true → numbered c st from 0 s e q ≡ got ended r
  unfolding begun finish when◌then◌else◌ ◌>>=◌ onward placed at_place leave_room give
  leave_top z t = rw (z, t)

  pub leave_full : {r : ℕ} → align s e q ≡ got tt r → c.top ≡ false → st.room ≡ 0 → numbered c st from 0 s e q ≡ refused (refusal 18 from 0 0)
  unfolding begun finish when◌then◌else◌ ◌>>=◌ onward placed at_place leave_room event_room require give
  leave_full z t h = rw (z, t, h)

  pub leave_done : {r : ℕ} → align s e q ≡ got tt r → c.top ≡ false → 0 < st.room → numbered c st from 0 s e q ≡ got ended r
  unfolding begun finish when◌then◌else◌ ◌>>=◌ onward placed at_place leave_room event_room require give
  leave_done z t h = rw (z, t, lt-ltb 0 st.room h)

  -- a front and what it needs further, both inside the item: one reader, and then the rest
  two_parts : {A B : Type 0} (x : Reader No A) (wrap : A → Begun) (k : A → Reader No B) (f : B → Reader Refusal Opening)
      → ((a : A) (p : ℕ) → finish c st from (wrap a) s e p ≡ (placed from (k a) >>= f) s e p)
      → (placed from (x >>= (λ a. give (wrap a))) >>= finish c st from) s e q ≡ (placed from (x >>= k) >>= f) s e q
  unfolding ◌>>=◌ onward placed at_place give
  two_parts {A} {B} x wrap k f h = go (x s e q)
    where
      go : (y : Answer No A)
          → onward (at_place from (onward y (λ a p. got (wrap a) p))) (λ b p. finish c st from b s e p) ≡ onward (at_place from (onward y (λ a p. k a s e p))) (λ b p. f b s e p)
      go (got a p) = h a p
      go (refused (no n u v)) = refl

  -- 1: a head, and that its body fits
  fits_told : (h : Head) (p : ℕ)
      → (placed from (fits h) >>= (λ u. give (headed from h))) s e p ≡ (placed from (fits h >>= (λ u. give h)) >>= (λ h. give (headed from h))) s e p
  unfolding ◌>>=◌ onward placed at_place give
  fits_told h p = go (fits h s e p)
    where
      go : (y : Answer No (Unit {0}))
          → onward (at_place from y) (λ u p. got (headed from h) p) ≡ onward (at_place from (onward y (λ u p. got h p))) (λ h p. got (headed from h) p)
      go (got u p) = refl
      go (refused (no n x y)) = refl

  head_is : numbered c st from 1 s e q ≡ (placed from head_fits >>= (λ h. give (headed from h))) s e q
  unfolding begun finish head_fits when◌then◌else◌
  head_is = two_parts heading heads (λ h. fits h >>= (λ u. give h)) (λ h. give (headed from h)) fits_told

  pub head_done : {h : Head} {r : ℕ} → head_fits s e q ≡ got h r → numbered c st from 1 s e q ≡ got (headed from h) r
  unfolding ◌>>=◌ onward placed at_place give
  head_done z = head_is ∙ rw z

  pub head_off : {x : No} → head_fits s e q ≡ refused x → numbered c st from 1 s e q ≡ refused (at_bit from x)
  unfolding ◌>>=◌ onward placed at_place
  head_off {x = no n u v} z = head_is ∙ rw z

  -- 2
  pub define_off : {x : No} → define s e q ≡ refused x → numbered c st from 2 s e q ≡ refused (at_bit from x)
  unfolding begun when◌then◌else◌ ◌>>=◌ onward placed at_place
  define_off {x = no n u v} z = rw z

  pub define_full : {a : Abbrev} {r : ℕ} → define s e q ≡ got a r → 32 ≤ st.locals → numbered c st from 2 s e q ≡ refused (refusal 17 from 0 0)
  unfolding begun finish when◌then◌else◌ ◌>>=◌ onward placed at_place require give
  define_full z h = rw (z, le-ltb st.locals 32 h)

  pub define_done : {a : Abbrev} {r : ℕ} → define s e q ≡ got a r → st.locals < 32 → numbered c st from 2 s e q ≡ got (defined a) r
  unfolding begun finish when◌then◌else◌ ◌>>=◌ onward placed at_place require give
  define_done z h = rw (z, lt-ltb st.locals 32 h)

  -- 3 and up: a record
  pub recording : Reader No Record → Reader Refusal Opening
  recording x = placed from x >>= (λ r. event_room from st >>= (λ u. give (recorded from c.number st.fill r)))

  pub plain_is : numbered c st from 3 s e q ≡ recording (plain st.left) s e q
  unfolding begun finish plain when◌then◌else◌ recording
  plain_is = two_parts (unabbreviated st.left) records (rest st.left) (λ r. event_room from st >>= (λ u. give (recorded from c.number st.fill r))) (λ a p. refl)

  used_is : (n : ℕ) → 4 ≤ n → numbered c st from n s e q ≡ recording (used c st n >>= rest st.left) s e q
  unfolding begun finish when◌then◌else◌ recording
  used_is n h =
      rw (ne_eqb n 0 (λ z. omega arith), ne_eqb n 1 (λ z. omega arith), ne_eqb n 2 (λ z. omega arith), ne_eqb n 3 (λ z. omega arith))
      (two_parts (used c st n) records (rest st.left) (λ r. event_room from st >>= (λ u. give (recorded from c.number st.fill r))) (λ a p. refl))

  module _ (x : Reader No Record) where
    pub recording_off : {w : No} → x s e q ≡ refused w → recording x s e q ≡ refused (at_bit from w)
    unfolding recording ◌>>=◌ onward placed at_place
    recording_off {w = no n u v} z = rw z

    pub recording_full : {r : Record} {p : ℕ} → x s e q ≡ got r p → st.room ≡ 0 → recording x s e q ≡ refused (refusal 18 from 0 0)
    unfolding recording ◌>>=◌ onward placed at_place event_room require
    recording_full z h = rw (z, h)

    pub recording_done : {r : Record} {p : ℕ} → x s e q ≡ got r p → 0 < st.room → recording x s e q ≡ got (recorded from c.number st.fill r) p
    unfolding recording ◌>>=◌ onward placed at_place event_room require give
    recording_done z h = rw (z, lt-ltb 0 st.room h)

  -- a use of a number
  used_none : (n : ℕ) → look_up (no 8 n c.number) (n - 4) st.mine s e q ≡ refused (no 8 n c.number)
      → (used c st n >>= rest st.left) s e q ≡ refused (no 8 n c.number)
  unfolding used ◌>>=◌ onward
  used_none n z = rw z

  used_some : (n : ℕ) {a : Abbrev} → look_up (no 8 n c.number) (n - 4) st.mine s e q ≡ got a q
      → (used c st n >>= rest st.left) s e q ≡ abbreviated st.left a s e q
  unfolding used abbreviated ◌>>=◌ onward
  used_some n z = rw z

-- ---- an item's opening
module _ (c : Context) (st : State) (s : List ℕ) (e p : ℕ) where
  pub open_top : limit s e ≤ p → c.top ≡ true → opening c st s e p ≡ got ended p
  unfolding opening here at_end ends_at ◌>>=◌ onward when◌then◌else◌ require give
  open_top h t = rw (le-leb (limit s e) p h, t)

  pub open_missing : limit s e ≤ p → c.top ≡ false → opening c st s e p ≡ refused (refusal 9 p c.number 0)
  unfolding opening here at_end ends_at ◌>>=◌ onward when◌then◌else◌ require give
  open_missing h t = rw (le-leb (limit s e) p h, t)

  pub open_off : {x : No} → p < limit s e → number_of c.wide s e p ≡ refused x → opening c st s e p ≡ refused (at_bit p x)
  unfolding opening here at_end ends_at begin ◌>>=◌ onward when◌then◌else◌ placed at_place
  open_off {x = no n u v} h z = rw (lt-leb (limit s e) p h, z)

  pub open_number : {n q : ℕ} → p < limit s e → number_of c.wide s e p ≡ got n q → opening c st s e p ≡ numbered c st p n s e q
  unfolding opening here at_end ends_at begin ◌>>=◌ onward when◌then◌else◌ placed at_place
  open_number h z = rw (lt-leb (limit s e) p h, z)

-- ---- what each item does to the stores and to the state
-- no event and no operand
pub room_none : (m : Marks) (at shared local : ℕ) (ev ops : List ℕ) → m.events ≤ length ev → m.operands ≤ length ops
    → Room m (marks at m.events m.operands shared local) ev ev ops ops [] []
room_none m at shared local ev ops h k = record {
  events = sym (append-nil (take m.events ev));
  operands = sym (append-nil (take m.operands ops));
  most_events = h;
  most_operands = k;
}

-- an event, and no operand
pub room_event : (m : Marks) (at shared local : ℕ) (x : Event) (ev ev' ops : List ℕ) → m.events + event_size ≤ length ev → length ev' ≡ length ev → m.operands ≤ length ops
    → take (m.events + event_size) ev' ≡ take m.events ev ++ entry x → Room m (marks at (m.events + event_size) m.operands shared local) ev ev' ops ops (entries (x ∷ [])) []
unfolding entries
room_event m at shared local x ev ev' ops h p k z = record {
  events = z ∙ ap (λ y. take m.events ev ++ y) (sym (append-nil (entry x)));
  operands = sym (append-nil (take m.operands ops));
  most_events = omega arith;
  most_operands = k;
}

-- a head whose number is 0
zero_head : (m : Marks) (b w n : ℕ) (g : Cursor) → b ≡ 0 → headed_at m b w n g ≡ headed_at m 0 w n g
zero_head m b w n g z = ap (λ i. headed_at m i w n g) z

module _ (B : Block) (m : Marks) (t : Tables) (ev ops : List ℕ) (stands : Stands B m ev ops) where
  abbrev St : State
  St = state_of B m t (length ev) (length ops)

  -- the top level ends, by an END or where its bits end
  pub ended_top : (at : ℕ) {x : Answer Refusal Opening} → B.frame.top ≡ true → x ≡ got ended at
      → Ended B m (marks at m.events m.operands m.shared B.frame.base) t ev ev ops ops x
  unfolding closed when◌then◌else◌ entries
  ended_top at top z = rw top (record {
    gives = completed_ended B St z;
    room = room_none m at m.shared B.frame.base ev ops stands.0.events stands.0.operands;
    shared = refl;
    freed = refl;
  })

  -- a block ends: its leave event
  pub ended_block : (at : ℕ) (ev' : List ℕ) {x : Answer Refusal Opening} → B.frame.top ≡ false → x ≡ got ended at → m.events + event_size ≤ length ev → length ev' ≡ length ev
      → take (m.events + event_size) ev' ≡ take m.events ev ++ entry (leave B.frame.number)
      → Ended B m (marks at (m.events + event_size) m.operands m.shared B.frame.base) t ev ev' ops ops x
  unfolding closed when◌then◌else◌
  ended_block at ev' top z h p told = rw top (record {
    gives = completed_ended B St z;
    room = room_event m at m.shared B.frame.base (leave B.frame.number) ev ev' ops h p stands.0.operands told;
    shared = refl;
    freed = refl;
  })

  module _ (w n : ℕ) (g : Cursor) where
    -- BLOCKINFO: its shared abbreviations stand behind those that there were
    info_went : (t' : Tables) (have : ℕ) {xs : List Shared} {to : ℕ} → Kept m.shared local_rows t t'
        → turns (λ k. info k w nothing (length (shareds t 0 m.shared))) B.stream.now (g.at / 8 + n) g.at ≡ got xs to
        → shareds t' 0 have ≡ shareds t 0 m.shared ++ xs → m.shared ≤ have → have ≤ 32
        → Went B m (marks (g.at + 8 * n) m.events m.operands have m.local) t t' ev ev ops ops (headed_at m 0 w n g)
    unfolding after events counted store added Rattle.walk.specs.Piece.own entries
    info_went t' have {xs} {to} k z h more most =
        let x₁ : block_rows t' B.own.now B.frame.base m.local ≡ block_rows t B.own.now B.frame.base m.local ++ [] =
        block_rows_kept {local = m.local} (kept_less (omega arith) (omega (arith, stands.0.local)) k) B.own.now B.frame.base stands.1 (omega (arith, stands.0.shared)) stands.0.base
        ∙ sym (append-nil (block_rows t B.own.now B.frame.base m.local)) in
        let x₂ : m.local ≡ m.local + 0 = omega arith in
        let x₃ : (length ev - m.events) / event_size ≡ (length ev - m.events) / event_size - 0 = omega arith in
        let x₄ : m.operands ≡ m.operands + 0 = omega arith in
        let x₅ : length ops - m.operands ≡ length ops - m.operands - 0 = omega arith in
        record {
          piece = blockinfo m.at (head 0 w (g.at / 8) n) xs;
          gives = info_done B St m w n g z;
          state = cc;
          room = room_none m (g.at + 8 * n) have m.local ev ops stands.0.events stands.0.operands;
          more = more;
          sits = record { events = stands.0.events; operands = stands.0.operands; shared = most; base = stands.0.base; local = stands.0.local };
        }

    -- the same by what the reader of BLOCKINFO promises
    info_here : Whole t → info_block w m.shared t B.stream.now (g.at / 8 + n) g.at ≡ turns (λ k. info k w nothing (length (shareds t 0 m.shared))) B.stream.now (g.at / 8 + n) g.at
    unfolding info_all
    info_here h = info_whole m.shared t w B.stream.now (g.at / 8 + n) g.at stands.0.shared h ∙ ap (λ i. turns (λ k. info k w nothing i) B.stream.now (g.at / 8 + n) g.at) (sym (shareds_length t 0 m.shared))

    pub info_refused : (b : ℕ) {r : Refusal} → b ≡ 0 → Whole t → info_block w m.shared t B.stream.now (g.at / 8 + n) g.at ≡ refused r → completed B St (headed_at m b w n g) ≡ refused r
    info_refused b i h z = ap (completed B St) (zero_head m b w n g i) ∙ info_off B St m w n g (sym (info_here h) ∙ z)

    pub info_added : (b : ℕ) → b ≡ 0 → Whole t → (t' : Tables) (have : ℕ) → Kept m.shared local_rows t t'
        → Adds (record { at = g.at; end = g.at / 8 + n }) B.stream.now (info_block w m.shared t) m.shared have t t'
        → Went B m (marks (g.at + 8 * n) m.events m.operands have m.local) t t' ev ev ops ops (headed_at m b w n g)
    info_added b i h t' have k z =
        subst (λ x. Went B m (marks (g.at + 8 * n) m.events m.operands have m.local) t t' ev ev ops ops x) (sym (zero_head m b w n g i))
        (info_went t' have k (sym (info_here h) ∙ z.gives) z.holds z.more z.most)

    -- a block of the skip list: its skip event
    pub skip_went : (b : ℕ) (ev' : List ℕ) → (b ≡ 0 → ⊥) → listed b B.skip.now ≡ true → m.events + event_size ≤ length ev → length ev' ≡ length ev
        → take (m.events + event_size) ev' ≡ take m.events ev ++ entry (Rattle.walk.specs.Piece.skip b w (g.at / 8) n)
        → Went B m (marks (g.at + 8 * n) (m.events + event_size) m.operands m.shared m.local) t t ev ev' ops ops (headed_at m b w n g)
    unfolding after events counted store added Rattle.walk.specs.Piece.own skipping
    skip_went b ev' z i h p told =
        let x₀ : shareds t 0 m.shared ≡ shareds t 0 m.shared ++ [] = sym (append-nil (shareds t 0 m.shared)) in
        let x₁ : block_rows t B.own.now B.frame.base m.local ≡ block_rows t B.own.now B.frame.base m.local ++ [] = sym (append-nil (block_rows t B.own.now B.frame.base m.local)) in
        let x₂ : m.local ≡ m.local + 0 = omega arith in
        let x₃ : (length ev - (m.events + event_size)) / 8 ≡ (length ev - m.events) / event_size - 1 = omega arith in
        let x₄ : m.operands ≡ m.operands + 0 = omega arith in
        let x₅ : length ops - m.operands ≡ length ops - m.operands - 0 = omega arith in
        record {
          piece = skipped m.at (head b w (g.at / 8) n);
          gives = skip_done B St m w n g b z i (omega arith);
          state = cc;
          room = room_event m (g.at + 8 * n) m.shared m.local _ ev ev' ops h p stands.0.operands told;
          more = omega arith;
          sits = record { events = omega arith; operands = stands.0.operands; shared = stands.0.shared; base = stands.0.base; local = stands.0.local };
        }

    -- a block that is entered: its enter event
    pub block_entered : (b : ℕ) (ev' : List ℕ) → (b ≡ 0 → ⊥) → listed b B.skip.now ≡ false → 0 < B.frame.left → m.events + event_size ≤ length ev → length ev' ≡ length ev
        → g.at + 8 * n ≤ limit B.stream.now B.frame.end → take (m.events + event_size) ev' ≡ take m.events ev ++ entry (enter b w (g.at / 8) n)
        → Entered B m (marks g.at (m.events + event_size) m.operands m.shared m.local) b w n ev ev' ops ops (headed_at m b w n g)
    unfolding those
    block_entered b ev' z i l h p fits told = record {
      opens = refl;
      entered_is = (z, i);
      levels = l;
      spare = omega arith;
      is = refl;
      room = record {
        events = told;
        operands = sym (append-nil (take m.operands ops));
        most_events = omega arith;
        most_operands = stands.0.operands;
      };
      fits = fits;
    }

  -- a local definition: one row more
  pub define_went : (at shape : ℕ) (kinds' widths' : List ℕ) {x : Answer Refusal Opening}
      → Outside (row_size * (first_local + m.local)) (row_size * (first_local + m.local) + row_size) t.kinds kinds'
      → Outside (row_size * (first_local + m.local)) (row_size * (first_local + m.local) + row_size) t.widths widths' → first_local + m.local < length t.shapes → m.local < 32
      → x ≡ got (defined (abbrev_of kinds' widths' (row_size * (first_local + m.local)) shape)) at
      → Went B m (marks at m.events m.operands m.shared (m.local + 1)) t (tables kinds' widths' (set t.shapes (first_local + m.local) shape) t.owners) ev ev ops ops x
  unfolding after events counted store added Rattle.walk.specs.Piece.own entries
  define_went at shape kinds' widths' k j h l z =
      let x₀ : shareds (tables kinds' widths' (set t.shapes (first_local + m.local) shape) t.owners) 0 m.shared ≡ shareds t 0 m.shared ++ [] =
      shareds_kept {have = m.shared} {local = m.local} (kept_shape shape k j) m.shared (omega arith) (omega (arith, stands.0.shared)) ∙ sym (append-nil (shareds t 0 m.shared)) in
      let x₁ = block_rows_more t B.own.now B.frame.base m.local shape k j stands.1 (omega (arith, stands.0.shared)) stands.0.base h in
      let x₃ : (length ev - m.events) / event_size ≡ (length ev - m.events) / event_size - 0 = omega arith in
      let x₄ : m.operands ≡ m.operands + 0 = omega arith in
      let x₅ : length ops - m.operands ≡ length ops - m.operands - 0 = omega arith in
      record {
        piece = definition (abbrev_of kinds' widths' (row_size * (first_local + m.local)) shape);
        gives = completed_defined B St z;
        state = cc;
        room = room_none m at m.shared (m.local + 1) ev ops stands.0.events stands.0.operands;
        more = omega arith;
        sits = record { events = stands.0.events; operands = stands.0.operands; shared = stands.0.shared; base = omega (arith, stands.0.base); local = omega arith };
      }

  -- ---- a use of a number, by the row that it stands for
  module _ (d : Cursor) (n : ℕ) (four : 4 ≤ n) where
    pub use_lost : row_at B.own.now B.frame.base m.local n ≡ nothing
        → completed B St (numbered (context B.frame) St m.at n B.stream.now B.frame.end d.at) ≡ refused (refusal 8 m.at n B.frame.number)
    use_lost z =
        completed_off B St (used_is (context B.frame) St m.at B.stream.now B.frame.end d.at n four
        ∙ recording_off (context B.frame) St m.at B.stream.now B.frame.end d.at (used (context B.frame) St n >>= rest St.left)
        (used_none (context B.frame) St m.at B.stream.now B.frame.end d.at n (look_up_none B.own.now B.frame.base m.local n t (no 8 n B.frame.number) B.stream.now B.frame.end d.at stands.0.local stands.0.base four z)))

    pub use_found : {row : ℕ} → row_at B.own.now B.frame.base m.local n ≡ some row
        → numbered (context B.frame) St m.at n B.stream.now B.frame.end d.at
        ≡ recording (context B.frame) St m.at B.stream.now B.frame.end d.at (abbreviated (length ops - m.operands) (row_of t row)) B.stream.now B.frame.end d.at
    unfolding recording ◌>>=◌ placed
    use_found z =
        used_is (context B.frame) St m.at B.stream.now B.frame.end d.at n four
        ∙ ap (λ y. onward (at_place m.at y) (λ r q. onward (event_room m.at St B.stream.now B.frame.end q) (λ u q. give (recorded m.at B.frame.number m.operands r) B.stream.now B.frame.end q)))
        (used_some (context B.frame) St m.at B.stream.now B.frame.end d.at n (look_up_some B.own.now B.frame.base m.local n t (no 8 n B.frame.number) B.stream.now B.frame.end d.at stands.0.local stands.0.base z))

  -- ---- a record
  module _ (d : Cursor) (mm : Reader No Record) {x : Answer Refusal Opening} (is : x ≡ recording (context B.frame) St m.at B.stream.now B.frame.end d.at mm B.stream.now B.frame.end d.at) (behind : Behind B d) where
    pub told_off : {w : No} → Off mm B.stream.now d.end d.at w → completed B St x ≡ refused (at_bit m.at w)
    told_off o = let o₂ = rw behind at o in completed_off B St (is ∙ recording_off (context B.frame) St m.at B.stream.now B.frame.end d.at mm o₂.why)

    module _ (ev' ops' : List ℕ) (r : RecordRead) (g : Cursor) (q : Reads d B.stream.now mm m.operands ops ops' r g) (p : length ev' ≡ length ev) where
      abbrev Rec : Piece
      Rec = the_record m.at B.frame.number m.operands q.record_read

      record_room : m.events + event_size ≤ length ev
          → take (m.events + event_size) ev' ≡ take m.events ev ++ entry (record_event B.frame.number r.code m.operands r.count r.kind r.at r.length)
          → Room m (marks g.at (m.events + event_size) r.fill m.shared m.local) ev ev' ops ops' (entries (events Rec)) (store Rec)
      unfolding entries events store
      record_room long told = record {
        events = told ∙ ap (λ y. take m.events ev ++ y) (ap entry (sym (q.event B.frame.number)) ∙ sym (append-nil (entry (record_of B.frame.number m.operands q.record_read))));
        operands = q.operands;
        most_events = omega arith;
        most_operands = q.most;
      }

      record_went : m.events + event_size ≤ length ev
          → take (m.events + event_size) ev' ≡ take m.events ev ++ entry (record_event B.frame.number r.code m.operands r.count r.kind r.at r.length)
          → length ops' ≡ length ops
          → Went B m (marks g.at (m.events + event_size) r.fill m.shared m.local) t t ev ev' ops ops' x
      unfolding after counted store added Rattle.walk.specs.Piece.own
      record_went long told same =
          let room = record_room long told in
          let l = room_lengths {m = m} {ev = ev} stands.0.events stands.0.operands room in
          let y = rw behind at q.gives in
          let x₀ : shareds t 0 m.shared ≡ shareds t 0 m.shared ++ [] = sym (append-nil (shareds t 0 m.shared)) in
          let x₁ : block_rows t B.own.now B.frame.base m.local ≡ block_rows t B.own.now B.frame.base m.local ++ [] = sym (append-nil (block_rows t B.own.now B.frame.base m.local)) in
          let x₂ : m.local ≡ m.local + 0 = omega arith in
          let x₃ : (length ev - (m.events + event_size)) / 8 ≡ (length ev - m.events) / event_size - 1 = omega arith in
          let x₄ : r.fill ≡ m.operands + length (record_list q.record_read) = l.1 in
          let x₅ : length ops - r.fill ≡ length ops - m.operands - length (record_list q.record_read) = omega (arith, x₄) in
          record {
            piece = Rec;
            gives = completed_recorded B St (is ∙ recording_done (context B.frame) St m.at B.stream.now B.frame.end d.at mm y.gives (omega arith));
            state = cc;
            room = room;
            more = omega arith;
            sits = record { events = omega arith; operands = q.most; shared = stands.0.shared; base = stands.0.base; local = stands.0.local };
          }

      pub told_record : length ops' ≡ length ops → (u : Result Step Reason) → Tells B.frame m r g.at ev ev' u → Does B m t t ev ev' ops ops' x (placed_at m.at u)
      told_record same (Ok (S.Go m')) (i, long, told) = rw i (record_went long told same)
      told_record same (Ok (S.Into m' h)) z = absurd z
      told_record same (Ok (S.End m')) z = absurd z
      told_record same (Err why) (i, h) =
          let y = rw behind at q.gives in
          rw i (completed_off B St (is ∙ recording_full (context B.frame) St m.at B.stream.now B.frame.end d.at mm y.gives (omega arith)))
