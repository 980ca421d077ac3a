-- The relocation law where nothing moves: two streams that agree on a window, two rules of passing over that agree there, two states that differ in
-- rooms and fill mark. And, with one stream and an empty window, the facts of one run. Assumes nothing.
use mathlib.Core.Path.{◌≡◌, refl, ap, ap₂, ◌∙◌, subst}
use mathlib.Core.List.{List}
use mathlib.Core.Option.{Option, some}
use Prim.Native.Nat.{ℕ, ◌+◌, ◌-◌, ◌*◌, ◌≤◌, ◌<◌, min}
use native.Mathlib.Omega.{arith}
use lib.ListN.{length}
use Rattle.terms.specs.Limits.{max_input}
use Rattle.bits.specs.Reader.{Reader, Answer, got}
use Rattle.bits.specs.Bits.{bit, limit}
use Rattle.bits.proofs.Answers.{when_got}
use Rattle.walk.specs.Record.{Load, no_load, list_load, blob_load, Record, a_record}
use Rattle.walk.specs.Piece.{Head, head, Piece, the_record, definition, blockinfo, skipped, block, Pieces, done, ◌then◌, State}
use Rattle.walk.specs.Item.{Context, Opening, headed, opening, Pass, body_of, nested}
use Rattle.walk.proofs.Answers.{size_of, Takes, Holds, item_runs, nesteds}
use Rattle.relocation.proofs.Shift.{Wants, Began, Headed, move_load, move_record, move_head, Fitting, Asks, Open, Fines, Made, move_piece, move_pieces, move_opening, move_option, Like, like_self}
use Rattle.relocation.proofs.Law.{Window, Exact, Passes, Gets, exact_ends, taken}
use Rattle.relocation.proofs.Moves.{exact_out, opening_moves, body_moves, item_moves, items_move, nested_moves}
use Rattle.relocation.proofs.Apart.{one, many}

-- ---- moving by nothing is nothing
pub zero_mv : (p : ℕ) → p + 0 - 0 ≡ p
zero_mv p = omega arith

zero_load : (l : Load) → move_load 0 0 l ≡ l
unfolding move_load
zero_load no_load = refl
zero_load (list_load k xs) = refl
zero_load (blob_load at bs) = ap (λ x. blob_load x bs) (omega arith)

zero_record : (r : Record) → move_record 0 0 r ≡ r
unfolding move_record
zero_record (a_record code vs l) = ap (λ x. a_record code vs x) (zero_load l)

pub zero_head : (h : Head) → move_head 0 0 h ≡ h
unfolding move_head
zero_head (head b w at n) = ap (λ x. head b w x n) (omega arith)

pub zero_headed : (from : ℕ) (h : Head) → move_opening 0 0 0 0 (headed from h) ≡ headed from h
unfolding move_opening
zero_headed from h = ap₂ headed (zero_mv from) (zero_head h)

mutual
  unfolding move_piece move_pieces

  pub zero_piece : (x : Piece) → move_piece 0 0 0 0 x ≡ x
  zero_piece (the_record from b first r) =
      ap (λ z. the_record z b (first + 0 - 0) (move_record 0 0 r)) (zero_mv from)
      ∙ ap₂ (λ x y. the_record from b x y) (zero_mv first) (zero_record r)
  zero_piece (definition a) = refl
  zero_piece (blockinfo from h sh) = ap₂ (λ x y. blockinfo x y sh) (zero_mv from) (zero_head h)
  zero_piece (skipped from h) = ap₂ skipped (zero_mv from) (zero_head h)
  zero_piece (block from h inner) =
      ap₂ (λ x y. block x y (move_pieces 0 0 0 0 inner)) (zero_mv from) (zero_head h) ∙ ap (λ x. block from h x) (zero_pieces inner)

  pub zero_pieces : (xs : Pieces) → move_pieces 0 0 0 0 xs ≡ xs
  zero_pieces (done end) = ap done (zero_mv end)
  zero_pieces (◌then◌ x xs) = ap₂ ◌then◌ (zero_piece x) (zero_pieces xs)

-- ---- two streams
pub still : {s s' : List ℕ} (lo hi : ℕ) → ((x : ℕ) → lo ≤ x → x < hi → bit s x ≡ bit s' x) → length s' ≡ length s → Window s s' lo hi 0 0
still {s'} lo hi agree lengths = record {
  agree = λ x h g. agree x h g ∙ ap (bit s') (omega arith);
  low = omega arith;
  u32 = refl;
  d32 = refl;
  lengths = lengths;
}

pub same_limit : (s s' : List ℕ) (e : ℕ) → length s' ≡ length s → limit s' e ≡ limit s e
unfolding limit
same_limit s s' e lengths = ap (λ n. 8 * min e (min n max_input)) lengths

pub still_exact : {s s' : List ℕ} {lo hi : ℕ} (win : Window s s' lo hi 0 0) (e : ℕ) → Exact win e e
still_exact {s} {s'} win e = record { exact = ap (λ n. n + 0) (same_limit s s' e win.lengths) }

pub still_passes : {s s' : List ℕ} {lo hi : ℕ} (win : Window s s' lo hi 0 0) (skips : Pass) → Passes win skips skips
still_passes win skips = record { passes = λ from b h g. ap (λ x. skips x b) (zero_mv from) }

-- the law with no shift in sight
pub record Kept {R A B : Type 0} (s : List ℕ) (hi e : ℕ) (K : A → ℕ → Type 0) (F : A → Type 0) (f : A → B) (p : ℕ)
    (x' : Answer R B) (a : A) (q : ℕ) : Type 0 where
  pub rises : p ≤ q
  pub tells : K a q
  pub runs : q ≤ hi → F a → x' ≡ got (f a) q
  pub stays : p ≤ limit s e → q ≤ limit s e

kept : {R A B : Type 0} {P : Type 0} {K : A → ℕ → Type 0} {F : A → Type 0} {f : A → B} {e p q : ℕ} {a : A} {s s' : List ℕ} {lo hi : ℕ}
    {win : Window s s' lo hi 0 0} (e' : ℕ) (m : Reader R B) → Gets win e P K F f p (m s' e' (p + 0 - 0)) a q → Kept s hi e K F f p (m s' e' p) a q
kept {f} {p} {q} {a} {s'} e' m v = record {
  rises = v.rises;
  tells = v.tells;
  runs = λ g w. subst (λ y. m s' e' y ≡ got (f a) q) (zero_mv p) (v.runs g w ∙ ap (λ r. got (f a) r) (zero_mv q));
  stays = v.stays;
}

module _ {s s' : List ℕ} {lo hi : ℕ} (win : Window s s' lo hi 0 0) {skips skips' : Pass} (ps : Passes win skips skips')
    (og oo d : ℕ) (c : Context) {st st' : State} (like : Like og oo st st') (e p : ℕ) (h : lo ≤ p) where
  pub keep_option : (q : ℕ) (o : Option Piece) → one skips d c st s e p ≡ got o q
      → Kept s hi e (Made 0 0 og oo (limit s e) c.top st p) (Wants c.top st') (move_option 0 0 og oo) p
      (one skips' d c st' s' e p) o q
  keep_option q o z = kept e (one skips' d c st') (taken (item_moves (nested_moves d ps) ps (still_exact win e) h c like) z)

  pub keep_opening : (q : ℕ) (o : Opening) → opening c st s e p ≡ got o q
      → Kept s hi e (Open 0 0 og oo (limit s e) c.top st p) (Asks 0 0 (limit s' e) c.top st') (move_opening 0 0 og oo) p
      (opening c st' s' e p) o q
  keep_opening q o z =
      let x = still_exact win e in
      kept e (opening c st') (taken (opening_moves (exact_ends x) h (exact_out x h) c like) z)

  pub keep_items : (k q : ℕ) (xs : Pieces) → many skips d k c st s e p ≡ got xs q
      → Kept s hi e (λ xs _. Holds c.top st xs × Fines 0 0 og oo xs) (Holds c.top st') (move_pieces 0 0 og oo) p
      (many skips' d k c st' s' e p) xs q
  keep_items k q xs z =
      kept e (many skips' d k c st') (taken (items_move (nested_moves d ps) ps c k (still_exact win e) like h) z)

-- the same rule and the same state: the same piece
module _ {s s' : List ℕ} {lo hi : ℕ} (win : Window s s' lo hi 0 0) (skips : Pass) (d : ℕ) (c : Context) (st : State) (e p : ℕ)
    (h : lo ≤ p) where
  pub still_item : (q : ℕ) (x : Piece) → one skips d c st s e p ≡ got (some x) q → q ≤ hi
      → one skips d c st s' e p ≡ got (some x) q
  unfolding Made Wants move_option
  still_item q x z g =
      let v = keep_option win (still_passes win skips) 0 0 d c (like_self st) e p h q (some x) z in
      v.runs g v.tells.2 ∙ ap (λ a. got (some a) q) (zero_piece x)

  pub still_items : (k q : ℕ) (xs : Pieces) → many skips d k c st s e p ≡ got xs q → q ≤ hi
      → many skips d k c st s' e p ≡ got xs q
  still_items k q xs z g =
      let v = keep_items win (still_passes win skips) 0 0 d c (like_self st) e p h k q xs z in
      v.runs g v.tells.0 ∙ ap (λ a. got a q) (zero_pieces xs)

  pub still_head : (q from : ℕ) (hd : Head) → opening c st s e p ≡ got (headed from hd) q → q ≤ hi → Fitting 0 0 (limit s' e) hd
      → opening c st s' e p ≡ got (headed from hd) q
  unfolding Asks
  still_head q from hd z g f =
      let v = keep_opening win (still_passes win skips) 0 0 d c (like_self st) e p h q (headed from hd) z in
      v.runs g f ∙ ap (λ o. got o q) (zero_headed from hd)

-- ---- one stream
pub alone_to : (s : List ℕ) (hi : ℕ) → Window s s 0 hi 0 0
alone_to s hi = still 0 hi (λ x h g. refl) refl

pub alone : (s : List ℕ) → Window s s 0 0 0 0
alone s = alone_to s 0

-- an item that was met at p .. q
pub record Met (s : List ℕ) (e : ℕ) (st : State) (p q : ℕ) (x : Piece) : Type 0 where
  pub rises : p < q
  pub before : p < limit s e
  pub within_end : q ≤ limit s e
  pub takes : Takes st x
  pub began : Began x p q

pub fitting_self : (lim : ℕ) (h : Head) (r : ℕ) → Headed lim h r → Fitting 0 0 lim h
unfolding Headed Fitting
fitting_self lim (head b w at n) r z = omega arith

module _ (skips : Pass) (s : List ℕ) (d : ℕ) (c : Context) (st : State) (e p : ℕ) where
  pub item_facts : (q : ℕ) (x : Piece) → one skips d c st s e p ≡ got (some x) q → Met s e st p q x
  unfolding Made
  item_facts q x z =
      let v = keep_option (alone s) (still_passes (alone s) skips) 0 0 d c (like_self st) e p (omega arith) q (some x) z in
      let (w₁, w₂, w₃, w₄, w₅) = v.tells in
      record { rises = w₁; before = w₂; within_end = v.stays (omega arith); takes = w₃; began = w₄ }

  pub items_facts : (k q : ℕ) (xs : Pieces) → many skips d k c st s e p ≡ got xs q → (p ≤ q) × (p ≤ limit s e → q ≤ limit s e) × Holds c.top st xs
  items_facts k q xs z =
      let (l, i, (f, _)) = when_got (item_runs k (nested d skips) skips c st s e p (nesteds d skips)) z in
      (l, i, f)

  pub opening_facts : (q from : ℕ) (h : Head) → opening c st s e p ≡ got (headed from h) q → (from < q) × Headed (limit s e) h q × (from ≡ p)
  unfolding Open
  opening_facts q from h z = (keep_opening (alone s) (still_passes (alone s) skips) 0 0 d c (like_self st) e p (omega arith) q (headed from h) z).tells

  pub body_facts : (q from : ℕ) (h : Head) (x : Piece) → Headed (limit s e) h p → from < p
      → body_of (nested d skips) skips from st h s e p ≡ got x q → (p ≤ q) × (q ≡ p + 8 * size_of h)
  body_facts q from h x z g y =
      let ps = still_passes (alone s) skips in
      let f = fitting_self (limit s e) h p z in
      let t = exact_ends (still_exact (alone s) e) in
      let v = taken (body_moves (nested_moves d ps) ps t (omega arith) from h (like_self st) z f (omega arith) g) y in
      (v.rises, v.tells.2)
