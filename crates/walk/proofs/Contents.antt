-- Contents: looked up in the operand store and in the stream, an event shows what the walk met. A record's operands stand at the fill mark that its event
-- names, an array behind them, a blob at its byte. Assumes nothing.
use mathlib.Core.Path.{◌≡◌, refl, sym, ap, ap₂, ◌∙◌}
use mathlib.Core.List.{List, [], ◌∷◌, ◌++◌, append_assoc}
use Prim.Native.Nat.{ℕ, ◌+◌, ◌*◌, ◌≤◌, ◌<◌}
use native.Mathlib.Omega.{arith}
use lib.ListN.{length, length-append, take, drop}
use lib.Seq.{take_at, drop_at}
use borrow.Author.Tests.{ne_eqb}
use Rattle.bits.specs.Reader.{when◌then◌else◌}
use Rattle.walk.specs.Record.{Load, no_load, list_load, blob_load, Record, a_record, octets, load_list, record_list}
use Rattle.walk.specs.Piece.{Head, head, Piece, the_record, definition, blockinfo, skipped, block, Pieces, done, ◌then◌, Event, record_of, entering, skipping, leaving, events, all_events, store, all_store}
use Rattle.walk.specs.Shown.{Shown, enters, skips, leaves, holds, Blobs, payload, shown, all_shown}

-- ---- where things stand, of what was met in the stream s from the fill mark f on
unfoldable pub LoadAt : List ℕ → Load → Type 0
LoadAt s no_load = Unit {0}
LoadAt s (list_load k xs) = k < 3
LoadAt s (blob_load at bs) = (bs ≡ octets s (8 * at) (length bs)) × (at + length bs ≤ length s)

unfoldable pub RecordAt : List ℕ → Record → Type 0
RecordAt s (a_record code vs l) = LoadAt s l

unfoldable mutual
  pub Placed : List ℕ → ℕ → Piece → Type 0
  Placed s f (the_record from b first r) = (first ≡ f) × RecordAt s r
  Placed s f (definition a) = Unit {0}
  Placed s f (blockinfo from h sh) = Unit {0}
  Placed s f (skipped from h) = Unit {0}
  Placed s f (block from h inner) = AllPlaced s f inner

  pub AllPlaced : List ℕ → ℕ → Pieces → Type 0
  AllPlaced s f (done end) = Unit {0}
  AllPlaced s f (◌then◌ x xs) = Placed s f x × AllPlaced s (f + length (store x)) xs

-- ---- what the pieces hold, an entry for each event
unfoldable pub record_held : ℕ → Record → Shown
record_held b (a_record code vs no_load) = holds b code vs 0 []
record_held b (a_record code vs (list_load k xs)) = holds b code vs k xs
record_held b (a_record code vs (blob_load at bs)) = holds b code vs 3 bs

unfoldable pub enter_held : Head → Shown
enter_held (head b w at n) = enters b w n

unfoldable pub skip_held : Head → Shown
skip_held (head b w at n) = skips b w n

unfoldable pub leave_held : Head → Shown
leave_held (head b w at n) = leaves b

unfoldable mutual
  pub held : Piece → List Shown
  held (the_record from b first r) = record_held b r ∷ []
  held (definition a) = []
  held (blockinfo from h sh) = []
  held (skipped from h) = skip_held h ∷ []
  held (block from h inner) = enter_held h ∷ all_held inner ++ leave_held h ∷ []

  pub all_held : Pieces → List Shown
  all_held (done end) = []
  all_held (◌then◌ x xs) = held x ++ all_held xs

-- a way to read blobs that agrees with the definition's in the stream
abbrev pub Reads : List ℕ → Blobs → Type 0
Reads s blobs = (at n : ℕ) → at + n ≤ length s → blobs at n ≡ octets s (8 * at) n

-- ---- events looked up
pub shown_append : (blobs : Blobs) (l : List ℕ) (xs ys : List Event) → all_shown blobs l (xs ++ ys) ≡ all_shown blobs l xs ++ all_shown blobs l ys
unfolding all_shown
shown_append blobs l [] ys = refl
shown_append blobs l (x ∷ xs) ys = ap (λ y. shown blobs l x ∷ y) (shown_append blobs l xs ys)

-- the numbers vs behind P
part_at : (P vs S : List ℕ) (f : ℕ) → length P ≡ f → take (length vs) (drop f (P ++ (vs ++ S))) ≡ vs
part_at P vs S f h = ap (λ y. take (length vs) y) (drop_at P (vs ++ S) f h) ∙ take_at vs S (length vs) refl

no_blob : (blobs : Blobs) (l : List ℕ) (k at n : ℕ) → k < 3 → payload blobs l k at n ≡ take n (drop at l)
unfolding payload when◌then◌else◌
no_blob blobs l k at n h = rw (ne_eqb k 3 (λ e. omega arith))

module _ (s : List ℕ) (blobs : Blobs) (reads : Reads s blobs) where
  shown_record : (P S : List ℕ) (b f : ℕ) (r : Record) → length P ≡ f → RecordAt s r
      → shown blobs (P ++ (record_list r ++ S)) (record_of b f r) ≡ record_held b r
  unfolding shown record_of record_list load_list record_held RecordAt LoadAt payload when◌then◌else◌
  shown_record P S b f (a_record code vs no_load) h z =
      ap (λ y. holds b code y 0 []) (ap (λ y. take (length vs) (drop f (P ++ y))) (append_assoc vs [] S) ∙ part_at P vs S f h)
  shown_record P S b f (a_record code vs (list_load k xs)) h z =
      let l : List ℕ = P ++ ((vs ++ xs) ++ S) in
      let e : l ≡ P ++ (vs ++ (xs ++ S)) = ap (λ y. P ++ y) (append_assoc vs xs S) in
      let e' : l ≡ (P ++ vs) ++ (xs ++ S) = e ∙ sym (append_assoc P vs (xs ++ S)) in
      ap₂ (λ x y. holds b code x k y)
      (ap (λ y. take (length vs) (drop f y)) e ∙ part_at P vs (xs ++ S) f h)
      (no_blob blobs l k (f + length vs) (length xs) z ∙ ap (λ y. take (length xs) (drop (f + length vs) y)) e'
      ∙ part_at (P ++ vs) xs S (f + length vs) (length-append P vs ∙ ap (λ n. n + length vs) h))
  shown_record P S b f (a_record code vs (blob_load at bs)) h z =
      ap₂ (λ x y. holds b code x 3 y)
      (ap (λ y. take (length vs) (drop f (P ++ y))) (append_assoc vs [] S) ∙ part_at P vs S f h)
      (reads at (length bs) z.1 ∙ sym z.0)

  shown_head : (l : List ℕ) (h : Head) → (shown blobs l (entering h) ≡ enter_held h) × (shown blobs l (skipping h) ≡ skip_held h)
      × (shown blobs l (leaving h) ≡ leave_held h)
  unfolding shown entering skipping leaving enter_held skip_held leave_held
  shown_head l (head b w at n) = (refl, refl, refl)

  mutual
    unfolding events all_events store all_store held all_held Placed AllPlaced all_shown

    -- the numbers P and S stand before and behind in the store
    pub shown_piece : (P S : List ℕ) (f : ℕ) (x : Piece) → length P ≡ f → Placed s f x → all_shown blobs (P ++ (store x ++ S)) (events x) ≡ held x
    shown_piece P S f (the_record from b first r) h z = ap (λ y. y ∷ [])
        (ap (λ y. shown blobs (P ++ (record_list r ++ S)) (record_of b y r)) z.0 ∙ shown_record P S b f r h z.1)
    shown_piece P S f (definition a) h z = refl
    shown_piece P S f (blockinfo from hd sh) h z = refl
    shown_piece P S f (skipped from hd) h z = ap (λ y. y ∷ []) (shown_head (P ++ S) hd).1
    shown_piece P S f (block from hd inner) h z =
        let l : List ℕ = P ++ (all_store inner ++ S) in
        ap₂ (λ x y. x ∷ y) (shown_head l hd).0
        (shown_append blobs l (all_events inner) (leaving hd ∷ [])
        ∙ ap₂ (λ x y. x ++ (y ∷ [])) (shown_pieces P S f inner h z) (shown_head l hd).2)

    pub shown_pieces : (P S : List ℕ) (f : ℕ) (xs : Pieces) → length P ≡ f → AllPlaced s f xs
        → all_shown blobs (P ++ (all_store xs ++ S)) (all_events xs) ≡ all_held xs
    shown_pieces P S f (done end) h z = refl
    shown_pieces P S f (◌then◌ x xs) h z =
        let e = append_assoc (store x) (all_store xs) S in
        shown_append blobs (P ++ (store x ++ all_store xs ++ S)) (events x) (all_events xs)
        ∙ ap₂ (λ x y. x ++ y)
        (ap (λ l. all_shown blobs (P ++ l) (events x)) e ∙ shown_piece P (all_store xs ++ S) f x h z.0)
        (ap (λ l. all_shown blobs l (all_events xs)) (ap (λ l. P ++ l) e ∙ sym (append_assoc P (store x) (all_store xs ++ S)))
        ∙ shown_pieces (P ++ store x) S (f + length (store x)) xs (length-append P (store x) ∙ ap (λ n. n + length (store x)) h) z.1)
