-- Two pieces at a spot: their events, operands and contents, with what stands before and behind. Assumes nothing.
use mathlib.Core.Path.{◌≡◌, refl, sym, ap, ◌∙◌}
use mathlib.Core.List.{List, [], ◌∷◌, ◌++◌, append_assoc}
use Prim.Native.Nat.{ℕ, suc}
use native.Mathlib.Omega.{arith}
use lib.ListN.{length, length-append, take, drop}
use lib.Seq.{take_at, drop_at}
use Rattle.walk.specs.Piece.{Piece, the_record, definition, blockinfo, skipped, block, Pieces, done, ◌then◌, Event, entering, leaving, events, all_events, store, all_store}
use Rattle.walk.specs.Shown.{Shown, Blobs, all_shown}
use Rattle.walk.proofs.Contents.{enter_held, leave_held, held, all_held, shown_append}
use Rattle.relocation.specs.Spot.{Spot, right_here, later, inside, plug, front, back, front_store, back_store}

-- ---- what the pieces before and behind hold
unfoldable pub front_held : Spot → List Shown
front_held (right_here xs) = []
front_held (later x t) = held x ++ front_held t
front_held (inside from h t xs) = enter_held h ∷ front_held t

unfoldable pub back_held : Spot → List Shown
back_held (right_here xs) = all_held xs
back_held (later x t) = back_held t
back_held (inside from h t xs) = back_held t ++ leave_held h ∷ [] ++ all_held xs

-- an entry for each event
mutual
  unfolding events all_events held all_held

  pub held_length : (x : Piece) → length (held x) ≡ length (events x)
  held_length (the_record from b first r) = refl
  held_length (definition a) = refl
  held_length (blockinfo from h sh) = refl
  held_length (skipped from h) = refl
  held_length (block from h inner) =
      omega (arith, length-append (all_held inner) (leave_held h ∷ []), length-append (all_events inner) (leaving h ∷ []), all_held_length inner)

  pub all_held_length : (xs : Pieces) → length (all_held xs) ≡ length (all_events xs)
  all_held_length (done end) = refl
  all_held_length (◌then◌ x xs) =
      omega (arith, length-append (held x) (all_held xs), length-append (events x) (all_events xs), held_length x, all_held_length xs)

pub front_held_length : (t : Spot) → length (front_held t) ≡ length (front t)
unfolding front_held front
front_held_length (right_here xs) = refl
front_held_length (later x t) =
    omega (arith, length-append (held x) (front_held t), length-append (events x) (front t), held_length x, front_held_length t)
front_held_length (inside from h t xs) = omega (arith, front_held_length t)

-- ---- before the two, the two, behind them
regroup : {A : Type 0} (f a b k l x : List A) → f ++ a ++ b ++ k ++ l ++ x ≡ f ++ a ++ b ++ (k ++ l ++ x)
regroup f a b k l x = simp append_assoc

pub plug_events : (t : Spot) (a b : Piece) → all_events (plug t a b) ≡ front t ++ events a ++ events b ++ back t
unfolding plug all_events events front back
plug_events (right_here xs) a b = simp append_assoc
plug_events (later x t) a b = ap (λ y. events x ++ y) (plug_events t a b) ∙ simp append_assoc
plug_events (inside from h t xs) a b =
    ap (λ y. entering h ∷ (y ++ (leaving h ∷ []) ++ all_events xs)) (plug_events t a b)
    ∙ ap (λ y. entering h ∷ y) (regroup (front t) (events a) (events b) (back t) (leaving h ∷ []) (all_events xs))

pub plug_held : (t : Spot) (a b : Piece) → all_held (plug t a b) ≡ front_held t ++ held a ++ held b ++ back_held t
unfolding plug all_held held front_held back_held
plug_held (right_here xs) a b = simp append_assoc
plug_held (later x t) a b = ap (λ y. held x ++ y) (plug_held t a b) ∙ simp append_assoc
plug_held (inside from h t xs) a b =
    ap (λ y. enter_held h ∷ (y ++ (leave_held h ∷ []) ++ all_held xs)) (plug_held t a b)
    ∙ ap (λ y. enter_held h ∷ y) (regroup (front_held t) (held a) (held b) (back_held t) (leave_held h ∷ []) (all_held xs))

pub plug_store : (t : Spot) (a b : Piece) → all_store (plug t a b) ≡ front_store t ++ store a ++ store b ++ back_store t
unfolding plug all_store store front_store back_store
plug_store (right_here xs) a b = simp append_assoc
plug_store (later x t) a b = ap (λ y. store x ++ y) (plug_store t a b) ∙ simp append_assoc
plug_store (inside from h t xs) a b = ap (λ y. y ++ all_store xs) (plug_store t a b) ∙ simp append_assoc

-- ---- where all events show what was met, each part of them does
pub append_cancel : {A : Type 0} (a b c d : List A) → length a ≡ length c → a ++ b ≡ c ++ d → (a ≡ c) × (b ≡ d)
append_cancel a b c d h z = (
  sym (take_at a b (length a) refl) ∙ ap (take (length a)) z ∙ take_at c d (length a) (sym h),
  sym (drop_at a b (length a) refl) ∙ ap (drop (length a)) z ∙ drop_at c d (length a) (sym h),
)

pub shown_length : (blobs : Blobs) (l : List ℕ) (xs : List Event) → length (all_shown blobs l xs) ≡ length xs
unfolding all_shown
shown_length blobs l [] = refl
shown_length blobs l (x ∷ xs) = ap suc (shown_length blobs l xs)

pub shown_parts : (blobs : Blobs) (l : List ℕ) (t : Spot) (a b : Piece) → all_shown blobs l (all_events (plug t a b)) ≡ all_held (plug t a b)
    → (all_shown blobs l (front t) ≡ front_held t) × (all_shown blobs l (events a) ≡ held a) × (all_shown blobs l (events b) ≡ held b)
    × (all_shown blobs l (back t) ≡ back_held t)
shown_parts blobs l t a b z =
    let look : List Event → List Shown = all_shown blobs l in
    let e₀ : look (front t ++ events a ++ events b ++ back t) ≡ front_held t ++ held a ++ held b ++ back_held t =
    ap look (sym (plug_events t a b)) ∙ z ∙ plug_held t a b in
    let e₁ : look (front t) ++ (look (events a) ++ (look (events b) ++ look (back t))) ≡ front_held t ++ (held a ++ (held b ++ back_held t)) =
    simp (append_assoc, shown_append) at e₀ in
    let (x, e₂) = append_cancel _ _ _ _ (shown_length blobs l (front t) ∙ sym (front_held_length t)) e₁ in
    let (y, e₃) = append_cancel _ _ _ _ (shown_length blobs l (events a) ∙ sym (held_length a)) e₂ in
    let (u, v) = append_cancel _ _ _ _ (shown_length blobs l (events b) ∙ sym (held_length b)) e₃ in
    (x, y, u, v)
