-- Runs that got something, taken apart and put together: the items of a block, an item that is a block, a nested block. Assumes nothing.
use mathlib.Core.Path.{◌≡◌, refl, sym, ap, ◌∙◌, subst}
use mathlib.Core.Bool.{true, false}
use mathlib.Core.List.{List}
use mathlib.Core.Option.{Option, none as nothing, some}
use Prim.Native.Nat.{ℕ, zero, suc, ◌+◌, ◌*◌, ◌/◌}
use native.Mathlib.Omega.{arith}
use lib.ListN.{length}
use lib.Dec.{ltb, eqb}
use Rattle.terms.specs.Refusals.{Refusal}
use Rattle.bits.specs.Reader.{Reader, Answer, got, refused, onward, ◌>>=◌, give, stop, require, when◌then◌else◌, turns}
use Rattle.bits.proofs.Steps.{never, apart, passed, arms, got_value, so}
use Rattle.abbrev.specs.BlockInfo.{Shared}
use Rattle.walk.specs.Piece.{Head, head, Piece, the_record, definition, blockinfo, skipped, block, Pieces, ◌then◌, State, after, entered}
use Rattle.walk.specs.Item.{Context, Opening, ended, defined, recorded, headed, event_room, opening, within, Pass, Sub, body_of, complete, item, going_on, items, nested}
use Rattle.walk.proofs.Turns.{items_step}
use Rattle.relocation.specs.Spot.{IsBlock}

-- ---- a block is neither BLOCKINFO nor skipped
info_apart : {from from' : ℕ} {h h' : Head} {xs : Pieces} {sh : List Shared} → blockinfo from' h' sh ≡ block from h xs → ⊥
info_apart h = let z : ◌≡◌ {A = ℕ} 0 1 = cc in omega arith

skip_apart : {from from' : ℕ} {h h' : Head} {xs : Pieces} → skipped from' h' ≡ block from h xs → ⊥
skip_apart h = let z : ◌≡◌ {A = ℕ} 0 1 = cc in omega arith

-- ---- the items of a block
going_apart : (s : List ℕ) (p e r q : ℕ) (x : Piece) (xs : Pieces) (o : Option Piece) (m : Piece → Reader Refusal Pieces)
    → going_on p o m s e r ≡ got (◌then◌ x xs) q → (o ≡ some x) × (m x s e r ≡ got xs q)
unfolding going_on give
going_apart s p e r q x xs nothing m h = absurd (let y : ◌≡◌ {A = ℕ} 0 1 = cc in omega arith)
going_apart s p e r q x xs (some y) m h =
    let (ys, q', z₁, z₂) = apart (m y) (λ a. give (◌then◌ y a)) s e r h in
    ((cc), (cc))

module _ (sub : Sub) (skips : Pass) (c : Context) (st : State) (s : List ℕ) (e : ℕ) where
  pub items_apart : (k p q : ℕ) (x : Piece) (xs : Pieces) → items (suc k) sub skips c st s e p ≡ got (◌then◌ x xs) q
      → (r : ℕ) × (item sub skips c st s e p ≡ got (some x) r) × (items k sub skips c (after x st) s e r ≡ got xs q)
  items_apart k p q x xs h =
      let (o, r, z₁, z₂) = apart (item sub skips c st) _ s e p (sym (items_step sub skips c s e k st p) ∙ h) in
      let (y₁, y₂) = going_apart s p e r q x xs o _ z₂ in
      (r, z₁ ∙ ap (λ o. got o r) y₁, y₂)

  pub items_make : (k p q r : ℕ) (x : Piece) (xs : Pieces) → item sub skips c st s e p ≡ got (some x) r
      → items k sub skips c (after x st) s e r ≡ got xs q → items (suc k) sub skips c st s e p ≡ got (◌then◌ x xs) q
  unfolding going_on give
  items_make k p q r x xs h g = items_step sub skips c s e k st p ∙ so (item sub skips c st) _ s e p h
      ∙ so (items k sub skips c (after x st)) (λ ys. give (◌then◌ x ys)) s e r g

  -- no turns, no items
  pub items_none : (p q : ℕ) (xs : Pieces) → items zero sub skips c st s e p ≡ got xs q → ⊥
  unfolding items stop
  items_none p q xs h = never h

  -- ---- an item that is a block: its head, and its body
  complete_open : (r q : ℕ) (x : Piece) (o : Opening) → IsBlock x → complete sub skips st o s e r ≡ got (some x) q
      → (from : ℕ) × (h : Head) × (o ≡ headed from h) × (body_of sub skips from st h s e r ≡ got x q)
  unfolding complete give IsBlock
  complete_open r q x ended b g = absurd (let y : ◌≡◌ {A = ℕ} 0 1 = cc in omega arith)
  complete_open r q x (defined a) b g = absurd (subst IsBlock (let y : x ≡ definition a = cc in y) b)
  complete_open r q x (recorded from n first a) b g = absurd (subst IsBlock (let y : x ≡ the_record from n first a = cc in y) b)
  complete_open r q x (headed from h) b g =
      let (y, q', z₁, z₂) = apart (body_of sub skips from st h) (λ x. give (some x)) s e r g in
      (from, h, refl, (cc))

  pub item_open : (p q : ℕ) (x : Piece) → IsBlock x → item sub skips c st s e p ≡ got (some x) q
      → (from : ℕ) × (h : Head) × (r : ℕ) × (opening c st s e p ≡ got (headed from h) r) × (body_of sub skips from st h s e r ≡ got x q)
  unfolding item
  item_open p q x b g =
      let (o, r, z₁, z₂) = apart (opening c st) (complete sub skips st) s e p g in
      let (from, h, y₁, y₂) = complete_open r q x o b z₂ in
      (from, h, r, z₁ ∙ ap (λ o. got o r) y₁, y₂)

  pub item_make : (p q r from : ℕ) (h : Head) (x : Piece) → opening c st s e p ≡ got (headed from h) r
      → body_of sub skips from st h s e r ≡ got x q → item sub skips c st s e p ≡ got (some x) q
  unfolding item complete give
  item_make p q r from h x g₁ g₂ =
      so (opening c st) (complete sub skips st) s e p g₁ ∙ so (body_of sub skips from st h) (λ y. give (some y)) s e r g₂

  -- a body that is entered
  same_body : (r q q' from' from b' w' at' n' b w at n : ℕ) (xs inner : Pieces) → sub from' (head b' w' at' n') st s e r ≡ got xs q'
      → ◌≡◌ {A = Answer Refusal Piece} (got (block from' (head b' w' at' n') xs) q') (got (block from (head b w at n) inner) q)
      → eqb b' 0 ≡ false → skips from' b' ≡ false
      → (from' ≡ from) × (head b' w' at' n' ≡ head b w at n) × (eqb b 0 ≡ false) × (skips from b ≡ false)
      × (sub from (head b w at n) st s e r ≡ got inner q)
  same_body r q q' from' from b' w' at' n' b w at n xs inner z₁ z₂ z₃ z₄ = ((cc), (cc), (cc), (cc), (cc))

  pub body_apart : (r q from' from : ℕ) (h : Head) (b w at n : ℕ) (inner : Pieces)
      → body_of sub skips from' st h s e r ≡ got (block from (head b w at n) inner) q
      → (from' ≡ from) × (h ≡ head b w at n) × (eqb b 0 ≡ false) × (skips from b ≡ false)
      × (sub from (head b w at n) st s e r ≡ got inner q)
  unfolding body_of give
  body_apart r q from' from (head b' w' at' n') b w at n inner g =
      let hd : Head = head b' w' at' n' in
      arms (λ (m : Reader Refusal Piece). m s e r ≡ got (block from (head b w at n) inner) q) (eqb b' 0) _ _ g
      (λ i x. let y = apart _ (λ xs. give (blockinfo from' hd xs)) s e r x in absurd (info_apart (got_value y.3)))
      (λ i x. arms (λ (m : Reader Refusal Piece). m s e r ≡ got (block from (head b w at n) inner) q) (skips from' b') _ _ x
      (λ j y.
      let y₁ = apart (event_room from' st) (λ _. within n' (give tt) >>= (λ _. give (skipped from' hd))) s e r y in
      let y₂ = apart (within n' (give tt)) (λ _. give (skipped from' hd)) s e y₁.1 y₁.3 in
      absurd (skip_apart (got_value y₂.3)))
      (λ j y.
      let (xs, q', x₁, x₂) = apart (sub from' hd st) (λ xs. give (block from' hd xs)) s e r y in
      same_body r q q' from' from b' w' at' n' b w at n xs inner x₁ x₂ i j))

  pub body_make : (r q from b w at n : ℕ) (inner : Pieces) → eqb b 0 ≡ false → skips from b ≡ false
      → sub from (head b w at n) st s e r ≡ got inner q
      → body_of sub skips from st (head b w at n) s e r ≡ got (block from (head b w at n) inner) q
  unfolding body_of when◌then◌else◌ give
  body_make r q from b w at n inner f g h =
      rw (f, g) (so (sub from (head b w at n) st) (λ xs. give (block from (head b w at n) xs)) s e r h)

-- ---- a nested block
-- an item and the items of a block, with d levels to go
abbrev pub one : Pass → ℕ → Context → State → Reader Refusal (Option Piece)
one skips d c st = item (nested d skips) skips c st

abbrev pub many : Pass → ℕ → ℕ → Context → State → Reader Refusal Pieces
many skips d k c st = items k (nested d skips) skips c st

abbrev pub ctx : ℕ → ℕ → Context
ctx b w = record { number = b; wide = w; top = false }

-- its items, as `nested` reads them with d levels to go, from r on
abbrev pub nest : ℕ → Pass → ℕ → ℕ → ℕ → State → List ℕ → ℕ → Answer Refusal Pieces
nest d skips b w n st s r = many skips d (suc (8 * length s)) (ctx b w) (entered b st) s (r / 8 + n) r

-- a body: what its reader got, and the parent goes on behind it
within_apart : {R A : Type 0} (n : ℕ) (m : Reader R A) (s : List ℕ) (e r : ℕ) {a : A} {q : ℕ} → within n m s e r ≡ got a q
    → (t : ℕ) × (m s (r / 8 + n) r ≡ got a t) × (q ≡ r + 8 * n)
unfolding within onward
within_apart {R} {A} n m s e r {a} {q} h = go (m s (r / 8 + n) r) h
  where
    go : (x : Answer R A) → onward x (λ b t. got b (r + 8 * n)) ≡ got a q → (t : ℕ) × (x ≡ got a t) × (q ≡ r + 8 * n)
    go (got b t) i = (t, (cc), (cc))
    go (refused y) i = absurd (never i)

pub nested_apart : (d : ℕ) (skips : Pass) (from b w at n : ℕ) (st : State) (s : List ℕ) (e r q : ℕ) (inner : Pieces)
    → nested d skips from (head b w at n) st s e r ≡ got inner q
    → (d' : ℕ) × (r' : ℕ) × (d ≡ suc d') × (ltb 0 st.room ≡ true) × (q ≡ r + 8 * n) × (nest d' skips b w n st s r ≡ got inner r')
unfolding nested event_room stop turns
nested_apart zero skips from b w at n st s e r q inner h = absurd (never h)
nested_apart (suc d) skips from b w at n st s e r q inner h =
    let body : Reader Refusal Pieces = within n (turns (λ k. many skips d k (ctx b w) (entered b st))) in
    let (y₁, y₂) = passed (λ _. body) _ s e r h in
    let (t, z₁, z₂) = within_apart n (turns (λ k. many skips d k (ctx b w) (entered b st))) s e r y₂ in
    (d, t, refl, y₁, z₂, z₁)

pub nested_make : (d : ℕ) (skips : Pass) (from b w at n : ℕ) (st : State) (s : List ℕ) (e r r' : ℕ) (inner : Pieces)
    → ltb 0 st.room ≡ true
    → nest d skips b w n st s r ≡ got inner r' → nested (suc d) skips from (head b w at n) st s e r ≡ got inner (r + 8 * n)
unfolding nested event_room require ◌>>=◌ within turns onward
nested_make d skips from b w at n st s e r r' inner h g = rw (h, g)
