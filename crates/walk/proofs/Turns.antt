-- Enough turns are enough: how many turns `chunks` and `items` have doesn't matter once they exceed the bits left. So each loop is what one turn
-- of it says, then the loop again: what the loop of the code does. (That of `info` is in the abbreviations' Infos.) Assumes nothing.
use mathlib.Core.Path.{◌≡◌, refl, ap, ◌∙◌, sym}
use mathlib.Core.Bool.{Bool, true, false}
use mathlib.Core.List.{List}
use mathlib.Core.Option.{Option, none as nothing, some}
use Prim.Native.Nat.{ℕ, zero, suc, ◌-◌, ◌*◌, ◌<◌}
use native.Mathlib.Omega.{arith}
use lib.ListN.{length}
use lib.Dec.{ltb}
use borrow.Author.Tests.{leb-false}
use Rattle.terms.specs.Refusals.{Refusal, vbr_overflow}
use Rattle.bits.specs.Reader.{Reader, got, onward, ◌>>=◌, give, when◌then◌else◌, here, turns}
use Rattle.bits.specs.Bits.{limit, read, chunks, ends_at}
use Rattle.bits.proofs.Steps.{apart, passed, arms, got_value}
use Rattle.bits.proofs.Laws.{limit_in}
use Rattle.bits.proofs.Vbr.{Ahead, read_ahead}
use Rattle.bits.proofs.Answers.{when_got, requires}
use Rattle.abbrev.proofs.Infos.{same_rest}
use Rattle.walk.specs.Piece.{Piece, Pieces, ◌then◌, State, after}
use Rattle.walk.specs.Item.{Context, Opening, ended, at_end, opening, Pass, Sub, complete, item, going_on, items}
use Rattle.walk.proofs.Answers.{SubFits, ItemFits, item_answers}

-- ---- VBR
same_else : {R A : Type 0} (b : Bool) (x y z : Reader R A) (s : List ℕ) (e p : ℕ) → y s e p ≡ z s e p → (when b then x else y) s e p ≡ (when b then x else z) s e p
unfolding when◌then◌else◌
same_else true x y z s e p h = refl
same_else false x y z s e p h = h

pub chunks_enough : (s : List ℕ) (e k k' w shift acc p : ℕ) → limit s e - p < k → limit s e - p < k'
    → chunks k w shift acc s e p ≡ chunks k' w shift acc s e p
unfolding chunks
chunks_enough s e zero k' w shift acc p h h' = absurd (omega arith)
chunks_enough s e (suc k) zero w shift acc p h h' = absurd (omega arith)
chunks_enough s e (suc k) (suc k') w shift acc p h h' =
    same_rest (read w) _ _ s e p (λ c q z.
    let a = read_ahead s e p w c q z in
    same_rest _ _ _ s e q (λ u r y.
    let t = when_got (requires {Q = λ _. Unit {0}} (ltb shift 64) vbr_overflow tt) y in
    same_else _ _ _ _ s e r (chunks_enough s e k k' w _ _ r (omega (arith, t.2)) (omega (arith, t.2)))))

-- ---- items
module _ (sub : Sub) (skips : Pass) (c : Context) (s : List ℕ) (e : ℕ) where
  -- one turn, by the turns that are left
  pub items_step : (k : ℕ) (st : State) (p : ℕ)
      → items (suc k) sub skips c st s e p ≡ (item sub skips c st >>= (λ x. going_on p x (λ y. items k sub skips c (after y st)))) s e p
  unfolding items here ◌>>=◌ onward
  items_step k st p = refl

  same_going : (from : ℕ) (x : Option Piece) (f g : Piece → Reader Refusal Pieces) (q : ℕ) → ((y : Piece) → x ≡ some y → f y s e q ≡ g y s e q)
      → going_on from x f s e q ≡ going_on from x g s e q
  unfolding going_on ◌>>=◌
  same_going from nothing f g q h = refl
  same_going from (some y) f g q h = ap (λ v. onward v (λ a q. give (◌then◌ y a) s e q)) (h y refl)

  -- an item that is not the end begins before the end
  complete_ended : (st : State) (o : Opening) (r q : ℕ) (x : Piece) → o ≡ ended → complete sub skips st o s e r ≡ got (some x) q → ⊥
  unfolding complete give
  complete_ended st o r q x i z = let y = rw i at z in let n : ◌≡◌ {A = ℕ} 0 1 = cc in omega arith

  pub item_starts : (st : State) (p q : ℕ) (x : Piece) → item sub skips c st s e p ≡ got (some x) q → p < limit s e
  unfolding item opening at_end ends_at here give ◌>>=◌ onward
  item_starts st p q x z =
      let (o, r, z₁, z₂) = apart (opening c st) (complete sub skips st) s e p z in
      arms (λ (m : Reader Refusal Opening). m s e p ≡ got o r) (ends_at s e p) _ _ z₁
      (λ i h. absurd (complete_ended st o r q x (sym (got_value (passed (λ _. give ended) _ s e p h).1)) z₂))
      (λ i h. leb-false (limit s e) p i)

  module _ (fits : SubFits sub) where
    -- and goes forward
    pub item_ahead : (st : State) (p q : ℕ) (x : Piece) → item sub skips c st s e p ≡ got (some x) q → Ahead s e p q
    unfolding ItemFits
    item_ahead st p q x z =
        let l = item_starts st p q x z in
        let a = when_got (item_answers sub skips c st fits) z in
        record { past = a.2.0; inside = a.1 (omega arith) }

    pub items_enough : (k k' : ℕ) (st : State) (p : ℕ) → limit s e - p < k → limit s e - p < k'
        → items k sub skips c st s e p ≡ items k' sub skips c st s e p
    items_enough zero k' st p h h' = absurd (omega arith)
    items_enough (suc k) zero st p h h' = absurd (omega arith)
    items_enough (suc k) (suc k') st p h h' =
        items_step k st p ∙ same_rest _ _ _ s e p (λ x q z. same_going p x _ _ q (λ y i.
        let a = item_ahead st p q y (z ∙ ap (λ v. got v q) i) in
        items_enough k k' (after y st) q (omega arith) (omega arith))) ∙ sym (items_step k' st p)

    -- one turn, then the loop again
    pub items_turn : (st : State) (p : ℕ)
        → turns (λ k. items k sub skips c st) s e p
        ≡ (item sub skips c st >>= (λ x. going_on p x (λ y. turns (λ k. items k sub skips c (after y st))))) s e p
    unfolding turns
    items_turn st p =
        items_step (8 * length s) st p ∙ same_rest _ _ _ s e p (λ x q z. same_going p x _ _ q (λ y i.
        let a = item_ahead st p q y (z ∙ ap (λ v. got v q) i) in
        let l = limit_in s e in
        items_enough (8 * length s) (suc (8 * length s)) (after y st) q (omega arith) (omega arith)))
