-- The records of BLOCKINFO: numbers that have to be readable, name letters, and the block that is chosen. Assumes nothing.
use mathlib.Core.Path.{◌≡◌, refl, sym, ap, ◌∙◌}
use mathlib.Core.Bool.{Bool, true}
use mathlib.Core.List.{List}
use Prim.Native.Nat.{ℕ, suc, ◌+◌, ◌-◌, ◌≤◌, ◌<◌}
use native.Mathlib.Omega.{arith}
use lib.Dec.{leb}
use borrow.Author.Tests.{le-leb, lt-leb}
use Rattle.std.specs.Prelude.{Option as RustOption, Some, None, Ok, Err, ok_or}
use Rattle.terms.specs.Refusals.{No, no, no_of, value_overflow}
use Rattle.terms.specs.declared.Reason.{Reason}
use Rattle.terms.specs.declared.Reason.TheVariants.{MissingSetBid}
use Rattle.bits.specs.declared.Cursor.{Cursor}
use Rattle.bits.specs.Reader.{Reader, got, refused, onward, ◌>>=◌, give, stop, require, when◌then◌else◌}
use Rattle.bits.specs.Bits.{vbr}
use Rattle.bits.specs.Told.{At, Off}
use Rattle.bits.proofs.Steps.{then_off, ends, fail, so, so_off}
use Rattle.abbrev.specs.BlockInfo.{every, or_else, readable, chosen, letters}
use Rattle.abbrev.specs.Tables.{of_chosen}
use Rattle.abbrev.specs.declared.BlockNumber.{BlockNumber}

-- ---- a test that passes leaves the rest
pub pass_so : {R B : Type 0} (r : R) {b : Bool} (f : Unit {0} → Reader R B) (s : List ℕ) (e p : ℕ) → b ≡ true → (require b r >>= f) s e p ≡ f tt s e p
unfolding ◌>>=◌ onward require
pass_so r f s e p i = rw i

-- ---- a number that has to be readable
hidden : {A : Type 0} (r r' : No) → or_else {A = A} every r (refused r') ≡ refused r
unfolding or_else every when◌then◌else◌
hidden r (no n x y) = refl

module _ {A : Type 0} (r : No) {m : Reader No A} {s : List ℕ} {e p : ℕ} where
  pub readable_at : {a : A} {d : Cursor} → At m s e p a d → At (readable every r m) s e p a d
  unfolding readable or_else
  readable_at x = record { gives = rw x.gives; ends = x.ends }

  pub readable_off : {r' : No} → Off m s e p r' → Off (readable every r m) s e p r
  unfolding readable
  readable_off {r'} o = record { why = ap (or_else every r) o.why ∙ hidden r r' }

-- ---- the loop that reads name letters: i of them are read
pub record Spelling (s : List ℕ) (count : ℕ) (c₀ c : Cursor) (i : ℕ) : Type 0 where
  pub rest : letters count s c₀.end c₀.at ≡ letters (count - i) s c.end c.at
  pub same_end : c.end ≡ c₀.end

pub spelling_start : (s : List ℕ) (count : ℕ) (c : Cursor) → Spelling s count c c 0
spelling_start s count c = let z : count ≡ count - 0 = omega arith in record { rest = ap (λ n. letters n s c.end c.at) z; same_end = refl }

letters_none : (n : ℕ) (s : List ℕ) (e p : ℕ) → n ≡ 0 → letters n s e p ≡ got tt p
unfolding letters give
letters_none n s e p h = ap (λ k. letters k s e p) h

-- one letter, and those behind it
letters_turn : (n k : ℕ) (s : List ℕ) (e p : ℕ) → n ≡ suc k → letters n s e p ≡ (vbr 6 >>= (λ v. require (leb v 255) value_overflow >>= (λ u. letters k))) s e p
unfolding letters
letters_turn n k s e p h = ap (λ m. letters m s e p) h

module _ {s : List ℕ} {count : ℕ} {c₀ c : Cursor} {i : ℕ} (g : Spelling s count c₀ c i) where
  pub spelling_end : count ≤ i → At (letters count) s c₀.end c₀.at tt c
  spelling_end h = record { gives = g.rest ∙ letters_none (count - i) s c.end c.at (omega arith); ends = g.same_end }

  module _ (h : i < count) where
    spelling_turn : letters count s c₀.end c₀.at ≡ (vbr 6 >>= (λ v. require (leb v 255) value_overflow >>= (λ u. letters (count - (i + 1))))) s c.end c.at
    spelling_turn = g.rest ∙ letters_turn (count - i) (count - (i + 1)) s c.end c.at (omega arith)

    pub spelling_refused : {r : No} → Off (vbr 6) s c.end c.at r → Off (letters count) s c₀.end c₀.at r
    spelling_refused o = record { why = spelling_turn ∙ so_off (vbr 6) _ s c.end c.at o.why }

    module _ {v : ℕ} {d : Cursor} (x : At (vbr 6) s c.end c.at v d) where
      pub spelling_wide : 255 < v → Off (letters count) s c₀.end c₀.at value_overflow
      spelling_wide k =
          let o : Off (vbr 6 >>= (λ v. require (leb v 255) value_overflow >>= (λ u. letters (count - (i + 1))))) s c.end c.at value_overflow = then_off _ x (fail _ (lt-leb v 255 k)) in
          record { why = spelling_turn ∙ o.why }

      pub spelling_more : v ≤ 255 → Spelling s count c₀ d (i + 1)
      spelling_more k =
          record {
            rest =
                spelling_turn ∙ so (vbr 6) _ s c.end c.at x.gives
                ∙ pass_so value_overflow (λ u. letters (count - (i + 1))) s c.end d.at (le-leb v 255 k) ∙ ap (λ e. letters (count - (i + 1)) s e d.at) (sym x.ends);
            same_end = x.ends ∙ g.same_end;
          }

-- ---- the block that is chosen, if any, as `ok_or` gives it
module _ {s : List ℕ} (c : Cursor) where
  pub choice_at : (o : RustOption BlockNumber) {b : BlockNumber} → Ok b ≡ ok_or o MissingSetBid → At (chosen (of_chosen o)) s c.end c.at b.0 c
  unfolding chosen
  choice_at None h = cc
  choice_at (Some a) {b} h = let i : a ≡ b = cc in rw i ends

  pub choice_off : (o : RustOption BlockNumber) {r : Reason} → Err r ≡ ok_or o MissingSetBid → Off (chosen (of_chosen o)) s c.end c.at (no_of r)
  unfolding chosen stop
  choice_off None {r} h = let i : r ≡ MissingSetBid = cc in rw i record { why = refl }
  choice_off (Some b) h = cc
