-- Readers: what the whole definition is written in. A reader gets a stream of bytes, an end in bytes and a place in bits; it gives a value and
-- the place behind it, or refuses. Assumes nothing.
use Rattle.std.specs.Prelude.{Bool, true, false, List, ℕ, suc, ◌*◌, length}
use Rattle.terms.specs.Refusals.{No, no, Refusal, refusal}

-- what a reader answers; `R` is what a refusal tells
pub data Answer (R A : Type 0) : Type 0 where
  got : A → ℕ → Answer R A
  refused : R → Answer R A

abbrev pub Reader : Type 0 → Type 0 → Type 0
Reader R A = List ℕ → ℕ → ℕ → Answer R A

-- ---- `do`: one reader behind the other, each from where the one before it came to; the first refusal is the answer
unfoldable pub onward : {R A B : Type 0} → Answer R A → (A → ℕ → Answer R B) → Answer R B
onward (got a q) f = f a q
onward (refused r) f = refused r

infixl 10 ◌>>=◌ ◌>>◌
unfoldable pub ◌>>=◌ : {R A B : Type 0} → Reader R A → (A → Reader R B) → Reader R B
◌>>=◌ m f = λ s e p. onward (m s e p) (λ a q. f a s e q)

abbrev pub ◌>>◌ : {R A B : Type 0} → Reader R A → Reader R B → Reader R B
◌>>◌ m f = m >>= (λ a. f)

-- a value, with nothing read
unfoldable pub give : {R A : Type 0} → A → Reader R A
give a = λ s e p. got a p

unfoldable pub stop : {R A : Type 0} → R → Reader R A
stop r = λ s e p. refused r

-- refuse unless the test passes
unfoldable pub require : {R : Type 0} → Bool → R → Reader R (Unit {0})
require true r = λ s e p. got tt p
require false r = λ s e p. refused r

-- the library's `if`, but closed: so a law of a choice finds its two arms in the goal, and no proof writes them out
infix 5 when◌then◌else◌
unfoldable pub when◌then◌else◌ : {A : Type 0} → Bool → A → A → A
when◌then◌else◌ true a b = a
when◌then◌else◌ false a b = b

-- the place where the reading stands
unfoldable pub here : {R : Type 0} → Reader R ℕ
here = λ s e p. got p p

-- a loop's turns: as many as the stream has bits, and one, since each chunk of a number and each item of a block takes a bit at least
unfoldable pub turns : {R A : Type 0} → (ℕ → Reader R A) → Reader R A
turns m = λ s e p. m (suc (8 * length s)) s e p

-- ---- a small reader inside an item that began at the bit `from`: its refusal has that place
unfoldable pub at_place : {A : Type 0} → ℕ → Answer No A → Answer Refusal A
at_place from (got a q) = got a q
at_place from (refused (no n x y)) = refused (refusal n from x y)

unfoldable pub placed : {A : Type 0} → ℕ → Reader No A → Reader Refusal A
placed from m = λ s e p. at_place from (m s e p)
