-- Loops that put a list element by element: one more element is its text behind the text of those before it. Assumes nothing.
use mathlib.Core.List.{List, [], ◌∷◌, ◌++◌, append-nil, append_assoc}
use mathlib.Core.Path.{◌≡◌, refl, sym, ap, ◌∙◌}
use Prim.Native.Nat.{ℕ, zero, suc, ◌+◌, ◌<◌}
use native.Mathlib.Numerals.{add-one}
use native.Mathlib.Omega.{arith}
use lib.ListN.{length, take, get_or}
use lib.Seq.{take-suc, length-take-le}
use Rattle.text.specs.Text.{Puts, decimal, pair, pairs, hex, item, items}
use Rattle.text.proofs.Puts.{puts_then}

-- a text of lists in which one more element has its own text at the end
pub record Text (all : List ℕ → List ℕ) (one : ℕ → ℕ → List ℕ) : Type 0 where
  pub none : all [] ≡ []
  pub more : (xs : List ℕ) (v : ℕ) → all (xs ++ (v ∷ [])) ≡ all xs ++ one (length xs) v

pairs_more : (xs : List ℕ) (b : ℕ) → pairs (xs ++ (b ∷ [])) ≡ pairs xs ++ pair b
unfolding pairs
pairs_more [] b = append-nil (pair b)
pairs_more (x ∷ xs) b = rw (pairs_more xs b) (sym (append_assoc (pair x) (pairs xs) (pair b)))

items_more : (i : ℕ) (xs : List ℕ) (v : ℕ) → items i (xs ++ (v ∷ [])) ≡ items i xs ++ item (i + length xs) v
unfolding items
items_more i [] v = append-nil (item i v) ∙ ap (λ (k : ℕ). item k v) (omega arith)
items_more i (x ∷ xs) v =
    let e : suc i + length xs ≡ i + suc (length xs) = omega arith in
    rw (items_more (suc i) xs v, e) (sym (append_assoc (item i x) (items (suc i) xs) (item (i + suc (length xs)) v)))

pub pairs_text : Text pairs (λ i b. pair b)
unfolding pairs
pairs_text = record { none = refl; more = pairs_more }

pub items_text : Text (items 0) item
unfolding items
items_text = record { none = refl; more = λ xs v. rw (items_more 0 xs v) (ap (λ (k : ℕ). items 0 xs ++ item k v) (omega arith)) }

pub bytes_text : Text (λ xs. xs) (λ i b. b ∷ [])
bytes_text = record { none = refl; more = λ xs v. refl }

-- a turn of the loop, and its end
module _ {all : List ℕ → List ℕ} {one : ℕ → ℕ → List ℕ} (t : Text all one) where
  pub run_more : {l l' l'' : List ℕ} {f g h : ℕ} (s : List ℕ) (i : ℕ) → i < length s → Puts l l' f g (all (take i s)) → Puts l' l'' g h (one i (get_or s i 0))
      → Puts l l'' f h (all (take (i + 1) s))
  run_more s i b x y =
      let e : all (take (i + 1) s) ≡ all (take i s) ++ one i (get_or s i 0)
      = ap all (ap (λ (k : ℕ). take k s) (add-one i) ∙ take-suc s i 0 b) ∙ t.more (take i s) (get_or s i 0)
      ∙ ap (λ (k : ℕ). all (take i s) ++ one k (get_or s i 0)) (length-take-le i s (omega arith)) in
      rw e (puts_then x y)

-- the cases of a list's item and of bytes in hex, as the code tests them
pub first_item : (i v : ℕ) → i ≡ 0 → item i v ≡ decimal v
unfolding item
first_item zero v h = refl
first_item (suc i) v h = absurd (omega arith)

pub later_item : (i v : ℕ) → (i ≡ 0 → ⊥) → item i v ≡ (44 ∷ []) ++ decimal v
unfolding item
later_item zero v h = absurd (h refl)
later_item (suc i) v h = refl

pub hex_none : (s : List ℕ) → length s ≡ 0 → hex s ≡ (45 ∷ []) ++ pairs s
unfolding hex pairs
hex_none [] h = refl
hex_none (b ∷ bs) h = absurd (omega arith)

pub hex_some : (s : List ℕ) → (length s ≡ 0 → ⊥) → hex s ≡ pairs s
unfolding hex
hex_some [] h = absurd (h refl)
hex_some (b ∷ bs) h = refl
