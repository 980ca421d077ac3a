-- The laws of `exchange`: what stands where, in bytes and in bits; and a part of the exchanged input is the part, exchanged. Assumes nothing.
use mathlib.Core.Path.{◌≡◌, refl, sym, ap, ap₂, ◌∙◌}
use mathlib.Core.Bool.{Bool, true, false}
use mathlib.Core.List.{List, ◌++◌}
use Prim.Native.Nat.{ℕ, ◌+◌, ◌-◌, ◌*◌, ◌/◌, ◌%◌, ◌^◌, ◌≤◌, ◌<◌}
use native.Mathlib.Omega.{arith}
use lib.ListN.{get_or, length, length-append, take, drop, length-drop, get_or-append}
use lib.Seq.{length-take-le, length-slice, slice, get_or-append-add, get_or-take, get_or-drop, ext_get_or}
use lib.Dec.{ltb}
use borrow.Author.Tests.{ltb-true, ltb-false}
use Rattle.bits.specs.Bits.{bit}
use Rattle.exchange.specs.Input.{exchange}

-- a number is below another or not
either_of : {C : Type 0} (n m : ℕ) → (n < m → C) → (m ≤ n → C) → (b : Bool) → ltb n m ≡ b → C
either_of n m f g true h = f (ltb-true n m h)
either_of n m f g false h = g (ltb-false n m h)

pub either : {C : Type 0} (n m : ℕ) → (n < m → C) → (m ≤ n → C) → C
either n m f g = either_of n m f g (ltb n m) refl

-- where a byte of the exchanged input lies: before the two, in the second block, in the first, or behind them
pub regions : {C : Type 0} (i j k n : ℕ) → i ≤ j → j ≤ k → (n < i → C) → (i ≤ n → n < i + (k - j) → C) → (i + (k - j) ≤ n → n < k → C)
    → (k ≤ n → C) → C
regions i j k n ij jk f₁ f₂ f₃ f₄ = either n i f₁ (λ a. either n (i + (k - j)) (f₂ a) (λ b. either n k (f₃ b) f₄))

-- what stands in the second of two lists
pub behind_first : (xs ys : List ℕ) (n m : ℕ) → length xs ≡ m → m ≤ n → get_or (xs ++ ys) n 0 ≡ get_or ys (n - m) 0
behind_first xs ys n m e h =
    ap (λ x. get_or (xs ++ ys) x 0) (let z : n ≡ length xs + (n - m) = omega arith in z) ∙ get_or-append-add xs ys (n - m) 0

module _ (i j k : ℕ) (l : List ℕ) (ij : i ≤ j) (jk : j ≤ k) (kl : k ≤ length l) where
  -- how long the parts are
  li : length (take i l) ≡ i
  li = length-take-le i l (omega arith)

  lb : length (slice j k l) ≡ k - j
  lb = length-slice j k l kl

  la : length (slice i j l) ≡ j - i
  la = length-slice i j l (omega arith)

  pub length_exchange : length (exchange i j k l) ≡ length l
  unfolding exchange
  length_exchange = simp (length-append, li, lb, la, length-drop) (omega arith)

  -- ---- what stands where: before the two, the second block, the first, behind them
  pub exchange_low : (n : ℕ) → n < i → get_or (exchange i j k l) n 0 ≡ get_or l n 0
  unfolding exchange
  exchange_low n h = get_or-append (take i l) _ 0 n (omega (arith, li)) ∙ get_or-take i l n 0 h

  pub exchange_second : (n : ℕ) → i ≤ n → n < i + (k - j) → get_or (exchange i j k l) n 0 ≡ get_or l (n + (j - i)) 0
  unfolding exchange
  exchange_second n h g =
      behind_first (take i l) _ n i li h ∙ get_or-append (slice j k l) _ 0 (n - i) (omega (arith, lb))
      ∙ get_or-drop j (take k l) (n - i) 0 ∙ get_or-take k l (j + (n - i)) 0 (omega arith) ∙ ap (λ x. get_or l x 0) (omega arith)

  pub exchange_first : (n : ℕ) → i + (k - j) ≤ n → n < k → get_or (exchange i j k l) n 0 ≡ get_or l (n - (k - j)) 0
  unfolding exchange
  exchange_first n h g =
      behind_first (take i l) _ n i li (omega arith) ∙ behind_first (slice j k l) _ (n - i) (k - j) lb (omega arith)
      ∙ get_or-append (slice i j l) _ 0 (n - i - (k - j)) (omega (arith, la))
      ∙ get_or-drop i (take j l) (n - i - (k - j)) 0 ∙ get_or-take j l (i + (n - i - (k - j))) 0 (omega arith)
      ∙ ap (λ x. get_or l x 0) (omega arith)

  pub exchange_high : (n : ℕ) → k ≤ n → get_or (exchange i j k l) n 0 ≡ get_or l n 0
  unfolding exchange
  exchange_high n h =
      behind_first (take i l) _ n i li (omega arith) ∙ behind_first (slice j k l) _ (n - i) (k - j) lb (omega arith)
      ∙ behind_first (slice i j l) _ (n - i - (k - j)) (j - i) la (omega arith) ∙ get_or-drop k l (n - i - (k - j) - (j - i)) 0
      ∙ ap (λ x. get_or l x 0) (omega arith)

  -- ---- the same of bits
  bit_at : (s : List ℕ) (x y : ℕ) → x % 8 ≡ y % 8 → get_or s (x / 8) 0 ≡ get_or l (y / 8) 0 → bit l y ≡ bit s x
  unfolding bit
  bit_at s x y h g = ap₂ (λ v w. v / 2 ^ w % 2) (sym g) (sym h)

  pub bits_low : (x : ℕ) → x < 8 * i → bit l x ≡ bit (exchange i j k l) x
  bits_low x h = bit_at (exchange i j k l) x x refl (exchange_low (x / 8) (omega arith))

  pub bits_up : (x : ℕ) → 8 * i ≤ x → x < 8 * j → bit l x ≡ bit (exchange i j k l) (x + (8 * k - 8 * j) - 0)
  bits_up x h g = bit_at (exchange i j k l) (x + (8 * k - 8 * j) - 0) x (omega arith)
      (exchange_first ((x + (8 * k - 8 * j) - 0) / 8) (omega arith) (omega arith) ∙ ap (λ y. get_or l y 0) (omega arith))

  pub bits_down : (x : ℕ) → 8 * j ≤ x → x < 8 * k → bit l x ≡ bit (exchange i j k l) (x + 0 - (8 * j - 8 * i))
  bits_down x h g = bit_at (exchange i j k l) (x + 0 - (8 * j - 8 * i)) x (omega arith)
      (exchange_second ((x + 0 - (8 * j - 8 * i)) / 8) (omega arith) (omega arith) ∙ ap (λ y. get_or l y 0) (omega arith))

  pub bits_high : (x : ℕ) → 8 * k ≤ x → bit l x ≡ bit (exchange i j k l) x
  bits_high x h = bit_at (exchange i j k l) x x refl (exchange_high (x / 8) (omega arith))

-- ---- a part of the exchanged list is the part, exchanged
module _ (i j k base fin : ℕ) (l : List ℕ) (ij : i ≤ j) (jk : j ≤ k) (kf : base + k ≤ fin) (fl : fin ≤ length l) where
  len_part : length (drop base (take fin l)) ≡ fin - base
  len_part = length-slice base fin l fl

  at_part : (x : List ℕ) (n : ℕ) → base + n < fin → get_or (drop base (take fin x)) n 0 ≡ get_or x (base + n) 0
  at_part x n h = get_or-drop base (take fin x) n 0 ∙ get_or-take fin x (base + n) 0 h

  pub part_exchange : drop base (take fin (exchange (base + i) (base + j) (base + k) l)) ≡ exchange i j k (drop base (take fin l))
  part_exchange =
      let p₁ : base + i ≤ base + j = omega arith in
      let p₂ : base + j ≤ base + k = omega arith in
      let p₃ : base + k ≤ length l = omega arith in
      let p₄ : k ≤ length (drop base (take fin l)) = omega (arith, len_part) in
      let e₁ : length (exchange (base + i) (base + j) (base + k) l) ≡ length l =
      length_exchange (base + i) (base + j) (base + k) l p₁ p₂ p₃ in
      let e₂ : length (drop base (take fin (exchange (base + i) (base + j) (base + k) l))) ≡ fin - base =
      length-slice base fin (exchange (base + i) (base + j) (base + k) l) (omega arith) in
      let e₃ : length (exchange i j k (drop base (take fin l))) ≡ fin - base =
      length_exchange i j k (drop base (take fin l)) ij jk p₄ ∙ len_part in
      ext_get_or 0 _ _ (e₂ ∙ sym e₃) (λ n h.
      let h' : base + n < fin = omega arith in
      at_part (exchange (base + i) (base + j) (base + k) l) n h' ∙ regions i j k n ij jk
      (λ a. exchange_low (base + i) (base + j) (base + k) l p₁ p₂ p₃ (base + n) (omega arith)
      ∙ sym (exchange_low i j k (drop base (take fin l)) ij jk p₄ n a ∙ at_part l n h'))
      (λ a b. exchange_second (base + i) (base + j) (base + k) l p₁ p₂ p₃ (base + n) (omega arith) (omega arith)
      ∙ ap (λ x. get_or l x 0) (omega arith)
      ∙ sym (exchange_second i j k (drop base (take fin l)) ij jk p₄ n a b ∙ at_part l (n + (j - i)) (omega arith)))
      (λ a b. exchange_first (base + i) (base + j) (base + k) l p₁ p₂ p₃ (base + n) (omega arith) (omega arith)
      ∙ ap (λ x. get_or l x 0) (omega arith)
      ∙ sym (exchange_first i j k (drop base (take fin l)) ij jk p₄ n a b ∙ at_part l (n - (k - j)) (omega arith)))
      (λ a. exchange_high (base + i) (base + j) (base + k) l p₁ p₂ p₃ (base + n) (omega arith)
      ∙ sym (exchange_high i j k (drop base (take fin l)) ij jk p₄ n a ∙ at_part l n h')))
