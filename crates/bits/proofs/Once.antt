-- No second outcome: two results that meet the contract of a public call are equal. Assumes nothing.
use Prim.Native.Nat.{ℕ}
use mathlib.Core.Path.{◌≡◌, refl, sym, ap, ◌∙◌}
use mathlib.Core.List.{List}
use mathlib.Core.Bool.{Bool}
use lib.IntN.{ℤ}
use Rattle.std.specs.Prelude.{Result, Ok, Err}
use Rattle.terms.specs.Refusals.{No, no_of}
use Rattle.terms.specs.declared.Reason.{Reason}
use Rattle.terms.proofs.Once.{reason_of, reason_back}
use Rattle.bits.specs.declared.Cursor.{Cursor}
use Rattle.bits.specs.Reader.{Reader}
use Rattle.bits.specs.Bits.{read, peek, align, vbr, skip, part, next_bytes, bits_left, ends_at, signed_of}
use Rattle.bits.specs.Told.{Told, told, refuses, Gives, of_read, of_peek, of_move, Parts}
use Rattle.bits.proofs.Steps.{never, got_value, got_place}

-- ---- the law, for every reader and every answer
cursor_same : (c d : Cursor) → c.at ≡ d.at → c.end ≡ d.end → c ≡ d
cursor_same c d i j = ap (λ (x : ℕ). record { at = x; end = c.end }) i ∙ ap (λ (y : ℕ). record { at = d.at; end = y }) j

pub gives_once : {R A : Type 0} (c : Cursor) (s : List ℕ) (m : Reader R A) (t t' : Told R A) → Gives c s m t → Gives c s m t' → t ≡ t'
gives_once c s m (told a d) (told b g) x y =
    let z = sym x.gives ∙ y.gives in
    let v : a ≡ b = got_value z in
    let p : d ≡ g = cursor_same d g (got_place z) (x.ends ∙ sym y.ends) in
    cc
gives_once c s m (told a d) (refuses r) x y = absurd (never (sym y.why ∙ x.gives))
gives_once c s m (refuses r) (told b g) x y = absurd (never (sym x.why ∙ y.gives))
gives_once c s m (refuses r) (refuses q) x y = let z = sym x.why ∙ y.why in cc

-- an answer of the code, had back from what it tells by its two constructors
abbrev pub from_told : {A E : Type 0} → (A → Cursor → E) → (No → E) → Told No A → E
from_told some none (told a d) = some a d
from_told some none (refuses x) = none x

-- so it is told once, for every answer that can be had back
module _ {A E : Type 0} (of : E → Told No A) (some : A → Cursor → E) (none : No → E) (back : (r : E) → from_told some none (of r) ≡ r) where
  pub told_once : (c : Cursor) (s : List ℕ) (m : Reader No A) (r r' : E) → Gives c s m (of r) → Gives c s m (of r') → r ≡ r'
  told_once c s m r r' x y = sym (back r) ∙ ap (from_told some none) (gives_once c s m (of r) (of r') x y) ∙ back r'

-- a refusal, had back as an answer
abbrev pub because : {A : Type 0} → No → Result A Reason
because x = Err (reason_of x)

-- ---- calls that tell what a reader gives
pub read_back : {A : Type 0} (r : Result (A × Cursor) Reason) → from_told (λ v d. Ok (v, d)) because (of_read r) ≡ r
read_back (Ok (v, d)) = refl
read_back (Err r) = ap Err (reason_back r)

peek_back : (c : Cursor) (r : Result ℕ Reason) → from_told (λ v d. Ok v) because (of_peek c r) ≡ r
peek_back c (Ok v) = refl
peek_back c (Err r) = ap Err (reason_back r)

move_back : (r : Result Cursor Reason) → from_told (λ u d. Ok d) because (of_move r) ≡ r
move_back (Ok d) = refl
move_back (Err r) = ap Err (reason_back r)

module _ (c : Cursor) (s : List ℕ) where
  pub read_once : (n : ℕ) (r r' : Result (ℕ × Cursor) Reason) → Gives c s (read n) (of_read r) → Gives c s (read n) (of_read r') → r ≡ r'
  read_once n r r' x y = told_once of_read (λ v d. Ok (v, d)) because read_back c s (read n) r r' x y

  pub read_vbr_once : (w : ℕ) (r r' : Result (ℕ × Cursor) Reason) → Gives c s (vbr w) (of_read r) → Gives c s (vbr w) (of_read r') → r ≡ r'
  read_vbr_once w r r' x y = told_once of_read (λ v d. Ok (v, d)) because read_back c s (vbr w) r r' x y

  pub peek_once : (n : ℕ) (r r' : Result ℕ Reason) → Gives c s (peek n) (of_peek c r) → Gives c s (peek n) (of_peek c r') → r ≡ r'
  peek_once n r r' x y = told_once (of_peek c) (λ v d. Ok v) because (peek_back c) c s (peek n) r r' x y

  pub align32_once : (r r' : Result Cursor Reason) → Gives c s align (of_move r) → Gives c s align (of_move r') → r ≡ r'
  align32_once r r' x y = told_once of_move (λ u d. Ok d) because move_back c s align r r' x y

  pub skip_bytes_once : (n : ℕ) (r r' : Result Cursor Reason) → Gives c s (skip n) (of_move r) → Gives c s (skip n) (of_move r') → r ≡ r'
  skip_bytes_once n r r' x y = told_once of_move (λ u d. Ok d) because move_back c s (skip n) r r' x y

  -- the part's own cursor is told by its end, and begins where c stands
  pub take_slice_once : (n : ℕ) (r r' : Result (Cursor × Cursor) Reason) → Parts c s n r → Parts c s n r' → r ≡ r'
  take_slice_once n (Ok (i, d)) (Ok (j, g)) x y =
      let z : ◌≡◌ {A = Told No ℕ} (told i.end d) (told j.end g) = gives_once c s (part n) _ _ x.0 y.0 in
      let e : i.end ≡ j.end = cc in
      let p : i ≡ j = cursor_same i j (x.1 ∙ sym y.1) e in
      cc
  take_slice_once n (Ok (i, d)) (Err r) x y = absurd (never (sym y.why ∙ x.0.gives))
  take_slice_once n (Err r) (Ok (j, g)) x y = absurd (never (sym x.why ∙ y.0.gives))
  take_slice_once n (Err r) (Err q) x y =
      let z = gives_once c s (part n) (refuses (no_of r)) (refuses (no_of q)) x y in
      let e : no_of r ≡ no_of q = cc in
      ap Err (sym (reason_back r) ∙ ap reason_of e ∙ reason_back q)

pub new_once : (end : ℕ) (r r' : Cursor) → (r.at ≡ 0) × (r.end ≡ end) → (r'.at ≡ 0) × (r'.end ≡ end) → r ≡ r'
new_once end r r' x y = cursor_same r r' (x.0 ∙ sym y.0) (x.1 ∙ sym y.1)

-- ---- calls whose contract is an equation
pub same_once : {A : Type 0} {x y z : A} → x ≡ z → y ≡ z → x ≡ y
same_once i j = i ∙ sym j

module _ (s : List ℕ) (c : Cursor) where
  pub read_bytes_once : (n : ℕ) (r r' : List ℕ) → r ≡ next_bytes n s c.end c.at → r' ≡ next_bytes n s c.end c.at → r ≡ r'
  read_bytes_once n r r' x y = same_once x y

  pub unconsumed_bit_len_once : (r r' : ℕ) → r ≡ bits_left s c.end c.at → r' ≡ bits_left s c.end c.at → r ≡ r'
  unconsumed_bit_len_once r r' x y = same_once x y

  pub is_at_end_once : (r r' : Bool) → r ≡ ends_at s c.end c.at → r' ≡ ends_at s c.end c.at → r ≡ r'
  is_at_end_once r r' x y = same_once x y

pub signed_once : (v : ℕ) (r r' : ℤ) → r ≡ signed_of v → r' ≡ signed_of v → r ≡ r'
signed_once v r r' x y = same_once x y
