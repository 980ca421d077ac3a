-- An input that has a header: where its stream lies; and another input with the same header words. Assumes nothing.
use mathlib.Core.Path.{◌≡◌, refl, sym, ap, ap₂, ◌∙◌}
use mathlib.Core.Bool.{Bool, true, false}
use mathlib.Core.List.{List}
use Prim.Native.Nat.{ℕ, ◌+◌, ◌-◌, ◌≤◌}
use native.Mathlib.Omega.{arith}
use lib.ListN.{length, take, drop}
use lib.Seq.{take_all}
use lib.Dec.{eqb}
use borrow.Author.Tests.{eqb-true, eqb-false, eq-eqb, ne_eqb}
use Rattle.bits.specs.Reader.{when◌then◌else◌}
use Rattle.bitcode.specs.declared.Signature.{Signature}
use Rattle.bitcode.specs.Header.{word, wrapper_magic, Opened, unsigned, opened, wrapped, signature}
use Rattle.bitcode.proofs.Headers.{plain_header, wrapped_header, signature_wrapped, signature_plain, wrapped_short, wrapped_outside, wrapped_small, wrapped_there, signature_opens}
use Rattle.exchange.specs.Input.{base_of}
use Rattle.exchange.proofs.Exchange.{either}

-- ---- where the stream lies: it begins at `base_of`; the byte behind it
unfoldable pub end_of : List ℕ → ℕ
end_of bs = when eqb (word bs 0) wrapper_magic then word bs 8 + word bs 12 else length bs

pub plain_lies : (bs : List ℕ) → (word bs 0 ≡ wrapper_magic → ⊥) → (base_of bs ≡ 4) × (end_of bs ≡ length bs)
unfolding base_of end_of when◌then◌else◌
plain_lies bs e = (rw (ne_eqb _ _ e), rw (ne_eqb _ _ e))

pub wrapped_lies : (bs : List ℕ) → word bs 0 ≡ wrapper_magic → (base_of bs ≡ word bs 8 + 4) × (end_of bs ≡ word bs 8 + word bs 12)
unfolding base_of end_of when◌then◌else◌
wrapped_lies bs e = (rw (eq-eqb _ _ e), rw (eq-eqb _ _ e))

-- ---- the two kinds of header
pub record Plain (bs s : List ℕ) (h : Signature) : Type 0 where
  pub p_magic : word bs 0 ≡ wrapper_magic → ⊥
  pub p_long : 4 ≤ length bs
  pub p_is : opened (plain_header bs) (drop 4 bs) ≡ opened h s

pub record Wrapped (bs s : List ℕ) (h : Signature) : Type 0 where
  pub w_magic : word bs 0 ≡ wrapper_magic
  pub w_long : 20 ≤ length bs
  pub w_inside : word bs 8 + word bs 12 ≤ length bs
  pub w_holds : 4 ≤ word bs 12
  pub w_is : opened (wrapped_header bs) (drop (word bs 8 + 4) (take (word bs 8 + word bs 12) bs)) ≡ opened h s

none_opened : {h : Signature} {s : List ℕ} {o : Opened} → o ≡ unsigned → o ≡ opened h s → ⊥
none_opened e z = let y : ◌≡◌ {A = ℕ} 0 1 = cc in omega arith

wrapped_kind : (bs s : List ℕ) (h : Signature) → word bs 0 ≡ wrapper_magic → wrapped bs ≡ opened h s → Wrapped bs s h
wrapped_kind bs s h m z =
    let l : 20 ≤ length bs = either (length bs) 20 (λ x. absurd (none_opened (wrapped_short bs x) z)) (λ x. x) in
    let i : word bs 8 + word bs 12 ≤ length bs =
    either (length bs) (word bs 8 + word bs 12) (λ x. absurd (none_opened (wrapped_outside bs l x) z)) (λ x. x) in
    let o : 4 ≤ word bs 12 = either (word bs 12) 4 (λ x. absurd (none_opened (wrapped_small bs l i x) z)) (λ x. x) in
    record { w_magic = m; w_long = l; w_inside = i; w_holds = o; w_is = sym (wrapped_there bs l i o) ∙ z }

by_kind : {C : Type 0} (bs s : List ℕ) (h : Signature) → signature bs ≡ opened h s → (Plain bs s h → C) → (Wrapped bs s h → C) → C
by_kind {C} bs s h z f g = go (eqb (word bs 0) wrapper_magic) refl
  where
    go : (c : Bool) → eqb (word bs 0) wrapper_magic ≡ c → C
    go true i =
        let m = eqb-true _ _ i in
        g (wrapped_kind bs s h m (sym (signature_wrapped bs (signature_opens bs h s z).some m) ∙ z))
    go false i =
        let m = eqb-false _ _ i in
        let l = (signature_opens bs h s z).some in
        f (record { p_magic = m; p_long = l; p_is = sym (signature_plain bs l m) ∙ z })

-- ---- where a stream lies
pub record Lies (bs s : List ℕ) : Type 0 where
  pub stream_is : s ≡ drop (base_of bs) (take (end_of bs) bs)
  pub base_end : base_of bs ≤ end_of bs
  pub end_length : end_of bs ≤ length bs

pub lies : (bs s : List ℕ) (h : Signature) → signature bs ≡ opened h s → Lies bs s
lies bs s h z = by_kind bs s h z
    (λ p.
    let (b, e) = plain_lies bs p.p_magic in
    let w = p.p_is in
    let x : s ≡ drop 4 bs = cc in
    record {
      stream_is = x ∙ ap (drop 4) (sym (take_all (length bs) bs (omega arith))) ∙ ap₂ (λ x y. drop x (take y bs)) (sym b) (sym e);
      base_end = omega arith;
      end_length = omega arith;
    })
    (λ p.
    let (b, e) = wrapped_lies bs p.w_magic in
    let w = p.w_is in
    let x : s ≡ drop (word bs 8 + 4) (take (word bs 8 + word bs 12) bs) = cc in
    record { stream_is = x ∙ ap₂ (λ x y. drop x (take y bs)) (sym b) (sym e); base_end = omega arith; end_length = omega arith })

-- ---- a second input with the first's length and header words has its header, and its stream lies at the same place
pub record SameHeader (bs bs' : List ℕ) : Type 0 where
  pub same_length : length bs' ≡ length bs
  pub same_magic : word bs' 0 ≡ word bs 0
  pub same_wrapper : word bs 0 ≡ wrapper_magic
      → (word bs' 4 ≡ word bs 4) × (word bs' 8 ≡ word bs 8) × (word bs' 12 ≡ word bs 12) × (word bs' 16 ≡ word bs 16)
      × (word bs' (word bs 8) ≡ word bs (word bs 8))

signature_path : {x y : Signature} → x.magic ≡ y.magic → x.magic2 ≡ y.magic2 → x.version ≡ y.version → x.offset ≡ y.offset
    → x.size ≡ y.size → x.cpu ≡ y.cpu → x ≡ y
signature_path a b c d e f = λ i. record { magic = a i; magic2 = b i; version = c i; offset = d i; size = e i; cpu = f i }

pub same_signature : (bs bs' : List ℕ) → SameHeader bs bs' → (s : List ℕ) (h : Signature) → signature bs ≡ opened h s
    → signature bs' ≡ opened h (drop (base_of bs) (take (end_of bs) bs'))
same_signature bs bs' same s h z =
    let l = same.same_length in
    let w₀ = same.same_magic in
    by_kind bs s h z
    (λ p.
    let (b, e) = plain_lies bs p.p_magic in
    let w = p.p_is in
    let x : plain_header bs ≡ h = cc in
    signature_plain bs' (omega arith) (λ m. p.p_magic (sym w₀ ∙ m))
    ∙ ap₂ opened (signature_path w₀ refl refl refl (ap (λ n. n - 4) l) refl ∙ x)
    (ap (drop 4) (sym (take_all (length bs) bs' (omega arith))) ∙ ap₂ (λ x y. drop x (take y bs')) (sym b) (sym e)))
    (λ p.
    let (b, e) = wrapped_lies bs p.w_magic in
    let w = p.w_is in
    let x : wrapped_header bs ≡ h = cc in
    let (w₄, w₈, w₁₂, w₁₆, wm) = same.same_wrapper p.w_magic in
    let sum : word bs' 8 + word bs' 12 ≡ word bs 8 + word bs 12 = ap₂ (λ x y. x + y) w₈ w₁₂ in
    signature_wrapped bs' (omega arith) (w₀ ∙ p.w_magic) ∙ wrapped_there bs' (omega arith) (omega arith) (omega arith)
    ∙ ap₂ opened (signature_path w₀ (ap (word bs') w₈ ∙ wm) w₄ w₈ w₁₂ w₁₆ ∙ x)
    (ap₂ (λ x y. drop (x + 4) (take y bs')) w₈ sum ∙ ap₂ (λ x y. drop x (take y bs')) (sym b) (sym e)))
