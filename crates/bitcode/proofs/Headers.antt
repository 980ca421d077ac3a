-- The laws of the header's definition: what it is by its tests, and back, what a header that is there says of its input; and those of a part of a
-- stream. Assumes nothing.
use Rattle.std.specs.Prelude.{Ok, Err}
use Rattle.terms.specs.declared.Reason.{Reason}
use mathlib.Core.Bool.{Bool, true, false, ◌&&◌}
use mathlib.Core.List.{List, [], ◌∷◌}
use mathlib.Core.Path.{◌≡◌, refl, ap, ◌∙◌}
use Prim.Native.Nat.{ℕ, zero, suc, ◌+◌, ◌-◌, ◌≤◌, ◌<◌}
use native.Mathlib.Nat.{suc-sub-suc, sub-zero, zero-sub}
use native.Mathlib.Omega.{arith}
use lib.ListN.{length, take, drop}
use lib.Seq.{take-nil, take-length}
use lib.Dec.{ltb, leb, eqb}
use borrow.Author.Tests.{lt-ltb, le-ltb, le-leb, lt-leb, eq-eqb, ne_eqb, ltb-false, leb-true, eqb-true, eqb-false}
use Rattle.bits.specs.Reader.{when◌then◌else◌}
use Rattle.bitcode.specs.declared.Signature.{Signature}
use Rattle.bitcode.specs.Header.{word, wrapper_magic, Opened, unsigned, opened, wrapped, signature, parsed, stream, bytes_of}

-- ---- by the tests
abbrev pub plain_header : List ℕ → Signature
plain_header bs = record { magic = word bs 0; magic2 = 0; version = 0; offset = 4; size = length bs - 4; cpu = 0 }

abbrev pub wrapped_header : List ℕ → Signature
wrapped_header bs =
    record { magic = word bs 0; magic2 = word bs (word bs 8); version = word bs 4; offset = word bs 8; size = word bs 12; cpu = word bs 16 }

module _ (bs : List ℕ) where
  pub signature_short : length bs < 4 → signature bs ≡ unsigned
  unfolding signature when◌then◌else◌
  signature_short h = rw (lt-ltb _ _ h)

  pub signature_wrapped : 4 ≤ length bs → word bs 0 ≡ wrapper_magic → signature bs ≡ wrapped bs
  unfolding signature when◌then◌else◌
  signature_wrapped h e = rw (le-ltb _ _ h, eq-eqb _ _ e)

  pub signature_plain : 4 ≤ length bs → (word bs 0 ≡ wrapper_magic → ⊥) → signature bs ≡ opened (plain_header bs) (drop 4 bs)
  unfolding signature when◌then◌else◌
  signature_plain h e = rw (le-ltb _ _ h, ne_eqb _ _ e)

  pub wrapped_short : length bs < 20 → wrapped bs ≡ unsigned
  unfolding wrapped when◌then◌else◌
  wrapped_short h = rw (lt-ltb _ _ h)

  pub wrapped_outside : 20 ≤ length bs → length bs < word bs 8 + word bs 12 → wrapped bs ≡ unsigned
  unfolding wrapped when◌then◌else◌
  wrapped_outside h o = rw (le-ltb _ _ h, lt-leb _ _ o)

  pub wrapped_small : 20 ≤ length bs → word bs 8 + word bs 12 ≤ length bs → word bs 12 < 4 → wrapped bs ≡ unsigned
  unfolding wrapped when◌then◌else◌
  wrapped_small h i o = rw (le-ltb _ _ h, le-leb _ _ i, lt-leb _ _ o)

  pub wrapped_there : 20 ≤ length bs → word bs 8 + word bs 12 ≤ length bs → 4 ≤ word bs 12
      → wrapped bs ≡ opened (wrapped_header bs) (drop (word bs 8 + 4) (take (word bs 8 + word bs 12) bs))
  unfolding wrapped when◌then◌else◌
  wrapped_there h i o = rw (le-ltb _ _ h, le-leb _ _ i, le-leb _ _ o)

-- ---- back: a header h and a stream t that are there
pub record Wraps (bs : List ℕ) (h : Signature) (t : List ℕ) : Type 0 where
  pub magic : h.magic ≡ word bs 0
  pub inside : h.offset + h.size ≤ length bs
  pub holds : 4 ≤ h.size
  pub behind : t ≡ drop (h.offset + 4) (take (h.offset + h.size) bs)

pub record Opens (bs : List ℕ) (h : Signature) (t : List ℕ) : Type 0 where
  pub some : 4 ≤ length bs
  pub plain : (h.magic ≡ wrapper_magic → ⊥) → t ≡ drop 4 bs
  pub wraps : h.magic ≡ wrapper_magic → Wraps bs h t

never : {h : Signature} {t : List ℕ} → unsigned ≡ opened h t → ⊥
never e = let z : ◌≡◌ {A = ℕ} 0 1 = cc in omega arith

pub wrapped_opens : (bs : List ℕ) (h : Signature) (t : List ℕ) → wrapped bs ≡ opened h t → Wraps bs h t
unfolding wrapped when◌then◌else◌
wrapped_opens bs h t e = go (ltb (length bs) 20) (leb (word bs 8 + word bs 12) (length bs)) (leb 4 (word bs 12)) refl refl e
  where
    go : (a b c : Bool) → leb (word bs 8 + word bs 12) (length bs) ≡ b → leb 4 (word bs 12) ≡ c
        → (when a then unsigned else when b && c then opened (wrapped_header bs) (drop (word bs 8 + 4) (take (word bs 8 + word bs 12) bs)) else unsigned) ≡ opened h t
        → Wraps bs h t
    go true b c i j x = absurd (never x)
    go false true true i j x =
        let k : h ≡ wrapped_header bs = cc in
        let r : t ≡ drop (word bs 8 + 4) (take (word bs 8 + word bs 12) bs) = cc in
        rw k (record { magic = refl; inside = leb-true _ _ i; holds = leb-true _ _ j; behind = r })
    go false true false i j x = absurd (never x)
    go false false c i j x = absurd (never x)

pub signature_opens : (bs : List ℕ) (h : Signature) (t : List ℕ) → signature bs ≡ opened h t → Opens bs h t
unfolding signature when◌then◌else◌
signature_opens bs h t e = go (ltb (length bs) 4) (eqb (word bs 0) wrapper_magic) refl refl e
  where
    go : (a b : Bool) → ltb (length bs) 4 ≡ a → eqb (word bs 0) wrapper_magic ≡ b
        → (when a then unsigned else when b then wrapped bs else opened (plain_header bs) (drop 4 bs)) ≡ opened h t → Opens bs h t
    go true b i j x = absurd (never x)
    go false true i j x =
        let w = wrapped_opens bs h t x in
        record { some = ltb-false _ _ i; plain = λ n. absurd (n (w.magic ∙ eqb-true _ _ j)); wraps = λ m. w }
    go false false i j x =
        let k : h ≡ plain_header bs = cc in
        let r : t ≡ drop 4 bs = cc in
        rw k (record { some = ltb-false _ _ i; plain = λ n. r; wraps = λ m. absurd (eqb-false _ _ j m) })

-- what the code's answer says of the definition's
pub parsed_none : (o : Opened) (k : Reason) → parsed o ≡ Err k → stream o ≡ []
unfolding parsed stream
parsed_none unsigned k e = refl
parsed_none (opened h s) k e = absurd (let z : ◌≡◌ {A = ℕ} 0 1 = cc in omega arith)

pub parsed_opens : (bs : List ℕ) (h : Signature) → parsed (signature bs) ≡ Ok h → Opens bs h (stream (signature bs))
unfolding parsed stream
parsed_opens bs h e = go (signature bs) refl e
  where
    go : (o : Opened) → signature bs ≡ o → parsed o ≡ Ok h → Opens bs h (stream o)
    go unsigned i x = absurd (let z : ◌≡◌ {A = ℕ} 0 1 = cc in omega arith)
    go (opened g s) i x = let k : g ≡ h = cc in signature_opens bs h s (rw k at i)

-- a part of a list, counted from the part's start or cut at its end first
pub part_of : (a e : ℕ) (bs : List ℕ) → take (e - a) (drop a bs) ≡ drop a (take e bs)
part_of zero e bs = rw sub-zero
part_of (suc a) zero bs = rw zero-sub
part_of (suc a) (suc e) [] = take-nil (suc e - suc a)
part_of (suc a) (suc e) (x ∷ bs) = rw suc-sub-suc (part_of a e bs)

pub rest_of : (a : ℕ) (bs : List ℕ) → take (length bs - a) (drop a bs) ≡ drop a bs
rest_of a bs = part_of a (length bs) bs ∙ ap (drop a) (take-length bs)

pub bytes_outside : (s : List ℕ) (at n : ℕ) → length s < at + n → bytes_of s at n ≡ []
unfolding bytes_of when◌then◌else◌
bytes_outside s at n h = rw (lt-leb _ _ h)

pub bytes_inside : (s : List ℕ) (at n : ℕ) → at + n ≤ length s → bytes_of s at n ≡ take n (drop at s)
unfolding bytes_of when◌then◌else◌
bytes_inside s at n h = rw (le-leb _ _ h)
