-- The slots and rows of the tables: what a store outside of them keeps, what a row holds, and the loop that reads a definition into one.
-- Assumes nothing.
use Prim.Native.Nat.{ℕ, zero, suc, ◌+◌, ◌-◌, ◌*◌, ◌/◌, ◌%◌, ◌≤◌, ◌<◌}
use mathlib.Core.Path.{◌≡◌, refl, sym, ap, ap₂, ◌∙◌}
use mathlib.Core.List.{List, [], ◌∷◌, ◌++◌, append_assoc, append-nil}
use mathlib.Core.Bool.{true, ◌&&◌}
use native.Mathlib.Omega.{arith}
use lib.ListN.{length, set, length-set}
use lib.Seq.{get_or-set_same, get_or-set_other}
use lib.Dec.{ltb, leb}
use borrow.Author.Tests.{le-leb, lt-ltb}
use Rattle.std.specs.Prelude.{Result, Ok, Err}
use Rattle.terms.specs.Refusals.{No}
use Rattle.terms.specs.declared.Reason.{Reason}
use Rattle.bits.specs.Reader.{Answer, got, refused, ◌>>=◌, give, when◌then◌else◌}
use Rattle.bits.specs.Bits.{vbr}
use Rattle.bits.specs.declared.Cursor.{Cursor}
use Rattle.bits.specs.Told.{At, Off}
use Rattle.bits.proofs.Steps.{on, then_off, pass, pass_off, mapped, mapped_twice, mapped_same, gives_mapped, mapped_got, mapped_off, so, so_off}
use Rattle.bitcode.specs.declared.ScalarOperand.{ScalarOperand}
use Rattle.abbrev.specs.Abbrev.{Abbrev, abbreviation, Payload, none, blob, array, Operand, scalar, is_array, is_blob, operand, element, also, rest_of, operands, define}
use Rattle.abbrev.specs.Tables.{row_size, first_local, row_count, blob_shape, scalar_of, slot, slots, load_of, abbrev_of, Outside, KeptBut, Elements, Defines, define_row}

-- ---- what a table keeps
pub outside_refl : (from to : ℕ) (xs : List ℕ) → Outside from to xs xs
outside_refl from to xs = record { many = refl; same = λ j h. refl }

module _ {from to : ℕ} where
  pub outside_then : {xs ys zs : List ℕ} → Outside from to xs ys → Outside from to ys zs → Outside from to xs zs
  outside_then a b = record { many = b.many ∙ a.many; same = λ j h. b.same j h ∙ a.same j h }

  pub outside_wider : {from' to' : ℕ} {xs ys : List ℕ} → from' ≤ from → to ≤ to' → Outside from to xs ys → Outside from' to' xs ys
  outside_wider l m a = record { many = a.many; same = λ j h. a.same j (λ u v. h (omega arith) (omega arith)) }

pub outside_set : (from to : ℕ) (xs : List ℕ) (i v : ℕ) → from ≤ i → i < to → Outside from to xs (set xs i v)
outside_set from to xs i v l m =
    record { many = length-set xs i v; same = λ j h. get_or-set_other xs i j v 0 (λ e. h (omega arith) (omega arith)) }

-- and of the slots
module _ {from n : ℕ} where
  pub but_none : {kinds widths : List ℕ} → KeptBut from n kinds kinds widths widths
  but_none = record { kinds = outside_refl _ _ _; widths = outside_refl _ _ _ }

  pub but_then : {kinds kinds' kinds'' widths widths' widths'' : List ℕ}
      → KeptBut from n kinds kinds' widths widths' → KeptBut from n kinds' kinds'' widths' widths'' → KeptBut from n kinds kinds'' widths widths''
  but_then a b = record { kinds = outside_then a.kinds b.kinds; widths = outside_then a.widths b.widths }

  pub but_wider : {from' n' : ℕ} {kinds kinds' widths widths' : List ℕ}
      → from' ≤ from → from + n ≤ from' + n' → KeptBut from n kinds kinds' widths widths' → KeptBut from' n' kinds kinds' widths widths'
  but_wider l m a = record { kinds = outside_wider l m a.kinds; widths = outside_wider l m a.widths }

  pub but_set : (kinds widths : List ℕ) (i k v : ℕ) → from ≤ i → i < from + n → KeptBut from n kinds (set kinds i k) widths (set widths i v)
  but_set kinds widths i k v l m = record { kinds = outside_set _ _ kinds i k l m; widths = outside_set _ _ widths i v l m }

-- none of the n places from i on lies from `from` up to `to`
abbrev pub Apart : ℕ → ℕ → ℕ → ℕ → Type 0
Apart i n from to = (j : ℕ) → i ≤ j → j < i + n → from ≤ j → j < to → ⊥

-- ---- slots
module _ {kinds kinds' widths widths' : List ℕ} {from to : ℕ} (k : Outside from to kinds kinds') (w : Outside from to widths widths') where
  pub slot_same : (i : ℕ) → (from ≤ i → i < to → ⊥) → slot kinds' widths' i ≡ slot kinds widths i
  slot_same i h = ap₂ scalar_of (k.same i h) (w.same i h)

  pub slots_same : (i n : ℕ) → Apart i n from to → slots kinds' widths' i n ≡ slots kinds widths i n
  unfolding slots
  slots_same i zero h = refl
  slots_same i (suc n) h =
      ap₂ (λ x xs. x ∷ xs) (slot_same i (h i (omega arith) (omega arith))) (slots_same (i + 1) n (λ j l m. h j (omega arith) (omega arith)))

  -- a row that lies outside of what changed holds the abbreviation that it held
  pub abbrev_same : (base shape : ℕ) → Apart base row_size from to → abbrev_of kinds' widths' base shape ≡ abbrev_of kinds widths base shape
  unfolding abbrev_of
  abbrev_same base shape h =
      let l : shape % row_size < first_local = omega arith in
      ap₂ (λ xs x. abbreviation xs (load_of (shape / row_size) x)) (slots_same base (shape % row_size) (λ j a b. h j a (omega arith))) (slot_same (base + shape % row_size) (h (base + shape % row_size) (omega arith) (omega arith)))

module _ (kinds widths : List ℕ) where
  pub slots_more : (i n : ℕ) → slots kinds widths i (n + 1) ≡ slots kinds widths i n ++ slot kinds widths (i + n) ∷ []
  unfolding slots
  slots_more i zero = ap (λ j. slot kinds widths j ∷ []) (let z : i ≡ i + 0 = omega arith in z)
  slots_more i (suc n) =
      let z : suc n + 1 ≡ suc (n + 1) = omega arith in
      let y : i + 1 + n ≡ i + suc n = omega arith in
      ap (slots kinds widths i) z ∙ ap (λ xs. slot kinds widths i ∷ xs) (slots_more (i + 1) n ∙ ap (λ j. slots kinds widths (i + 1) n ++ slot kinds widths j ∷ []) y)

  pub slots_length : (i n : ℕ) → length (slots kinds widths i n) ≡ n
  unfolding slots
  slots_length i zero = refl
  slots_length i (suc n) = ap suc (slots_length (i + 1) n)

  pub slot_set : (j k v : ℕ) → j < length kinds → j < length widths → slot (set kinds j k) (set widths j v) j ≡ scalar_of k v
  slot_set j k v h l = ap₂ scalar_of (get_or-set_same kinds j k 0 h) (get_or-set_same widths j v 0 l)

-- a store behind the last is one scalar more
pub slots_set : (kinds widths : List ℕ) (base i k v : ℕ) → base + i < length kinds → base + i < length widths
    → slots (set kinds (base + i) k) (set widths (base + i) v) base (i + 1) ≡ slots kinds widths base i ++ scalar_of k v ∷ []
slots_set kinds widths base i k v h l =
    let a = outside_set (base + i) (base + i + 1) kinds (base + i) k (omega arith) (omega arith) in
    let b = outside_set (base + i) (base + i + 1) widths (base + i) v (omega arith) (omega arith) in
    slots_more (set kinds (base + i) k) (set widths (base + i) v) base i
    ∙ ap₂ (λ xs x. xs ++ x ∷ []) (slots_same a b base i (λ j x y u w. omega arith)) (slot_set kinds widths (base + i) k v h l)

-- ---- a row: n scalars, and the payload l
pub abbrev_is : (kinds widths : List ℕ) (base n l : ℕ) {shape : ℕ} → n < first_local → shape ≡ n + row_size * l
    → abbrev_of kinds widths base shape ≡ abbreviation (slots kinds widths base n) (load_of l (slot kinds widths (base + n)))
unfolding abbrev_of
abbrev_is kinds widths base n l {shape} h i =
    let e : shape % row_size ≡ n = omega arith in
    let f : shape / row_size ≡ l = omega arith in
    rw (e, f)

-- ---- the loop that reads operands: the answer from the start is what is stored, in front of the answer from here
unfoldable pub in_front : List ScalarOperand → Abbrev → Abbrev
in_front ks (abbreviation xs t) = abbreviation (ks ++ xs) t

pub record Going (s : List ℕ) (e : ℕ) (whole : Answer No Abbrev) (kinds widths : List ℕ) (base i left p : ℕ) : Type 0 where
  pub rest : whole ≡ mapped (in_front (slots kinds widths base i)) (operands left s e p)

going_start : (s : List ℕ) (e : ℕ) (kinds widths : List ℕ) (base n p : ℕ) → Going s e (operands n s e p) kinds widths base 0 n p
unfolding slots in_front
going_start s e kinds widths base n p = record { rest = sym (mapped_same (in_front (slots kinds widths base 0)) (λ a. nothing a) (operands n s e p)) }
  where
    nothing : (a : Abbrev) → in_front (slots kinds widths base 0) a ≡ a
    nothing (abbreviation xs t) = refl

-- one operand, and what is behind it
turn : (s : List ℕ) (e left p : ℕ) → 0 < left → operands left s e p ≡ (operand (left - 1) >>= (λ o. rest_of o (operands (left - 1)))) s e p
unfolding operands
turn s e zero p h = absurd (omega arith)
turn s e (suc n) p h = let z : n ≡ suc n - 1 = omega arith in ap (λ k. (operand k >>= (λ o. rest_of o (operands k))) s e p) z

module _ {s : List ℕ} {e : ℕ} {whole : Answer No Abbrev} {kinds widths : List ℕ} {base i left p : ℕ} (g : Going s e whole kinds widths base i left p) where
  turns_to : {o : Operand} {q : ℕ} → 0 < left → operand (left - 1) s e p ≡ got o q
      → whole ≡ mapped (in_front (slots kinds widths base i)) (rest_of o (operands (left - 1)) s e q)
  turns_to h z =
      g.rest ∙ ap (mapped (in_front (slots kinds widths base i))) (turn s e left p h ∙ so (operand (left - 1)) (λ o. rest_of o (operands (left - 1))) s e p z)

  front_nil : (t : Payload) → in_front (slots kinds widths base i) (abbreviation [] t) ≡ abbreviation (slots kinds widths base i) t
  unfolding in_front
  front_nil t = ap (λ xs. abbreviation xs t) (append-nil (slots kinds widths base i))

  going_none : left ≡ 0 → whole ≡ got (abbreviation (slots kinds widths base i) none) p
  unfolding operands give
  going_none h =
      g.rest ∙ ap (λ n. mapped (in_front (slots kinds widths base i)) (operands n s e p)) h
      ∙ mapped_got (in_front (slots kinds widths base i)) refl ∙ ap (λ a. got a p) (front_nil none)

  going_off : {r : No} → 0 < left → operand (left - 1) s e p ≡ refused r → whole ≡ refused r
  going_off h z =
      g.rest
      ∙ mapped_off (in_front (slots kinds widths base i)) (turn s e left p h ∙ so_off (operand (left - 1)) (λ o. rest_of o (operands (left - 1))) s e p z)

  going_blob : {q : ℕ} → 0 < left → operand (left - 1) s e p ≡ got is_blob q → whole ≡ got (abbreviation (slots kinds widths base i) blob) q
  unfolding rest_of give
  going_blob {q} h z = turns_to h z ∙ mapped_got (in_front (slots kinds widths base i)) refl ∙ ap (λ a. got a q) (front_nil blob)

  going_array : {q q' : ℕ} {k : ScalarOperand} → 0 < left → operand (left - 1) s e p ≡ got is_array q
      → (operand 0 >>= element) s e q ≡ got (abbreviation [] (array k)) q' → whole ≡ got (abbreviation (slots kinds widths base i) (array k)) q'
  unfolding rest_of
  going_array {q} {q'} {k} h z y = turns_to h z ∙ mapped_got (in_front (slots kinds widths base i)) y ∙ ap (λ a. got a q') (front_nil (array k))

  going_array_off : {q : ℕ} {r : No} → 0 < left → operand (left - 1) s e p ≡ got is_array q → (operand 0 >>= element) s e q ≡ refused r → whole ≡ refused r
  unfolding rest_of
  going_array_off h z y = turns_to h z ∙ mapped_off (in_front (slots kinds widths base i)) y

  going_more : {q : ℕ} (k v : ℕ) → 0 < left → operand (left - 1) s e p ≡ got (scalar (scalar_of k v)) q → base + i < length kinds → base + i < length widths
      → Going s e whole (set kinds (base + i) k) (set widths (base + i) v) base (i + 1) (left - 1) q
  unfolding rest_of in_front also
  going_more {q} k v h z hk hw = record {
    rest =
        turns_to h z
        ∙ ap (mapped (in_front (slots kinds widths base i))) (gives_mapped (operands (left - 1)) (also (scalar_of k v)) s e q)
        ∙ mapped_twice (also (scalar_of k v)) (in_front (slots kinds widths base i)) (in_front (slots (set kinds (base + i) k) (set widths (base + i) v) base (i + 1))) (λ a. grown a) (operands (left - 1) s e q);
  }
    where
      both : (a : Abbrev) → in_front (slots kinds widths base i) (also (scalar_of k v) a) ≡ in_front (slots kinds widths base i ++ scalar_of k v ∷ []) a
      both (abbreviation xs t) = ap (λ ys. abbreviation ys t) (sym (append_assoc (slots kinds widths base i) (scalar_of k v ∷ []) xs))

      grown : (a : Abbrev) → in_front (slots kinds widths base i) (also (scalar_of k v) a) ≡ in_front (slots (set kinds (base + i) k) (set widths (base + i) v) base (i + 1)) a
      grown a = both a ∙ ap (λ ys. in_front ys a) (sym (slots_set kinds widths base i k v hk hw))

-- where the loop of `read_operands` stands: i scalars are in the row, and the others of `total` operands are to be read
pub record Turn (s : List ℕ) (c₀ : Cursor) (total base : ℕ) (kinds₀ widths₀ kinds widths : List ℕ) (c : Cursor) (i : ℕ) : Type 0 where
  pub left : ℕ
  pub going : Going s c₀.end (operands total s c₀.end c₀.at) kinds widths base i left c.at
  pub same_end : c.end ≡ c₀.end
  pub sum : i + left ≡ total
  pub few : total ≤ 32
  pub kept : KeptBut base row_size kinds₀ kinds widths₀ widths
  pub long_kinds : base + row_size ≤ length kinds
  pub long_widths : base + row_size ≤ length widths

pub turn_start : (s : List ℕ) (c : Cursor) (total base : ℕ) (kinds widths : List ℕ) → base + row_size ≤ length kinds → base + row_size ≤ length widths → total ≤ 32
    → Turn s c total base kinds widths kinds widths c 0
turn_start s c total base kinds widths h l m = record {
  left = total;
  going = going_start s c.end kinds widths base total c.at;
  same_end = refl;
  sum = omega arith;
  few = m;
  kept = but_none;
  long_kinds = h;
  long_widths = l;
}

module _ {s : List ℕ} {c₀ : Cursor} {total base : ℕ} {kinds₀ widths₀ kinds widths : List ℕ} {c : Cursor} {i : ℕ}
    (t : Turn s c₀ total base kinds₀ widths₀ kinds widths c i) where
  pub turn_none : total ≤ i → At (operands total) s c₀.end c₀.at (abbrev_of kinds widths base total) c
  unfolding load_of when◌then◌else◌
  turn_none h =
      let z : t.left ≡ 0 = omega (arith, t.sum) in
      let y : i ≡ total = omega (arith, t.sum) in
      record {
        gives = going_none t.going z ∙ ap (λ a. got a c.at) (sym (abbrev_is kinds widths base i 0 (omega (arith, t.sum, t.few)) (omega (arith, y))));
        ends = t.same_end;
      }

  -- the operand that is read next is the one behind which so many are left
  next : i < total → (0 < t.left) × (total - 1 - i ≡ t.left - 1)
  next h = (omega (arith, t.sum), omega (arith, t.sum))

  pub turn_off : {r : No} → i < total → Off (operand (total - 1 - i)) s c.end c.at r → Off (operands total) s c₀.end c₀.at r
  turn_off h o =
      let n = next h in
      let o₂ = rw (t.same_end, n.1) at o in
      record { why = going_off t.going n.0 o₂.why }

  pub turn_blob : {d : Cursor} → i < total → At (operand (total - 1 - i)) s c.end c.at is_blob d
      → At (operands total) s c₀.end c₀.at (abbrev_of kinds widths base (i + blob_shape)) d
  unfolding load_of when◌then◌else◌
  turn_blob {d} h o =
      let n = next h in
      let o₂ = rw (t.same_end, n.1) at o in
      record {
        gives = going_blob t.going n.0 o₂.gives ∙ ap (λ a. got a d.at) (sym (abbrev_is kinds widths base i 2 (omega (arith, t.sum, t.few)) (omega arith)));
        ends = o₂.ends;
      }

  pub turn_array : {d : Cursor} {kinds' widths' : List ℕ} (r : Result (ℕ × Cursor) Reason) → i < total
      → At (operand (total - 1 - i)) s c.end c.at is_array d → KeptBut (base + i) 1 kinds kinds' widths widths' → Elements d s kinds' widths' base i r
      → Defines c₀ s (operands total) kinds' widths' base r
  unfolding load_of when◌then◌else◌
  turn_array {d} {kinds'} {widths'} (Ok (shape, g)) h o k z =
      let n = next h in
      let o₂ = rw (t.same_end, n.1) at o in
      let z₂ = rw o₂.ends at z.0 in
      let y = going_array t.going n.0 o₂.gives z₂.gives in
      record {
        gives =
            y ∙ ap (λ xs. got (abbreviation xs (array (slot kinds' widths' (base + i)))) g.at) (sym (slots_same k.kinds k.widths base i (λ j a b u v. omega arith)))
            ∙ ap (λ a. got a g.at) (sym (abbrev_is kinds' widths' base i 1 (omega (arith, t.sum, t.few)) z.1));
        ends = z₂.ends;
      }
  turn_array (Err r) h o k z =
      let n = next h in
      let o₂ = rw (t.same_end, n.1) at o in
      let z₂ = rw o₂.ends at z in
      record { why = going_array_off t.going n.0 o₂.gives z₂.why }

  -- the slot of the next operand lies in the row
  pub turn_inside : i < total → (base + i < length kinds) × (base + i < length widths) × (i ≤ 32)
  turn_inside h = (omega (arith, t.few, t.long_kinds), omega (arith, t.few, t.long_widths), omega (arith, t.few))

  pub turn_more : {d : Cursor} {x : ScalarOperand} (k v : ℕ) → i < total → scalar_of k v ≡ x → At (operand (total - 1 - i)) s c.end c.at (scalar x) d
      → Turn s c₀ total base kinds₀ widths₀ (set kinds (base + i) k) (set widths (base + i) v) d (i + 1)
  turn_more k v h e o =
      let n = next h in
      let o₂ = rw (t.same_end, n.1, ← e) at o in
      let m = turn_inside h in
      record {
        left = t.left - 1;
        going = going_more t.going k v n.0 o₂.gives m.0 m.1;
        same_end = o₂.ends;
        sum = omega (arith, t.sum, n.0);
        few = t.few;
        kept = but_then t.kept (but_set kinds widths (base + i) k v (omega arith) (omega (arith, m.2)));
        long_kinds = omega (arith, length-set kinds (base + i) k, t.long_kinds);
        long_widths = omega (arith, length-set widths (base + i) v, t.long_widths);
      }

-- ---- a definition, behind the tests of its row and its count
pub row_fits : (row kinds widths : ℕ) → row < row_count → row_size * row + row_size ≤ kinds → row_size * row + row_size ≤ widths
    → (ltb row row_count && leb (row_size * row + row_size) kinds && leb (row_size * row + row_size) widths) ≡ true
row_fits row kinds widths h l m = rw (lt-ltb row row_count h, le-leb (row_size * row + row_size) kinds l, le-leb (row_size * row + row_size) widths m)

pub define_more : {s : List ℕ} {c d : Cursor} {n : ℕ} (row many_kinds many_widths : ℕ) (kinds widths : List ℕ) (base : ℕ) (r : Result (ℕ × Cursor) Reason)
    → (ltb row row_count && leb (row_size * row + row_size) many_kinds && leb (row_size * row + row_size) many_widths) ≡ true → At (vbr 5) s c.end c.at n d → n ≤ 32
    → Defines d s (operands n) kinds widths base r → Defines c s (define_row row many_kinds many_widths) kinds widths base r
unfolding define_row define
define_more {n = n} row many_kinds many_widths kinds widths base (Ok (shape, g)) i x h y = pass _ _ i (on _ x (pass _ _ (le-leb n 32 h) y))
define_more {n = n} row many_kinds many_widths kinds widths base (Err r) i x h y = pass_off _ _ i (then_off _ x (pass_off _ _ (le-leb n 32 h) y))
