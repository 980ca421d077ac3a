-- Records and heads, put together from their parts. A record is read in two parts by the definition, and as code, operands and payload by the code:
-- both are one reader. Assumes nothing.
use Rattle.std.specs.Prelude.{Result, Ok, Err}
use mathlib.Core.Path.{◌≡◌, refl, sym, ap, ap₂, subst, fun_ext, ◌∙◌}
use mathlib.Core.Bool.{Bool, true, false}
use mathlib.Core.List.{List, [], ◌∷◌, ◌++◌, append_assoc, append-nil}
use Prim.Native.Nat.{ℕ, suc, ◌+◌, ◌-◌, ◌*◌, ◌/◌, ◌%◌, ◌^◌, ◌≤◌, ◌<◌}
use native.Mathlib.Omega.{arith}
use lib.ListN.{length, take}
use lib.Seq.{length-take-le}
use lib.Dec.{leb, ltb}
use borrow.Rule.Slice.PartMut.{put_mid}
use borrow.Author.Tests.{le-leb, lt-leb, lt-ltb, ne_eqb, leb-true, leb-false}
use Rattle.terms.specs.declared.Reason.{Reason}
use Rattle.terms.specs.Refusals.{No, buffer_overflow, invalid_abbrev, block_number_too_large}
use Rattle.bits.specs.Reader.{Reader, Answer, got, refused, onward, ◌>>=◌, give, stop, require, when◌then◌else◌}
use Rattle.bits.specs.Bits.{limit, align, vbr, skip}
use Rattle.bits.specs.Told.{At, Off}
use Rattle.bits.specs.declared.Cursor.{Cursor}
use Rattle.bits.proofs.Steps.{on, then_off, off, ends, pass, pass_off, from_here, off_here, never}
use Rattle.bits.proofs.Laws.{align_gives, skip_gives, skip_to, skip_off}
use Rattle.bitcode.specs.declared.ScalarOperand.{ScalarOperand}
use Rattle.bitcode.specs.declared.ScalarOperand.TheVariants.{Literal, Fixed, Vbr, Char6}
use Rattle.bitcode.specs.Scalar.{value}
use Rattle.abbrev.specs.Abbrev.{Payload, none, blob, array, abbreviation}
use Rattle.abbrev.specs.Tables.{row_size, slot, slots, load_of, abbrev_of}
use Rattle.walk.specs.Record.{Load, no_load, list_load, blob_load, Record, a_record, stored, values, repeated, octets, bytes_if, bytes, payload_part, scalar_part, unabbreviated, array_kind, rest, load_list, record_list}
use Rattle.walk.specs.Piece.{Head, head, record_event, record_of}
use Rattle.walk.specs.Item.{heading, fits}
use Rattle.walk.specs.Promises.{plain, abbreviated, blob_bytes, load, Reads, Loads, Recorded, Loaded, head_length, head_width, head_fits, Heads}
use Rattle.walk.specs.declared.RecordRead.{RecordRead}
use Rattle.walk.specs.declared.BlockHead.{BlockHead}
use Rattle.walk.proofs.Blobs.{octets_length}
use Rattle.walk.proofs.Runs.{stored_is}
use Rattle.walk.proofs.Stores.{take_put_front}

abbrev pub record_read : ℕ → ℕ → ℕ → ℕ → ℕ → ℕ → RecordRead
record_read code count kind at n fill = record { code = code; count = count; kind = kind; at = at; length = n; fill = fill }

-- ---- the laws of `do`
module _ {R A B : Type 0} where
  pub bind_assoc : {C : Type 0} (m : Reader R A) (f : A → Reader R B) (g : B → Reader R C) → (m >>= f >>= g) ≡ (m >>= (λ a. f a >>= g))
  unfolding ◌>>=◌ onward
  bind_assoc {C} m f g = fun_ext (λ s. fun_ext (λ e. fun_ext (λ p. go s e (m s e p))))
    where
      go : (s : List ℕ) (e : ℕ) (x : Answer R A)
          → onward (onward x (λ a q. f a s e q)) (λ b q. g b s e q) ≡ onward x (λ a q. onward (f a s e q) (λ b r. g b s e r))
      go s e (got a q) = refl
      go s e (refused r) = refl

  pub then_same : (m : Reader R A) {f g : A → Reader R B} → ((a : A) → f a ≡ g a) → (m >>= f) ≡ (m >>= g)
  then_same m h = ap (λ f. m >>= f) (fun_ext h)

  pub given : (a : A) (f : A → Reader R B) → (give a >>= f) ≡ f a
  unfolding ◌>>=◌ onward give
  given a f = refl

-- ---- the two parts of an abbreviated record, as one reader
module _ (left code : ℕ) (vs : List ℕ) where
  payload_is : (t : Payload) → (payload_part code vs t >>= rest left) ≡ (load (left - length vs) t >>= (λ l. give (a_record code vs l)))
  unfolding payload_part rest load blob_bytes
  payload_is none = given _ _ ∙ sym (given _ _)
  payload_is (array k) =
      bind_assoc _ _ _ ∙ then_same _ (λ n. given _ _)
      ∙ sym (bind_assoc _ _ _ ∙ then_same _ (λ n. bind_assoc _ _ _ ∙ then_same _ (λ xs. given _ _)))
  payload_is blob =
      bind_assoc _ _ _ ∙ then_same _ (λ n. bind_assoc _ _ _ ∙ then_same _ (λ u. given _ _))
      ∙ sym
      (bind_assoc _ _ _ ∙ then_same _ (λ n. bind_assoc _ _ _ ∙ then_same _ (λ u. bind_assoc _ _ _ ∙ then_same _ (λ p. bind_assoc _ _ _ ∙ then_same _ (λ bs.
      bind_assoc _ _ _ ∙ then_same _ (λ w. given _ _))))))

-- the scalars of a record are one run: for its code there is room beside the store
scalars_are : (left : ℕ) (k : ScalarOperand) (ks : List ScalarOperand)
    → values (suc left) (k ∷ ks) ≡ (value k >>= (λ code. values left ks >>= (λ vs. give (code ∷ vs))))
unfolding values
scalars_are left k ks =
    let z : suc left - 1 ≡ left = omega arith in
    let y : stored (suc left) k ≡ value k = fun_ext (λ s. fun_ext (λ e. fun_ext (λ p. stored_is (suc left) k s e p (omega arith)))) in
    ap₂ (λ m l. m >>= (λ code. values l ks >>= (λ vs. give (code ∷ vs)))) y z

-- and what is read behind them
unfoldable behind_scalars : ℕ → Payload → List ℕ → Reader No Record
behind_scalars left t [] = stop invalid_abbrev
behind_scalars left t (code ∷ vs) = load (left - length vs) t >>= (λ l. give (a_record code vs l))

no_scalars_is : (left : ℕ) (t : Payload) → abbreviated left (abbreviation [] t) ≡ (values (suc left) [] >>= behind_scalars left t)
unfolding abbreviated scalar_part values behind_scalars stop give ◌>>=◌ onward
no_scalars_is left t = refl

abbreviated_is : (left : ℕ) (ks : List ScalarOperand) (t : Payload)
    → abbreviated left (abbreviation ks t) ≡ (values (suc left) ks >>= behind_scalars left t)
unfolding abbreviated scalar_part behind_scalars
abbreviated_is left [] t = no_scalars_is left t
abbreviated_is left (k ∷ ks) t =
    bind_assoc _ _ _ ∙ then_same _ (λ code. bind_assoc _ _ _ ∙ then_same _ (λ vs. payload_is left code vs t))
    ∙ sym
    (ap (λ m. m >>= behind_scalars left t) (scalars_are left k ks) ∙ bind_assoc _ _ _
    ∙ then_same _ (λ code. bind_assoc _ _ _ ∙ then_same _ (λ vs. given _ _)))

-- ---- a record with no abbreviation
pub plain_reads : {c d g k : Cursor} {s : List ℕ} {code n : ℕ} (ops ops' ys : List ℕ) (fill : ℕ)
    → At (vbr 6) s c.end c.at code d → At (vbr 6) s d.end d.at n g → At (repeated (length ops - fill) n (Vbr 6)) s g.end g.at (take n ys) k
    → n ≤ length ys → take (fill + n) ops' ≡ take fill ops ++ take n ys → fill + n ≤ length ops'
    → Reads c s (plain (length ops - fill)) fill ops ops' (record_read code n 0 0 0 (fill + n)) k
unfolding plain unabbreviated rest record_of record_list load_list
plain_reads {code = code} {n = n} ops ops' ys fill x y z h t m = record {
  record_read = a_record code (take n ys) no_load;
  gives = on _ (on _ x (on _ y (on _ z ends))) ends;
  event = λ b. ap (λ l. record_event b code fill l 0 0 0) (length-take-le n ys h);
  operands = t ∙ ap (λ l. take fill ops ++ l) (sym (append-nil (take n ys)));
  most = m;
}

-- ---- a payload
pub list_kind : (k : ScalarOperand) → (k ≡ Char6 → ⊥) → array_kind k ≡ 1
unfolding array_kind
list_kind (Literal v) h = refl
list_kind (Fixed w) h = refl
list_kind (Vbr w) h = refl
list_kind Char6 h = absurd (h refl)

pub none_loads : {g : Cursor} {s : List ℕ} (left l code n fill : ℕ) (k : ScalarOperand) (ops : List ℕ) → l ≡ 0 → fill ≤ length ops
    → Loads g s (load left (load_of l k)) ops ops (record_read code n 0 0 0 fill) (record_read code n 0 0 0 fill) g
unfolding load load_of when◌then◌else◌ record_of load_list
none_loads left l code n fill k ops h m = rw h (record {
  load_read = no_load;
  gives = ends;
  event = λ b first vs e z. ap (λ i. record_event b code first i 0 0 0) z;
  operands = sym (append-nil (take fill ops));
  most = m;
})

pub array_loads : {c d g : Cursor} {s : List ℕ} {n : ℕ} (k : ScalarOperand) (ops ops' ys : List ℕ) (r : RecordRead)
    → At (vbr 6) s c.end c.at n d → At (repeated (length ops - r.fill) n k) s d.end d.at (take n ys) g
    → n ≤ length ys → take (r.fill + n) ops' ≡ take r.fill ops ++ take n ys → r.fill + n ≤ length ops'
    → Loads c s (load (length ops - r.fill) (array k)) ops ops' r (record_read r.code r.count (array_kind k) r.fill n (r.fill + n)) g
unfolding load record_of load_list
array_loads {n = n} k ops ops' ys r x y h t m = record {
  load_read = list_load (array_kind k) (take n ys);
  gives = on _ x (on _ y ends);
  event = λ b first vs e l. rw (length-take-le n ys h, e, l);
  operands = t;
  most = m;
}

same_refusal : {A : Type 0} {r r' : No} → ◌≡◌ {A = Answer No A} (refused r) (refused r') → r ≡ r'
same_refusal h = cc

-- a skip from a byte's first bit takes what the bytes of a blob take
bytes_at : {c d : Cursor} {s : List ℕ} (n : ℕ) → At (skip n) s c.end c.at tt d → At (bytes n) s c.end c.at (octets s c.at n) d
unfolding bytes bytes_if
bytes_at {c} {d} {s} n x =
    let w = skip_gives s c.end c.at d.at n x.gives in
    record { gives = rw (le-leb (c.at + 8 * n) (limit s c.end) w.1.inside, w.1.moved); ends = x.ends }

bytes_off : {c : Cursor} {s : List ℕ} (n : ℕ) {r : No} → c.at % 8 ≡ 0 → Off (skip n) s c.end c.at r → Off (bytes n) s c.end c.at r
unfolding bytes bytes_if
bytes_off {c} {s} n {r} h x = record { why = go (leb (c.at + 8 * n) (limit s c.end)) refl }
  where
    go : (b : Bool) → leb (c.at + 8 * n) (limit s c.end) ≡ b → bytes_if b s c.at n ≡ refused r
    go true i = absurd (never (sym x.why ∙ (skip_to s c.end c.at n h (leb-true _ _ i)).gives))
    go false i =
        let o : Off (skip n) s c.end c.at buffer_overflow = skip_off s c.end c.at n h (leb-false _ _ i) in
        ap refused (same_refusal (sym o.why ∙ x.why))

pub aligned : {c d : Cursor} {s : List ℕ} → At align s c.end c.at tt d → d.at % 8 ≡ 0
aligned {c} {d} {s} x = let w = align_gives s c.end c.at d.at x.gives in omega (arith, w.moved)

module _ {c d : Cursor} {s : List ℕ} (n : ℕ) where
  pub bytes_loads : {g : Cursor} (ops : List ℕ) (r : RecordRead) → r.fill ≤ length ops → At (skip n) s c.end c.at tt d → At align s d.end d.at tt g
      → Loads c s (blob_bytes n) ops ops r (record_read r.code r.count 3 (c.at / 8) n r.fill) g
  unfolding blob_bytes record_of load_list
  bytes_loads ops r m z w = record {
    load_read = blob_load (c.at / 8) (octets s c.at n);
    gives = from_here _ (on _ (bytes_at n z) (on _ w ends));
    event = λ b first vs e l. rw (octets_length s c.at n, l);
    operands = sym (append-nil (take r.fill ops));
    most = m;
  }

  pub bytes_unaligned : {r : No} → At (skip n) s c.end c.at tt d → Off align s d.end d.at r → Off (blob_bytes n) s c.end c.at r
  unfolding blob_bytes
  bytes_unaligned z w = off_here _ (then_off _ (bytes_at n z) (off _ w))

pub bytes_short : {c : Cursor} {s : List ℕ} (n : ℕ) {r : No} → c.at % 8 ≡ 0 → Off (skip n) s c.end c.at r → Off (blob_bytes n) s c.end c.at r
unfolding blob_bytes
bytes_short n h z = off_here _ (off _ (bytes_off n h z))

-- a payload behind what stands before it
pub loads_behind : {A : Type 0} {c d : Cursor} {s : List ℕ} {m : Reader No A} {a : A} (f : A → Reader No Load) (ops ops' : List ℕ) (r : RecordRead) (t : Result (RecordRead × Cursor) Reason)
    → At m s c.end c.at a d → Loaded d s (f a) ops ops' r t → Loaded c s (m >>= f) ops ops' r t
loads_behind f ops ops' r (Ok (r', g)) x z =
    record { load_read = z.load_read; gives = on f x z.gives; event = z.event; operands = z.operands; most = z.most }
loads_behind f ops ops' r (Err why) x z = then_off f x z

-- ---- a record by the abbreviation of a row
module _ (left : ℕ) (kinds widths : List ℕ) (base shape : ℕ) where
  pub no_scalar : {s : List ℕ} {e p : ℕ} → shape % row_size ≡ 0 → Off (abbreviated left (abbrev_of kinds widths base shape)) s e p invalid_abbrev
  unfolding abbrev_of slots abbreviated scalar_part stop
  no_scalar h = rw h (off _ (record { why = refl }))

  -- how many operands, and the payload
  abbrev many : ℕ
  many = shape % row_size - 1

  abbrev payload : Payload
  payload = load_of (shape / row_size) (slot kinds widths (base + shape % row_size))

  row_reader : abbreviated left (abbrev_of kinds widths base shape)
      ≡ (values (suc left) (slots kinds widths base (shape % row_size)) >>= behind_scalars left payload)
  unfolding abbrev_of
  row_reader = abbreviated_is _ _ _

  pub scalars_off : {c : Cursor} {s : List ℕ} {r : No} → Off (values (suc left) (slots kinds widths base (shape % row_size))) s c.end c.at r
      → Off (abbreviated left (abbrev_of kinds widths base shape)) s c.end c.at r
  scalars_off x = rw row_reader (off _ x)

  -- the payload is behind the operands, which are the front ys of the store's rest
  pub load_told : {c g : Cursor} {s : List ℕ} {code : ℕ} (fill : ℕ) (ys ops ops' : List ℕ) (t : Result (RecordRead × Cursor) Reason) → fill ≤ length ops
      → At (values (suc left) (slots kinds widths base (shape % row_size))) s c.end c.at (code ∷ take many ys) g → many ≤ length ys
      → Loaded g s (load (left - many) payload) (put_mid fill (length ops - fill) ops ys) ops' (record_read code many 0 0 0 (fill + many)) t
      → Recorded c s (abbreviated left (abbrev_of kinds widths base shape)) fill ops ops' t
  unfolding record_list behind_scalars
  load_told {code = code} fill ys ops ops' (Ok (r, k)) f x h z =
      let e = length-take-le many ys h in
      record {
        record_read = a_record code (take many ys) z.load_read;
        gives = rw row_reader (on _ x (on _ (rw (sym e) at z.gives) ends));
        event = λ b. z.event b fill (take many ys) (omega arith) e;
        operands =
            z.operands ∙ ap (λ u. u ++ load_list z.load_read) (take_put_front fill (length ops - fill) many ops ys f h)
            ∙ append_assoc (take fill ops) (take many ys) (load_list z.load_read);
        most = z.most;
      }
  load_told fill ys ops ops' (Err why) f x h z = rw row_reader (then_off _ x (off _ (rw (sym (length-take-le many ys h)) at z)))

-- the payload by its number
pub array_told : (g : Cursor) (s : List ℕ) (a b l : ℕ) (k : ScalarOperand) (ops ops' : List ℕ) (r : RecordRead) (t : Result (RecordRead × Cursor) Reason) → l ≡ 1 → a ≡ b
    → Loaded g s (load a (array k)) ops ops' r t → Loaded g s (load b (load_of l k)) ops ops' r t
unfolding load_of when◌then◌else◌
array_told g s a b l k ops ops' r t h e x =
    subst (λ z. Loaded g s (load z (load_of l k)) ops ops' r t) e (subst (λ z. Loaded g s (load a (load_of z k)) ops ops' r t) (sym h) x)

is_blob : (l : ℕ) (k : ScalarOperand) → (l ≡ 0 → ⊥) → (l ≡ 1 → ⊥) → load_of l k ≡ blob
unfolding load_of when◌then◌else◌
is_blob l k h j = rw (ne_eqb l 0 h, ne_eqb l 1 j)

pub blob_told : (g : Cursor) (s : List ℕ) (b l : ℕ) (k : ScalarOperand) (ops ops' : List ℕ) (r : RecordRead) (t : Result (RecordRead × Cursor) Reason) → (l ≡ 0 → ⊥) → (l ≡ 1 → ⊥)
    → Loaded g s (load b blob) ops ops' r t → Loaded g s (load b (load_of l k)) ops ops' r t
blob_told g s b l k ops ops' r t h j x = subst (λ z. Loaded g s (load b z) ops ops' r t) (sym (is_blob l k h j)) x

-- ---- a head's body lies within its parent
module _ (b w at n : ℕ) {d : Cursor} {s : List ℕ} where
  pub fits_at : d.at + 8 * n ≤ limit s d.end → At (fits (head b w at n)) s d.end d.at tt d
  unfolding fits require
  fits_at h = record { gives = rw (le-leb (d.at + 8 * n) (limit s d.end) h); ends = refl }

  pub fits_off : limit s d.end < d.at + 8 * n → Off (fits (head b w at n)) s d.end d.at buffer_overflow
  unfolding fits require
  fits_off h = record { why = rw (lt-leb (d.at + 8 * n) (limit s d.end) h) }

-- the head's reader, number first
pub head_is : head_fits ≡ (vbr 8 >>= (λ b. require (ltb b (2 ^ 32)) (block_number_too_large b) >>= (λ u. head_width b)))
unfolding head_fits heading head_width head_length
head_is =
    bind_assoc _ _ _ ∙ then_same _ (λ b. bind_assoc _ _ _ ∙ then_same _ (λ u. bind_assoc _ _ _ ∙ then_same _ (λ w. bind_assoc _ _ _ ∙ then_same _ (λ v.
    bind_assoc _ _ _ ∙ then_same _ (λ n. bind_assoc _ _ _ ∙ then_same _ (λ p. given _ _))))))

-- a head behind what stands before it
pub heads_behind : {A : Type 0} {c d : Cursor} {s : List ℕ} {m : Reader No A} {a : A} (f : A → Reader No Head) (t : Result (BlockHead × Cursor) Reason)
    → At m s c.end c.at a d → Heads d s (f a) t → Heads c s (m >>= f) t
heads_behind {s = s} f (Ok (h, g)) x z = (on f x z.0, rw x.ends at z.1)
heads_behind f (Err why) x z = then_off f x z

pub heads_as : (c : Cursor) (s : List ℕ) {m m' : Reader No Head} (t : Result (BlockHead × Cursor) Reason) → m ≡ m' → Heads c s m' t → Heads c s m t
heads_as c s t i z = subst (λ x. Heads c s x t) (sym i) z

-- a number that a block may have
pub heads_pass : (c : Cursor) (s : List ℕ) (b : ℕ) (t : Result (BlockHead × Cursor) Reason) → b < 2 ^ 32 → Heads c s (head_width b) t
    → Heads c s (require (ltb b (2 ^ 32)) (block_number_too_large b) >>= (λ u. head_width b)) t
heads_pass c s b (Ok (i, g)) h z = (pass _ _ (lt-ltb b (2 ^ 32) h) z.0, z.1)
heads_pass c s b (Err why) h z = pass_off _ _ (lt-ltb b (2 ^ 32) h) z
