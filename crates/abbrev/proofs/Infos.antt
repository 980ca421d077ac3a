-- BLOCKINFO: its items one at a time, what each does to the tables, and that enough turns are enough: how many turns `info` has doesn't matter once they
-- exceed the bits left. Assumes nothing.
use mathlib.Core.Path.{◌≡◌, refl, sym, ap, ap₂, ◌∙◌}
use mathlib.Core.Bool.{Bool, true, false}
use mathlib.Core.List.{List, [], ◌∷◌, ◌++◌, append_assoc, append-nil}
use mathlib.Core.Option.{Option, none as nothing}
use Prim.Native.Nat.{ℕ, zero, suc, ◌+◌, ◌-◌, ◌*◌, ◌≤◌, ◌<◌}
use native.Mathlib.Omega.{arith}
use lib.ListN.{length, set, length-set}
use lib.Seq.{get_or-set_same, get_or-set_other}
use lib.Dec.{leb}
use borrow.Author.Tests.{lt-ltb, le-ltb, le-leb, leb-true}
use Rattle.std.specs.Prelude.{Result, Ok, Err, MatchResult, IsErrAnd}
use Rattle.terms.specs.Refusals.{No, no, Refusal, refusal, at_bit, no_abbreviation_room}
use Rattle.terms.specs.declared.Reason.{Reason}
use Rattle.terms.specs.declared.Refused.{Refused}
use Rattle.bits.specs.declared.Cursor.{Cursor}
use Rattle.bits.specs.Reader.{Reader, Answer, got, refused, onward, ◌>>=◌, give, require, when◌then◌else◌, here, turns, at_place, placed}
use Rattle.bits.specs.Bits.{limit}
use Rattle.bits.specs.Told.{At, Off}
use Rattle.bits.proofs.Steps.{on, then_off, off, ends, pass, fail, never, apart, passed, mapped, mapped_twice, mapped_same, gives_mapped, mapped_got, mapped_off, so, so_off}
use Rattle.bits.proofs.Laws.{limit_in, and_true}
use Rattle.bits.proofs.Vbr.{read_ahead}
use Rattle.bits.proofs.Answers.{when_got, places}
use Rattle.abbrev.specs.Abbrev.{Abbrev, define, number_of}
use Rattle.abbrev.specs.BlockInfo.{Shared, shared, every, chosen, info_definition, InfoItem as Item, info_end, info_adds, info_now, info_numbered, info_item, info_on, info}
use Rattle.abbrev.specs.Tables.{row_size, local_rows, row_count, shared_slots, Tables, tables, abbrev_of, shareds, KeptBut, Kept, Whole, define_row, InfoDoes, info_all, shared_fit, info_block, Adds, InfoIs}
use Rattle.abbrev.specs.declared.InfoItem.{InfoItem}
use Rattle.abbrev.specs.declared.InfoItem.TheVariants as S
use Rattle.abbrev.proofs.Answers.{info_items}
use Rattle.abbrev.proofs.Records.{pass_so}
use Rattle.abbrev.proofs.Rows.{outside_refl, outside_set, row_fits}
use Rattle.abbrev.proofs.Held.{kept_refl, kept_then, kept_row, shareds_kept, shareds_more, row_set}

-- ---- enough turns
-- two rests of a `do` block that agree on what the first part got
pub same_rest : {R A B : Type 0} (m : Reader R A) (f g : A → Reader R B) (s : List ℕ) (e p : ℕ)
    → ((a : A) (q : ℕ) → m s e p ≡ got a q → f a s e q ≡ g a s e q) → (m >>= f) s e p ≡ (m >>= g) s e p
unfolding ◌>>=◌ onward
same_rest {R} {A} m f g s e p h = go (m s e p) h
  where
    go : (x : Answer R A) → ((a : A) (q : ℕ) → x ≡ got a q → f a s e q ≡ g a s e q) → onward x (λ a q. f a s e q) ≡ onward x (λ a q. g a s e q)
    go (got a q) h = h a q refl
    go (refused r) h = refl

-- an item begins before the end
unplaced : {A : Type 0} (from : ℕ) (m : Reader No A) (s : List ℕ) (e p : ℕ) {a : A} {q : ℕ} → placed from m s e p ≡ got a q → m s e p ≡ got a q
unfolding placed at_place
unplaced {A} from m s e p {a} {q} z = go (m s e p) z
  where
    go : (x : Answer No A) → at_place from x ≡ got a q → x ≡ got a q
    go (got b r) i = cc
    go (refused (no n x y)) i = absurd (never i)

module _ (s : List ℕ) (e w : ℕ) where
  info_starts : (now : Option ℕ) (have p q : ℕ) (x : Item) → info_item every w now have s e p ≡ got x q → p < limit s e
  unfolding info_item number_of
  info_starts now have p q x z =
      let c = apart (number_of w) _ s e p z in
      let a = read_ahead s e p w c.0 c.1 (passed _ _ s e p c.2).1 in
      omega (arith, a.past, a.inside)

  same_info : (x : Item) (now : Option ℕ) (have q : ℕ) (f g : Option ℕ → ℕ → Reader Refusal (List Shared))
      → ((b : Option ℕ) (n : ℕ) → f b n s e q ≡ g b n s e q) → info_on x now have f s e q ≡ info_on x now have g s e q
  unfolding info_on ◌>>=◌
  same_info info_end now have q f g h = refl
  same_info (info_adds x) now have q f g h = ap (λ v. onward v (λ xs q. give (x ∷ xs) s e q)) (h now (have + 1))
  same_info (info_now b) now have q f g h = h b have

  -- one turn, by the turns that are left
  info_step : (k : ℕ) (now : Option ℕ) (have p : ℕ)
      → info (suc k) w now have s e p ≡ (placed p (info_item every w now have) >>= (λ x. info_on x now have (info k w))) s e p
  unfolding info here ◌>>=◌ onward
  info_step k now have p = refl

  pub info_enough : (k k' : ℕ) (now : Option ℕ) (have p : ℕ) → limit s e - p < k → limit s e - p < k' → info k w now have s e p ≡ info k' w now have s e p
  info_enough zero k' now have p h h' = absurd (omega arith)
  info_enough (suc k) zero now have p h h' = absurd (omega arith)
  info_enough (suc k) (suc k') now have p h h' =
      info_step k now have p ∙ same_rest _ _ _ s e p (λ x q z.
      let l = info_starts now have p q x (unplaced p _ s e p z) in
      let a = when_got (places p (info_items w now have)) z in
      same_info x now have q _ _ (λ b n. info_enough k k' b n q (omega (arith, a.2.0)) (omega (arith, a.2.0)))) ∙ sym (info_step k' now have p)

  -- one turn, then the loop again
  pub info_turn : (now : Option ℕ) (have p : ℕ)
      → turns (λ k. info k w now have) s e p ≡ (placed p (info_item every w now have) >>= (λ x. info_on x now have (λ b n. turns (λ k. info k w b n)))) s e p
  unfolding turns
  info_turn now have p =
      info_step (8 * length s) now have p ∙ same_rest _ _ _ s e p (λ x q z.
      let l = info_starts now have p q x (unplaced p _ s e p z) in
      let a = when_got (places p (info_items w now have)) z in
      let i = limit_in s e in
      same_info x now have q _ _ (λ b n. info_enough (8 * length s) (suc (8 * length s)) b n q (omega (arith, a.2.0)) (omega (arith, a.2.0))))

-- ---- a definition in BLOCKINFO
-- a definition into tables that have its row
pub define_in : (row kinds widths : ℕ) (s : List ℕ) (e p : ℕ) → row < row_count → row_size * row + row_size ≤ kinds → row_size * row + row_size ≤ widths
    → define_row row kinds widths s e p ≡ define s e p
unfolding define_row
define_in row kinds widths s e p i j k = pass_so no_abbreviation_room (λ u. define) s e p (row_fits row kinds widths i j k)

module _ (row kinds widths : ℕ) (i : row < row_count) (j : row_size * row + row_size ≤ kinds) (k : row_size * row + row_size ≤ widths) {s : List ℕ} {e p : ℕ} where
  pub defined_in : {a : Abbrev} {d : Cursor} → At (define_row row kinds widths) s e p a d → At define s e p a d
  defined_in x = record { gives = sym (define_in row kinds widths s e p i j k) ∙ x.gives; ends = x.ends }

  pub undefined_in : {r : No} → Off (define_row row kinds widths) s e p r → Off define s e p r
  undefined_in o = record { why = sym (define_in row kinds widths s e p i j k) ∙ o.why }

-- and so into tables that have all shared rows
module _ (have : ℕ) {kinds widths : ℕ} (p : (have ≤ 32) × (shared_slots ≤ kinds) × (shared_slots ≤ widths)) {s : List ℕ} {c : Cursor} where
  pub defined_shared : {a : Abbrev} {d : Cursor} → At (define_row have kinds widths) s c.end c.at a d → At define s c.end c.at a d
  defined_shared x = defined_in have kinds widths (omega (arith, p.0)) (omega (arith, p.0, p.1)) (omega (arith, p.0, p.2)) x

  pub undefined_shared : {r : No} → Off (define_row have kinds widths) s c.end c.at r → Off define s c.end c.at r
  undefined_shared o = undefined_in have kinds widths (omega (arith, p.0)) (omega (arith, p.0, p.1)) (omega (arith, p.0, p.2)) o

module _ {s : List ℕ} {c : Cursor} (now : Option ℕ) (have : ℕ) where
  -- no block is chosen
  pub definition_unchosen : {r : No} → Off (chosen now) s c.end c.at r → Off (info_numbered every now have 2) s c.end c.at r
  unfolding info_numbered when◌then◌else◌ info_definition
  definition_unchosen o = off _ (off _ o)

  module _ {b : ℕ} (x : At (chosen now) s c.end c.at b c) where
    pub definition_off : {r : No} → Off define s c.end c.at r → Off (info_numbered every now have 2) s c.end c.at r
    unfolding info_numbered when◌then◌else◌ info_definition
    definition_off o = off _ (then_off _ x (off _ o))

    module _ {a : Abbrev} {d : Cursor} (y : At define s c.end c.at a d) where
      pub definition_full : 32 ≤ have → Off (info_numbered every now have 2) s c.end c.at no_abbreviation_room
      unfolding info_numbered when◌then◌else◌ info_definition
      definition_full l = off _ (then_off _ x (then_off _ y (fail _ (le-ltb have 32 l))))

      pub definition_adds : have < 32 → At (info_numbered every now have 2) s c.end c.at (info_adds (shared b a)) d
      unfolding info_numbered when◌then◌else◌ info_definition
      definition_adds l = on _ (on _ x (on _ y (pass _ _ (lt-ltb have 32 l) ends))) ends

-- what `map_err` says of the answer in front of it: Q is what the closure promises, and P what it is taken for
module _ {A E F : Type 0} (Q : E → F → Type 0) where
  pub ok_before : (r : Result A E) {r' : Result A F} {a : A} → MatchResult r (λ x. r' ≡ Ok x) (λ x. IsErrAnd r' (Q x)) → r' ≡ Ok a → r ≡ Ok a
  ok_before (Ok x) {r'} {a} h i = let j : x ≡ a = cc in ap Ok j
  ok_before (Err x) h i = absurd (rw i at h)

  pub err_before : (P : E → F → Type 0) → ((x : E) (y : F) → Q x y → P x y) → (r : Result A E) {r' : Result A F} {y : F}
      → MatchResult r (λ x. r' ≡ Ok x) (λ x. IsErrAnd r' (Q x)) → r' ≡ Err y → (x : E) × (r ≡ Err x) × P x y
  err_before P f (Ok x) h i = cc
  err_before P f (Err x) {r'} {y} h i = (x, refl, f x y (rw i at h))

-- an item is what its number says
pub item_does : {s : List ℕ} {c d : Cursor} (w : ℕ) {n : ℕ} (now : Option ℕ) (have : ℕ) (kinds widths : List ℕ) (r : Result (InfoItem × Cursor) Reason)
    → At (number_of w) s c.end c.at n d
    → InfoDoes d s (info_numbered every now have n) kinds widths have r → InfoDoes c s (info_item every w now have) kinds widths have r
unfolding info_item
item_does w now have kinds widths (Ok (S.End, f)) x y = on _ x y
item_does w now have kinds widths (Ok (S.Adds b shape, f)) x y = (on _ x y.0, y.1)
item_does w now have kinds widths (Ok (S.Now b, f)) x y = on _ x y
item_does w now have kinds widths (Err r) x y = then_off _ x y

-- ---- the loop that reads the items: the answer from the start is what was added, in front of the answer from here
pub record Going (s : List ℕ) (w have₀ : ℕ) (t₀ : Tables) (c₀ c : Cursor) (t : Tables) (now : Option ℕ) (have : ℕ) : Type 0 where
  pub so_far : List Shared
  pub rest : info_all w have₀ s c₀.end c₀.at ≡ mapped (λ xs. so_far ++ xs) (turns (λ k. info k w now have) s c.end c.at)
  pub holds : shareds t 0 have ≡ shareds t₀ 0 have₀ ++ so_far
  pub kept : Kept have₀ local_rows t₀ t
  pub same_end : c.end ≡ c₀.end
  pub more : have₀ ≤ have
  pub most : have ≤ 32

pub going_start : (s : List ℕ) (w have : ℕ) (t : Tables) (c : Cursor) → have ≤ 32 → Going s w have t c c t nothing have
unfolding info_all
going_start s w have t c h =
    record {
      so_far = [];
      rest = sym (mapped_same (λ xs. [] ++ xs) (λ xs. refl) (turns (λ k. info k w nothing have) s c.end c.at));
      holds = sym (append-nil (shareds t 0 have));
      kept = kept_refl have local_rows t;
      same_end = refl;
      more = omega arith;
      most = h;
    }

placed_got : {A : Type 0} (from : ℕ) (m : Reader No A) (s : List ℕ) (e p : ℕ) {a : A} {q : ℕ} → m s e p ≡ got a q → placed from m s e p ≡ got a q
unfolding placed at_place
placed_got from m s e p i = rw i

placed_off : {A : Type 0} (from : ℕ) (m : Reader No A) (s : List ℕ) (e p : ℕ) (r : No) → m s e p ≡ refused r → placed from m s e p ≡ refused (at_bit from r)
unfolding placed at_place
placed_off from m s e p (no n x y) i = rw i

module _ {s : List ℕ} {w have₀ : ℕ} {t₀ : Tables} {c₀ c : Cursor} {t : Tables} {now : Option ℕ} {have : ℕ} (g : Going s w have₀ t₀ c₀ c t now have) where
  -- the item is refused
  pub going_refused : {r : No} → Off (info_item every w now have) s c.end c.at r → info_all w have₀ s c₀.end c₀.at ≡ refused (at_bit c.at r)
  going_refused {r} o =
      g.rest
      ∙ mapped_off (λ xs. g.so_far ++ xs) (info_turn s c.end w now have c.at
      ∙ so_off (placed c.at (info_item every w now have)) _ s c.end c.at (placed_off c.at _ s c.end c.at r o.why))

  module _ {x : Item} {d : Cursor} (o : At (info_item every w now have) s c.end c.at x d) where
    -- it goes forward, and what is left is less
    pub going_less : limit s d.end - d.at < limit s c.end - c.at
    going_less =
        let i = info_starts s c.end w now have c.at d.at x o.gives in
        let j = when_got (info_items w now have) o.gives in
        let n : c.at < d.at = j.2.0 in
        rw o.ends (omega arith)

    turned : info_all w have₀ s c₀.end c₀.at ≡ mapped (λ xs. g.so_far ++ xs) (info_on x now have (λ b n. turns (λ k. info k w b n)) s c.end d.at)
    turned =
        g.rest
        ∙ ap (mapped (λ xs. g.so_far ++ xs)) (info_turn s c.end w now have c.at
        ∙ so (placed c.at (info_item every w now have)) _ s c.end c.at (placed_got c.at _ s c.end c.at o.gives))

  -- the tables behind an item: the row behind those in use may have been written
  module _ {kinds' widths' : List ℕ} (k : KeptBut (row_size * have) row_size t.kinds kinds' t.widths widths') where
    kept_here : (have' : ℕ) → have' ≤ have → Kept have' local_rows t (tables kinds' widths' t.shapes t.owners)
    kept_here have' h = kept_row (λ i u v e. v (omega arith) (omega (arith, g.most))) k.kinds k.widths (outside_refl _ _ _) refl (λ i u. refl)

    pub going_kept : Kept have₀ local_rows t₀ (tables kinds' widths' t.shapes t.owners)
    going_kept = kept_then g.kept (kept_here have₀ g.more)

    same_held : shareds (tables kinds' widths' t.shapes t.owners) 0 have ≡ shareds t₀ 0 have₀ ++ g.so_far
    same_held = shareds_kept (kept_here have (omega arith)) have (omega arith) (omega (arith, g.most)) ∙ g.holds

    -- the last item
    pub going_end : {d : Cursor} → At (info_item every w now have) s c.end c.at info_end d
        → Adds c₀ s (info_all w have₀) have₀ have t₀ (tables kinds' widths' t.shapes t.owners)
    unfolding info_on give
    going_end {d} o =
        record {
          added = g.so_far;
          to = d.at;
          gives = turned o ∙ mapped_got (λ xs. g.so_far ++ xs) refl ∙ ap (λ xs. got xs d.at) (append-nil g.so_far);
          holds = same_held;
          more = g.more;
          most = g.most;
        }

    -- a record
    pub going_now : {b : Option ℕ} {d : Cursor} → At (info_item every w now have) s c.end c.at (info_now b) d
        → Going s w have₀ t₀ c₀ d (tables kinds' widths' t.shapes t.owners) b have
    unfolding info_on
    going_now {b} {d} o =
        record {
          so_far = g.so_far;
          rest = turned o ∙ ap (λ e. mapped (λ xs. g.so_far ++ xs) (turns (λ k. info k w b have) s e d.at)) (sym o.ends);
          holds = same_held;
          kept = going_kept;
          same_end = o.ends ∙ g.same_end;
          more = g.more;
          most = g.most;
        }

    -- a definition
    pub going_adds : (shape : ℕ) {b : ℕ} {d : Cursor} → have < length t.shapes → have < length t.owners → have < 32
        → At (info_item every w now have) s c.end c.at (info_adds (shared b (abbrev_of kinds' widths' (row_size * have) shape))) d
        → Going s w have₀ t₀ c₀ d (tables kinds' widths' (set t.shapes have shape) (set t.owners have b)) now (have + 1)
    unfolding info_on
    going_adds shape {b} {d} hs ho h o =
        record {
          so_far = g.so_far ++ x ∷ [];
          rest =
              turned o
              ∙ ap (mapped (λ xs. g.so_far ++ xs)) (gives_mapped (turns (λ k. info k w now (have + 1))) (λ xs. x ∷ xs) s c.end d.at)
              ∙ mapped_twice (λ xs. x ∷ xs) (λ xs. g.so_far ++ xs) (λ xs. g.so_far ++ x ∷ [] ++ xs) (λ xs. sym (append_assoc g.so_far (x ∷ []) xs)) _
              ∙ ap (λ e. mapped (λ xs. g.so_far ++ x ∷ [] ++ xs) (turns (λ k. info k w now (have + 1)) s e d.at)) (sym o.ends);
          holds =
              shareds_more t' have
              ∙ ap₂ (λ xs y. xs ++ y ∷ []) (shareds_kept (kept_to have (omega arith)) have (omega arith) (omega arith) ∙ g.holds)
              (ap₂ (λ y z. shared y z) (get_or-set_same t.owners have b 0 ho) (row_set kinds' widths' t.shapes (set t.owners have b) have shape hs))
              ∙ append_assoc (shareds t₀ 0 have₀) g.so_far (x ∷ []);
          kept = kept_then g.kept (kept_to have₀ g.more);
          same_end = o.ends ∙ g.same_end;
          more = omega (arith, g.more);
          most = omega arith;
        }
      where
        x : Shared
        x = shared b (abbrev_of kinds' widths' (row_size * have) shape)

        t' : Tables
        t' = tables kinds' widths' (set t.shapes have shape) (set t.owners have b)

        kept_to : (have' : ℕ) → have' ≤ have → Kept have' local_rows t t'
        kept_to have' m =
            kept_row (λ i u v e. v (omega arith) (omega arith)) k.kinds k.widths (outside_set _ _ _ _ _ (omega arith) (omega arith)) (length-set t.owners have b)
            (λ i u. get_or-set_other t.owners have i b 0 (λ e. omega arith))

-- ---- a BLOCKINFO's body: the items, where the tables have all shared rows
module _ (have : ℕ) (t : Tables) where
  fits : have ≤ 32 → shared_slots ≤ length t.kinds → shared_slots ≤ length t.widths → 32 ≤ length t.shapes → 32 ≤ length t.owners → shared_fit have t ≡ true
  unfolding shared_fit
  fits a b c d e =
      rw (le-leb have 32 a, le-leb shared_slots (length t.kinds) b, le-leb shared_slots (length t.widths) c, le-leb 32 (length t.shapes) d, le-leb 32 (length t.owners) e)

  unfit : (have ≤ 32 → shared_slots ≤ length t.kinds → shared_slots ≤ length t.widths → 32 ≤ length t.shapes → 32 ≤ length t.owners → ⊥) → shared_fit have t ≡ false
  unfolding shared_fit
  unfit h = go (shared_fit have t) refl
    where
      go : (x : Bool) → shared_fit have t ≡ x → x ≡ false
      go false i = refl
      go true i =
          let a = and_true _ (leb 32 (length t.owners)) i in
          let b = and_true _ (leb 32 (length t.shapes)) a.0 in
          let c = and_true _ (leb shared_slots (length t.widths)) b.0 in
          let d = and_true (leb have 32) (leb shared_slots (length t.kinds)) c.0 in
          absurd (h (leb-true _ _ d.0) (leb-true _ _ d.1) (leb-true _ _ c.1) (leb-true _ _ b.1) (leb-true _ _ a.1))

  module _ (w : ℕ) where
    pub info_unfit : (s : List ℕ) (e p : ℕ)
        → (have ≤ 32 → shared_slots ≤ length t.kinds → shared_slots ≤ length t.widths → 32 ≤ length t.shapes → 32 ≤ length t.owners → ⊥)
        → info_block w have t s e p ≡ refused (refusal 17 p 0 0)
    unfolding info_block here ◌>>=◌ onward require
    info_unfit s e p h = rw (unfit h)

    info_fit : (s : List ℕ) (e p : ℕ) → shared_fit have t ≡ true → info_block w have t s e p ≡ info_all w have s e p
    unfolding info_block here ◌>>=◌ onward require
    info_fit s e p h = rw h

    -- over tables of the state's sizes it is all of BLOCKINFO
    pub info_whole : (s : List ℕ) (e p : ℕ) → have ≤ 32 → Whole t → info_block w have t s e p ≡ info_all w have s e p
    info_whole s e p h z =
        info_fit s e p (fits h (omega (arith, z.kinds)) (omega (arith, z.widths)) (omega (arith, z.shapes)) (omega (arith, z.owners)))

    pub info_is : (c : Cursor) (s : List ℕ) (t' : Tables) (r : Result ℕ Refused) → have ≤ 32 → shared_slots ≤ length t.kinds → shared_slots ≤ length t.widths
        → 32 ≤ length t.shapes → 32 ≤ length t.owners → InfoIs c s (info_all w have) have t t' r → InfoIs c s (info_block w have t) have t t' r
    info_is c s t' (Ok have') i j k l m x =
        record {
          added = x.added;
          to = x.to;
          gives = info_fit s c.end c.at (fits i j k l m) ∙ x.gives;
          holds = x.holds;
          more = x.more;
          most = x.most;
        }
    info_is c s t' (Err r) i j k l m x = info_fit s c.end c.at (fits i j k l m) ∙ x
