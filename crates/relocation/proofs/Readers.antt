-- The relocation law of the small readers: bits, VBR numbers, abbreviations, records, BLOCKINFO. Each proof is its definition's text again,
-- line by line. Assumes nothing.
use mathlib.Core.Path.{◌≡◌, refl, sym, ap, ap₂, ◌∙◌}
use mathlib.Core.Bool.{Bool, true, false}
use mathlib.Core.List.{List, [], ◌∷◌}
use mathlib.Core.Option.{Option, none as nothing, some}
use Prim.Native.Nat.{ℕ, zero, suc, ◌+◌, ◌-◌, ◌*◌, ◌/◌, ◌%◌, ◌≤◌, ◌<◌}
use native.Mathlib.Omega.{arith}
use lib.ListN.{length, length-append}
use Rattle.terms.specs.Refusals.{No, no, Refusal, buffer_overflow}
use Rattle.bits.specs.Reader.{Reader, Answer, got, refused, ◌>>=◌, give, stop, when◌then◌else◌, placed}
use Rattle.bits.specs.Bits.{field, limit, field_at, reach, read, align, chunks, vbr}
use Rattle.bits.proofs.Laws.{between}
use Rattle.bitcode.specs.declared.ScalarOperand.{ScalarOperand}
use Rattle.bitcode.specs.declared.ScalarOperand.TheVariants.{Literal, Fixed, Vbr, Char6}
use Rattle.bitcode.specs.Scalar.{value}
use Rattle.abbrev.specs.Abbrev.{Payload, none, blob, array, Abbrev, abbreviation, Operand, scalar, is_array, is_blob, width, kind, operand, element, rest_of, operands, define, number_of, look_up}
use Rattle.abbrev.specs.BlockInfo.{Shared, Hides, every, or_else, readable, chosen, info_definition, set_bid, letters, block_name, record_name, info_record, InfoItem, info_end, info_adds, info_now, info_numbered, info_item, info_on, info}
use Rattle.walk.specs.Record.{blob_load, a_record, stored, values, repeated, octets, bytes_if, bytes, Part, whole, listing, blobbing, payload_part, scalar_part, unabbreviated, rest, load_list, record_list}
use Rattle.walk.proofs.Answers.{PartFits, array_kinds}
use Rattle.relocation.proofs.Shift.{mv, move_load, move_record, move_part, LoadFine, RecordFine, PartFine}
use Rattle.relocation.proofs.Law.{Window, AnyPlace, Free, same, Ends, Moves, Easy, Runs, Tells, Keeps, recast, knows, easy, on, so, through, giving, giving_as, gives, stops, requires, rooms, bounded, branch, here_moves, places, turned}

-- ---- what stands in the window
module _ {s s' : List ℕ} {lo hi up down : ℕ} (win : Window s s' lo hi up down) where
  field_agrees : (n p : ℕ) → lo ≤ p → p + n ≤ hi → field s p n ≡ field s' (mv up down p) n
  unfolding field
  field_agrees zero p h b = refl
  field_agrees (suc n) p h b =
      let c : p + 1 + n ≤ hi = omega arith in
      ap₂ (λ x y. x + 2 * y) (win.agree p h (omega arith))
      (field_agrees n (p + 1) (omega arith) c ∙ ap (λ x. field s' x n) (omega arith))

  octets_agree : (n p : ℕ) → lo ≤ p → p + 8 * n ≤ hi → octets s p n ≡ octets s' (mv up down p) n
  unfolding octets
  octets_agree zero p h b = refl
  octets_agree (suc n) p h b =
      let c : p + 8 + 8 * n ≤ hi = omega arith in
      ap₂ (λ x y. x ∷ y) (field_agrees 8 p h (omega arith))
      (octets_agree n (p + 8) (omega arith) c ∙ ap (λ x. octets s' x n) (omega arith))

bytes_as : (b : Bool) (s : List ℕ) (p n : ℕ) → bytes_if b s p n ≡ (when b then got (octets s p n) (p + 8 * n) else refused buffer_overflow)
unfolding bytes_if when◌then◌else◌
bytes_as true s p n = refl
bytes_as false s p n = refl

module _ {s s' : List ℕ} {lo hi up down : ℕ} {win : Window s s' lo hi up down} where
  -- ---- bits
  fields : {e e' p : ℕ} → Ends win e e' → lo ≤ p → (n : ℕ) → Tells win e e' p (λ _ r. (r ≡ p + n) × (p + n ≤ limit s e)) (field_at n)
  unfolding field_at
  fields {p} t h n =
      bounded t (p + n) (mv up down p + n) _ _ _ h (omega arith) (omega arith) (λ c. sym (field_agrees win n p h c)) _ _ refl refl

  reaches : {e e' p : ℕ} → Ends win e e' → lo ≤ p → (to : ℕ → ℕ) → p ≤ to p → to (mv up down p) ≡ mv up down (to p)
      → Tells win e e' p (λ _ r. (r ≡ to p) × (to p ≤ limit s e)) (reach to)
  unfolding reach
  reaches {p} t h to g m = bounded t (to p) (to (mv up down p)) _ _ _ h g m (λ c. refl) _ _ refl refl

  -- a read takes a bit at least
  pub reads_at : {e e' p : ℕ} → Ends win e e' → lo ≤ p → (n : ℕ)
      → Tells win e e' p (λ _ r. (r ≡ p + n) × (p < r) × (r ≤ limit s e)) (read n)
  unfolding read ◌>>=◌
  reads_at t h n = so _ (requires t _ _ _) (λ _ q g z.
      knows (fields t (omega arith) n) (λ _ r _ w. omega (arith, between 1 n 64 z.0)))

  pub reads : {e e' p : ℕ} → Ends win e e' → lo ≤ p → (n : ℕ) → Keeps win e e' p (read n)
  reads t h n = easy (reads_at t h n)

  pub aligns_at : {e e' p : ℕ} → Ends win e e' → lo ≤ p → Tells win e e' p (λ _ r. r % 32 ≡ 0) align
  unfolding align
  aligns_at {p} t h = knows (reaches {p = p} t h (λ x. (x + 31) / 32 * 32) (omega arith) (omega arith)) (λ _ r _ w. omega arith)

  pub aligns : {e e' p : ℕ} → Ends win e e' → lo ≤ p → Keeps win e e' p align
  aligns t h = easy (aligns_at t h)

  chunked : {e e' : ℕ} → Ends win e e' → (k w shift acc : ℕ) {p : ℕ} → lo ≤ p → Keeps win e e' p (chunks k w shift acc)
  unfolding chunks ◌>>=◌ give stop
  chunked t zero w shift acc h = stops _
  chunked t (suc k) w shift acc h =
      so _ (reads t h w) (λ c q g _. so _ (requires t _ _ _) (λ _ q' g' _. branch t _ _ _ _ _ (gives _) (chunked t k w _ _ (omega arith))))

  pub vbrs : {e e' p : ℕ} → Ends win e e' → lo ≤ p → (w : ℕ) → Keeps win e e' p (vbr w)
  unfolding vbr ◌>>=◌
  vbrs {e} {e'} t h w = so _ (requires t _ _ _) (λ _ q g _. turned e e' _ _ (λ k. chunked t k w 0 0 (omega arith)))

  -- ---- abbreviations
  widths : {e e' p : ℕ} → Ends win e e' → lo ≤ p → Keeps win e e' p width
  unfolding width ◌>>=◌ give
  widths t h = so _ (vbrs t h 5) (λ w q g _. so _ (requires t _ _ _) (λ _ q' g' _. gives _))

  kinds : {e e' p : ℕ} → Ends win e e' → lo ≤ p → (left k : ℕ) → Keeps win e e' p (kind left k)
  unfolding kind ◌>>=◌ give stop
  kinds t h left k =
      branch t _ _ _ _ _ (so _ (widths t h) (λ w q g _. gives _)) (
      branch t _ _ _ _ _ (so _ (widths t h) (λ w q g _. gives _)) (
      branch t _ _ _ _ _ (gives _) (branch t _ _ _ _ _ (gives _) (branch t _ _ _ _ _ (gives _) (stops _)))))

  operand_moves : {e e' p : ℕ} → Ends win e e' → lo ≤ p → (left : ℕ) → Keeps win e e' p (operand left)
  unfolding operand ◌>>=◌ give
  operand_moves t h left =
      so _ (reads t h 1) (λ l q g _.
      branch t _ _ _ _ _ (so _ (vbrs t (omega arith) 8) (λ v q' g' _. gives _))
      (so _ (reads t (omega arith) 3) (λ k q' g' _. kinds t (omega arith) left k)))

  elements : {e e' p : ℕ} → Ends win e e' → (o : Operand) → Keeps win e e' p (element o)
  unfolding element give stop
  elements t (scalar k) = gives _
  elements t is_array = stops _
  elements t is_blob = stops _

  rests : {e e' p : ℕ} → Ends win e e' → lo ≤ p → (o : Operand) (m m' : Reader No Abbrev) → Runs win e e' p (Unit {0}) AnyPlace Free same m m'
      → Runs win e e' p (Unit {0}) AnyPlace Free same (rest_of o m) (rest_of o m')
  unfolding rest_of ◌>>=◌ give
  rests t h (scalar k) m m' x = so _ x (λ a q g _. gives _)
  rests t h is_array m m' x = so _ (operand_moves t h 0) (λ o q g _. elements t o)
  rests t h is_blob m m' x = gives _

  operands_move : {e e' : ℕ} → Ends win e e' → (n : ℕ) {p : ℕ} → lo ≤ p → Keeps win e e' p (operands n)
  unfolding operands ◌>>=◌ give
  operands_move t zero h = gives _
  operands_move t (suc n) h = so _ (operand_moves t h n) (λ o q g _. rests t (omega arith) o _ _ (operands_move t n (omega arith)))

  pub define_moves : {e e' p : ℕ} → Ends win e e' → lo ≤ p → Keeps win e e' p define
  unfolding define ◌>>=◌
  define_moves t h = so _ (vbrs t h 5) (λ n q g _. so _ (requires t _ _ _) (λ _ q' g' _. operands_move t n (omega arith)))

  -- an item's number takes a bit at least
  pub numbers_at : {e e' p : ℕ} → Ends win e e' → lo ≤ p → (n : ℕ)
      → Tells win e e' p (λ _ r. (p < r) × (r ≤ limit s e)) (number_of n)
  unfolding number_of ◌>>=◌
  numbers_at t h n = so _ (requires t _ _ _) (λ _ q g z. knows (reads_at t (omega arith) n) (λ _ r _ w. omega arith))

  pub lookup_moves : {e e' p : ℕ} → Ends win e e' → (r r' : No) (i : ℕ) (l : List Abbrev)
      → Runs win e e' p (Unit {0}) AnyPlace Free same (look_up r i l) (look_up r' i l)
  unfolding look_up give stop
  lookup_moves t r r' i [] = stops _
  lookup_moves t r r' zero (a ∷ l) = gives _
  lookup_moves t r r' (suc i) (a ∷ l) = lookup_moves t r r' i l

  -- ---- records
  value_moves : {e e' p : ℕ} → Ends win e e' → lo ≤ p → (k : ScalarOperand) → Keeps win e e' p (value k)
  unfolding value ◌>>=◌ give
  value_moves t h (Literal v) = gives _
  value_moves t h (Fixed w) = reads t h w
  value_moves t h (Vbr w) = vbrs t h w
  value_moves t h Char6 = so _ (reads t h 6) (λ v q g _. gives _)

  stored_moves : {e e' p : ℕ} → Ends win e e' → lo ≤ p → (left left' : ℕ) (k : ScalarOperand)
      → Runs win e e' p (Unit {0}) (λ _ _. 0 < left) (λ _. 0 < left') same (stored left k) (stored left' k)
  unfolding stored ◌>>=◌
  stored_moves {e} {e'} t h left left' k =
      on _ (rooms e e' left left' _ _) (λ _ q g z. recast (value_moves t (omega arith) k) (λ _ _ _ _. z.0) (λ _ _. tt) (λ _ v _. (v, tt)))

  values_move : {e e' : ℕ} → Ends win e e' → (left left' : ℕ) (ks : List ScalarOperand) {p : ℕ} → lo ≤ p
      → Runs win e e' p (Unit {0}) (λ vs _. length vs ≤ left) (λ vs. length vs ≤ left') same (values left ks) (values left' ks)
  unfolding values ◌>>=◌ give
  values_move t left left' [] h = giving _ (omega arith) (λ v. tt)
  values_move t left left' (k ∷ ks) h = on _ (stored_moves t h left left' k) (λ v q g z.
      on _ (values_move t (left - 1) (left' - 1) ks (omega arith)) (λ vs q' g' z'. giving _ (omega arith) (λ w. omega arith)))

  repeated_moves : {e e' : ℕ} → Ends win e e' → (left left' n : ℕ) (k : ScalarOperand) {p : ℕ} → lo ≤ p
      → Runs win e e' p (Unit {0}) (λ vs _. length vs ≤ left) (λ vs. length vs ≤ left') same (repeated left n k) (repeated left' n k)
  unfolding repeated ◌>>=◌ give
  repeated_moves t left left' zero k h = giving _ (omega arith) (λ v. tt)
  repeated_moves t left left' (suc n) k h = on _ (stored_moves t h left left' k) (λ v q g z.
      on _ (repeated_moves t (left - 1) (left' - 1) n k (omega arith)) (λ vs q' g' z'. giving _ (omega arith) (λ w. omega arith)))

  bytes_move : {e e' p : ℕ} → Ends win e e' → lo ≤ p → (n : ℕ) → Keeps win e e' p (bytes n)
  unfolding bytes
  bytes_move {p} t h n = simp bytes_as (easy (
      bounded t (p + 8 * n) (mv up down p + 8 * n) _ _ _ h (omega arith) (omega arith) (λ c. sym (octets_agree win n p h c)) _ _ refl refl))

  -- a scalar part: what it takes of the operand store
  payload_part_moves : {e e' p : ℕ} → Ends win e e' → lo ≤ p → (left left' code : ℕ) (vs : List ℕ) → length vs ≤ left → (l : Payload)
      → Runs win e e' p (length vs ≤ left') (λ x _. PartFits left x × PartFine up down x) (PartFits left') (move_part up down)
      (payload_part code vs l) (payload_part code vs l)
  unfolding payload_part ◌>>=◌ give move_part move_record move_load PartFits PartFine RecordFine LoadFine record_list load_list
  payload_part_moves t h left left' code vs z none =
      giving _ (omega (arith, length-append vs []), tt) (λ v. omega (arith, length-append vs []))
  payload_part_moves t h left left' code vs z (array k) = so _ (vbrs t h 6) (λ n q g _. giving _ (z, tt) (λ v. v))
  payload_part_moves t h left left' code vs z blob =
      so _ (vbrs t h 6) (λ n q g _. so _ (aligns t (omega arith)) (λ _ q₁ g₁ _. giving _ (z, tt) (λ v. v)))

  pub scalar_part_moves : {e e' p : ℕ} → Ends win e e' → lo ≤ p → (left left' : ℕ) (a : Abbrev)
      → Runs win e e' p (Unit {0}) (λ x _. PartFits left x × PartFine up down x) (PartFits left') (move_part up down)
      (scalar_part left a) (scalar_part left' a)
  unfolding scalar_part ◌>>=◌ stop
  scalar_part_moves t h left left' (abbreviation [] l) = stops _
  scalar_part_moves t h left left' (abbreviation (k ∷ ks) l) =
      so _ (value_moves t h k) (λ code q g _.
      through _ (values_move t left left' ks (omega arith)) (λ vs q₁ g₁ z₁. payload_part_moves t (omega arith) left left' code vs z₁ l))

  pub unabbreviated_moves : {e e' p : ℕ} → Ends win e e' → lo ≤ p → (left left' : ℕ)
      → Runs win e e' p (Unit {0}) (λ x _. PartFits left x × PartFine up down x) (PartFits left') (move_part up down)
      (unabbreviated left) (unabbreviated left')
  unfolding unabbreviated ◌>>=◌ give move_part move_record move_load PartFits PartFine RecordFine LoadFine record_list load_list
  unabbreviated_moves t h left left' =
      so _ (vbrs t h 6) (λ c q g _.
      so _ (vbrs t (omega arith) 6) (λ n q₁ g₁ _.
      on _ (repeated_moves t left left' n _ (omega arith)) (λ vs q₂ g₂ z₂.
      giving _ (omega (arith, length-append vs []), tt) (λ v. omega (arith, length-append vs [])))))

  pub rest_moves : {e e' p : ℕ} → Ends win e e' → lo ≤ p → (left left' : ℕ) (x : Part) → PartFits left x → PartFine up down x
      → Runs win e e' p (PartFits left' x) (λ r _. (length (record_list r) ≤ left) × RecordFine up down r) (λ r. length (record_list r) ≤ left')
      (move_record up down) (rest left x) (rest left' (move_part up down x))
  unfolding rest ◌>>=◌ give move_part move_record move_load PartFits PartFine RecordFine LoadFine record_list load_list
  rest_moves t h left left' (whole r) z f = giving r (z, f) (λ v. v)
  rest_moves t h left left' (listing code vs k n) z f =
      on _ (repeated_moves t (left - length vs) (left' - length vs) n k h) (λ xs q g z₁.
      giving _ (omega (arith, length-append vs xs), array_kinds k) (λ v. omega (arith, length-append vs xs)))
  rest_moves t h left left' (blobbing code vs n) z f =
      so _ (here_moves t) (λ at q g z₁.
      so _ (bytes_move t (omega arith) n) (λ bs q₁ g₁ _.
      so _ (aligns t (omega arith)) (λ _ q₂ g₂ _.
      giving_as _ _ (ap (λ x. a_record code vs (blob_load x bs)) (omega arith))
      (omega (arith, length-append vs []), omega arith) (λ v. omega (arith, length-append vs [])))))

  -- ---- BLOCKINFO
  -- a reader whose refusals are hidden: a refusal of the first run says nothing of the second
  refuses : {A : Type 0} {e p : ℕ} {x' : Answer No A} (b : Bool) (r r' : No) → Easy win e same p (when b then refused r else refused r') x'
  unfolding when◌then◌else◌
  refuses true r r' = stops _
  refuses false r r' = stops _

  readables : {A : Type 0} {e p : ℕ} {x x' : Answer No A} (hides : Hides) (r : No) → Easy win e same p x x'
      → Easy win e same p (or_else hides r x) (or_else hides r x')
  unfolding Moves or_else
  readables {x = got a q} hides r m =
      let v = m.moves in
      record { moves = record { rises = v.rises; tells = tt; asks = λ w. tt; runs = λ z w. rw (v.runs z w); stays = v.stays } }
  readables {x = refused (no n y z)} hides r m = refuses (hides n) r (no n y z)

  letters_move : {e e' : ℕ} → Ends win e e' → (n : ℕ) {p : ℕ} → lo ≤ p → Keeps win e e' p (letters n)
  unfolding letters ◌>>=◌ give
  letters_move t zero h = gives _
  letters_move t (suc n) h = so _ (vbrs t h 6) (λ v q g _. so _ (requires t _ _ _) (λ _ q₁ g₁ _. letters_move t n (omega arith)))

  chooses : {e e' p : ℕ} → Ends win e e' → (now : Option ℕ) → Keeps win e e' p (chosen now)
  unfolding chosen give stop
  chooses t nothing = stops _
  chooses t (some b) = gives _

  info_definition_moves : {e e' p : ℕ} → Ends win e e' → lo ≤ p → (now : Option ℕ) (have : ℕ)
      → Keeps win e e' p (info_definition now have)
  unfolding info_definition ◌>>=◌ give
  info_definition_moves t h now have =
      so _ (chooses t now) (λ b q g _.
      so _ (define_moves t (omega arith)) (λ a q₁ g₁ _.
      so _ (requires t _ _ _) (λ _ q₂ g₂ _. gives _)))

  set_bid_moves : {e e' p : ℕ} → Ends win e e' → lo ≤ p → (hides : Hides) (n : ℕ) → Keeps win e e' p (set_bid hides n)
  unfolding set_bid readable ◌>>=◌ give
  set_bid_moves t h hides n =
      so _ (requires t _ _ _) (λ _ q g _.
      so _ (readables hides _ (vbrs t (omega arith) 6)) (λ b q₁ g₁ _.
      so _ (requires t _ _ _) (λ _ q₂ g₂ _. gives _)))

  block_name_moves : {e e' p : ℕ} → Ends win e e' → lo ≤ p → (now : Option ℕ) (n : ℕ) → Keeps win e e' p (block_name now n)
  unfolding block_name ◌>>=◌ give
  block_name_moves t h now n = so _ (chooses t now) (λ b q g _. so _ (letters_move t n (omega arith)) (λ _ q₁ g₁ _. gives _))

  record_name_moves : {e e' p : ℕ} → Ends win e e' → lo ≤ p → (hides : Hides) (now : Option ℕ) (n : ℕ)
      → Keeps win e e' p (record_name hides now n)
  unfolding record_name readable ◌>>=◌ give
  record_name_moves t h hides now n =
      so _ (chooses t now) (λ b q g _.
      so _ (requires t _ _ _) (λ _ q₁ g₁ _.
      so _ (readables hides _ (vbrs t (omega arith) 6)) (λ v q₂ g₂ _.
      so _ (letters_move t (n - 1) (omega arith)) (λ _ q₃ g₃ _. gives _))))

  info_record_moves : {e e' p : ℕ} → Ends win e e' → lo ≤ p → (hides : Hides) (now : Option ℕ)
      → Keeps win e e' p (info_record hides now)
  unfolding info_record ◌>>=◌ stop
  info_record_moves t h hides now = so _ (vbrs t h 6) (λ c q g _. so _ (vbrs t (omega arith) 6) (λ n q₁ g₁ _.
      branch t _ _ _ _ _ (set_bid_moves t (omega arith) hides n) (
      branch t _ _ _ _ _ (block_name_moves t (omega arith) now n) (
      branch t _ _ _ _ _ (record_name_moves t (omega arith) hides now n) (stops _)))))

  info_numbered_moves : {e e' p : ℕ} → Ends win e e' → lo ≤ p → (hides : Hides) (now : Option ℕ) (have n : ℕ)
      → Keeps win e e' p (info_numbered hides now have n)
  unfolding info_numbered ◌>>=◌ give stop
  info_numbered_moves t h hides now have n =
      branch t _ _ _ _ _ (so _ (aligns t h) (λ _ q g _. gives _)) (
      branch t _ _ _ _ _ (stops _) (
      branch t _ _ _ _ _ (so _ (info_definition_moves t h now have) (λ x q g _. gives _)) (
      branch t _ _ _ _ _ (so _ (info_record_moves t h hides now) (λ b q g _. gives _)) (stops _))))

  -- it takes a bit at least
  pub info_item_moves : {e e' p : ℕ} → Ends win e e' → lo ≤ p → (hides : Hides) (w : ℕ) (now : Option ℕ) (have : ℕ)
      → Tells win e e' p (λ _ q. (p < q) × (p < limit s e)) (info_item hides w now have)
  unfolding info_item ◌>>=◌
  info_item_moves t h hides w now have = so _ (numbers_at t h w) (λ n q g z.
      knows (info_numbered_moves t (omega arith) hides now have n) (λ _ r g₁ _. omega arith))

  info_on_moves : {e e' p : ℕ} → Ends win e e' → (x : InfoItem) (now : Option ℕ) (have : ℕ)
      (m m' : Option ℕ → ℕ → Reader Refusal (List Shared))
      → ((b : Option ℕ) (n : ℕ) → Runs win e e' p (Unit {0}) AnyPlace Free same (m b n) (m' b n))
      → Runs win e e' p (Unit {0}) AnyPlace Free same (info_on x now have m) (info_on x now have m')
  unfolding info_on ◌>>=◌ give
  info_on_moves t info_end now have m m' w = gives _
  info_on_moves t (info_adds x) now have m m' w = so _ (w now (have + 1)) (λ xs q g _. gives _)
  info_on_moves t (info_now b) now have m m' w = w b have

  pub info_moves : {e e' : ℕ} → Ends win e e' → (k w : ℕ) (now : Option ℕ) (have : ℕ) {p : ℕ} → lo ≤ p
      → Keeps win e e' p (info k w now have)
  unfolding info placed ◌>>=◌ stop
  info_moves t zero w now have h = stops _
  info_moves t (suc k) w now have h = so _ (here_moves t) (λ from q g _.
      so _ (places _ _ (info_item_moves t (omega arith) every w now have)) (λ x q₁ g₁ _.
      info_on_moves t x now have _ _ (λ b n. info_moves t k w b n (omega arith))))
