-- What every run of a definition, of a lookup and of BLOCKINFO obeys. Assumes nothing.
use mathlib.Core.Bool.{◌&&◌}
use mathlib.Core.List.{List, [], ◌∷◌}
use mathlib.Core.Option.{Option, none as nothing, some}
use Prim.Native.Nat.{ℕ, zero, suc, ◌+◌, ◌-◌, ◌^◌, ◌≤◌, ◌<◌}
use native.Mathlib.Omega.{arith}
use lib.Dec.{ltb, leb, eqb}
use lib.ListN.{length}
use borrow.Author.Tests.{ltb-true}
use Rattle.terms.specs.Limits.{max_operands, max_shared}
use Rattle.terms.specs.Refusals.{No, no, Refusal}
use Rattle.bits.specs.Reader.{Reader, Answer, got, refused, when◌then◌else◌}
use Rattle.bits.specs.Bits.{in_range}
use Rattle.bits.proofs.Answers.{Known, KnownAt, Has, Answers, on, gives, stops, branch, weaker, requires, heres, places, aligns, reads, vbrs}
use Rattle.abbrev.specs.Abbrev.{Abbrev, Operand, scalar, is_array, is_blob, width, kind, operand, element, rest_of, operands, define, number_of, look_up}
use Rattle.abbrev.specs.BlockInfo.{Shared, every, or_else, readable, chosen, info_definition, set_bid, letters, block_name, record_name, info_record, InfoItem, info_end, info_adds, info_now, info_numbered, info_item, info_on, info}

-- ---- definitions
widths : {s : List ℕ} {e p : ℕ} → Answers width s e p (λ w q. Unit {0}) Known
unfolding width Known
widths = on _ (vbrs 5) (λ w q l h. on _ (requires (in_range 1 32 w) _ tt) (λ u r m g. gives _ tt))

kinds : (left k : ℕ) {s : List ℕ} {e p : ℕ} → Answers (kind left k) s e p (λ x q. Unit {0}) Known
unfolding kind Known
kinds left k =
    branch (eqb k 1) (λ i. on _ widths (λ w q l h. gives _ tt)) (λ i.
    branch (eqb k 2) (λ i. on _ widths (λ w q l h. gives _ tt)) (λ i.
    branch (eqb k 3 && eqb left 1) (λ i. gives _ tt) (λ i.
    branch (eqb k 4) (λ i. gives _ tt) (λ i.
    branch (eqb k 5 && eqb left 0) (λ i. gives _ tt) (λ i. stops _ tt)))))

operand_answers : (left : ℕ) {s : List ℕ} {e p : ℕ} → Answers (operand left) s e p (λ x q. Unit {0}) Known
unfolding operand
operand_answers left =
    on _ (reads 1) (λ b q l h. branch (eqb b 1) (λ i. on _ (vbrs 8) (λ v r m g. gives _ tt)) (λ i. on _ (reads 3) (λ k r m g. kinds left k)))

elements : (x : Operand) {s : List ℕ} {e p : ℕ} → Answers (element x) s e p (λ a q. Unit {0}) Known
unfolding element Known
elements (scalar k) = gives _ tt
elements is_array = stops _ tt
elements is_blob = stops _ tt

rests : (x : Operand) {more : Reader No Abbrev} {s : List ℕ} {e p : ℕ} → Answers more s e p (λ a q. Unit {0}) Known
    → Answers (rest_of x more) s e p (λ a q. Unit {0}) Known
unfolding rest_of
rests (scalar k) more = on _ more (λ a q l h. gives _ tt)
rests is_array more = on _ (operand_answers 0) (λ x q l h. elements x)
rests is_blob more = gives _ tt

operands_answers : (n : ℕ) {s : List ℕ} {e p : ℕ} → Answers (operands n) s e p (λ a q. Unit {0}) Known
unfolding operands
operands_answers zero = gives _ tt
operands_answers (suc n) = on _ (operand_answers n) (λ x q l h. rests x (operands_answers n))

pub definitions : {s : List ℕ} {e p : ℕ} → Answers define s e p (λ a q. Unit {0}) Known
unfolding define Known
definitions = on _ (vbrs 5) (λ n q l h. on _ (requires (leb n max_operands) _ tt) (λ u r m g. operands_answers n))

-- ---- numbers: an item's takes a bit at least
pub numbers : (w : ℕ) {s : List ℕ} {e p : ℕ} → Answers (number_of w) s e p (λ n q. p < q) Known
unfolding number_of Known
numbers w = on _ (requires (in_range 1 32 w) _ tt) (λ u q l g. weaker (reads w) (λ v r m h. omega arith))

pub lookups : (r : No) (i : ℕ) (xs : List Abbrev) {s : List ℕ} {e p : ℕ} → Known r → Answers (look_up r i xs) s e p (λ a q. Unit {0}) Known
unfolding look_up
lookups r i [] k = stops _ k
lookups r zero (a ∷ xs) k = gives _ tt
lookups r (suc i) (a ∷ xs) k = lookups r i xs k

-- ---- BLOCKINFO
readables : {A : Type 0} (r : No) {m : Reader No A} {s : List ℕ} {e p : ℕ} {K : A → ℕ → Type 0} → Known r → Answers m s e p K Known
    → Answers (readable every r m) s e p K Known
unfolding readable or_else every when◌then◌else◌ Has
readables {A} r {m} {s} {e} {p} {K} k x = record { has = go (m s e p) x.has }
  where
    go : (z : Answer No A) → Has s e p K Known z → Has s e p K Known (or_else every r z)
    go (got a q) h = h
    go (refused (no n u v)) h = k

choices : (now : Option ℕ) {s : List ℕ} {e p : ℕ} → Answers (chosen now) s e p (λ b q. Unit {0}) Known
unfolding chosen Known
choices nothing = stops _ tt
choices (some b) = gives _ tt

info_definitions : (now : Option ℕ) (have : ℕ) {s : List ℕ} {e p : ℕ} → Answers (info_definition now have) s e p (λ x q. have < max_shared) Known
unfolding info_definition Known
info_definitions now have =
    on _ (choices now) (λ b q l h. on _ definitions (λ a r m g. on _ (requires (ltb have max_shared) _ tt) (λ u t n k. gives _ (ltb-true _ _ k.0))))

set_bids : (n : ℕ) {s : List ℕ} {e p : ℕ} → Answers (set_bid every n) s e p (λ b q. Unit {0}) Known
unfolding set_bid Known
set_bids n =
    on _ (requires (eqb n 1) _ tt) (λ u q l g. on _ (readables _ tt (vbrs 6)) (λ b r m h. on _ (requires (ltb b (2 ^ 32)) _ tt) (λ v t k i. gives _ tt)))

letters_answers : (n : ℕ) {s : List ℕ} {e p : ℕ} → Answers (letters n) s e p (λ u q. Unit {0}) Known
unfolding letters Known
letters_answers zero = gives _ tt
letters_answers (suc n) = on _ (vbrs 6) (λ v q l h. on _ (requires (leb v 255) _ tt) (λ u r m g. letters_answers n))

block_names : (now : Option ℕ) (n : ℕ) {s : List ℕ} {e p : ℕ} → Answers (block_name now n) s e p (λ b q. Unit {0}) Known
unfolding block_name
block_names now n = on _ (choices now) (λ b q l h. on _ (letters_answers n) (λ u r m g. gives _ tt))

record_names : (now : Option ℕ) (n : ℕ) {s : List ℕ} {e p : ℕ} → Answers (record_name every now n) s e p (λ b q. Unit {0}) Known
unfolding record_name Known
record_names now n =
    on _ (choices now) (λ b q l h. on _ (requires (ltb 0 n) _ tt) (λ u r m g. on _ (readables _ tt (vbrs 6)) (λ v t k i. on _ (letters_answers (n - 1)) (λ w y o j. gives _ tt))))

info_records : (now : Option ℕ) {s : List ℕ} {e p : ℕ} → Answers (info_record every now) s e p (λ b q. Unit {0}) Known
unfolding info_record Known
info_records now =
    on _ (vbrs 6) (λ code q l h. on _ (vbrs 6) (λ n r m g.
    branch (eqb code 1) (λ i. set_bids n) (λ i.
    branch (eqb code 2) (λ i. block_names now n) (λ i.
    branch (eqb code 3) (λ i. record_names now n) (λ i. stops _ tt)))))

-- an item adds a shared abbreviation only where there is room
unfoldable pub InfoKeeps : ℕ → InfoItem → Type 0
InfoKeeps have info_end = Unit {0}
InfoKeeps have (info_adds x) = have < max_shared
InfoKeeps have (info_now b) = Unit {0}

pub info_items : (w : ℕ) (now : Option ℕ) (have : ℕ) {s : List ℕ} {e p : ℕ} → Answers (info_item every w now have) s e p (λ x q. (p < q) × InfoKeeps have x) Known
unfolding info_item info_numbered InfoKeeps Known
info_items w now have =
    on _ (numbers w) (λ n q l h.
    branch (eqb n 0) (λ i. on _ aligns (λ u r m g. gives _ (omega arith, tt))) (λ i.
    branch (eqb n 1) (λ i. stops _ tt) (λ i.
    branch (eqb n 2) (λ i. on _ (info_definitions now have) (λ x r m g. gives _ (omega arith, g))) (λ i.
    branch (eqb n 3) (λ i. on _ (info_records now) (λ b r m g. gives _ (omega arith, tt))) (λ i. stops _ tt)))))

-- with what it adds the shared abbreviations are no more than there is room for, if those before it were
abbrev pub Shares : ℕ → List Shared → Type 0
Shares have xs = have ≤ max_shared → have + length xs ≤ max_shared

abbrev Adds : (Option ℕ → ℕ → Reader Refusal (List Shared)) → Type 0
Adds more = (now : Option ℕ) (have : ℕ) (s : List ℕ) (e p : ℕ) → Answers (more now have) s e p (λ xs q. Shares have xs) KnownAt

info_ons : (x : InfoItem) (now : Option ℕ) (have : ℕ) (more : Option ℕ → ℕ → Reader Refusal (List Shared)) {s : List ℕ} {e p : ℕ}
    → InfoKeeps have x → Adds more → Answers (info_on x now have more) s e p (λ xs q. Shares have xs) KnownAt
unfolding info_on InfoKeeps
info_ons info_end now have more i y = gives _ (λ h. omega arith)
info_ons (info_adds x) now have more i y =
    on _ (y now (have + 1) _ _ _) (λ xs r m g. gives _ (λ h. let n : have + 1 + length xs ≤ max_shared = g (omega arith) in omega arith))
info_ons (info_now b) now have more i y = y b have _ _ _

pub infos : (k w : ℕ) (now : Option ℕ) (have : ℕ) (s : List ℕ) (e p : ℕ) → Answers (info k w now have) s e p (λ xs q. Shares have xs) KnownAt
unfolding info KnownAt
infos zero w now have s e p = stops _ tt
infos (suc k) w now have s e p =
    on _ heres (λ from q l g. on _ (places from (info_items w now have)) (λ x r m i. info_ons x now have (info k w) i.1 (infos k w)))
