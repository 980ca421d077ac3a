-- What every run of a record, an item and a block obeys: it goes forward, stays within its end, fits the rooms, stands where its event will say, and
-- refuses by a walk's number. Assumes nothing.
use mathlib.Core.Path.{◌≡◌, refl, sym, ap, ◌∙◌}
use mathlib.Core.Bool.{Bool, true, false}
use mathlib.Core.List.{List, [], ◌∷◌}
use mathlib.Core.Option.{Option, none as nothing, some}
use Prim.Native.Nat.{ℕ, zero, suc, ◌+◌, ◌-◌, ◌*◌, ◌/◌, ◌%◌, ◌^◌, ◌≤◌, ◌<◌}
use native.Mathlib.Omega.{arith}
use lib.Dec.{ltb, leb, eqb}
use lib.ListN.{length, length-append}
use borrow.Author.Tests.{ltb-true, leb-true}
use Rattle.terms.specs.Limits.{max_local}
use Rattle.terms.specs.Refusals.{Refusal, buffer_overflow}
use Rattle.bits.specs.Reader.{Reader, Answer, got, refused, onward, require}
use Rattle.bits.specs.Bits.{limit}
use Rattle.bits.proofs.Laws.{limit_in}
use Rattle.bits.proofs.Answers.{Known, KnownAt, Has, Answers, on, gives, stops, branch, turned, weaker, requires, heres, places, aligns, reads, vbrs}
use Rattle.bitcode.specs.declared.ScalarOperand.{ScalarOperand}
use Rattle.bitcode.specs.declared.ScalarOperand.TheVariants.{Literal, Fixed, Vbr, Char6}
use Rattle.bitcode.proofs.Answers.{scalars}
use Rattle.abbrev.specs.Abbrev.{Payload, none, blob, array, Abbrev, abbreviation}
use Rattle.abbrev.proofs.Answers.{definitions, numbers, lookups, infos}
use Rattle.walk.specs.Record.{blob_load, stored, values, repeated, octets, bytes_if, bytes, Part, whole, listing, blobbing, payload_part, scalar_part, unabbreviated, array_kind, rest, load_list, record_list}
use Rattle.walk.specs.Piece.{Head, head, Piece, Pieces, counted, all_counted, store, all_store, State, after, entered}
use Rattle.walk.specs.Item.{Context, Begun, closing, heads, defines, records, heading, used, begun, begin, Opening, ended, defined, recorded, headed, event_room, leave_room, fits, finish, at_end, opening, within, Pass, Sub, body_of, complete, item, going_on, items, nested}
use Rattle.walk.proofs.Blobs.{octets_length}
use Rattle.walk.proofs.Contents.{LoadAt, RecordAt, Placed, AllPlaced}

-- ---- records: no more operands than there is room for
storeds : (left : ℕ) (k : ScalarOperand) {s : List ℕ} {e p : ℕ} → Answers (stored left k) s e p (λ v q. 0 < left) Known
unfolding stored Known
storeds left k = on _ (requires (ltb 0 left) _ tt) (λ u q l g. weaker (scalars k) (λ v r m h. ltb-true _ _ g.0))

values_answers : (left : ℕ) (ks : List ScalarOperand) {s : List ℕ} {e p : ℕ} → Answers (values left ks) s e p (λ vs q. length vs ≤ left) Known
unfolding values
values_answers left [] = gives _ (omega arith)
values_answers left (k ∷ ks) = on _ (storeds left k) (λ v q l h. on _ (values_answers (left - 1) ks) (λ vs r m g. gives _ (omega arith)))

repeats : (left n : ℕ) (k : ScalarOperand) {s : List ℕ} {e p : ℕ} → Answers (repeated left n k) s e p (λ vs q. length vs ≤ left) Known
unfolding repeated
repeats left zero k = gives _ (omega arith)
repeats left (suc n) k = on _ (storeds left k) (λ v q l h. on _ (repeats (left - 1) n k) (λ vs r m g. gives _ (omega arith)))

-- a blob that begins on a byte stands there
unfoldable ByteRun : List ℕ → ℕ → List ℕ → Type 0
ByteRun s p bs = (bs ≡ octets s p (length bs)) × (p + 8 * length bs ≤ 8 * length s)

byte_run : (s : List ℕ) (e p n : ℕ) → p + 8 * n ≤ limit s e → ByteRun s p (octets s p n)
unfolding ByteRun
byte_run s e p n h =
    let k = octets_length s p n in
    let l = limit_in s e in
    (ap (octets s p) (sym k), omega arith)

bytes_has : (b : Bool) (s : List ℕ) (e p n : ℕ) → leb (p + 8 * n) (limit s e) ≡ b → Has s e p (λ bs q. ByteRun s p bs) Known (bytes_if b s p n)
unfolding bytes_if Has Known ByteRun
bytes_has true s e p n i = (omega arith, λ h. leb-true _ _ i, byte_run s e p n (leb-true _ _ i))
bytes_has false s e p n i = tt

byte_runs : (n : ℕ) {s : List ℕ} {e p : ℕ} → Answers (bytes n) s e p (λ bs q. ByteRun s p bs) Known
unfolding bytes
byte_runs n {s} {e} {p} = record { has = bytes_has _ s e p n refl }

-- a scalar part that fits, and the whole record then
unfoldable pub PartFits : ℕ → Part → Type 0
PartFits left (whole r) = length (record_list r) ≤ left
PartFits left (listing code vs k n) = length vs ≤ left
PartFits left (blobbing code vs n) = length vs ≤ left

-- one that ends at q in the stream s: a blob's bytes begin on a byte
unfoldable PartAt : List ℕ → Part → ℕ → Type 0
PartAt s (whole r) q = RecordAt s r
PartAt s (listing code vs k n) q = Unit {0}
PartAt s (blobbing code vs n) q = q % 8 ≡ 0

abbrev PartGot : List ℕ → ℕ → Part → ℕ → Type 0
PartGot s left x q = PartFits left x × PartAt s x q

payloads : (left code : ℕ) (vs : List ℕ) (t : Payload) {s : List ℕ} {e p : ℕ} → length vs ≤ left → Answers (payload_part code vs t) s e p (PartGot s left) Known
unfolding payload_part PartFits PartAt RecordAt LoadAt record_list load_list
payloads left code vs none h = gives _ (rw (length-append vs []) (omega arith), tt)
payloads left code vs (array k) h = on _ (vbrs 6) (λ n q l g. gives _ (h, tt))
payloads left code vs blob h = on _ (vbrs 6) (λ n q l g. on _ aligns (λ u r m i. gives _ (h, omega (arith, i.0))))

scalar_parts : (left : ℕ) (a : Abbrev) {s : List ℕ} {e p : ℕ} → Answers (scalar_part left a) s e p (PartGot s left) Known
unfolding scalar_part Known
scalar_parts left (abbreviation [] t) = stops _ tt
scalar_parts left (abbreviation (k ∷ ks) t) = on _ (scalars k) (λ code q l h. on _ (values_answers left ks) (λ vs r m g. payloads left code vs t g))

unabbreviateds : (left : ℕ) {s : List ℕ} {e p : ℕ} → Answers (unabbreviated left) s e p (PartGot s left) Known
unfolding unabbreviated PartFits PartAt RecordAt LoadAt record_list load_list
unabbreviateds left =
    on _ (vbrs 6) (λ code q l h. on _ (vbrs 6) (λ n r m g. on _ (repeats left n (Vbr 6)) (λ vs t k i. gives _ (rw (length-append vs []) (omega arith), tt))))

-- an array's kind is not a blob's
pub array_kinds : (k : ScalarOperand) → (0 < array_kind k) × (array_kind k < 3)
unfolding array_kind
array_kinds (Literal v) = omega arith
array_kinds (Fixed w) = omega arith
array_kinds (Vbr w) = omega arith
array_kinds Char6 = omega arith

blob_at : (s bs : List ℕ) (p a q : ℕ) → p % 8 ≡ 0 → (a ≡ p) × (q ≡ p) → ByteRun s q bs → LoadAt s (blob_load (a / 8) bs)
unfolding ByteRun LoadAt
blob_at s bs p a q h (i, j) (k, l) =
    let e : q ≡ 8 * (a / 8) = omega arith in
    (k ∙ ap (λ x. octets s x (length bs)) e, omega arith)

rests : (left : ℕ) (x : Part) {s : List ℕ} {e p : ℕ} → PartGot s left x p → Answers (rest left x) s e p (λ r q. (length (record_list r) ≤ left) × RecordAt s r) Known
unfolding rest PartFits PartAt RecordAt LoadAt record_list load_list
rests left (whole r) h = gives _ h
rests left (listing code vs k n) h =
    on _ (repeats (left - length vs) n k) (λ xs q l g. gives _ (rw (length-append vs xs) (omega (arith, h.0)), (array_kinds k).1))
rests left (blobbing code vs n) {s} {e} {p} h =
    on _ heres (λ a q l g. on _ (byte_runs n) (λ bs r m i. on _ aligns (λ u t k j.
    gives _ (rw (length-append vs []) (omega (arith, h.0)), blob_at s bs p a q h.1 g i))))

-- ---- items
headings : {s : List ℕ} {e p : ℕ} → Answers heading s e p (λ h q. Unit {0}) Known
unfolding heading Known
headings = on _ (vbrs 8) (λ b q l h. on _ (requires (ltb b (2 ^ 32)) _ tt) (λ u r m g. on _ (vbrs 4) (λ w t k i. on _ aligns (λ v y o j. on _ (reads 32) (λ n z x c. on _ heres (λ a d f e'. gives _ tt))))))

uses : (c : Context) (st : State) (n : ℕ) {s : List ℕ} {e p : ℕ} → Answers (used c st n) s e p (PartGot s st.left) Known
unfolding used Known
uses c st n = on _ (lookups _ _ _ tt) (λ a q l h. scalar_parts st.left a)

unfoldable BegunFits : List ℕ → State → Begun → ℕ → Type 0
BegunFits s st closing q = Unit {0}
BegunFits s st (heads h) q = Unit {0}
BegunFits s st (defines a) q = Unit {0}
BegunFits s st (records x) q = PartGot s st.left x q

begins : (c : Context) (st : State) {s : List ℕ} {e p : ℕ} → Answers (begin c st) s e p (λ x q. (p < q) × BegunFits s st x q) Known
unfolding begin begun BegunFits
begins c st =
    on _ (numbers c.wide) (λ n q l h.
    branch (eqb n 0) (λ i. on _ aligns (λ u r m g. gives _ (omega arith, tt))) (λ i.
    branch (eqb n 1) (λ i. on _ headings (λ a r m g. gives _ (omega arith, tt))) (λ i.
    branch (eqb n 2) (λ i. on _ definitions (λ a r m g. gives _ (omega arith, tt))) (λ i.
    branch (eqb n 3) (λ i. on _ (unabbreviateds st.left) (λ x r m g. gives _ (omega arith, g))) (λ i.
    on _ (uses c st n) (λ x r m g. gives _ (omega arith, g)))))))

-- the leave event that a block's end wants
unfoldable pub tail : Bool → ℕ
tail true = 0
tail false = 1

rooms : (from : ℕ) (st : State) {s : List ℕ} {e p : ℕ} → Answers (event_room from st) s e p (λ u q. (0 < st.room) × (q ≡ p)) KnownAt
unfolding event_room KnownAt
rooms from st = weaker (requires (ltb 0 st.room) _ tt) (λ u q l g. (ltb-true _ _ g.0, g.1))

leaves : (top : Bool) (from : ℕ) (st : State) {s : List ℕ} {e p : ℕ} → Answers (leave_room top from st) s e p (λ u q. tail top ≤ st.room) KnownAt
unfolding leave_room tail
leaves true from st = gives _ (omega arith)
leaves false from st = weaker (rooms from st) (λ u q l g. omega (arith, g.0))

unfoldable pub size_of : Head → ℕ
size_of (head b w at n) = n

fit_has : (b : Bool) (s : List ℕ) (e p n : ℕ) → leb (p + 8 * n) (limit s e) ≡ b
    → Has s e p (λ u q. (p + 8 * n ≤ limit s e) × (q ≡ p)) Known (require b buffer_overflow s e p)
unfolding require Has Known
fit_has true s e p n i = (omega arith, λ h. h, (leb-true _ _ i, refl))
fit_has false s e p n i = tt

fitted : (h : Head) {s : List ℕ} {e p : ℕ} → Answers (fits h) s e p (λ u q. (p + 8 * size_of h ≤ limit s e) × (q ≡ p)) Known
unfolding fits size_of
fitted (head b w at n) {s} {e} {p} = record { has = fit_has _ s e p n refl }

-- an item without a block's body, in the stream s up to the bit `lim`: it takes a bit at least but at the end; it fits the rooms; a record stands where
-- it says; a body lies within the end
unfoldable pub OpenFits : List ℕ → Bool → State → ℕ → ℕ → Opening → ℕ → Type 0
OpenFits s top st lim p ended q = tail top ≤ st.room
OpenFits s top st lim p (defined a) q = p < q
OpenFits s top st lim p (recorded from b first r) q =
    (p < q) × (0 < st.room) × (length (record_list r) ≤ st.left) × (first ≡ st.fill) × RecordAt s r
OpenFits s top st lim p (headed from h) q = (p < q) × (q + 8 * size_of h ≤ lim)

finishes : (c : Context) (st : State) (from : ℕ) (x : Begun) {s : List ℕ} {e p : ℕ} (p₀ : ℕ) → p₀ < p → BegunFits s st x p
    → Answers (finish c st from x) s e p (OpenFits s c.top st (limit s e) p₀) KnownAt
unfolding finish BegunFits OpenFits KnownAt
finishes c st from closing p₀ h k = on _ (leaves c.top from st) (λ u q l g. gives _ g)
finishes c st from (heads a) p₀ h k = on _ (places from (fitted a)) (λ u q l g. gives _ (omega arith, rw g.1 g.0))
finishes c st from (defines a) p₀ h k = on _ (requires (ltb st.locals max_local) _ tt) (λ u q l g. gives _ (omega arith))
finishes c st from (records x) p₀ h k = on _ (places from (rests st.left x k)) (λ r q l g. on _ (rooms from st) (λ u t m i.
    gives _ (omega arith, i.0, g.0, refl, g.1)))

at_ends : {s : List ℕ} {e p : ℕ} → Answers at_end s e p (λ b q. q ≡ p) KnownAt
unfolding at_end Has
at_ends = record { has = (omega arith, λ h. h, refl) }

pub top_ends : (top : Bool) (st : State) → top ≡ true → tail top ≤ st.room
unfolding tail
top_ends true st i = omega arith
top_ends false st i = absurd (let z : ◌≡◌ {A = ℕ} 0 1 = cc in omega arith)

pub openings : (c : Context) (st : State) {s : List ℕ} {e p : ℕ} → Answers (opening c st) s e p (OpenFits s c.top st (limit s e) p) KnownAt
unfolding opening KnownAt OpenFits
openings c st {s} {e} {p} =
    on _ heres (λ from q l h. on _ at_ends (λ b r m g. branch b
    (λ i. on _ (requires c.top _ tt) (λ u t n k. gives _ (top_ends c.top st k.0)))
    (λ i. on _ (places from (begins c st)) (λ x t n k. finishes c st from x p (omega (arith, k.0)) k.1))))

-- ---- a block's body
withins : {R A : Type 0} (n : ℕ) {m : Reader R A} {s : List ℕ} {e p : ℕ} {K : A → Type 0} {Q : R → Type 0} → p + 8 * n ≤ limit s e
    → Answers m s (p / 8 + n) p (λ a q. K a) Q → Answers (within n m) s e p (λ a q. K a × (q ≡ p + 8 * n)) Q
unfolding within onward Has
withins {R} {A} n {m} {s} {e} {p} {K} {Q} h x = record { has = go (m s (p / 8 + n) p) x.has }
  where
    go : (z : Answer R A) → Has s (p / 8 + n) p (λ a q. K a) Q z → Has s e p (λ a q. K a × (q ≡ p + 8 * n)) Q (onward z (λ a q. got a (p + 8 * n)))
    go (got a q) (l, i, k) = (omega arith, λ j. h, (k, refl))
    go (refused r) k = k

-- what a piece takes of the rooms; what a block holds leaves room for its enter and leave events
unfoldable pub Takes : State → Piece → Type 0
Takes st x = (counted x ≤ st.room) × (length (store x) ≤ st.left)

unfoldable pub Inner : State → Pieces → Type 0
Inner st xs = (all_counted xs + 2 ≤ st.room) × (length (all_store xs) ≤ st.left)

abbrev pub SubFits : Sub → Type 0
SubFits sub =
    (from : ℕ) (h : Head) (st : State) (s : List ℕ) (e p : ℕ) → p + 8 * size_of h ≤ limit s e
    → Answers (sub from h st) s e p (λ xs q. Inner st xs × AllPlaced s st.fill xs) KnownAt

bodies : (sub : Sub) (skips : Pass) (from : ℕ) (st : State) (h : Head) {s : List ℕ} {e p : ℕ} → SubFits sub → p + 8 * size_of h ≤ limit s e
    → Answers (body_of sub skips from st h) s e p (λ x q. Takes st x × Placed s st.fill x) KnownAt
unfolding body_of Takes Inner Placed counted store size_of
bodies sub skips from st (head b w at n) y h =
    branch (eqb b 0)
    (λ i. on _ (withins n {K = λ xs. Unit {0}} h (turned (λ k. weaker (infos k w nothing (length st.shareds) _ _ _) (λ xs q l g. tt)))) (λ xs q l g. gives _ ((omega arith, omega arith), tt)))
    (λ i. branch (skips from b)
    (λ j. on _ (rooms from st) (λ u q l g. on _ (withins n {K = λ v. Unit {0}} (rw g.1 h) (gives _ tt)) (λ v r m k. gives _ ((omega (arith, g.0), omega arith), tt))))
    (λ j. on _ (y from (head b w at n) st _ _ _ h) (λ xs q l g. gives _ ((g.0.0, g.0.1), g.1))))

-- ---- items, and the items of a block
unfoldable pub ItemFits : List ℕ → Bool → State → ℕ → Option Piece → ℕ → Type 0
ItemFits s top st p nothing q = tail top ≤ st.room
ItemFits s top st p (some x) q = (p < q) × Takes st x × Placed s st.fill x

completes : (sub : Sub) (skips : Pass) (top : Bool) (st : State) (o : Opening) {s : List ℕ} {e q : ℕ} (p : ℕ) → SubFits sub → OpenFits s top st (limit s e) p o q
    → Answers (complete sub skips st o) s e q (ItemFits s top st p) KnownAt
unfolding complete OpenFits ItemFits Takes Placed counted store
completes sub skips top st ended p y h = gives _ h
completes sub skips top st (defined a) p y h = gives _ (h, (omega arith, omega arith), tt)
completes sub skips top st (recorded from b first r) p y h = gives _ (h.0, (omega (arith, h.1), h.2), (h.3, h.4))
completes sub skips top st (headed from a) p y h = on _ (bodies sub skips from st a y h.1) (λ x r l g. gives _ (omega (arith, h.0), g.0, g.1))

pub item_answers : (sub : Sub) (skips : Pass) (c : Context) (st : State) {s : List ℕ} {e p : ℕ} → SubFits sub
    → Answers (item sub skips c st) s e p (ItemFits s c.top st p) KnownAt
unfolding item
item_answers sub skips c st {p = p} y = on _ (openings c st) (λ o q l h. completes sub skips c.top st o p y h)

unfoldable pub Holds : Bool → State → Pieces → Type 0
Holds top st xs = (all_counted xs + tail top ≤ st.room) × (length (all_store xs) ≤ st.left)

-- and they stand where they say
abbrev pub Lies : List ℕ → Bool → State → Pieces → Type 0
Lies s top st xs = Holds top st xs × AllPlaced s st.fill xs

goings : (from p : ℕ) (top : Bool) (st : State) (x : Option Piece) (more : Piece → Reader Refusal Pieces) {s : List ℕ} {e q : ℕ} → ItemFits s top st p x q
    → ((y : Piece) → Answers (more y) s e q (λ xs r. Lies s top (after y st) xs) KnownAt) → Answers (going_on from x more) s e q (λ xs r. Lies s top st xs) KnownAt
unfolding going_on ItemFits Holds Takes AllPlaced all_counted all_store after
goings from p top st nothing more h y = gives _ ((omega arith, omega arith), tt)
goings from p top st (some x) more h y =
    on _ (y x) (λ xs r l g. gives _ (
      (omega (arith, g.0.0, h.1.0), rw (length-append (store x) (all_store xs)) (omega (arith, g.0.1, h.1.1))),
      (h.2, g.1),
    ))

pub item_runs : (k : ℕ) (sub : Sub) (skips : Pass) (c : Context) (st : State) (s : List ℕ) (e p : ℕ) → SubFits sub
    → Answers (items k sub skips c st) s e p (λ xs q. Lies s c.top st xs) KnownAt
unfolding items KnownAt
item_runs zero sub skips c st s e p y = stops _ tt
item_runs (suc k) sub skips c st s e p y =
    on _ heres (λ from q l h. on _ (item_answers sub skips c st y) (λ x r m g. goings from q c.top st x _ g (λ z. item_runs k sub skips c (after z st) s e r y)))

pub nesteds : (d : ℕ) (skips : Pass) → SubFits (nested d skips)
unfolding nested Inner Holds entered tail size_of KnownAt
nesteds zero skips from (head b w at n) st s e p h = stops _ tt
nesteds (suc d) skips from (head b w at n) st s e p h =
    on _ (rooms from st) (λ u q l g.
    weaker (withins n {K = λ xs. Inner st xs × AllPlaced s st.fill xs} (rw g.1 h) (turned (λ k. weaker (item_runs k (nested d skips) skips _ (entered b st) _ _ _ (nesteds d skips))
    (λ xs r m i. ((omega (arith, g.0, i.0.0), i.0.1), i.1)))))
    (λ xs r m i. i.0))
