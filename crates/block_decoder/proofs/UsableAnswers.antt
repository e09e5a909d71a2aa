-- Which records have a usable answer; the usable answers of a session: their indices ascend, and their payloads are
-- bytes, one for each column.
use Rattle.std.proofs.Common.{◌≡◌, ◌≢◌, ℕ, ◌+◌, ◌*◌, ◌<◌, ◌≤◌, ◌&&◌, Bool, true, false, cond, nat_eq, List, [], ◌∷◌, ◌++◌, length, get_or, take, drop, All, AllPairs, Option, None, Some, option_and_then, IfSome, bytes_eq, refl, sym, ap, ap₂, subst, ◌∙◌, arith, eqb-true}
use Rattle.std.proofs.Math.Seq.{take-append_seam, drop-append_seam}
use Rattle.std.proofs.lemmas.Bool.{eq-eqb, and_parts}
use Rattle.std.proofs.lemmas.List.{length-append, length-drop}
use Rattle.std.proofs.lemmas.List.Elements.{All-nil, All-cons, All-head, All-tail, All-drop}
use Rattle.std.proofs.lemmas.List.Kept.{AllPairs-cons}
use Rattle.std.proofs.lemmas.Option.{IfSome_then}
use Rattle.std.proofs.lemmas.Slice.Eq.{bytes_eq-Decides}
use Rattle.wire_frames.specs.Sizes.{answer_len}
use Rattle.wire_frames.specs.declared.sizes.TheConstants.{FRAME_HEADER_LEN}
use Rattle.wire_frames.specs.declared.header.QueryHeader.{QueryHeader}
use Rattle.wire_frames.specs.declared.session.SessionParams.{SessionParams}
use Rattle.wire_frames.specs.Header.{answer_header}
use Rattle.wire_frames.specs.Answer.{block_len, Answer, answers, answers_from, asked, usable, with_answer}
use Rattle.wire_frames.specs.Session.{Transcript, Fits}
use Rattle.block_decoder.specs.Agreed.{Filled, HasColumns}

-- ---- one answer

-- what there is under a test is there where it passes
when_some : (t : Bool) (x b : List ℕ) → cond t (Some x) None ≡ Some b → (t ≡ true) × (x ≡ b)
when_some true x b e = (refl, cc)
when_some false x b e = absurd (cc)

-- a usable answer's payload stands behind its header
pub usable_payload : (bytes payload : List ℕ) (q : QueryHeader) → usable bytes q ≡ Some payload → drop FRAME_HEADER_LEN bytes ≡ payload
usable_payload bytes payload q e = (when_some (bytes_eq (take FRAME_HEADER_LEN bytes) (answer_header q 0) && nat_eq (length bytes) (answer_len q.count q.s)) (drop FRAME_HEADER_LEN bytes) payload e).1

-- a usable answer has a byte for each column
pub usable_size : (bytes payload : List ℕ) (q : QueryHeader) → usable bytes q ≡ Some payload → length payload ≡ q.count * q.s
usable_size bytes payload q e =
    let parts = when_some (bytes_eq (take FRAME_HEADER_LEN bytes) (answer_header q 0) && nat_eq (length bytes) (answer_len q.count q.s)) (drop FRAME_HEADER_LEN bytes) payload e in
    let tests = and_parts (bytes_eq (take FRAME_HEADER_LEN bytes) (answer_header q 0)) (nat_eq (length bytes) (answer_len q.count q.s)) parts.0 in
    let size = eqb-true (length bytes) (answer_len q.count q.s) tests.1 in
    let rest = length-drop FRAME_HEADER_LEN bytes in
    let same = ap length parts.1 in
    omega (arith, size, rest, same)

-- the frame of status 0 with a byte for each column is usable
pub usable_frame : (payload : List ℕ) (q : QueryHeader) → length payload ≡ q.count * q.s → usable (answer_header q 0 ++ payload) q ≡ Some payload
usable_frame payload q size =
    let header = answer_header q 0 in
    let whole = length-append header payload in
    let front : take FRAME_HEADER_LEN (header ++ payload) ≡ header = take-append_seam header payload in
    let rest : drop FRAME_HEADER_LEN (header ++ payload) ≡ payload = drop-append_seam header payload in
    let first : bytes_eq (take FRAME_HEADER_LEN (header ++ payload)) header ≡ true = (bytes_eq-Decides (take FRAME_HEADER_LEN (header ++ payload)) header).1 front in
    let second : nat_eq (length (header ++ payload)) (answer_len q.count q.s) ≡ true = eq-eqb (length (header ++ payload)) (answer_len q.count q.s) (omega (arith, whole, size)) in
    ap (λ t. cond t (Some (drop FRAME_HEADER_LEN (header ++ payload))) None) (ap₂ ◌&&◌ first second) ∙ ap Some rest

-- the first record's answer in front of the others
pub answers_from-cons : (i : ℕ) (p : SessionParams) (x : Option (List ℕ)) (records : List (Option (List ℕ)))
    → answers_from i p (x ∷ records) ≡ with_answer i (option_and_then (λ bytes. usable bytes (asked p i)) x) (answers_from (i + 1) p records)
answers_from-cons i p None records = refl
answers_from-cons i p (Some bytes) records = refl

-- ---- all answers

-- payloads of so many bytes, from ascending indices between two bounds
pub record AreInOrder (width low high : ℕ) (answers : List Answer) : Type 0 where
  pub filled : Filled width answers
  pub bytes : All (λ a. All (λ b. b < 256) a.payload) answers
  pub from : All (λ a. low ≤ a.index) answers
  pub below : All (λ a. a.index < high) answers
  pub ascending : AllPairs (λ a b. a.index < b.index) answers

-- no answers are in order
in_order_none : (width low high : ℕ) → AreInOrder width low high []
in_order_none width low high = record {
  filled = All-nil (λ (a : Answer). length a.payload ≡ width);
  bytes = All-nil (λ (a : Answer). All (λ b. b < 256) a.payload);
  from = All-nil (λ (a : Answer). low ≤ a.index);
  below = All-nil (λ (a : Answer). a.index < high);
  ascending = λ i j d l m. absurd (omega arith);
}

-- one more server in front, whether its answer is usable or not
in_order_with : (width i high : ℕ) (payload : Option (List ℕ)) (rest : List Answer) → i < high → IfSome payload (λ p. (length p ≡ width) × All (λ b. b < 256) p) → AreInOrder width (i + 1) high rest
    → AreInOrder width i high (with_answer i payload rest)
in_order_with width i high None rest below is order = record {
  filled = order.filled;
  bytes = order.bytes;
  from = λ k d l. let f = order.from k d l in omega (arith, f);
  below = order.below;
  ascending = order.ascending;
}
in_order_with width i high (Some payload) rest below is order =
    let one : Answer = record { index = i; payload = payload } in
    record {
      filled = All-cons (λ (a : Answer). length a.payload ≡ width) one rest is.0 order.filled;
      bytes = All-cons (λ (a : Answer). All (λ b. b < 256) a.payload) one rest is.1 order.bytes;
      from = All-cons (λ (a : Answer). i ≤ a.index) one rest (omega arith) (λ k d l. let f = order.from k d l in omega (arith, f));
      below = All-cons (λ (a : Answer). a.index < high) one rest below order.below;
      ascending = AllPairs-cons (λ (a b : Answer). a.index < b.index) one rest (λ k d l. let f = order.from k d l in omega (arith, f)) order.ascending;
    }

-- a usable payload of bytes has bytes
bytes_if_usable : (bytes payload : List ℕ) (q : QueryHeader) → All (λ b. b < 256) bytes → usable bytes q ≡ Some payload → All (λ b. b < 256) payload
bytes_if_usable bytes payload q small e = subst (All (λ b. b < 256)) (usable_payload bytes payload q e) (All-drop (λ b. b < 256) FRAME_HEADER_LEN bytes small)

-- a record of bytes has a usable payload of bytes, where it has one
payload_is : (x : Option (List ℕ)) (payload : List ℕ) (q : QueryHeader) → IfSome x (All (λ b. b < 256)) → option_and_then (λ bytes. usable bytes q) x ≡ Some payload
    → (length payload ≡ q.count * q.s) × All (λ b. b < 256) payload
payload_is None payload q small e = absurd (cc)
payload_is (Some bytes) payload q small e = (usable_size bytes payload q e, bytes_if_usable bytes payload q small e)

-- what holds of whatever there is holds where there is something
if_is : {X : Type 0} (o : Option X) (P : X → Type 0) → ((x : X) → o ≡ Some x → P x) → IfSome o P
if_is None P h = tt
if_is (Some x) P h = h x refl

-- so the usable answers of records are in order
in_order_from : (records : List (Option (List ℕ))) (i : ℕ) (p : SessionParams) → All (λ r. IfSome r (All (λ b. b < 256))) records
    → AreInOrder (block_len p) i (i + length records) (answers_from i p records)
in_order_from [] i p small = in_order_none (block_len p) i (i + 0)
in_order_from (x ∷ records) i p small =
    let Record : Option (List ℕ) → Type 0 = λ r. IfSome r (All (λ b. b < 256)) in
    let payload = option_and_then (λ bytes. usable bytes (asked p i)) x in
    let Payload : List ℕ → Type 0 = λ y. (length y ≡ block_len p) × All (λ b. b < 256) y in
    let last : i + 1 + length records ≡ i + length (x ∷ records) = omega arith in
    subst (AreInOrder (block_len p) i (i + length (x ∷ records))) (sym (answers_from-cons i p x records))
    (in_order_with (block_len p) i (i + length (x ∷ records)) payload (answers_from (i + 1) p records) (omega arith)
    (if_is payload Payload (λ y e. payload_is x y (asked p i) (All-head Record x records small) e))
    (subst (λ high. AreInOrder (block_len p) (i + 1) high (answers_from (i + 1) p records)) last (in_order_from records (i + 1) p (All-tail Record x records small))))

-- the usable answers stand in the order of their indices, which are those of the session's servers
pub answers_in_order : (session : Transcript) → All (λ r. IfSome r (All (λ b. b < 256))) session.records
    → AreInOrder (block_len session.params) 1 (1 + length session.records) (answers session)
answers_in_order session small = in_order_from session.records 1 session.params small

-- so they have columns
pub columns-answers : (session : Transcript) → length session.records ≤ 255 → All (λ r. IfSome r (All (λ b. b < 256))) session.records → HasColumns (block_len session.params) (answers session)
columns-answers session few small =
    let order = answers_in_order session small in
    record {
      filled = order.filled;
      bytes = order.bytes;
      indices = λ i d l. let b = order.below i d l in omega (arith, b, few);
      different = λ i j d before within same. let r = order.ascending i j d before within in omega (arith, r, same);
    }

-- and none is of server 0
pub nonzero-answers : (session : Transcript) → All (λ r. IfSome r (All (λ b. b < 256))) session.records → All (λ a. a.index ≢ 0) (answers session)
nonzero-answers session small = λ i d l is.
    let from = (answers_in_order session small).from i d l in
    omega (arith, from, is)

-- records that fit are bytes
pub bytes_from_fits : (most : ℕ) (records : List (Option (List ℕ))) → All (Fits most) records → All (λ r. IfSome r (All (λ b. b < 256))) records
bytes_from_fits most records fits = λ i d l. IfSome_then (get_or records i d) (fits i d l) (λ bytes fit. fit.1)

-- there are no more usable answers than records
pub length-answers_from-le : (i : ℕ) (p : SessionParams) (records : List (Option (List ℕ))) → length (answers_from i p records) ≤ length records
length-answers_from-le i p [] = omega arith
length-answers_from-le i p (None ∷ records) = omega (arith, length-answers_from-le (i + 1) p records)
length-answers_from-le i p (Some bytes ∷ records) = omega (arith, length-answers_from-le (i + 1) p records, at_most_one (usable bytes (asked p i)))
  where
    at_most_one : (o : Option (List ℕ)) → length (with_answer i o (answers_from (i + 1) p records)) ≤ length (answers_from (i + 1) p records) + 1
    at_most_one None = omega arith
    at_most_one (Some payload) = omega arith
