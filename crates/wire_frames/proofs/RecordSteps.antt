-- The steps of a reader of records.
use Rattle.std.proofs.Common.{◌≡◌, ℕ, suc, ◌+◌, ◌-◌, ◌*◌, ◌<◌, ◌≤◌, List, [], ◌∷◌, ◌++◌, length, take, min, All, refl, sym, append_assoc, subst, ap, ap₂, ◌∙◌, inl, inr, arith, length-append}
use Rattle.std.specs.Prelude.{Option, Some, None, Result, Ok, Err}
use Rattle.std.proofs.Math.Nat.{mul-le-mul_right, suc-mul}
use Rattle.std.proofs.lemmas.Bool.{cases_lt}
use Rattle.std.proofs.lemmas.List.{append-nil}
use Rattle.std.proofs.lemmas.List.Elements.{All-append, All-nil, All-push}
use Rattle.wire_frames.specs.Sizes.{answer_len}
use Rattle.wire_frames.specs.declared.records_reader.RecordsReader.{RecordsReader}
use Rattle.wire_frames.specs.declared.session.SessionParams.{SessionParams}
use Rattle.wire_frames.specs.Form.{Starts, Reads}
use Rattle.wire_frames.specs.Layout.{IsRecordHeader, record_header}
use Rattle.wire_frames.specs.Limits.{IsInRange}
use Rattle.wire_frames.specs.Records.{Kept, nothing_kept, closed_by, extended}
use Rattle.wire_frames.specs.RecordsReader.{Advances, IsOpen, IsSteady, IsInHeader, IsInBytes, Refuses, bytes_so_far}
use Rattle.wire_frames.specs.Session.{Transcript, IsSession, IsUnderWay, Fits, record_bytes, session_bytes}
use Rattle.wire_frames.proofs.Beginnings.{so_far, AllFit, records_begin, record_begins, record_part, bytes_begin, nothing_behind, record_short, bytes_short, session_bytes-push}
use Rattle.wire_frames.proofs.Digits.{IsByte}
use Rattle.wire_frames.proofs.PartialHeaders.{IsBehind, place_behind, head_refuses, head_goes_on}
use Rattle.wire_frames.proofs.Parsing.{length-record_header}
use Rattle.wire_frames.proofs.UnderWay.{under_way_whole}

-- what stands last stands behind all before it
last_behind : (a b c : List ℕ) → a ++ (b ++ c) ≡ (a ++ b) ++ c
last_behind a b c = simp append_assoc

-- a fourth list stands behind the three before it, however they are joined
last_behind_two : (a b c d : List ℕ) → a ++ (b ++ (c ++ d)) ≡ (a ++ (b ++ c)) ++ d
last_behind_two a b c d = simp append_assoc

-- no byte of a record's header is right
no_header : (i most : ℕ) → Starts (IsRecordHeader i most) []
no_header i most = record { rest = record_header i None; value = None; whole = record { short = tt; spelled = refl } }

-- what stands behind records is a record's header first
pub record_behind : (p : SessionParams) (done : List (Option (List ℕ))) → IsInRange p → AllFit p done → length done < p.n
    → IsBehind (IsRecordHeader (1 + length done) (answer_len p.count p.s)) 6 (session_bytes (so_far p done))
record_behind p done range fits few = record {
  sized = λ bytes len h. ap length h.spelled ∙ length-record_header (1 + length done) len;
  begins = λ head s. record_begins p done head range fits few s;
  part = λ head short s. record_part p done head range fits few short s;
}

-- what a reader has seen, where no byte of the next record has come
seen_header : (r : RecordsReader) → r.records.current ≡ [] → bytes_so_far r ≡ session_bytes (so_far r.params r.records.closed) ++ r.head
seen_header r none = ap (λ (l : List ℕ). session_bytes (so_far r.params r.records.closed) ++ l) (ap (λ (l : List ℕ). r.head ++ l) none ∙ append-nil r.head)

-- and where its header has
seen_bytes : (r : RecordsReader) → IsInBytes r
    → bytes_so_far r ≡ session_bytes (so_far r.params r.records.closed) ++ (record_header (1 + length r.records.closed) (Some (length r.records.current + r.left)) ++ r.records.current)
seen_bytes r part = ap (λ (l : List ℕ). session_bytes (so_far r.params r.records.closed) ++ (l ++ r.records.current)) part.header

-- what a reader has seen begins a session
pub open_begins : (r : RecordsReader) → IsOpen r → Starts IsSession (bytes_so_far r)
open_begins r is_open = elim is_open.part [
  | inl part ↦
      let steady = is_open.steady in
      subst (Starts IsSession) (sym (seen_header r part.none_begun))
      (elim (cases_lt (length r.records.closed) r.params.n) [
        | inl few ↦ record_begins r.params r.records.closed r.head steady.range steady.fits few (part.right few)
        | inr all ↦
            let nothing : session_bytes (so_far r.params r.records.closed) ++ r.head ≡ session_bytes (so_far r.params r.records.closed) =
            ap (λ (l : List ℕ). session_bytes (so_far r.params r.records.closed) ++ l) (part.nothing (omega (arith, steady.few))) ∙ append-nil (session_bytes (so_far r.params r.records.closed)) in
            subst (Starts IsSession) (sym nothing) (records_begin r.params r.records.closed steady.range steady.fits steady.few)
      ])
  | inr h ↦
      let steady = is_open.steady in
      subst (Starts IsSession) (sym (seen_bytes r h.0))
      (bytes_begin r.params r.records.closed r.records.current r.left steady.range steady.fits h.0.few steady.below h.0.most)
]

-- it is no session while a record is missing
pub open_short : (r : RecordsReader) → IsOpen r → length r.records.closed < r.params.n → (t : Transcript) → IsSession (bytes_so_far r) t → ⊥
open_short r is_open few t h = elim is_open.part [
  | inl part ↦ record_short r.params r.records.closed r.head t is_open.steady.range is_open.steady.fits few part.short (subst (λ (l : List ℕ). IsSession l t) (seen_header r part.none_begun) h)
  | inr part ↦
      bytes_short r.params r.records.closed r.records.current r.left t is_open.steady.range is_open.steady.fits few part.0.most part.1
      (subst (λ (l : List ℕ). IsSession l t) (seen_bytes r part.0) h)
]

-- it is a session once all records have come
pub open_whole : (r : RecordsReader) → IsOpen r → r.params.n ≤ length r.records.closed → IsUnderWay r.params r.records × IsSession (bytes_so_far r) (so_far r.params r.records.closed)
open_whole r is_open all = elim is_open.part [
  | inl part ↦
      let steady = is_open.steady in
      let same : length r.records.closed ≡ r.params.n = omega (arith, all, steady.few) in
      let prefix = session_bytes (so_far r.params r.records.closed) in (
        under_way_whole r.params r.records steady.range same steady.fits part.none_begun,
        record {
          range = steady.range;
          all = same;
          fits = steady.fits;
          spelled = seen_header r part.none_begun ∙ ap (λ (l : List ℕ). prefix ++ l) (part.nothing same) ∙ append-nil prefix;
        },
      )
  | inr part ↦ absurd (omega (arith, part.0.few, all))
]

-- THE NEXT RECORD IS WHOLE: with it the reader is before the header of another
closed_steady : (r : RecordsReader) (x : Option (List ℕ)) → IsSteady r → length r.records.closed < r.params.n → Fits (answer_len r.params.count r.params.s) x → length r.records.current ≤ answer_len r.params.count r.params.s
    → IsSteady (record r { records = closed_by x r.records; head = [] })
closed_steady r x steady few fits most =
    let more = length-append r.records.closed (x ∷ []) in
    let width : length (r.records.closed ++ x ∷ []) * (answer_len r.params.count r.params.s) ≡ length r.records.closed * (answer_len r.params.count r.params.s) + (answer_len r.params.count r.params.s) =
    ap (λ (n : ℕ). n * (answer_len r.params.count r.params.s)) (omega (arith, more)) ∙ suc-mul (length r.records.closed) (answer_len r.params.count r.params.s) in
    record {
      range = steady.range;
      few = omega (arith, more);
      fits = All-push (Fits (answer_len r.params.count r.params.s)) r.records.closed x steady.fits fits;
      below = All-nil (λ (b : ℕ). b < 256);
      record_room = omega (arith, more, steady.record_room);
      byte_room = omega (arith, width, steady.byte_room);
    }

-- with one record more, and no byte of the next one, a reader is still open
pub closed_open : (r : RecordsReader) (x : Option (List ℕ)) (kept : Kept) (head : List ℕ) → IsSteady r → length r.records.closed < r.params.n → r.left ≡ 0 → Fits (answer_len r.params.count r.params.s) x
    → length r.records.current ≤ answer_len r.params.count r.params.s → kept ≡ closed_by x r.records → head ≡ [] → IsOpen (record r { records = kept; head = head })
closed_open r x kept head steady few none_left fits most is_kept is_head =
    let p = r.params in
    let canonical : IsOpen (record r { records = closed_by x r.records; head = [] }) = record {
      steady = closed_steady r x steady few fits most;
      part = inl record {
        none_left = none_left;
        none_begun = refl;
        short = omega arith;
        right = λ _. no_header _ _;
        nothing = λ _. refl;
      };
    } in
    subst (λ (k : Kept). IsOpen (record r { records = k; head = head })) (sym is_kept)
    (subst (λ (l : List ℕ). IsOpen (record r { records = closed_by x r.records; head = l })) (sym is_head) canonical)

-- closing a record whose header and bytes are all there leaves the bytes so far as they were
pub closed_bytes : (r : RecordsReader) (x : Option (List ℕ)) (kept : Kept) (head : List ℕ) → record_bytes (1 + length r.records.closed) x ≡ r.head ++ r.records.current
    → kept ≡ closed_by x r.records → head ≡ [] → bytes_so_far (record r { records = kept; head = head }) ≡ bytes_so_far r
closed_bytes r x kept head spelled is_kept is_head =
    ap₂ (λ (k : Kept) (l : List ℕ). session_bytes (so_far r.params k.closed) ++ (l ++ k.current)) is_kept is_head
    ∙ append-nil (session_bytes (so_far r.params (r.records.closed ++ x ∷ [])))
    ∙ session_bytes-push r.params r.records.closed x ∙ ap (λ (l : List ℕ). session_bytes (so_far r.params r.records.closed) ++ l) spelled

-- a record that is present, and whole
pub present_spelled : (r : RecordsReader) → IsInBytes r → r.left ≡ 0 → record_bytes (1 + length r.records.closed) (Some r.records.current) ≡ r.head ++ r.records.current
present_spelled r part none_left =
    let same : length r.records.current ≡ length r.records.current + r.left = omega arith in
    ap (λ (n : ℕ). record_header (1 + length r.records.closed) (Some n) ++ r.records.current) same ∙ ap (λ (l : List ℕ). l ++ r.records.current) (sym part.header)

-- a record that is absent
pub absent_spelled : (r : RecordsReader) → r.head ≡ record_header (1 + length r.records.closed) None → r.records.current ≡ []
    → record_bytes (1 + length r.records.closed) None ≡ r.head ++ r.records.current
absent_spelled r header none_begun = sym (ap₂ (λ (x y : List ℕ). x ++ y) header none_begun)

-- a reader with no record yet
pub new_open : (p : SessionParams) (kept : Kept) (head : List ℕ) (servers : ℕ) → IsInRange p → servers ≡ p.n → kept ≡ nothing_kept servers (servers * (answer_len p.count p.s)) → head ≡ []
    → IsOpen (record { params = p; records = kept; head = head; left = 0 })
new_open p kept head servers range is_servers is_kept is_head =
    let canonical : IsOpen (record { params = p; records = nothing_kept p.n (p.n * (answer_len p.count p.s)); head = []; left = 0 }) = record {
      steady = record {
        range = range;
        few = omega arith;
        fits = All-nil (Fits (answer_len p.count p.s));
        below = All-nil (λ (b : ℕ). b < 256);
        record_room = omega arith;
        byte_room = omega arith;
      };
      part = inl record {
        none_left = refl;
        none_begun = refl;
        short = omega arith;
        right = λ _. no_header _ _;
        nothing = λ _. refl;
      };
    } in
    let room : kept ≡ nothing_kept p.n (p.n * (answer_len p.count p.s)) = is_kept ∙ ap (λ (n : ℕ). nothing_kept n (n * (answer_len p.count p.s))) is_servers in
    subst (λ (k : Kept). IsOpen (record { params = p; records = k; head = head; left = 0 })) (sym room)
    (subst (λ (l : List ℕ). IsOpen (record { params = p; records = nothing_kept p.n (p.n * (answer_len p.count p.s)); head = l; left = 0 })) (sym is_head) canonical)

-- after the last record nothing is right
pub last_refuses : (r : RecordsReader) (piece : List ℕ) → IsOpen r → r.left ≡ 0 → length r.records.closed ≡ r.params.n → 0 < length piece → Refuses (bytes_so_far r) piece 0
last_refuses r [] is_open none_left all some = absurd (omega arith)
last_refuses r (b ∷ piece) is_open none_left all some = record {
  before = some;
  begins = subst (Starts IsSession) (sym (append-nil (bytes_so_far r))) (open_begins r is_open);
  longest = elim is_open.part as (λ _. Starts IsSession (bytes_so_far r ++ b ∷ []) → ⊥) [
    | inl part ↦ λ s.
        let sb = session_bytes (so_far r.params r.records.closed) in
        let seen : bytes_so_far r ≡ sb = seen_header r part.none_begun ∙ ap (λ (l : List ℕ). sb ++ l) (part.nothing all) ∙ append-nil sb in
        nothing_behind r.params r.records.closed b [] is_open.steady.range is_open.steady.fits all (subst (λ (l : List ℕ). Starts IsSession (l ++ b ∷ [])) seen s)
    | inr part ↦ λ _. omega (arith, part.1)
  ];
}

-- A PIECE OF A RECORD'S HEADER: as many bytes of it as the header still lacks
pub record IsPiece (r : RecordsReader) (piece : List ℕ) (count : ℕ) (head : List ℕ) : Type 0 where
  pub steady : IsSteady r
  pub part : IsInHeader r
  pub few : length r.records.closed < r.params.n
  pub count_is : count ≡ min (6 - length r.head) (length piece)
  pub head_is : head ≡ r.head ++ take count piece

-- the piece is taken: its bytes stand behind those so far
pub header_taken : (r : RecordsReader) (piece : List ℕ) (count : ℕ) (head : List ℕ) → IsPiece r piece count head → 0 < length piece
    → Advances (bytes_so_far r) piece (Ok count) (bytes_so_far (record r { head = head }))
header_taken r piece count head t some =
    let prefix = session_bytes (so_far r.params r.records.closed) in
    let old = seen_header r t.part.none_begun in
    let new = seen_header (record r { head = head }) t.part.none_begun in
    let behind = last_behind prefix r.head (take count piece) in (
      omega (arith, some, t.count_is, t.part.short),
      omega (arith, t.count_is),
      new ∙ (ap (λ (l : List ℕ). prefix ++ l) t.head_is ∙ (behind ∙ ap (λ (l : List ℕ). l ++ take count piece) (sym old))),
    )

-- it is read under the index of the next record
pub header_reads : (r : RecordsReader) (i : ℕ) (read head : List ℕ) (result : Result (Option ℕ) ℕ) → i ≡ length r.records.closed → read ≡ head
    → Reads (IsRecordHeader (i + 1) (answer_len r.params.count r.params.s)) read result → Reads (IsRecordHeader (1 + length r.records.closed) (answer_len r.params.count r.params.s)) head result
header_reads r i read head result is_index is_head h =
    let index : i + 1 ≡ 1 + length r.records.closed = omega arith in
    subst (λ (n : ℕ). Reads (IsRecordHeader n (answer_len r.params.count r.params.s)) head result) index (subst (λ (l : List ℕ). Reads (IsRecordHeader (i + 1) (answer_len r.params.count r.params.s)) l result) is_head h)

-- the bytes before the piece were right
pub header_after : (r : RecordsReader) (piece : List ℕ) (count i : ℕ) (head read : List ℕ) (place : ℕ) → IsPiece r piece count head → i ≡ length r.records.closed → read ≡ head
    → Reads (IsRecordHeader (i + 1) (answer_len r.params.count r.params.s)) read (Err place) → length r.head ≤ place
header_after r piece count i head read place t is_index is_head h =
    place_behind r.head (take count piece) place (t.part.right t.few) (header_reads r i read (r.head ++ take count piece) (Err place) is_index (is_head ∙ t.head_is) h).0

-- it stops being right
pub header_refuses : (r : RecordsReader) (piece : List ℕ) (count i before : ℕ) (head read : List ℕ) (place : ℕ) → IsPiece r piece count head → i ≡ length r.records.closed → read ≡ head
    → before ≡ length r.head → Reads (IsRecordHeader (i + 1) (answer_len r.params.count r.params.s)) read (Err place) → place < length head → Refuses (bytes_so_far r) piece (place - before)
header_refuses r piece count i before head read place t is_index is_head is_before h within =
    let stops = header_reads r i read (r.head ++ take count piece) (Err place) is_index (is_head ∙ t.head_is) h in
    let prefix = session_bytes (so_far r.params r.records.closed) in
    let behind = record_behind r.params r.records.closed t.steady.range t.steady.fits t.few in
    let refuses = head_refuses 6 prefix r.head piece count place behind (omega (arith, t.count_is)) (omega (arith, t.count_is, t.part.short)) (t.part.right t.few) stops.0
    (subst (λ (l : List ℕ). place < length l) t.head_is within) in
    subst (λ (n : ℕ). Refuses (bytes_so_far r) piece (place - n)) (sym is_before)
    (subst (λ (l : List ℕ). Refuses l piece (place - length r.head)) (sym (seen_header r t.part.none_begun)) refuses)

-- it is right, and not yet whole
pub header_goes_on : (r : RecordsReader) (piece : List ℕ) (count i : ℕ) (head read : List ℕ) (place : ℕ) → IsPiece r piece count head → i ≡ length r.records.closed → read ≡ head
    → Reads (IsRecordHeader (i + 1) (answer_len r.params.count r.params.s)) read (Err place) → length head ≤ place → IsOpen (record r { head = head })
header_goes_on r piece count i head read place t is_index is_head h all =
    let reads = header_reads r i read head (Err place) is_index is_head h in
    let behind = record_behind r.params r.records.closed t.steady.range t.steady.fits t.few in
    let goes = head_goes_on 6 head place behind.sized reads.0 all reads.1 in
    record {
      steady = record {
        range = t.steady.range;
        few = t.steady.few;
        fits = t.steady.fits;
        below = t.steady.below;
        record_room = t.steady.record_room;
        byte_room = t.steady.byte_room;
      };
      part = inl record {
        none_left = t.part.none_left;
        none_begun = t.part.none_begun;
        short = goes.0;
        right = λ _. goes.1;
        nothing = λ last. absurd (omega (arith, t.few));
      };
    }

-- more bytes of the next record leave the reader steady
pub extended_steady : (r : RecordsReader) (kept : Kept) (bytes : List ℕ) (left : ℕ) → IsSteady r → All IsByte bytes → length bytes ≤ r.records.byte_room → kept ≡ extended bytes r.records
    → IsSteady (record r { records = kept; left = left })
extended_steady r kept bytes left steady below room is_kept =
    let long = length-append r.records.current bytes in
    let canonical : IsSteady (record r { records = extended bytes r.records; left = left }) = record {
      range = steady.range;
      few = steady.few;
      fits = steady.fits;
      below = All-append IsByte r.records.current bytes steady.below below;
      record_room = steady.record_room;
      byte_room = omega (arith, long, room, steady.byte_room);
    } in
    subst (λ (k : Kept). IsSteady (record r { records = k; left = left })) (sym is_kept) canonical

-- its bytes go on
pub extended_part : (r : RecordsReader) (kept : Kept) (bytes : List ℕ) (left : ℕ) → IsInBytes r → length bytes + left ≡ r.left → kept ≡ extended bytes r.records
    → IsInBytes (record r { records = kept; left = left })
extended_part r kept bytes left part all is_kept =
    let long = length-append r.records.current bytes in
    let same : length r.records.current + r.left ≡ length (r.records.current ++ bytes) + left = omega (arith, long, all) in
    let canonical : IsInBytes (record r { records = extended bytes r.records; left = left }) = record {
      header = part.header ∙ ap (λ (n : ℕ). record_header (1 + length r.records.closed) (Some n)) same;
      few = part.few;
      most = omega (arith, same, part.most);
    } in
    subst (λ (k : Kept). IsInBytes (record r { records = k; left = left })) (sym is_kept) canonical

-- and stand behind those so far
pub extended_bytes : (r : RecordsReader) (kept : Kept) (bytes : List ℕ) (left : ℕ) → kept ≡ extended bytes r.records
    → bytes_so_far (record r { records = kept; left = left }) ≡ bytes_so_far r ++ bytes
extended_bytes r kept bytes left is_kept =
    let prefix = session_bytes (so_far r.params r.records.closed) in
    let behind = last_behind_two prefix r.head r.records.current bytes in
    ap (λ (k : Kept). session_bytes (so_far r.params k.closed) ++ (r.head ++ k.current)) is_kept ∙ behind

-- there is room for what is left of the next record
pub room_left : (r : RecordsReader) → IsSteady r → IsInBytes r → r.left ≤ r.records.byte_room
room_left r steady part =
    let width = answer_len r.params.count r.params.s in
    let more : suc (length r.records.closed) * width ≤ r.params.n * width = mul-le-mul_right width (omega (arith, part.few)) in
    omega (arith, more, suc-mul (length r.records.closed) width, steady.byte_room, part.most)

-- between two pieces either bytes are left or less than a header has come
pub open_in_bytes : (r : RecordsReader) → IsOpen r → 0 < r.left → IsInBytes r
open_in_bytes r is_open some = elim is_open.part [
  | inl part ↦ absurd (omega (arith, part.none_left, some))
  | inr part ↦ part.0
]

-- an open reader that waits for no byte of a record is in the header of one
pub open_in_header : (r : RecordsReader) → IsOpen r → r.left ≤ 0 → IsInHeader r
open_in_header r is_open none = elim is_open.part [
  | inl part ↦ part
  | inr part ↦ absurd (omega (arith, part.1, none))
]
