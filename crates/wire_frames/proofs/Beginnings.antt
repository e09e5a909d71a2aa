-- What begins a session: a part of its header, or its header, some records, and a part of the next.
use Rattle.std.proofs.Common.{◌≡◌, ℕ, ◌+◌, ◌-◌, ◌*◌, ◌^◌, ◌<◌, ◌≤◌, List, [], ◌∷◌, ◌++◌, length, take, drop, get_or, replicate, All, refl, sym, subst, ap, ◌∙◌, arith, append_assoc, length-append}
use Rattle.std.specs.Prelude.{Option, Some, None, IfSome}
use Rattle.std.proofs.Math.Nat.{mul-le-mul_right, suc-mul}
use Rattle.std.proofs.Math.Seq.{take-append_seam}
use Rattle.std.proofs.lemmas.List.{append-nil, length-replicate, take-append-drop, take-append-le}
use Rattle.std.proofs.lemmas.List.Elements.{All-nil, All-head, All-tail, All-append, All-push, All-replicate}
use Rattle.wire_frames.specs.Sizes.{answer_len}
use Rattle.wire_frames.specs.declared.sizes.TheConstants.{SESSION_HEADER_LEN}
use Rattle.quantity_limits.specs.declared.TheConstants.{MOST_SERVERS}
use Rattle.wire_frames.specs.declared.session.SessionParams.{SessionParams}
use Rattle.wire_frames.specs.Form.{Starts}
use Rattle.wire_frames.specs.Layout.{IsHeader, IsRecordHeader, record_header}
use Rattle.wire_frames.specs.Limits.{IsInRange}
use Rattle.wire_frames.specs.Session.{Transcript, IsSession, Fits, header_bytes, record_bytes, records_bytes, session_bytes}
use Rattle.wire_frames.proofs.Digits.{IsByte}
use Rattle.wire_frames.proofs.Prefixes.{All-behind, starts-prefix}
use Rattle.wire_frames.proofs.Parsing.{same_parts, same_params, same_digits, differ, len_of, bytes_of, record-parts, length-header, length-record_header, rest_of, records_bytes-append}

-- the records of a session so far
abbrev pub so_far : SessionParams → List (Option (List ℕ)) → Transcript
so_far p done = record { params = p; records = done }

-- records that fit into a session with these numbers
abbrev pub AllFit : SessionParams → List (Option (List ℕ)) → Type 0
AllFit p xs = All (Fits (answer_len p.count p.s)) xs

-- a session that begins with these records, and what stands behind them
pub record GoesOn (p : SessionParams) (done : List (Option (List ℕ))) (tail : List ℕ) (t : Transcript) : Type 0 where
  pub rest : List (Option (List ℕ))
  pub spelled : tail ≡ records_bytes (1 + length done) rest
  pub fits : AllFit p rest
  pub all : length done + length rest ≡ p.n

-- the width of a session is below 2 ^ 32, with the header of an answer too
most_below : (p : SessionParams) → IsInRange p → answer_len p.count p.s < 256 ^ 4
most_below p range = omega (arith, range.blocks.few_bytes)

-- a file that begins with these records has more records behind them, which its other bytes spell
pub goes_on : (p : SessionParams) (done : List (Option (List ℕ))) (tail : List ℕ) (t : Transcript) → IsInRange p → AllFit p done → IsSession (session_bytes (so_far p done) ++ tail) t
    → GoesOn p done tail t
goes_on p done tail t range fits h =
    let parts = same_parts (header_bytes p) (header_bytes t.params) (records_bytes 1 done ++ tail) (records_bytes 1 t.records) refl
    (sym (append_assoc (header_bytes p) (records_bytes 1 done) tail) ∙ h.spelled) in
    let same : t.params ≡ p = sym (same_params p t.params range h.range parts.0) in
    let all_fit = subst (λ (q : SessionParams). AllFit q t.records) same h.fits in
    let rest = rest_of (answer_len p.count p.s) 1 done t.records tail (most_below p range) fits all_fit parts.1 in
    record {
      rest = rest.rest;
      spelled = rest.spelled;
      fits = All-behind (Fits (answer_len p.count p.s)) done rest.rest (subst (AllFit p) rest.parts all_fit);
      all = omega (arith, length-append done rest.rest, ap length rest.parts, h.all, ap (λ (q : SessionParams). q.n) same);
    }

-- all records of a session
pub session_of : (p : SessionParams) (done rest : List (Option (List ℕ))) → IsInRange p → AllFit p done → AllFit p rest → length done + length rest ≡ p.n
    → IsSession (session_bytes (so_far p done) ++ records_bytes (1 + length done) rest) (so_far p (done ++ rest))
session_of p done rest range fits fits' all = record {
  range = range;
  all = length-append done rest ∙ all;
  fits = All-append (Fits (answer_len p.count p.s)) done rest fits fits';
  spelled = append_assoc (header_bytes p) (records_bytes 1 done) (records_bytes (1 + length done) rest) ∙ ap (λ (l : List ℕ). header_bytes p ++ l) (sym (records_bytes-append 1 done rest));
}

-- one record more
pub session_bytes-push : (p : SessionParams) (done : List (Option (List ℕ))) (x : Option (List ℕ))
    → session_bytes (so_far p (done ++ x ∷ [])) ≡ session_bytes (so_far p done) ++ record_bytes (1 + length done) x
session_bytes-push p done x =
    ap (λ (l : List ℕ). header_bytes p ++ l) (records_bytes-append 1 done (x ∷ []) ∙ ap (λ (l : List ℕ). records_bytes 1 done ++ l) (append-nil (record_bytes (1 + length done) x)))
    ∙ sym (append_assoc (header_bytes p) (records_bytes 1 done) (record_bytes (1 + length done) x))

-- records so far begin a session: the others may be absent
pub records_begin : (p : SessionParams) (done : List (Option (List ℕ))) → IsInRange p → AllFit p done → length done ≤ p.n → Starts IsSession (session_bytes (so_far p done))
records_begin p done range fits few =
    let absent = replicate (p.n - length done) None in
    record {
      rest = records_bytes (1 + length done) absent;
      value = so_far p (done ++ absent);
      whole = session_of p done absent range fits (All-replicate (Fits (answer_len p.count p.s)) (p.n - length done) None tt) (omega (arith, length-replicate {A = Option (List ℕ)} (p.n - length done) None));
    }

-- a prefix of bytes that begin with others, and are no more, is a prefix of these
prefix_of : (prefix rest whole more : List ℕ) → length prefix ≤ length whole → prefix ++ rest ≡ whole ++ more → prefix ++ drop (length prefix) whole ≡ whole
prefix_of prefix rest whole more short e =
    let same : prefix ≡ take (length prefix) whole = sym (take-append_seam prefix rest) ∙ ap (take (length prefix)) e ∙ take-append-le (length prefix) whole more short in
    ap (λ (l : List ℕ). l ++ drop (length prefix) whole) same ∙ take-append-drop (length prefix) whole

-- THE HEADER. What begins a header begins a session, and as long as it is no more than a header nothing else does.
pub header_begins : (head : List ℕ) → Starts IsHeader head → Starts IsSession head
header_begins head s =
    let range = s.whole.range in
    let whole = records_begin s.value [] range (All-nil (Fits (answer_len s.value.count s.value.s))) (omega arith) in
    let split : session_bytes (so_far s.value []) ≡ head ++ s.rest = append-nil (header_bytes s.value) ∙ sym s.whole.spelled in
    starts-prefix IsSession head s.rest (subst (Starts IsSession) split whole)

-- the first bytes of a session's file, up to a header's length, begin a header
pub header_part : (head : List ℕ) → length head ≤ SESSION_HEADER_LEN → Starts IsSession head → Starts IsHeader head
header_part head short s = record {
  rest = drop (length head) (header_bytes s.value.params);
  value = s.value.params;
  whole = record { range = s.whole.range; spelled = prefix_of head s.rest (header_bytes s.value.params) (records_bytes 1 s.value.records) short s.whole.spelled };
}

-- a record of which the header is known
abbrev filled : Option ℕ → Option (List ℕ)
filled None = None
filled (Some n) = Some (replicate n 0)

-- a record filled with zeros fits where its length does
fits_filled : (most : ℕ) (len : Option ℕ) → IfSome len (λ n. n ≤ most) → Fits most (filled len)
fits_filled most None short = tt
fits_filled most (Some n) short = (omega (arith, short, length-replicate {A = ℕ} n 0), All-replicate IsByte n 0 (omega arith))

-- a record that is filled to a length has that length
len_of-filled : (len : Option ℕ) → len_of (filled len) ≡ len
len_of-filled None = refl
len_of-filled (Some n) = ap (λ (k : ℕ). Some k) (length-replicate n 0)

-- a record more, whole, begins a session
push_begins : (p : SessionParams) (done : List (Option (List ℕ))) (x : Option (List ℕ)) → IsInRange p → AllFit p done → length done < p.n → Fits (answer_len p.count p.s) x
    → Starts IsSession (session_bytes (so_far p done) ++ record_bytes (1 + length done) x)
push_begins p done x range fits few fits_x =
    subst (Starts IsSession) (session_bytes-push p done x)
    (records_begin p (done ++ x ∷ []) range (All-push (Fits (answer_len p.count p.s)) done x fits fits_x) (omega (arith, length-append done (x ∷ []))))

-- THE HEADER OF A RECORD. What begins one begins a session behind the records before it, and nothing else does.
pub record_begins : (p : SessionParams) (done : List (Option (List ℕ))) (head : List ℕ) → IsInRange p → AllFit p done → length done < p.n
    → Starts (IsRecordHeader (1 + length done) (answer_len p.count p.s)) head → Starts IsSession (session_bytes (so_far p done) ++ head)
record_begins p done head range fits few s =
    let x = filled s.value in
    let whole = push_begins p done x range fits few (fits_filled (answer_len p.count p.s) s.value s.whole.short) in
    let header : record_header (1 + length done) (len_of x) ≡ head ++ s.rest = ap (record_header (1 + length done)) (len_of-filled s.value) ∙ sym s.whole.spelled in
    let bytes : record_bytes (1 + length done) x ≡ head ++ (s.rest ++ bytes_of x) =
    record-parts (1 + length done) x ∙ ap (λ (l : List ℕ). l ++ bytes_of x) header ∙ append_assoc head s.rest (bytes_of x) in
    let split : session_bytes (so_far p done) ++ record_bytes (1 + length done) x ≡ (session_bytes (so_far p done) ++ head) ++ (s.rest ++ bytes_of x) =
    ap (λ (l : List ℕ). session_bytes (so_far p done) ++ l) bytes ∙ sym (append_assoc (session_bytes (so_far p done)) head (s.rest ++ bytes_of x)) in
    starts-prefix IsSession (session_bytes (so_far p done) ++ head) (s.rest ++ bytes_of x) (subst (Starts IsSession) split whole)

-- what stands behind records begins a record
pub record NextIs (p : SessionParams) (done : List (Option (List ℕ))) (tail : List ℕ) : Type 0 where
  pub next : Option (List ℕ)
  pub more : List ℕ
  pub fits : Fits (answer_len p.count p.s) next
  pub spelled : tail ≡ record_header (1 + length done) (len_of next) ++ (bytes_of next ++ more)

-- where records are still to come, the bytes behind begin with the next of them
next_of : (p : SessionParams) (done : List (Option (List ℕ))) (tail : List ℕ) (t : Transcript) → length done < p.n → GoesOn p done tail t → NextIs p done tail
next_of p done tail t few g = from_list g.rest g.spelled g.fits g.all
  where
    from_list : (rest : List (Option (List ℕ))) → tail ≡ records_bytes (1 + length done) rest → AllFit p rest → length done + length rest ≡ p.n → NextIs p done tail
    from_list [] spelled fits all = absurd (omega arith)
    from_list (x ∷ xs) spelled fits all =
        let i = 1 + length done in
        record {
          next = x;
          more = records_bytes (i + 1) xs;
          fits = All-head (Fits (answer_len p.count p.s)) x xs fits;
          spelled = spelled ∙ ap (λ (l : List ℕ). l ++ records_bytes (i + 1) xs) (record-parts i x) ∙ append_assoc (record_header i (len_of x)) (bytes_of x) (records_bytes (i + 1) xs);
        }

-- a record that fits has a length in range
short_of : (most : ℕ) (x : Option (List ℕ)) → Fits most x → IfSome (len_of x) (λ n. n ≤ most)
short_of most None fits = tt
short_of most (Some bytes) fits = fits.0

-- what a session has behind records is the next of them
next_in : (p : SessionParams) (done : List (Option (List ℕ))) (tail : List ℕ) → IsInRange p → AllFit p done → length done < p.n
    → (rest : List ℕ) (t : Transcript) → IsSession ((session_bytes (so_far p done) ++ tail) ++ rest) t → NextIs p done (tail ++ rest)
next_in p done tail range fits few rest t h =
    next_of p done (tail ++ rest) t few (goes_on p done (tail ++ rest) t range fits (subst (λ (l : List ℕ). IsSession l t) (append_assoc (session_bytes (so_far p done)) tail rest) h))

-- the bytes behind the records so far, up to the length of a record's header, begin the header of the next
pub record_part : (p : SessionParams) (done : List (Option (List ℕ))) (head : List ℕ) → IsInRange p → AllFit p done → length done < p.n → length head ≤ 6
    → Starts IsSession (session_bytes (so_far p done) ++ head) → Starts (IsRecordHeader (1 + length done) (answer_len p.count p.s)) head
record_part p done head range fits few short s =
    let next = next_in p done head range fits few s.rest s.value s.whole in
    let i = 1 + length done in
    let header = record_header i (len_of next.next) in
    record {
      rest = drop (length head) header;
      value = len_of next.next;
      whole = record {
        short = short_of (answer_len p.count p.s) next.next next.fits;
        spelled = prefix_of head s.rest header (bytes_of next.next ++ next.more) (omega (arith, length-record_header i (len_of next.next))) next.spelled;
      };
    }

-- THE BYTES OF A RECORD. As many as its header says, and any.
pub bytes_begin : (p : SessionParams) (done : List (Option (List ℕ))) (bytes : List ℕ) (left : ℕ) → IsInRange p → AllFit p done → length done < p.n → All IsByte bytes
    → length bytes + left ≤ answer_len p.count p.s
    → Starts IsSession (session_bytes (so_far p done) ++ (record_header (1 + length done) (Some (length bytes + left)) ++ bytes))
bytes_begin p done bytes left range fits few all short =
    let zeros : List ℕ = replicate left 0 in
    let long : length (bytes ++ zeros) ≡ length bytes + left = length-append bytes zeros ∙ ap (λ (n : ℕ). length bytes + n) (length-replicate left 0) in
    let i = 1 + length done in
    let whole = push_begins p done (Some (bytes ++ zeros)) range fits few (omega (arith, long), All-append IsByte bytes zeros all (All-replicate IsByte left 0 (omega arith))) in
    let spelled : record_bytes i (Some (bytes ++ zeros)) ≡ (record_header i (Some (length bytes + left)) ++ bytes) ++ zeros =
    ap (λ (n : ℕ). record_header i (Some n) ++ (bytes ++ zeros)) long ∙ sym (append_assoc (record_header i (Some (length bytes + left))) bytes zeros) in
    let prefix = session_bytes (so_far p done) in
    let split = ap (λ (l : List ℕ). prefix ++ l) spelled ∙ sym (append_assoc prefix (record_header i (Some (length bytes + left)) ++ bytes) zeros) in
    starts-prefix IsSession (prefix ++ (record_header i (Some (length bytes + left)) ++ bytes)) zeros (subst (Starts IsSession) split whole)

-- THE END. After the last record there is nothing.
pub nothing_behind : (p : SessionParams) (done : List (Option (List ℕ))) (b : ℕ) (more : List ℕ) → IsInRange p → AllFit p done → length done ≡ p.n
    → Starts IsSession (session_bytes (so_far p done) ++ b ∷ more) → ⊥
nothing_behind p done b more range fits all s =
    let g = goes_on p done (b ∷ more ++ s.rest) s.value range fits (subst (λ (l : List ℕ). IsSession l s.value) (append_assoc (session_bytes (so_far p done)) (b ∷ more) s.rest) s.whole) in
    none g.rest g.spelled g.all
  where
    none : (rest : List (Option (List ℕ))) → b ∷ more ++ s.rest ≡ records_bytes (1 + length done) rest → length done + length rest ≡ p.n → ⊥
    none [] spelled count = absurd (omega (arith, ap length spelled))
    none (x ∷ xs) spelled count = omega arith

-- all records are a session
pub whole_session : (p : SessionParams) (done : List (Option (List ℕ))) → IsInRange p → AllFit p done → length done ≡ p.n → IsSession (session_bytes (so_far p done)) (so_far p done)
whole_session p done range fits all = record { range = range; all = all; fits = fits; spelled = refl }

-- less than a header is none
pub header_short : (head : List ℕ) (t : Transcript) → length head < SESSION_HEADER_LEN → IsSession head t → ⊥
header_short head t short h =
    omega (arith, ap length h.spelled, length-append (header_bytes t.params) (records_bytes 1 t.records), length-header t.params)

-- nor are too few records, with less than the header of the next
pub record_short : (p : SessionParams) (done : List (Option (List ℕ))) (head : List ℕ) (t : Transcript) → IsInRange p → AllFit p done → length done < p.n → length head < 6
    → IsSession (session_bytes (so_far p done) ++ head) t → ⊥
record_short p done head t range fits few short h =
    let next = next_of p done head t few (goes_on p done head t range fits h) in
    let header = record_header (1 + length done) (len_of next.next) in
    omega (arith, ap length next.spelled, length-append header (bytes_of next.next ++ next.more), length-record_header (1 + length done) (len_of next.next))

-- nor with less than its bytes
pub bytes_short : (p : SessionParams) (done : List (Option (List ℕ))) (bytes : List ℕ) (left : ℕ) (t : Transcript) → IsInRange p → AllFit p done → length done < p.n
    → length bytes + left ≤ answer_len p.count p.s → 0 < left → IsSession (session_bytes (so_far p done) ++ (record_header (1 + length done) (Some (length bytes + left)) ++ bytes)) t → ⊥
bytes_short p done bytes left t range fits few short some h =
    let i = 1 + length done in
    let header = record_header i (Some (length bytes + left)) in
    let next = next_of p done (header ++ bytes) t few (goes_on p done (header ++ bytes) t range fits h) in
    by_next next.next next.more next.fits next.spelled
  where
    by_next : (x : Option (List ℕ)) (more : List ℕ) → Fits (answer_len p.count p.s) x
        → record_header (1 + length done) (Some (length bytes + left)) ++ bytes ≡ record_header (1 + length done) (len_of x) ++ (bytes_of x ++ more) → ⊥
    by_next None more fits_x spelled = differ 0 1 (sym (ap (λ (l : List ℕ). get_or l 1 0) spelled)) (omega arith)
    by_next (Some b) more fits_x spelled =
        let most = most_below p range in
        let lens = same_digits 4 (length bytes + left) (length b) (omega (arith, most, short)) (omega (arith, most, fits_x.0)) (ap (λ (l : List ℕ). take 4 (drop 2 l)) spelled) in
        let behind : bytes ≡ b ++ more = ap (drop 6) spelled in
        omega (arith, lens, ap length behind, length-append b more, some)

-- a session has few bytes
length-records : (most i : ℕ) (xs : List (Option (List ℕ))) → All (Fits most) xs → length (records_bytes i xs) ≤ length xs * (6 + most)
length-records most i [] fits = omega arith
length-records most i (x ∷ xs) fits =
    let ih = length-records most (i + 1) xs (All-tail (Fits most) x xs fits) in
    let here : length (record_bytes i x) ≤ 6 + most = one x (All-head (Fits most) x xs fits) in
    omega (arith, ih, here, length-append (record_bytes i x) (records_bytes (i + 1) xs), suc-mul (length xs) (6 + most))
  where
    one : (y : Option (List ℕ)) → Fits most y → length (record_bytes i y) ≤ 6 + most
    one None fits_y = omega arith
    one (Some bytes) fits_y = omega (arith, fits_y.0)

-- bytes that begin a session's file number at most 2^32
pub begins_short : (bytes : List ℕ) → Starts IsSession bytes → length bytes ≤ 4294967296
begins_short bytes s =
    let h = s.whole in
    let p = s.value.params in
    let long = length-append (header_bytes p) (records_bytes 1 s.value.records) in
    let records = length-records (answer_len p.count p.s) 1 s.value.records h.fits in
    let few : length s.value.records * (6 + (answer_len p.count p.s)) ≤ MOST_SERVERS * (6 + (answer_len p.count p.s)) = mul-le-mul_right (6 + (answer_len p.count p.s)) (omega (arith, h.all, h.range.few_servers)) in
    omega (arith, long, records, few, h.range.blocks.few_bytes, length-header p, ap length h.spelled, length-append bytes s.rest)
