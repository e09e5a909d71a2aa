-- A session is told by its bytes: what stands behind some of its records is the rest of them.
use Rattle.std.proofs.Common.{◌≡◌, ℕ, suc, ◌+◌, ◌^◌, ◌<◌, List, [], ◌∷◌, ◌++◌, length, take, drop, get_or, All, refl, sym, subst, ap, ap₂, ◌∙◌, arith, append_assoc}
use Rattle.std.specs.Prelude.{Option, Some, None}
use Rattle.std.specs.Int.{bytes_high_first}
use Rattle.std.proofs.Math.Seq.{take-append_seam, drop-append_seam}
use Rattle.std.proofs.lemmas.List.Elements.{All-head, All-tail}
use Rattle.wire_frames.specs.declared.sizes.TheConstants.{SESSION_HEADER_LEN}
use Rattle.wire_frames.specs.declared.session.SessionParams.{SessionParams}
use Rattle.wire_frames.specs.Layout.{record_header}
use Rattle.wire_frames.specs.Limits.{IsCount, IsInRange}
use Rattle.wire_frames.specs.Version.{count_byte, version_of}
use Rattle.wire_frames.specs.Session.{Fits, header_bytes, record_bytes, records_bytes}
use Rattle.wire_frames.proofs.Counts.{same_count}
use Rattle.wire_frames.proofs.Digits.{number, number-digits}

-- two lists with prefixes of one length: the prefixes are equal, and the rests
pub same_parts : (prefix prefix' rest rest' : List ℕ) → length prefix ≡ length prefix' → prefix ++ rest ≡ prefix' ++ rest' → (prefix ≡ prefix') × (rest ≡ rest')
same_parts prefix prefix' rest rest' long e =
    (sym (take-append_seam prefix rest) ∙ ap₂ take long e ∙ take-append_seam prefix' rest', sym (drop-append_seam prefix rest) ∙ ap₂ drop long e ∙ drop-append_seam prefix' rest')

-- a number is told by its bytes
pub same_digits : (width v v' : ℕ) → v < 256 ^ width → v' < 256 ^ width → bytes_high_first width v ≡ bytes_high_first width v' → v ≡ v'
same_digits width v v' h h' e = sym (number-digits width v h) ∙ ap number e ∙ number-digits width v' h'

-- numbers of a session, one by one
numbers : ℕ → ℕ → ℕ → ℕ → ℕ → ℕ → ℕ → ℕ → ℕ → SessionParams
numbers version scheme t h n count session r s = record {
  version = version;
  scheme = scheme;
  t = t;
  h = h;
  n = n;
  count = count;
  session = session;
  r = r;
  s = s;
}

-- which are equal where each is
same_numbers : (p q : SessionParams) → p.version ≡ q.version → p.scheme ≡ q.scheme → p.t ≡ q.t → p.h ≡ q.h → p.n ≡ q.n → p.count ≡ q.count → p.session ≡ q.session → p.r ≡ q.r → p.s ≡ q.s
    → numbers p.version p.scheme p.t p.h p.n p.count p.session p.r p.s ≡ numbers q.version q.scheme q.t q.h q.n q.count q.session q.r q.s
same_numbers p q version scheme t h n count session r s = cc

-- a header has 28 bytes
pub length-header : (p : SessionParams) → length (header_bytes p) ≡ SESSION_HEADER_LEN
length-header p = refl

-- the numbers of a session are told by its header
pub same_params : (p q : SessionParams) → IsInRange p → IsInRange q → header_bytes p ≡ header_bytes q → p ≡ q
unfolding numbers
same_params p q hp hq e =
    let version : p.version ≡ q.version = ap (λ (l : List ℕ). get_or l 4 0) e in
    let scheme = ap (λ (l : List ℕ). get_or l 5 0) e in
    let t = ap (λ (l : List ℕ). get_or l 6 0) e in
    let h = ap (λ (l : List ℕ). get_or l 7 0) e in
    let n = ap (λ (l : List ℕ). get_or l 8 0) e in
    let byte : count_byte (version_of p.version) p.count ≡ count_byte (version_of q.version) q.count = ap (λ (l : List ℕ). get_or l 9 0) e in
    let count = same_count p.version p.count q.count p.s q.s hp.blocks (subst (λ (v : ℕ). IsCount v q.count q.s) (sym version) hq.blocks) (subst (λ (v : ℕ). count_byte (version_of p.version) p.count ≡ count_byte (version_of v) q.count) (sym version) byte) in
    let session = same_digits 8 p.session q.session (omega (arith, hp.session)) (omega (arith, hq.session)) (ap (λ (l : List ℕ). take 8 (drop 12 l)) e) in
    let r = same_digits 4 p.r q.r (omega (arith, hp.shape.few_rows)) (omega (arith, hq.shape.few_rows)) (ap (λ (l : List ℕ). take 4 (drop 20 l)) e) in
    let s = same_digits 4 p.s q.s (omega (arith, hp.shape.few_bytes)) (omega (arith, hq.shape.few_bytes)) (ap (λ (l : List ℕ). take 4 (drop 24 l)) e) in
    same_numbers p q version scheme t h n count session r s

-- what stands before the bytes of a record
abbrev pub len_of : Option (List ℕ) → Option ℕ
len_of None = None
len_of (Some bytes) = Some (length bytes)

-- a record is its header, and its bytes where it is present
abbrev pub bytes_of : Option (List ℕ) → List ℕ
bytes_of None = []
bytes_of (Some bytes) = bytes

pub record-parts : (i : ℕ) (x : Option (List ℕ)) → record_bytes i x ≡ record_header i (len_of x) ++ bytes_of x
record-parts i None = refl
record-parts i (Some bytes) = refl

-- six bytes stand before those of a record
pub length-record_header : (i : ℕ) (len : Option ℕ) → length (record_header i len) ≡ 6
length-record_header i None = refl
length-record_header i (Some n) = refl

-- numbers in order are not equal
pub differ : (m n : ℕ) → m ≡ n → m < n → ⊥
differ m n e h = omega arith

-- a record is told by its bytes, and what stands behind it
pub same_record : (most i : ℕ) (x y : Option (List ℕ)) (rest rest' : List ℕ) → most < 256 ^ 4 → Fits most x → Fits most y → record_bytes i x ++ rest ≡ record_bytes i y ++ rest'
    → (x ≡ y) × (rest ≡ rest')
same_record most i None None rest rest' fits hx hy e = (refl, ap (drop 6) e)
same_record most i None (Some b) rest rest' fits hx hy e = absurd (differ 0 1 (ap (λ (l : List ℕ). get_or l 1 0) e) (omega arith))
same_record most i (Some a) None rest rest' fits hx hy e = absurd (differ 0 1 (sym (ap (λ (l : List ℕ). get_or l 1 0) e)) (omega arith))
same_record most i (Some a) (Some b) rest rest' fits hx hy e =
    let lens : length a ≡ length b = same_digits 4 (length a) (length b) (omega (arith, hx.0, fits)) (omega (arith, hy.0, fits)) (ap (λ (l : List ℕ). take 4 (drop 2 l)) e) in
    let behind : a ++ rest ≡ b ++ rest' = ap (drop 6) e in
    let parts = same_parts a b rest rest' lens behind in
    (ap (λ (l : List ℕ). Some l) parts.0, parts.1)

-- a record has some bytes
record_some : (i : ℕ) (x : Option (List ℕ)) (rest : List ℕ) → record_bytes i x ++ rest ≡ [] → ⊥
record_some i None rest e = absurd (omega (arith, ap length e))
record_some i (Some b) rest e = absurd (omega (arith, ap length e))

-- the rest of the records, where the bytes begin with these
pub record RestOf (done xs : List (Option (List ℕ))) (i : ℕ) (tail : List ℕ) : Type 0 where
  pub rest : List (Option (List ℕ))
  pub parts : xs ≡ done ++ rest
  pub spelled : tail ≡ records_bytes (i + length done) rest

-- where bytes begin with some records and are those of a list, the list begins with these records
pub rest_of : (most i : ℕ) (done xs : List (Option (List ℕ))) (tail : List ℕ) → most < 256 ^ 4 → All (Fits most) done → All (Fits most) xs
    → records_bytes i done ++ tail ≡ records_bytes i xs → RestOf done xs i tail
rest_of most i [] xs tail fits hd hx e = record { rest = xs; parts = refl; spelled = e ∙ ap (λ (n : ℕ). records_bytes n xs) (omega arith) }
rest_of most i (d ∷ ds) [] tail fits hd hx e = absurd (record_some i d (records_bytes (i + 1) ds ++ tail) (sym (append_assoc (record_bytes i d) (records_bytes (i + 1) ds) tail) ∙ e))
rest_of most i (d ∷ ds) (x ∷ xs) tail fits hd hx e =
    let same = same_record most i d x (records_bytes (i + 1) ds ++ tail) (records_bytes (i + 1) xs) fits (All-head (Fits most) d ds hd) (All-head (Fits most) x xs hx)
    (sym (append_assoc (record_bytes i d) (records_bytes (i + 1) ds) tail) ∙ e) in
    let more = rest_of most (i + 1) ds xs tail fits (All-tail (Fits most) d ds hd) (All-tail (Fits most) x xs hx) same.1 in
    record {
      rest = more.rest;
      parts = ap₂ (λ (y : Option (List ℕ)) (ys : List (Option (List ℕ))). y ∷ ys) (sym same.0) more.parts;
      spelled = more.spelled ∙ ap (λ (n : ℕ). records_bytes n more.rest) (omega arith);
    }

-- the records one behind another
pub records_bytes-append : (i : ℕ) (xs ys : List (Option (List ℕ))) → records_bytes i (xs ++ ys) ≡ records_bytes i xs ++ records_bytes (i + length xs) ys
records_bytes-append i [] ys = ap (λ (n : ℕ). records_bytes n ys) (omega arith)
records_bytes-append i (x ∷ xs) ys =
    ap (λ (l : List ℕ). record_bytes i x ++ l) (records_bytes-append (i + 1) xs ys ∙ ap (λ (n : ℕ). records_bytes (i + 1) xs ++ records_bytes n ys) (omega arith))
    ∙ sym (append_assoc (record_bytes i x) (records_bytes (i + 1) xs) (records_bytes (i + suc (length xs)) ys))
