-- The header of a query as a chain of fields, and what a reading of it answers.
use Rattle.std.proofs.Common.{◌≡◌, ℕ, ◌+◌, ◌^◌, ◌<◌, ◌≤◌, List, [], ◌∷◌, length, take, drop, get_or, All, sym, subst, ap, ◌∙◌, arith, lit≤, lit<, length-drop}
use Rattle.std.specs.Prelude.{Result, Err, IsErrAnd}
use Rattle.std.specs.Int.{bytes_high_first}
use Rattle.std.proofs.lemmas.List.{length-take, take_all, get_or-drop, get_or-take}
use Rattle.std.proofs.lemmas.List.Elements.{All-drop, All-take}
use Rattle.std.proofs.lemmas.Result.{err_from_is_err_and}
use Rattle.wire_frames.specs.declared.field.Number.{Number}
use Rattle.wire_frames.specs.declared.header.QueryHeader.{QueryHeader}
use Rattle.wire_frames.specs.declared.header.TheConstants.{QUERY_MAGIC}
use Rattle.wire_frames.specs.declared.places.TheConstants.{FRAME_MAGIC_PLACE, FRAME_VERSION_PLACE, FRAME_SCHEME_PLACE, FRAME_INDEX_PLACE, FRAME_STATUS_PLACE, FRAME_SESSION_PLACE}
use Rattle.wire_frames.specs.declared.query.Field.{Field}
use Rattle.wire_frames.specs.declared.query.FrameFault.{FrameFault}
use Rattle.wire_frames.specs.declared.scheme.TheConstants.{SHAMIR, XOR}
use Rattle.wire_frames.specs.declared.version.Version.{Version}
use Rattle.wire_frames.specs.declared.version.Version.TheVariants.{Single, Several}
use Rattle.quantity_limits.specs.declared.TheConstants.{MOST_BLOCKS}
use Rattle.wire_frames.specs.Field.{IsNumber, count_field, session_field}
use Rattle.wire_frames.specs.Form.{Starts, StopsWithin}
use Rattle.wire_frames.specs.Query.{IsQueryHeader, ReadsField, ReadsQuery, first_place, end_place}
use Rattle.wire_frames.specs.Version.{count_byte, count_name, count_of, number_of, version_of}
use Rattle.wire_frames.proofs.Counts.{byte_most, byte-mono, byte_told, count_in, count_is_field, count_told, name_place, name_end}
use Rattle.wire_frames.proofs.Chains.{Then, Leads, field_then, leads-start, leads-on, leads-stop, some_spelling}
use Rattle.wire_frames.proofs.Digits.{IsByte, number, number_below, digits-number}
use Rattle.wire_frames.proofs.Prefixes.{starts-whole}
use Rattle.wire_frames.proofs.ShapeFields.{at_session, shape_bytes, shape_into, shape_back, some_session}
use Rattle.wire_frames.proofs.Spellings.{only, byte_is, number_is, byte_prefix, only_prefix, joined, is_field}

-- a query, from its header
abbrev pub query_of : ℕ → ℕ → ℕ → ℕ → ℕ → ℕ → ℕ → QueryHeader
query_of version scheme index count session r s = record {
  version = version;
  scheme = scheme;
  index = index;
  count = count;
  session = session;
  r = r;
  s = s;
}

-- what is left of a header where the numbers before are known
abbrev pub at_shape : ℕ → ℕ → ℕ → ℕ → List ℕ → QueryHeader → Type 0
at_shape version scheme index count = at_session (query_of version scheme index count) count

abbrev pub at_count : ℕ → ℕ → ℕ → List ℕ → QueryHeader → Type 0
at_count version scheme index = Then (count_field (version_of version)) (λ byte. at_shape version scheme index (count_of byte))

abbrev pub at_index : ℕ → ℕ → List ℕ → QueryHeader → Type 0
at_index version scheme = Then (record { width = 1; least = 1; most = 255 }) (λ index. at_count version scheme index)

abbrev pub at_scheme : ℕ → List ℕ → QueryHeader → Type 0
at_scheme version = Then (record { width = 1; least = SHAMIR; most = XOR }) (λ scheme. at_index version scheme)

-- either version
abbrev pub version_field : Number
version_field = record { width = 1; least = number_of Single; most = number_of Several }

abbrev pub at_version : List ℕ → QueryHeader → Type 0
at_version = Then version_field (λ version. at_scheme version)

abbrev pub at_magic : List ℕ → QueryHeader → Type 0
at_magic = Then (only 4 QUERY_MAGIC) (λ _. at_version)

-- a header is a chain of fields
query_into : (bytes : List ℕ) (q : QueryHeader) → IsQueryHeader bytes q → at_magic bytes q
query_into bytes q h =
    let range = h.range in
    let blocks = range.blocks in
    let session_on = shape_into (query_of q.version q.scheme q.index q.count) q.count q.session q.r q.s range.session range.shape blocks.some_blocks blocks.few_bytes in
    let told = count_told q.version q.count q.s blocks in
    let count_on = field_then {next = λ byte. at_shape q.version q.scheme q.index (count_of byte)} _ q
    (byte_is (count_byte (version_of q.version) 1) (count_byte (version_of q.version) q.count) (count_byte (version_of q.version) MOST_BLOCKS) (byte-mono (version_of q.version) 1 q.count blocks.some_blocks) (byte-mono (version_of q.version) q.count MOST_BLOCKS blocks.few_blocks) (omega (arith, byte_most (version_of q.version) MOST_BLOCKS)))
    (subst (λ (c : ℕ). at_shape q.version q.scheme q.index c (shape_bytes q.session q.r q.s) q) (sym told) session_on) in
    let index_on = field_then {next = λ index. at_count q.version q.scheme index} _ q (byte_is 1 q.index 255 range.some_index range.few_indices (lit< tt)) count_on in
    let scheme_on = field_then {next = λ scheme. at_index q.version scheme} _ q (byte_is SHAMIR q.scheme XOR range.some_scheme range.two_schemes (lit< tt)) index_on in
    let version_on = field_then {next = λ version. at_scheme version} _ q (byte_is (number_of Single) q.version (number_of Several) blocks.some_version blocks.two_versions (lit< tt)) scheme_on in
    let whole = field_then {next = λ _. at_version} _ q (number_is 4 QUERY_MAGIC QUERY_MAGIC QUERY_MAGIC (lit≤ tt) (lit≤ tt)) version_on in
    subst (λ (l : List ℕ). at_magic l q) (sym h.spelled) whole

-- the numbers in a chain of fields are those of a header
query_back : (bytes : List ℕ) (q : QueryHeader) → at_magic bytes q → IsQueryHeader bytes q
query_back bytes q magic =
    let version = magic.goes_on in
    let scheme = version.goes_on in
    let index = scheme.goes_on in
    let count = index.goes_on in
    let v = version.number in
    let shaped = shape_back (query_of v scheme.number index.number (count_of count.number)) (count_of count.number) count.rest q (omega arith) count.goes_on in
    let byte_is = byte_told (version_of v) count.number count.field.least count.field.most in
    let count_prefix = byte_prefix (count_byte (version_of v) 1) (count_byte (version_of v) MOST_BLOCKS) count.number count.prefix (omega (arith, byte_most (version_of v) MOST_BLOCKS)) count.field in
    let count_is = joined index.rest count.prefix count.rest (count_byte (version_of v) (count_of count.number) ∷ []) _ count.split (count_prefix ∙ ap (λ (b : ℕ). b ∷ []) byte_is) shaped.spelled in
    let index_is = joined scheme.rest index.prefix index.rest (index.number ∷ []) _ index.split (byte_prefix 1 255 index.number index.prefix (lit< tt) index.field) count_is in
    let scheme_is = joined version.rest scheme.prefix scheme.rest (scheme.number ∷ []) _ scheme.split (byte_prefix SHAMIR XOR scheme.number scheme.prefix (lit< tt) scheme.field) index_is in
    let version_is = joined magic.rest version.prefix version.rest (v ∷ []) _ version.split (byte_prefix (number_of Single) (number_of Several) v version.prefix (lit< tt) version.field) scheme_is in
    let whole = joined bytes magic.prefix magic.rest (bytes_high_first 4 QUERY_MAGIC) _ magic.split (only_prefix 4 QUERY_MAGIC magic.number magic.prefix magic.field) version_is in
    subst (IsQueryHeader bytes) shaped.same (record {
      range = record {
        some_scheme = scheme.field.least;
        two_schemes = scheme.field.most;
        some_index = index.field.least;
        few_indices = index.field.most;
        session = shaped.below;
        shape = shaped.shape;
        blocks = count_in v count.number shaped.s version.field.least version.field.most count.field.most shaped.blocks;
      };
      spelled = whole;
    })

-- whatever came before, a header can be completed
pub some_shape : (version scheme index byte : ℕ) → byte ≤ count_byte (version_of version) MOST_BLOCKS → Starts (at_shape version scheme index (count_of byte)) []
some_shape version scheme index byte few =
    some_session (query_of version scheme index (count_of byte)) (count_of byte) (omega arith) (omega (arith, few, byte_most (version_of version) MOST_BLOCKS))

-- bytes that stand behind the index can begin with a byte of some number of blocks
pub some_count : (version scheme index : ℕ) → Starts (at_count version scheme index) []
some_count version scheme index =
    let some = (count_is_field (version_of version)).some in
    some_spelling _ _ (count_byte (version_of version) 1) (omega arith) some (some_shape version scheme index (count_byte (version_of version) 1) some)

-- behind a scheme some index can stand, and the rest of a header
pub some_index : (version scheme : ℕ) → Starts (at_index version scheme) []
some_index version scheme = some_spelling _ _ 1 (omega arith) (lit≤ tt) (some_count version scheme 1)

-- behind a version some scheme can stand, and the rest of a header
pub some_scheme : (version : ℕ) → Starts (at_scheme version) []
some_scheme version = some_spelling _ _ SHAMIR (omega arith) (lit≤ tt) (some_index version SHAMIR)

-- behind the letters some version can stand, and the rest of a header
pub some_version : Starts at_version []
some_version = some_spelling _ _ (number_of Single) (omega arith) (lit≤ tt) (some_scheme (number_of Single))

-- THE STEPS of a reading of a header: each field that is read leads on to the next
pub to_magic : (bytes : List ℕ) → Leads IsQueryHeader at_magic FRAME_MAGIC_PLACE bytes
to_magic bytes = leads-start bytes query_into query_back

-- the letters were read, so the version comes next
pub to_version : {bytes : List ℕ} {v : ℕ} → Leads IsQueryHeader at_magic FRAME_MAGIC_PLACE bytes → IsNumber (only 4 QUERY_MAGIC) (take 4 (drop FRAME_MAGIC_PLACE bytes)) v → Leads IsQueryHeader at_version FRAME_VERSION_PLACE bytes
to_version leads h = leads-on (is_field 4 QUERY_MAGIC QUERY_MAGIC (lit≤ tt) (lit≤ tt) (lit< tt)) leads h

-- the version was read, so the scheme comes next
pub to_scheme : {bytes : List ℕ} {v : ℕ} → Leads IsQueryHeader at_version FRAME_VERSION_PLACE bytes → IsNumber version_field (take 1 (drop FRAME_VERSION_PLACE bytes)) v
    → Leads IsQueryHeader (at_scheme v) FRAME_SCHEME_PLACE bytes
to_scheme leads h = leads-on (is_field 1 (number_of Single) (number_of Several) (lit≤ tt) (lit≤ tt) (lit< tt)) leads h

-- the scheme was read, so the index comes next
pub to_index : {bytes : List ℕ} {version v : ℕ} → Leads IsQueryHeader (at_scheme version) FRAME_SCHEME_PLACE bytes → IsNumber (record { width = 1; least = SHAMIR; most = XOR }) (take 1 (drop FRAME_SCHEME_PLACE bytes)) v
    → Leads IsQueryHeader (at_index version v) FRAME_INDEX_PLACE bytes
to_index leads h = leads-on (is_field 1 SHAMIR XOR (lit≤ tt) (lit≤ tt) (lit< tt)) leads h

-- the index was read, so the byte that says for how many blocks comes next
pub to_count : {bytes : List ℕ} {version scheme v : ℕ} → Leads IsQueryHeader (at_index version scheme) FRAME_INDEX_PLACE bytes → IsNumber (record { width = 1; least = 1; most = 255 }) (take 1 (drop FRAME_INDEX_PLACE bytes)) v
    → Leads IsQueryHeader (at_count version scheme v) FRAME_STATUS_PLACE bytes
to_count leads h = leads-on (is_field 1 1 255 (lit≤ tt) (lit≤ tt) (lit< tt)) leads h

-- that byte was read as one of the header's version, so the session comes next
pub to_session : {bytes : List ℕ} {version scheme index v : ℕ} {told : Version} → told ≡ version_of version → Leads IsQueryHeader (at_count version scheme index) FRAME_STATUS_PLACE bytes
    → IsNumber (count_field told) (take 1 (drop (first_place (count_name told)) bytes)) v → Leads IsQueryHeader (at_shape version scheme index (count_of v)) FRAME_SESSION_PLACE bytes
to_session {bytes} {version} {scheme} {index} {v} {told} is leads h =
    let here = subst (λ (at : ℕ). IsNumber (count_field told) (take 1 (drop at bytes)) v) (name_place told) h in
    leads-on (count_is_field (version_of version)) leads (subst (λ (w : Version). IsNumber (count_field w) (take 1 (drop FRAME_STATUS_PLACE bytes)) v) is here)

-- any eight bytes are a session
any_session : (bytes : List ℕ) (at : ℕ) → All IsByte bytes → at + 8 ≤ length bytes
    → (length (take 8 (drop at bytes)) ≡ 8) × IsNumber session_field (take 8 (drop at bytes)) (number (take 8 (drop at bytes)))
any_session bytes at all enough =
    let prefix = take 8 (drop at bytes) in
    let long : length prefix ≡ 8 = length-take 8 (drop at bytes) ∙ omega (arith, length-drop at bytes) in
    let are = All-take IsByte 8 (drop at bytes) (All-drop IsByte at bytes all) in
    let below : number prefix < 18446744073709551616 = subst (λ (k : ℕ). number prefix < 256 ^ k) long (number_below prefix are) in (
      long,
      record {
        least = omega arith;
        most = omega arith;
        spelled = sym (digits-number prefix are) ∙ ap (λ (k : ℕ). bytes_high_first k (number prefix)) long;
      },
    )

-- so they never stop being one
pub session_goes_on : (bytes : List ℕ) (at place : ℕ) → All IsByte bytes → at + 8 ≤ length bytes → StopsWithin (IsNumber session_field) at 8 bytes place → ⊥
session_goes_on bytes at place all enough w =
    let prefix = take 8 (drop at bytes) in
    let any = any_session bytes at all enough in
    let whole : take 8 prefix ≡ prefix = take_all 8 prefix (omega (arith, any.0)) in
    w.stops.longest 8 (omega (arith, w.after, w.before)) (omega (arith, any.0))
    (subst (Starts (IsNumber session_field)) (sym whole) (starts-whole (IsNumber session_field) prefix (number prefix) any.1))

-- the version that is read stands at its place
pub version_at : (bytes : List ℕ) {version : ℕ} → IsNumber version_field (take 1 (drop FRAME_VERSION_PLACE bytes)) version → get_or bytes FRAME_VERSION_PLACE 0 ≡ version
version_at bytes {version} h =
    let prefix = byte_prefix (number_of Single) (number_of Several) version _ (lit< tt) h in
    sym (get_or-drop FRAME_VERSION_PLACE bytes 0 0) ∙ sym (get_or-take 1 (drop FRAME_VERSION_PLACE bytes) 0 0 (lit< tt)) ∙ ap (λ (l : List ℕ). get_or l 0 0) prefix

-- a field stops being right: so does the header, in that field
pub stops_in : {f : Number} {next : ℕ → List ℕ → QueryHeader → Type 0} {bytes : List ℕ} {fault : FrameFault} (field : Field) → first_place field + f.width ≡ end_place field
    → (first_place field ≤ FRAME_STATUS_PLACE → FRAME_STATUS_PLACE < end_place field → field ≡ count_name (version_of (get_or bytes FRAME_VERSION_PLACE 0)))
    → Leads IsQueryHeader (Then f next) (first_place field) bytes → ((v : ℕ) → f.least ≤ v → v ≤ f.most → Starts (next v) []) → ReadsField f field bytes (Err fault)
    → ReadsQuery bytes (Err fault)
stops_in {f} {next} {bytes} {fault} field size named leads some h =
    let stops = leads-stop leads some h.0 in
    let after : first_place fault.field ≤ fault.place = omega (arith, h.0.after, ap first_place h.1) in
    let before : fault.place < end_place fault.field = omega (arith, h.0.before, size, ap end_place h.1) in
    let name : fault.place ≡ FRAME_STATUS_PLACE → fault.field ≡ count_name (version_of (get_or bytes FRAME_VERSION_PLACE 0)) = λ at. h.1 ∙ named (omega (arith, at, h.0.after)) (omega (arith, at, h.0.before, size)) in
    (record { stops = stops.0; after = after; before = before; named = name }, stops.1)

-- so does the byte that says for how many blocks a query asks
pub stops_in_count : {bytes : List ℕ} {version scheme index : ℕ} {told : Version} {fault : FrameFault} → get_or bytes FRAME_VERSION_PLACE 0 ≡ version → told ≡ version_of version
    → Leads IsQueryHeader (at_count version scheme index) FRAME_STATUS_PLACE bytes
    → ReadsField (count_field told) (count_name told) bytes (Err fault) → ReadsQuery bytes (Err fault)
stops_in_count {bytes} {version} {scheme} {index} {told} {fault} at is leads h =
    let of = version_of version in
    let here = subst (λ (place : ℕ). Leads IsQueryHeader (at_count version scheme index) place bytes) (sym (name_place of)) leads in
    stops_in (count_name of) (omega (arith, name_place of, name_end of)) (λ _ _. ap (λ (v : ℕ). count_name (version_of v)) (sym at)) here (λ v _ most. some_shape version scheme index v most)
    (subst (λ (w : Version). ReadsField (count_field w) (count_name w) bytes (Err fault)) is h)

-- what a `?` hands on of a reading
pub query_exit : {bytes : List ℕ} (r : Result QueryHeader FrameFault) (fault : FrameFault) → IsErrAnd r (λ e. e ≡ fault) → ReadsQuery bytes (Err fault) → ReadsQuery bytes r
query_exit {bytes} r fault exit h =
    let is = err_from_is_err_and r exit in
    subst (ReadsQuery bytes) (sym (is.1 ∙ ap (λ (f : FrameFault). Err f) is.2)) h
