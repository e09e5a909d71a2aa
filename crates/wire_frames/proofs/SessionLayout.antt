-- The header of a session as a chain of fields: each in the range that the numbers before it leave.
use Rattle.std.proofs.Common.{ℕ, ◌+◌, ◌<◌, ◌≤◌, List, [], ◌∷◌, ◌++◌, take, drop, sym, subst, ap, ◌∙◌, arith, lit≤, lit<}
use Rattle.std.specs.Int.{bytes_high_first}
use Rattle.quantity_limits.specs.declared.TheConstants.{MOST_BLOCKS, MOST_DEGREE, MOST_SERVERS}
use Rattle.wire_frames.specs.declared.field.Number.{Number}
use Rattle.wire_frames.specs.declared.layout.TheConstants.{SESSION_MAGIC}
use Rattle.wire_frames.specs.declared.places.TheConstants.{SESSION_MAGIC_PLACE, SESSION_VERSION_PLACE, SESSION_SCHEME_PLACE, SESSION_DEGREE_PLACE, SESSION_AGREEMENT_PLACE, SESSION_SERVERS_PLACE, SESSION_COUNT_PLACE, SESSION_ZERO_PLACE, SESSION_NUMBER_PLACE}
use Rattle.wire_frames.specs.declared.scheme.TheConstants.{SHAMIR, XOR}
use Rattle.wire_frames.specs.declared.session.SessionParams.{SessionParams}
use Rattle.wire_frames.specs.declared.version.Version.TheVariants.{Single, Several}
use Rattle.wire_frames.specs.Field.{IsNumber, count_field, most_servers, servers_field}
use Rattle.wire_frames.specs.Form.{Starts}
use Rattle.wire_frames.specs.Layout.{IsHeader}
use Rattle.wire_frames.specs.Scheme.{scheme_of}
use Rattle.wire_frames.specs.Version.{count_byte, count_of, number_of, version_of}
use Rattle.wire_frames.proofs.Chains.{Then, Leads, field_then, leads-start, leads-on, some_spelling}
use Rattle.wire_frames.proofs.Counts.{byte_most, byte-mono, byte_told, count_in, count_is_field, count_told}
use Rattle.wire_frames.proofs.QueryLayout.{version_field}
use Rattle.wire_frames.proofs.Servers.{few_agree, few_servers, some_servers, at_most_servers, one_number, servers_are, a_scheme, scheme_in}
use Rattle.wire_frames.proofs.ShapeFields.{at_session, shape_bytes, shape_into, shape_back, some_session}
use Rattle.wire_frames.proofs.Spellings.{only, byte_is, number_is, byte_prefix, only_prefix, joined, is_field}

-- the numbers of a session, from its header
abbrev pub params_of : ℕ → ℕ → ℕ → ℕ → ℕ → ℕ → ℕ → ℕ → ℕ → SessionParams
params_of version scheme t h n count session r s = record {
  version = version;
  scheme = scheme;
  t = t;
  h = h;
  n = n;
  count = count;
  session = session;
  r = r;
  s = s;
}

-- what is left of a header where the numbers before are known
abbrev pub at_shape : ℕ → ℕ → ℕ → ℕ → ℕ → ℕ → List ℕ → SessionParams → Type 0
at_shape version scheme t h n count = at_session (params_of version scheme t h n count) count

abbrev pub at_zero : ℕ → ℕ → ℕ → ℕ → ℕ → ℕ → List ℕ → SessionParams → Type 0
at_zero version scheme t h n count = Then (only 2 0) (λ _. at_shape version scheme t h n count)

abbrev pub at_count : ℕ → ℕ → ℕ → ℕ → ℕ → List ℕ → SessionParams → Type 0
at_count version scheme t h n = Then (count_field (version_of version)) (λ byte. at_zero version scheme t h n (count_of byte))

abbrev pub at_n : ℕ → ℕ → ℕ → ℕ → List ℕ → SessionParams → Type 0
at_n version scheme t h = Then (servers_field (scheme_of scheme) h) (λ n. at_count version scheme t h n)

abbrev pub at_h : ℕ → ℕ → ℕ → List ℕ → SessionParams → Type 0
at_h version scheme t = Then (servers_field (scheme_of scheme) (t + 1)) (λ h. at_n version scheme t h)

-- Shamir's sharing or the XOR scheme
abbrev pub scheme_field : Number
scheme_field = record { width = 1; least = SHAMIR; most = XOR }

abbrev pub at_t : ℕ → ℕ → List ℕ → SessionParams → Type 0
at_t version scheme = Then (record { width = 1; least = 1; most = MOST_DEGREE }) (λ t. at_h version scheme t)

abbrev pub at_scheme : ℕ → List ℕ → SessionParams → Type 0
at_scheme version = Then scheme_field (λ scheme. at_t version scheme)

abbrev pub at_version : List ℕ → SessionParams → Type 0
at_version = Then version_field (λ version. at_scheme version)

abbrev pub at_magic : List ℕ → SessionParams → Type 0
at_magic = Then (only 4 SESSION_MAGIC) (λ _. at_version)

-- a header is a chain of fields
pub header_into : (bytes : List ℕ) (p : SessionParams) → IsHeader bytes p → at_magic bytes p
header_into bytes p h =
    let range = h.range in
    let some_scheme = scheme_in p.scheme range.scheme in
    let blocks = range.blocks in
    let session_on = shape_into (params_of p.version p.scheme p.t p.h p.n p.count) p.count p.session p.r p.s range.session range.shape blocks.some_blocks blocks.few_bytes in
    let zero_on = field_then {next = λ _. at_shape p.version p.scheme p.t p.h p.n p.count} _ p (number_is 2 0 0 0 (omega arith) (omega arith)) session_on in
    let told = count_told p.version p.count p.s blocks in
    let count_on = field_then {next = λ byte. at_zero p.version p.scheme p.t p.h p.n (count_of byte)} _ p
    (byte_is (count_byte (version_of p.version) 1) (count_byte (version_of p.version) p.count) (count_byte (version_of p.version) MOST_BLOCKS) (byte-mono (version_of p.version) 1 p.count blocks.some_blocks) (byte-mono (version_of p.version) p.count MOST_BLOCKS blocks.few_blocks) (omega (arith, byte_most (version_of p.version) MOST_BLOCKS)))
    (subst (λ (c : ℕ). at_zero p.version p.scheme p.t p.h p.n c (bytes_high_first 2 0 ++ shape_bytes p.session p.r p.s) p) (sym told) zero_on) in
    let n_on = field_then {next = λ n. at_count p.version p.scheme p.t p.h n} _ p (byte_is p.h p.n (most_servers (scheme_of p.scheme) p.h) range.servers (at_most_servers p.scheme p.h p.n range.all_answer range.few_servers) (omega (arith, few_servers (scheme_of p.scheme) p.h range.few_agree))) count_on in
    let h_on = field_then {next = λ h. at_n p.version p.scheme p.t h} _ p (byte_is (p.t + 1) p.h (most_servers (scheme_of p.scheme) (p.t + 1)) (omega (arith, range.agreement)) (at_most_servers p.scheme (p.t + 1) p.h range.all_agree range.few_agree) (omega (arith, few_servers (scheme_of p.scheme) (p.t + 1) (omega (arith, range.few_private))))) n_on in
    let t_on = field_then {next = λ t. at_h p.version p.scheme t} _ p (byte_is 1 p.t MOST_DEGREE range.private range.few_private (lit< tt)) h_on in
    let scheme_on = field_then {next = λ scheme. at_t p.version scheme} _ p (byte_is SHAMIR p.scheme XOR some_scheme.0 some_scheme.1 (lit< tt)) t_on in
    let version_on = field_then {next = λ version. at_scheme version} _ p (byte_is (number_of Single) p.version (number_of Several) blocks.some_version blocks.two_versions (lit< tt)) scheme_on in
    let whole = field_then {next = λ _. at_version} _ p (number_is 4 SESSION_MAGIC SESSION_MAGIC SESSION_MAGIC (lit≤ tt) (lit≤ tt)) version_on in
    subst (λ (l : List ℕ). at_magic l p) (sym h.spelled) whole

-- the numbers in a chain of fields are those of a header
pub header_back : (bytes : List ℕ) (p : SessionParams) → at_magic bytes p → IsHeader bytes p
header_back bytes p magic =
    let version = magic.goes_on in
    let scheme = version.goes_on in
    let t = scheme.goes_on in
    let h = t.goes_on in
    let n = h.goes_on in
    let count = n.goes_on in
    let zero = count.goes_on in
    let v = version.number in
    let few : h.number ≤ MOST_SERVERS = few_agree (scheme_of scheme.number) t.number h.number t.field.most h.field.most in
    let most_agree : most_servers (scheme_of scheme.number) (t.number + 1) < 256 = omega (arith, few_servers (scheme_of scheme.number) (t.number + 1) (omega (arith, t.field.most))) in
    let most : most_servers (scheme_of scheme.number) h.number ≤ MOST_SERVERS = few_servers (scheme_of scheme.number) h.number few in
    let shaped = shape_back (params_of v scheme.number t.number h.number n.number (count_of count.number)) (count_of count.number) zero.rest p (omega arith) zero.goes_on in
    let zero_is = joined count.rest zero.prefix zero.rest (bytes_high_first 2 0) _ zero.split (only_prefix 2 0 zero.number zero.prefix zero.field) shaped.spelled in
    let byte_is = byte_told (version_of v) count.number count.field.least count.field.most in
    let count_prefix = byte_prefix (count_byte (version_of v) 1) (count_byte (version_of v) MOST_BLOCKS) count.number count.prefix (omega (arith, byte_most (version_of v) MOST_BLOCKS)) count.field in
    let count_is = joined n.rest count.prefix count.rest (count_byte (version_of v) (count_of count.number) ∷ []) _ count.split (count_prefix ∙ ap (λ (b : ℕ). b ∷ []) byte_is) zero_is in
    let n_is = joined h.rest n.prefix n.rest (n.number ∷ []) _ n.split (byte_prefix h.number (most_servers (scheme_of scheme.number) h.number) n.number n.prefix (omega (arith, most)) n.field) count_is in
    let h_is = joined t.rest h.prefix h.rest (h.number ∷ []) _ h.split (byte_prefix (t.number + 1) (most_servers (scheme_of scheme.number) (t.number + 1)) h.number h.prefix most_agree h.field) n_is in
    let t_is = joined scheme.rest t.prefix t.rest (t.number ∷ []) _ t.split (byte_prefix 1 MOST_DEGREE t.number t.prefix (lit< tt) t.field) h_is in
    let scheme_is = joined version.rest scheme.prefix scheme.rest (scheme.number ∷ []) _ scheme.split (byte_prefix SHAMIR XOR scheme.number scheme.prefix (lit< tt) scheme.field) t_is in
    let version_is = joined magic.rest version.prefix version.rest (v ∷ []) _ version.split (byte_prefix (number_of Single) (number_of Several) v version.prefix (lit< tt) version.field) scheme_is in
    let whole = joined bytes magic.prefix magic.rest (bytes_high_first 4 SESSION_MAGIC) _ magic.split (only_prefix 4 SESSION_MAGIC magic.number magic.prefix magic.field) version_is in
    subst (IsHeader bytes) shaped.same (record {
      range = record {
        scheme = a_scheme scheme.number scheme.field.least scheme.field.most;
        private = t.field.least;
        few_private = t.field.most;
        agreement = omega (arith, h.field.least);
        few_agree = few;
        servers = n.field.least;
        few_servers = omega (arith, n.field.most, most);
        all_agree = one_number scheme.number (t.number + 1) h.number h.field.least h.field.most;
        all_answer = one_number scheme.number h.number n.number n.field.least n.field.most;
        session = shaped.below;
        shape = shaped.shape;
        blocks = count_in v count.number shaped.s version.field.least version.field.most count.field.most shaped.blocks;
      };
      spelled = whole;
    })

-- whatever came before, a header can be completed
pub some_shape : (version scheme t h n byte : ℕ) → byte ≤ count_byte (version_of version) MOST_BLOCKS → Starts (at_shape version scheme t h n (count_of byte)) []
some_shape version scheme t h n byte few =
    some_session (params_of version scheme t h n (count_of byte)) (count_of byte) (omega arith) (omega (arith, few, byte_most (version_of version) MOST_BLOCKS))

-- behind the byte of blocks the zeros can stand, and the rest of a header
pub some_zero : (version scheme t h n byte : ℕ) → byte ≤ count_byte (version_of version) MOST_BLOCKS → Starts (at_zero version scheme t h n (count_of byte)) []
some_zero version scheme t h n byte few = some_spelling _ _ 0 (omega arith) (omega arith) (some_shape version scheme t h n byte few)

-- behind the number of servers some byte of blocks can stand, and the rest of a header
pub some_count : (version scheme t h n : ℕ) → Starts (at_count version scheme t h n) []
some_count version scheme t h n =
    let some = (count_is_field (version_of version)).some in
    some_spelling _ _ (count_byte (version_of version) 1) (omega arith) some (some_zero version scheme t h n (count_byte (version_of version) 1) some)

-- behind the agreement some number of servers can stand, and the rest of a header
pub some_n : (version scheme t h : ℕ) → h ≤ MOST_SERVERS → Starts (at_n version scheme t h) []
some_n version scheme t h few = some_spelling _ _ h (omega arith) (some_servers (scheme_of scheme) h few) (some_count version scheme t h h)

-- behind the degree some agreement can stand, and the rest of a header
pub some_h : (version scheme t : ℕ) → t ≤ MOST_DEGREE → Starts (at_h version scheme t) []
some_h version scheme t few =
    some_spelling _ _ (t + 1) (omega arith) (some_servers (scheme_of scheme) (t + 1) (omega (arith, few))) (some_n version scheme t (t + 1) (omega (arith, few)))

-- behind the scheme some degree can stand, and the rest of a header
pub some_t : (version scheme : ℕ) → Starts (at_t version scheme) []
some_t version scheme = some_spelling _ _ 1 (omega arith) (lit≤ tt) (some_h version scheme 1 (lit≤ tt))

-- behind the version some scheme can stand, and the rest of a header
pub some_scheme : (version : ℕ) → Starts (at_scheme version) []
some_scheme version = some_spelling _ _ SHAMIR (omega arith) (lit≤ tt) (some_t version SHAMIR)

-- behind the letters some version can stand, and the rest of a header
pub some_version : Starts at_version []
some_version = some_spelling _ _ (number_of Single) (omega arith) (lit≤ tt) (some_scheme (number_of Single))

-- there is some header
pub some_magic : Starts at_magic []
some_magic = some_spelling _ _ SESSION_MAGIC (lit≤ tt) (lit≤ tt) some_version

-- THE STEPS of a reading of a header: each field that is read leads on to the next
pub to_version : (bytes : List ℕ) (v : ℕ) → IsNumber (only 4 SESSION_MAGIC) (take 4 (drop SESSION_MAGIC_PLACE bytes)) v → Leads IsHeader at_version SESSION_VERSION_PLACE bytes
to_version bytes v h = leads-on (is_field 4 SESSION_MAGIC SESSION_MAGIC (lit≤ tt) (lit≤ tt) (lit< tt)) (leads-start bytes header_into header_back) h

-- the version was read, so the scheme comes next
pub to_scheme : {bytes : List ℕ} {v : ℕ} → Leads IsHeader at_version SESSION_VERSION_PLACE bytes → IsNumber version_field (take 1 (drop SESSION_VERSION_PLACE bytes)) v → Leads IsHeader (at_scheme v) SESSION_SCHEME_PLACE bytes
to_scheme leads h = leads-on (is_field 1 (number_of Single) (number_of Several) (lit≤ tt) (lit≤ tt) (lit< tt)) leads h

-- the scheme was read, so the degree comes next
pub to_t : {bytes : List ℕ} {version v : ℕ} → Leads IsHeader (at_scheme version) SESSION_SCHEME_PLACE bytes → IsNumber scheme_field (take 1 (drop SESSION_SCHEME_PLACE bytes)) v → Leads IsHeader (at_t version v) SESSION_DEGREE_PLACE bytes
to_t leads h = leads-on (is_field 1 SHAMIR XOR (lit≤ tt) (lit≤ tt) (lit< tt)) leads h

-- the degree was read, so the agreement comes next
pub to_h : {bytes : List ℕ} {version scheme v : ℕ} → Leads IsHeader (at_t version scheme) SESSION_DEGREE_PLACE bytes → IsNumber (record { width = 1; least = 1; most = MOST_DEGREE }) (take 1 (drop SESSION_DEGREE_PLACE bytes)) v
    → Leads IsHeader (at_h version scheme v) SESSION_AGREEMENT_PLACE bytes
to_h leads h = leads-on (is_field 1 1 MOST_DEGREE (lit≤ tt) (lit≤ tt) (lit< tt)) leads h

-- the agreement was read, so the number of servers comes next
pub to_n : {bytes : List ℕ} {version scheme t v : ℕ} → t ≤ MOST_DEGREE → Leads IsHeader (at_h version scheme t) SESSION_AGREEMENT_PLACE bytes → IsNumber (servers_field (scheme_of scheme) (t + 1)) (take 1 (drop SESSION_AGREEMENT_PLACE bytes)) v
    → Leads IsHeader (at_n version scheme t v) SESSION_SERVERS_PLACE bytes
to_n {bytes} {version} {scheme} {t} {v} few leads h = leads-on (servers_are (scheme_of scheme) (t + 1) (omega (arith, few))) leads h

-- the servers were read, so the byte that says for how many blocks comes next
pub to_count : {bytes : List ℕ} {version scheme t h v : ℕ} → h ≤ MOST_SERVERS → Leads IsHeader (at_n version scheme t h) SESSION_SERVERS_PLACE bytes → IsNumber (servers_field (scheme_of scheme) h) (take 1 (drop SESSION_SERVERS_PLACE bytes)) v
    → Leads IsHeader (at_count version scheme t h v) SESSION_COUNT_PLACE bytes
to_count {bytes} {version} {scheme} {t} {h} {v} few leads is = leads-on (servers_are (scheme_of scheme) h few) leads is

-- that byte was read, so the zeros come next
pub to_zero : {bytes : List ℕ} {version scheme t h n v : ℕ} → Leads IsHeader (at_count version scheme t h n) SESSION_COUNT_PLACE bytes → IsNumber (count_field (version_of version)) (take 1 (drop SESSION_COUNT_PLACE bytes)) v
    → Leads IsHeader (at_zero version scheme t h n (count_of v)) SESSION_ZERO_PLACE bytes
to_zero {bytes} {version} {scheme} {t} {h} {n} {v} leads is = leads-on (count_is_field (version_of version)) leads is

-- the zeros were read, so the session comes next
pub to_session : {bytes : List ℕ} {version scheme t h n count v : ℕ} → Leads IsHeader (at_zero version scheme t h n count) SESSION_ZERO_PLACE bytes → IsNumber (only 2 0) (take 2 (drop SESSION_ZERO_PLACE bytes)) v
    → Leads IsHeader (at_shape version scheme t h n count) SESSION_NUMBER_PLACE bytes
to_session leads h = leads-on (is_field 2 0 0 (lit≤ tt) (lit≤ tt) (lit< tt)) leads h
