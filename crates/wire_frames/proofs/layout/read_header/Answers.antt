use Rattle.std.proofs.Common.{◌≡◌, ◌∙◌, ℕ, ◌+◌, ◌<◌, ◌≤◌, ◌^◌, ◌/◌, Fits, w8, w32, w64, max, min, ap, subst, sym, arith, lit≤, lit<, div-le_self}
use Rattle.wire_frames.specs.Layout.{IsHeader}
use Rattle.wire_frames.specs.Field.{IsField, count_field, most_servers, servers_field, width_field}
use Rattle.wire_frames.specs.Version.{count_byte, count_of, version_of}
use Rattle.wire_frames.specs.Scheme.{scheme_of}
use Rattle.wire_frames.specs.declared.field.Number.{Number}
use Rattle.wire_frames.specs.declared.scheme.Scheme.{Scheme}
use Rattle.wire_frames.specs.declared.version.Version.{Version}
use Rattle.quantity_limits.specs.declared.TheConstants.{MOST_BLOCKS, MOST_CELLS, MOST_DEGREE, MOST_SERVERS, MOST_WIDTH}
use Rattle.wire_frames.specs.declared.places.TheConstants.{SESSION_AGREEMENT_PLACE, SESSION_SERVERS_PLACE, SESSION_COUNT_PLACE, SESSION_WIDTH_PLACE}
use Rattle.wire_frames.proofs.Chains.{leads-start, leads-stop, leads-done, no_more}
use Rattle.wire_frames.proofs.Counts.{byte_most}
use Rattle.wire_frames.proofs.Prefixes.{reads-exit}
use Rattle.wire_frames.proofs.Servers.{few_agree, few_servers, servers_are}
use Rattle.wire_frames.proofs.SessionLayout.{params_of, header_into, header_back, to_version, to_scheme, to_t, to_h, to_n, to_count, to_zero, to_session, some_version, some_scheme, some_t, some_h, some_n, some_count, some_zero, some_shape}
use Rattle.wire_frames.proofs.ShapeFields.{some_r, some_s, to_r, to_s, to_end}
use Rattle.wire_frames.proofs.Spellings.{fits_byte, fits_word, is_field, number_as, some_blocks, stop_as}
use Rattle.wire_frames.proofs.layout.read_header.Goals as goal

fits_next : {n m : ℕ} → n ≤ m → m + 1 < 2 ^ 64 → Fits w64 (n + 1)
fits_next few small = omega (arith, few, small)

fits_servers : (scheme : Scheme) (least n : ℕ) → least ≤ MOST_SERVERS → n ≤ most_servers scheme least → Fits w8 n
fits_servers scheme least n few most = omega (arith, few_servers scheme least few, most)

-- a query asks for a block or more, and not for too many
few_blocks : {count byte most : ℕ} → count ≡ max byte 1 → byte ≤ most → most ≤ MOST_BLOCKS → count ≤ MOST_BLOCKS
few_blocks is few most = omega (arith, is, few, most)

-- for how many blocks a byte asks
is_count : (count byte : ℕ) → count ≡ max byte 1 → count ≡ count_of byte
is_count count byte is = omega (arith, is)

asks : (byte : ℕ) → 1 ≤ count_of byte
asks byte = omega arith

asks_few : (version byte : ℕ) → byte ≤ count_byte (version_of version) MOST_BLOCKS → count_of byte ≤ MOST_BLOCKS
asks_few version byte most = omega (arith, byte_most (version_of version) MOST_BLOCKS, most)

-- a field of servers, by the number of the scheme
by_number : {f : Number} {kind : Scheme} {least : ℕ} (scheme : ℕ) → kind ≡ scheme_of scheme → f ≡ servers_field kind least → f ≡ servers_field (scheme_of scheme) least
by_number {f} {kind} {least} scheme is told = told ∙ ap (λ (z : Scheme). servers_field z least) is

-- the field of the byte that says for how many blocks, by the number of the version
by_version : {f : Number} {told : Version} (version : ℕ) → told ≡ version_of version → f ≡ count_field told → f ≡ count_field (version_of version)
by_version version is field = field ∙ ap count_field is

-- a width is a word
fits_width : (count r s : ℕ) → s ≤ min (MOST_WIDTH / count) (MOST_CELLS / r) → Fits w32 s
fits_width count r s most = omega (arith, div-le_self MOST_CELLS r, most)

-- where so few may learn nothing together, one more may have to agree
one_more : (t : ℕ) → t ≤ MOST_DEGREE → t + 1 ≤ MOST_SERVERS
one_more t few = omega (arith, few)

pub number_at-requires : goal.number_at-requires
number_at-requires c = is_field _ _ _ (lit≤ tt) (lit≤ tt) (lit< tt)

pub number_at-requires-2 : goal.number_at-requires-2
number_at-requires-2 c = is_field _ _ _ (lit≤ tt) (lit≤ tt) (lit< tt)

pub number_at-requires-3 : goal.number_at-requires-3
number_at-requires-3 c = is_field _ _ _ (lit≤ tt) (lit≤ tt) (lit< tt)

pub number_at-requires-4 : goal.number_at-requires-4
number_at-requires-4 c = is_field _ _ _ (lit≤ tt) (lit≤ tt) (lit< tt)

pub number_at-requires-8 : goal.number_at-requires-8
number_at-requires-8 c = is_field _ _ _ (lit≤ tt) (lit≤ tt) (lit< tt)

pub number_at-requires-9 : goal.number_at-requires-9
number_at-requires-9 c = is_field _ _ _ (lit≤ tt) (lit≤ tt) (lit< tt)

pub number_at-requires-10 : goal.number_at-requires-10
number_at-requires-10 c = is_field _ _ _ (lit≤ tt) (lit≤ tt) (lit< tt)

pub number_at-requires-5 : goal.number_at-requires-5
number_at-requires-5 c =
    subst (λ (f : Number). IsField f) (sym (by_number c.in_ok-scheme.scheme c.of-kind.ensures.is c.servers_field.ensures)) (servers_are (scheme_of c.in_ok-scheme.scheme) (c.in_ok-t.t + 1) (one_more c.in_ok-t.t c.in_ok-t.ensures.most))

pub number_at-requires-6 : goal.number_at-requires-6
number_at-requires-6 c =
    let agree = number_as SESSION_AGREEMENT_PLACE c.args.bytes.now (by_number c.in_ok-scheme.scheme c.of-kind.ensures.is c.servers_field.ensures) c.in_ok-h.ensures in
    let few = few_agree (scheme_of c.in_ok-scheme.scheme) c.in_ok-t.t c.in_ok-h.h c.in_ok-t.ensures.most agree.most in
    subst (λ (f : Number). IsField f) (sym (by_number c.in_ok-scheme.scheme c.of-kind.ensures.is c.servers_field-2.ensures)) (servers_are (scheme_of c.in_ok-scheme.scheme) c.in_ok-h.h few)

pub number_at-requires-7 : goal.number_at-requires-7
number_at-requires-7 c = c.count_field.ensures.field

pub number_at-requires-11 : goal.number_at-requires-11
number_at-requires-11 c = c.width_field.ensures.field

pub width_field-requires-clause-asked : goal.width_field-requires-clause-asked
width_field-requires-clause-asked c = some_blocks _ _ c.max-count.ensures

pub width_field-requires-clause-blocks : goal.width_field-requires-clause-blocks
width_field-requires-clause-blocks c = few_blocks c.max-count.ensures c.in_ok-byte.ensures.most c.count_field.ensures.few

pub width_field-requires-clause-some : goal.width_field-requires-clause-some
width_field-requires-clause-some c = c.in_ok-r.ensures.least

pub width_field-requires-clause-rows : goal.width_field-requires-clause-rows
width_field-requires-clause-rows c = c.in_ok-r.ensures.most

pub overflow_add-t : goal.overflow_add-t
overflow_add-t c = fits_next c.in_ok-t.ensures.most (lit< tt)

pub overflow_cast-result-4 : goal.overflow_cast-result-4
overflow_cast-result-4 c =
    let agree = number_as SESSION_AGREEMENT_PLACE c.args.bytes.now (by_number c.in_ok-scheme.scheme c.of-kind.ensures.is c.servers_field.ensures) c.in_ok-h.ensures in
    fits_byte (few_agree (scheme_of c.in_ok-scheme.scheme) c.in_ok-t.t c.in_ok-h.h c.in_ok-t.ensures.most agree.most) (lit< tt)

pub overflow_cast-result-5 : goal.overflow_cast-result-5
overflow_cast-result-5 c =
    let agree = number_as SESSION_AGREEMENT_PLACE c.args.bytes.now (by_number c.in_ok-scheme.scheme c.of-kind.ensures.is c.servers_field.ensures) c.in_ok-h.ensures in
    let few = few_agree (scheme_of c.in_ok-scheme.scheme) c.in_ok-t.t c.in_ok-h.h c.in_ok-t.ensures.most agree.most in
    let servers = number_as SESSION_SERVERS_PLACE c.args.bytes.now (by_number c.in_ok-scheme.scheme c.of-kind.ensures.is c.servers_field-2.ensures) c.in_ok-n.ensures in
    fits_servers (scheme_of c.in_ok-scheme.scheme) c.in_ok-h.h c.in_ok-n.n few servers.most

pub overflow_cast-result-6 : goal.overflow_cast-result-6
overflow_cast-result-6 c = fits_byte (few_blocks c.max-count.ensures c.in_ok-byte.ensures.most c.count_field.ensures.few) (lit< tt)

pub overflow_cast-scheme : goal.overflow_cast-scheme
overflow_cast-scheme c = fits_byte c.in_ok-scheme.ensures.most (lit< tt)

pub overflow_cast-version : goal.overflow_cast-version
overflow_cast-version c = fits_byte c.in_ok-version.ensures.most (lit< tt)

pub overflow_cast-result : goal.overflow_cast-result
overflow_cast-result c = fits_byte c.in_ok-version.ensures.most (lit< tt)

pub overflow_cast-result-2 : goal.overflow_cast-result-2
overflow_cast-result-2 c = fits_byte c.in_ok-scheme.ensures.most (lit< tt)

pub overflow_cast-result-3 : goal.overflow_cast-result-3
overflow_cast-result-3 c = fits_byte c.in_ok-t.ensures.most (lit< tt)

pub overflow_cast-result-7 : goal.overflow_cast-result-7
overflow_cast-result-7 c = fits_word c.in_ok-r.ensures.most (lit< tt)

pub overflow_cast-result-8 : goal.overflow_cast-result-8
overflow_cast-result-8 c =
    let width = number_as SESSION_WIDTH_PLACE c.args.bytes.now c.width_field.ensures.is c.in_ok-s.ensures in
    fits_width c.max-count.result c.in_ok-r.r c.in_ok-s.s width.most

pub returns-in_err-number_at : goal.returns-in_err-number_at
returns-in_err-number_at c =
    let start = leads-start c.args.bytes.now header_into header_back in
    reads-exit c.from_residual.result _ c.from_residual.ensures.1 (leads-stop start (λ _ _ _. some_version) c.in_err-number_at.ensures)

pub returns-in_err-version : goal.returns-in_err-version
returns-in_err-version c =
    let magic = to_version c.args.bytes.now _ c.in_ok-number_at.ensures in
    reads-exit c.from_residual-in_err-version.result _ c.from_residual-in_err-version.ensures.1 (leads-stop magic (λ v _ _. some_scheme v) c.in_err-version.ensures)

pub returns-in_err-scheme : goal.returns-in_err-scheme
returns-in_err-scheme c =
    let magic = to_version c.args.bytes.now _ c.in_ok-number_at.ensures in
    let version = to_scheme magic c.in_ok-version.ensures in
    reads-exit c.from_residual-in_err-scheme.result _ c.from_residual-in_err-scheme.ensures.1 (leads-stop version (λ v _ _. some_t _ v) c.in_err-scheme.ensures)

pub returns-in_err-t : goal.returns-in_err-t
returns-in_err-t c =
    let magic = to_version c.args.bytes.now _ c.in_ok-number_at.ensures in
    let version = to_scheme magic c.in_ok-version.ensures in
    let scheme = to_t version c.in_ok-scheme.ensures in
    reads-exit c.from_residual-in_err-t.result _ c.from_residual-in_err-t.ensures.1 (leads-stop scheme (λ v _ most. some_h _ _ v most) c.in_err-t.ensures)

pub returns-in_err-h : goal.returns-in_err-h
returns-in_err-h c =
    let magic = to_version c.args.bytes.now _ c.in_ok-number_at.ensures in
    let version = to_scheme magic c.in_ok-version.ensures in
    let scheme = to_t version c.in_ok-scheme.ensures in
    let t = to_h scheme c.in_ok-t.ensures in
    reads-exit c.from_residual-in_err-h.result _ c.from_residual-in_err-h.ensures.1 (leads-stop t (λ v _ most. some_n _ _ _ v (few_agree (scheme_of c.in_ok-scheme.scheme) c.in_ok-t.t v c.in_ok-t.ensures.most most)) (stop_as (by_number c.in_ok-scheme.scheme c.of-kind.ensures.is c.servers_field.ensures) c.in_err-h.ensures))

pub returns-in_err-n : goal.returns-in_err-n
returns-in_err-n c =
    let magic = to_version c.args.bytes.now _ c.in_ok-number_at.ensures in
    let version = to_scheme magic c.in_ok-version.ensures in
    let scheme = to_t version c.in_ok-scheme.ensures in
    let t = to_h scheme c.in_ok-t.ensures in
    let agree = number_as SESSION_AGREEMENT_PLACE c.args.bytes.now (by_number c.in_ok-scheme.scheme c.of-kind.ensures.is c.servers_field.ensures) c.in_ok-h.ensures in
    let h = to_n c.in_ok-t.ensures.most t agree in
    reads-exit c.from_residual-in_err-n.result _ c.from_residual-in_err-n.ensures.1 (leads-stop h (λ v _ _. some_count _ _ _ _ v) (stop_as (by_number c.in_ok-scheme.scheme c.of-kind.ensures.is c.servers_field-2.ensures) c.in_err-n.ensures))

pub returns-in_err-byte : goal.returns-in_err-byte
returns-in_err-byte c =
    let magic = to_version c.args.bytes.now _ c.in_ok-number_at.ensures in
    let version = to_scheme magic c.in_ok-version.ensures in
    let scheme = to_t version c.in_ok-scheme.ensures in
    let t = to_h scheme c.in_ok-t.ensures in
    let agree = number_as SESSION_AGREEMENT_PLACE c.args.bytes.now (by_number c.in_ok-scheme.scheme c.of-kind.ensures.is c.servers_field.ensures) c.in_ok-h.ensures in
    let h = to_n c.in_ok-t.ensures.most t agree in
    let few = few_agree (scheme_of c.in_ok-scheme.scheme) c.in_ok-t.t c.in_ok-h.h c.in_ok-t.ensures.most agree.most in
    let n = to_count few h (number_as SESSION_SERVERS_PLACE c.args.bytes.now (by_number c.in_ok-scheme.scheme c.of-kind.ensures.is c.servers_field-2.ensures) c.in_ok-n.ensures) in
    reads-exit c.from_residual-in_err-byte.result _ c.from_residual-in_err-byte.ensures.1 (leads-stop n (λ v _ most. some_zero _ _ _ _ _ v most) (stop_as (by_version c.in_ok-version.version c.of.ensures.is c.count_field.ensures.is) c.in_err-byte.ensures))

pub returns-in_err-number_at-2 : goal.returns-in_err-number_at-2
returns-in_err-number_at-2 c =
    let magic = to_version c.args.bytes.now _ c.in_ok-number_at.ensures in
    let version = to_scheme magic c.in_ok-version.ensures in
    let scheme = to_t version c.in_ok-scheme.ensures in
    let t = to_h scheme c.in_ok-t.ensures in
    let agree = number_as SESSION_AGREEMENT_PLACE c.args.bytes.now (by_number c.in_ok-scheme.scheme c.of-kind.ensures.is c.servers_field.ensures) c.in_ok-h.ensures in
    let h = to_n c.in_ok-t.ensures.most t agree in
    let few = few_agree (scheme_of c.in_ok-scheme.scheme) c.in_ok-t.t c.in_ok-h.h c.in_ok-t.ensures.most agree.most in
    let n = to_count few h (number_as SESSION_SERVERS_PLACE c.args.bytes.now (by_number c.in_ok-scheme.scheme c.of-kind.ensures.is c.servers_field-2.ensures) c.in_ok-n.ensures) in
    let byte = number_as SESSION_COUNT_PLACE c.args.bytes.now (by_version c.in_ok-version.version c.of.ensures.is c.count_field.ensures.is) c.in_ok-byte.ensures in
    let count = to_zero n byte in
    reads-exit c.from_residual-in_err-number_at-2.result _ c.from_residual-in_err-number_at-2.ensures.1 (leads-stop count (λ _ _ _. some_shape _ _ _ _ _ c.in_ok-byte.byte byte.most) c.in_err-number_at-2.ensures)

pub returns-in_err-session : goal.returns-in_err-session
returns-in_err-session c =
    let magic = to_version c.args.bytes.now _ c.in_ok-number_at.ensures in
    let version = to_scheme magic c.in_ok-version.ensures in
    let scheme = to_t version c.in_ok-scheme.ensures in
    let t = to_h scheme c.in_ok-t.ensures in
    let agree = number_as SESSION_AGREEMENT_PLACE c.args.bytes.now (by_number c.in_ok-scheme.scheme c.of-kind.ensures.is c.servers_field.ensures) c.in_ok-h.ensures in
    let h = to_n c.in_ok-t.ensures.most t agree in
    let few = few_agree (scheme_of c.in_ok-scheme.scheme) c.in_ok-t.t c.in_ok-h.h c.in_ok-t.ensures.most agree.most in
    let n = to_count few h (number_as SESSION_SERVERS_PLACE c.args.bytes.now (by_number c.in_ok-scheme.scheme c.of-kind.ensures.is c.servers_field-2.ensures) c.in_ok-n.ensures) in
    let byte = number_as SESSION_COUNT_PLACE c.args.bytes.now (by_version c.in_ok-version.version c.of.ensures.is c.count_field.ensures.is) c.in_ok-byte.ensures in
    let count = to_zero n byte in
    let zero = to_session count c.in_ok-number_at-2.ensures in
    let few_blocks = asks_few c.in_ok-version.version c.in_ok-byte.byte byte.most in
    reads-exit c.from_residual-in_err-session.result _ c.from_residual-in_err-session.ensures.1 (leads-stop zero (λ v _ _. some_r _ _ (asks c.in_ok-byte.byte) few_blocks) c.in_err-session.ensures)

pub returns-in_err-r : goal.returns-in_err-r
returns-in_err-r c =
    let magic = to_version c.args.bytes.now _ c.in_ok-number_at.ensures in
    let version = to_scheme magic c.in_ok-version.ensures in
    let scheme = to_t version c.in_ok-scheme.ensures in
    let t = to_h scheme c.in_ok-t.ensures in
    let agree = number_as SESSION_AGREEMENT_PLACE c.args.bytes.now (by_number c.in_ok-scheme.scheme c.of-kind.ensures.is c.servers_field.ensures) c.in_ok-h.ensures in
    let h = to_n c.in_ok-t.ensures.most t agree in
    let few = few_agree (scheme_of c.in_ok-scheme.scheme) c.in_ok-t.t c.in_ok-h.h c.in_ok-t.ensures.most agree.most in
    let n = to_count few h (number_as SESSION_SERVERS_PLACE c.args.bytes.now (by_number c.in_ok-scheme.scheme c.of-kind.ensures.is c.servers_field-2.ensures) c.in_ok-n.ensures) in
    let byte = number_as SESSION_COUNT_PLACE c.args.bytes.now (by_version c.in_ok-version.version c.of.ensures.is c.count_field.ensures.is) c.in_ok-byte.ensures in
    let count = to_zero n byte in
    let zero = to_session count c.in_ok-number_at-2.ensures in
    let session = to_r _ _ zero c.in_ok-session.ensures in
    let few_blocks = asks_few c.in_ok-version.version c.in_ok-byte.byte byte.most in
    reads-exit c.from_residual-in_err-r.result _ c.from_residual-in_err-r.ensures.1 (leads-stop session (λ v least most. some_s _ _ v (asks c.in_ok-byte.byte) few_blocks least most) c.in_err-r.ensures)

pub returns-in_err-s : goal.returns-in_err-s
returns-in_err-s c =
    let magic = to_version c.args.bytes.now _ c.in_ok-number_at.ensures in
    let version = to_scheme magic c.in_ok-version.ensures in
    let scheme = to_t version c.in_ok-scheme.ensures in
    let t = to_h scheme c.in_ok-t.ensures in
    let agree = number_as SESSION_AGREEMENT_PLACE c.args.bytes.now (by_number c.in_ok-scheme.scheme c.of-kind.ensures.is c.servers_field.ensures) c.in_ok-h.ensures in
    let h = to_n c.in_ok-t.ensures.most t agree in
    let few = few_agree (scheme_of c.in_ok-scheme.scheme) c.in_ok-t.t c.in_ok-h.h c.in_ok-t.ensures.most agree.most in
    let n = to_count few h (number_as SESSION_SERVERS_PLACE c.args.bytes.now (by_number c.in_ok-scheme.scheme c.of-kind.ensures.is c.servers_field-2.ensures) c.in_ok-n.ensures) in
    let byte = number_as SESSION_COUNT_PLACE c.args.bytes.now (by_version c.in_ok-version.version c.of.ensures.is c.count_field.ensures.is) c.in_ok-byte.ensures in
    let count = to_zero n byte in
    let zero = to_session count c.in_ok-number_at-2.ensures in
    let session = to_r _ _ zero c.in_ok-session.ensures in
    let r = to_s _ _ session c.in_ok-r.ensures in
    let told : c.max-count.result ≡ count_of c.in_ok-byte.byte = is_count _ _ c.max-count.ensures in
    reads-exit c.from_residual-in_err-s.result _ c.from_residual-in_err-s.ensures.1 (leads-stop r (λ v _ _. no_more _) (stop_as (c.width_field.ensures.is ∙ ap (λ (k : ℕ). width_field k c.in_ok-r.r) told) c.in_err-s.ensures))

pub returns : goal.returns
returns c =
    let magic = to_version c.args.bytes.now _ c.in_ok-number_at.ensures in
    let version = to_scheme magic c.in_ok-version.ensures in
    let scheme = to_t version c.in_ok-scheme.ensures in
    let t = to_h scheme c.in_ok-t.ensures in
    let agree = number_as SESSION_AGREEMENT_PLACE c.args.bytes.now (by_number c.in_ok-scheme.scheme c.of-kind.ensures.is c.servers_field.ensures) c.in_ok-h.ensures in
    let h = to_n c.in_ok-t.ensures.most t agree in
    let few = few_agree (scheme_of c.in_ok-scheme.scheme) c.in_ok-t.t c.in_ok-h.h c.in_ok-t.ensures.most agree.most in
    let n = to_count few h (number_as SESSION_SERVERS_PLACE c.args.bytes.now (by_number c.in_ok-scheme.scheme c.of-kind.ensures.is c.servers_field-2.ensures) c.in_ok-n.ensures) in
    let byte = number_as SESSION_COUNT_PLACE c.args.bytes.now (by_version c.in_ok-version.version c.of.ensures.is c.count_field.ensures.is) c.in_ok-byte.ensures in
    let count = to_zero n byte in
    let zero = to_session count c.in_ok-number_at-2.ensures in
    let session = to_r _ _ zero c.in_ok-session.ensures in
    let r = to_s _ _ session c.in_ok-r.ensures in
    let told : c.max-count.result ≡ count_of c.in_ok-byte.byte = is_count _ _ c.max-count.ensures in
    let s = to_end _ _ c.in_ok-r.r r (number_as SESSION_WIDTH_PLACE c.args.bytes.now (c.width_field.ensures.is ∙ ap (λ (k : ℕ). width_field k c.in_ok-r.r) told) c.in_ok-s.ensures) in
    let params = λ (count : ℕ). params_of c.in_ok-version.version c.in_ok-scheme.scheme c.in_ok-t.t c.in_ok-h.h c.in_ok-n.n count c.in_ok-session.session c.in_ok-r.r c.in_ok-s.s in
    subst (λ (count : ℕ). IsHeader c.args.bytes.now (params count)) (sym told) (leads-done s c.requires)
