use Rattle.std.proofs.Common.{◌≡◌, ◌∙◌, ℕ, ◌≤◌, max, ap, subst, sym, refl, arith, lit≤, lit<}
use Rattle.wire_frames.specs.Field.{width_field}
use Rattle.wire_frames.specs.Version.{count_of}
use Rattle.wire_frames.specs.declared.field.Number.{Number}
use Rattle.std.specs.Prelude.{Ok, Err}
use Rattle.wire_frames.specs.Query.{IsQueryHeader, ReadsField}
use Rattle.wire_frames.proofs.Chains.{leads-done, no_more}
use Rattle.wire_frames.proofs.QueryLayout.{query_of, some_version, some_scheme, some_index, some_count, to_magic, to_version, to_scheme, to_index, to_count, to_session, stops_in, stops_in_count, version_at, query_exit}
use Rattle.wire_frames.proofs.Counts.{byte_most}
use Rattle.wire_frames.proofs.ShapeFields.{some_s, to_r, to_s, to_end}
use Rattle.quantity_limits.specs.declared.TheConstants.{MOST_BLOCKS}
use Rattle.wire_frames.specs.declared.query.Field.TheVariants.{Magic, Version, Scheme, Index, Rows, Width}
use Rattle.wire_frames.proofs.Spellings.{fits_byte, fits_word, is_field, some_blocks}
use Rattle.wire_frames.proofs.query.read_query_header.Goals as goal

-- a query asks for a block or more, and not for too many
few_blocks : {count byte : ℕ} → count ≡ max byte 1 → byte ≤ MOST_BLOCKS → count ≤ MOST_BLOCKS
few_blocks is few = omega (arith, is, few)

pub read_field-requires : goal.read_field-requires
read_field-requires c = is_field _ _ _ (lit≤ tt) (lit≤ tt) (lit< tt)

pub read_field-requires-2 : goal.read_field-requires-2
read_field-requires-2 c = is_field _ _ _ (lit≤ tt) (lit≤ tt) (lit< tt)

pub read_field-requires-3 : goal.read_field-requires-3
read_field-requires-3 c = is_field _ _ _ (lit≤ tt) (lit≤ tt) (lit< tt)

pub read_field-requires-4 : goal.read_field-requires-4
read_field-requires-4 c = is_field _ _ _ (lit≤ tt) (lit≤ tt) (lit< tt)

pub read_field-requires-5 : goal.read_field-requires-5
read_field-requires-5 c = is_field _ _ _ (lit≤ tt) (lit≤ tt) (lit< tt)

pub read_field-requires-6 : goal.read_field-requires-6
read_field-requires-6 c = c.width_field.ensures.field

pub width_field-requires-clause-asked : goal.width_field-requires-clause-asked
width_field-requires-clause-asked c = some_blocks _ _ c.max-count.ensures

pub width_field-requires-clause-blocks : goal.width_field-requires-clause-blocks
width_field-requires-clause-blocks c = few_blocks c.max-count.ensures c.in_ok-byte.ensures.few

pub width_field-requires-clause-some : goal.width_field-requires-clause-some
width_field-requires-clause-some c = c.in_ok-r.ensures.least

pub width_field-requires-clause-rows : goal.width_field-requires-clause-rows
width_field-requires-clause-rows c = c.in_ok-r.ensures.most

pub overflow_cast-version : goal.overflow_cast-version
overflow_cast-version c = fits_byte c.in_ok-version.ensures.most (lit< tt)

pub overflow_cast-result : goal.overflow_cast-result
overflow_cast-result c = fits_byte c.in_ok-version.ensures.most (lit< tt)

pub overflow_cast-result-2 : goal.overflow_cast-result-2
overflow_cast-result-2 c = fits_byte c.in_ok-scheme.ensures.most (lit< tt)

pub overflow_cast-result-3 : goal.overflow_cast-result-3
overflow_cast-result-3 c = fits_byte c.in_ok-index.ensures.most (lit< tt)

pub overflow_cast-result-4 : goal.overflow_cast-result-4
overflow_cast-result-4 c = fits_byte (few_blocks c.max-count.ensures c.in_ok-byte.ensures.few) (lit< tt)

pub overflow_cast-result-5 : goal.overflow_cast-result-5
overflow_cast-result-5 c = fits_word c.in_ok-r.ensures.most (lit< tt)

pub returns-in_err-read_field : goal.returns-in_err-read_field
returns-in_err-read_field c =
    let magic = to_magic c.args.bytes.now in
    query_exit c.from_residual.result _ c.from_residual.ensures.1 (stops_in Magic refl (λ after before. absurd (omega (arith, after, before))) magic (λ _ _ _. some_version) c.in_err-read_field.ensures)

pub returns-in_err-version : goal.returns-in_err-version
returns-in_err-version c =
    let version = to_version (to_magic c.args.bytes.now) c.in_ok-read_field.ensures in
    query_exit c.from_residual-in_err-version.result _ c.from_residual-in_err-version.ensures.1 (stops_in Version refl (λ after before. absurd (omega (arith, after, before))) version (λ v _ _. some_scheme v) c.in_err-version.ensures)

pub returns-in_err-scheme : goal.returns-in_err-scheme
returns-in_err-scheme c =
    let version = to_version (to_magic c.args.bytes.now) c.in_ok-read_field.ensures in
    let scheme = to_scheme version c.in_ok-version.ensures in
    query_exit c.from_residual-in_err-scheme.result _ c.from_residual-in_err-scheme.ensures.1 (stops_in Scheme refl (λ after before. absurd (omega (arith, after, before))) scheme (λ v _ _. some_index _ v) c.in_err-scheme.ensures)

pub returns-in_err-index : goal.returns-in_err-index
returns-in_err-index c =
    let version = to_version (to_magic c.args.bytes.now) c.in_ok-read_field.ensures in
    let scheme = to_scheme version c.in_ok-version.ensures in
    let index = to_index scheme c.in_ok-scheme.ensures in
    query_exit c.from_residual-in_err-index.result _ c.from_residual-in_err-index.ensures.1 (stops_in Index refl (λ after before. absurd (omega (arith, after, before))) index (λ v _ _. some_count _ _ v) c.in_err-index.ensures)

pub returns-in_err-byte : goal.returns-in_err-byte
returns-in_err-byte c =
    let version = to_version (to_magic c.args.bytes.now) c.in_ok-read_field.ensures in
    let scheme = to_scheme version c.in_ok-version.ensures in
    let index = to_index scheme c.in_ok-scheme.ensures in
    let count = to_count index c.in_ok-index.ensures in
    query_exit c.from_residual-in_err-byte.result _ c.from_residual-in_err-byte.ensures.1 (stops_in_count (version_at c.args.bytes.now c.in_ok-version.ensures) c.of.ensures.is count c.in_err-byte.ensures.reads)

pub returns-in_err-r : goal.returns-in_err-r
returns-in_err-r c =
    let version = to_version (to_magic c.args.bytes.now) c.in_ok-read_field.ensures in
    let scheme = to_scheme version c.in_ok-version.ensures in
    let index = to_index scheme c.in_ok-scheme.ensures in
    let count = to_count index c.in_ok-index.ensures in
    let session = to_session c.of.ensures.is count c.in_ok-byte.ensures.reads in
    let r = to_r _ _ session c.read_session-session.ensures in
    let few = byte_most c.of.result MOST_BLOCKS in
    query_exit c.from_residual-in_err-r.result _ c.from_residual-in_err-r.ensures.1 (stops_in Rows refl (λ after before. absurd (omega (arith, after, before))) r (λ v least most. some_s _ _ v (omega arith) (omega (arith, few, c.in_ok-byte.ensures.reads.most)) least most) c.in_err-r.ensures)

pub returns-in_err-s : goal.returns-in_err-s
returns-in_err-s c =
    let version = to_version (to_magic c.args.bytes.now) c.in_ok-read_field.ensures in
    let scheme = to_scheme version c.in_ok-version.ensures in
    let index = to_index scheme c.in_ok-scheme.ensures in
    let count = to_count index c.in_ok-index.ensures in
    let session = to_session c.of.ensures.is count c.in_ok-byte.ensures.reads in
    let r = to_r _ _ session c.read_session-session.ensures in
    let s = to_s _ _ r c.in_ok-r.ensures in
    let told : c.max-count.result ≡ count_of c.in_ok-byte.byte = omega (arith, c.max-count.ensures) in
    let width = subst (λ (f : Number). ReadsField f Width c.args.bytes.now (Err c.in_err-s.field-0.0)) (c.width_field.ensures.is ∙ ap (λ (k : ℕ). width_field k c.in_ok-r.r) told) c.in_err-s.ensures in
    query_exit c.from_residual-in_err-s.result _ c.from_residual-in_err-s.ensures.1 (stops_in Width refl (λ after before. absurd (omega (arith, after, before))) s (λ _ _ _. no_more _) width)

pub returns : goal.returns
returns c =
    let version = to_version (to_magic c.args.bytes.now) c.in_ok-read_field.ensures in
    let scheme = to_scheme version c.in_ok-version.ensures in
    let index = to_index scheme c.in_ok-scheme.ensures in
    let count = to_count index c.in_ok-index.ensures in
    let session = to_session c.of.ensures.is count c.in_ok-byte.ensures.reads in
    let r = to_r _ _ session c.read_session-session.ensures in
    let s = to_s _ _ r c.in_ok-r.ensures in
    let told : c.max-count.result ≡ count_of c.in_ok-byte.byte = omega (arith, c.max-count.ensures) in
    let width = subst (λ (f : Number). ReadsField f Width c.args.bytes.now (Ok c.in_ok-s.s)) (c.width_field.ensures.is ∙ ap (λ (k : ℕ). width_field k c.in_ok-r.r) told) c.in_ok-s.ensures in
    let query = λ (count : ℕ). query_of c.in_ok-version.version c.in_ok-scheme.scheme c.in_ok-index.index count c.read_session-session.result c.in_ok-r.r c.in_ok-s.s in
    subst (λ (count : ℕ). IsQueryHeader c.args.bytes.now (query count)) (sym told) (leads-done (to_end _ _ c.in_ok-r.r s width) (omega (arith, c.told-bytes)))
