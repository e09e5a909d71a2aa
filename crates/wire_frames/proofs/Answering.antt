-- An answer to bytes that are a query's header.
use Rattle.std.proofs.Common.{◌≡◌, ◌∙◌, ℕ, ◌≤◌, List, ap}
use Rattle.wire_frames.specs.declared.version.Version.TheVariants.{Single, Several}
use Rattle.wire_frames.proofs.Counts.{answer_version_is, count_told}
use Rattle.wire_frames.specs.declared.header.QueryHeader.{QueryHeader}
use Rattle.wire_frames.specs.Header.{blocks_in, query_header, answer_header, answer_to}
use Rattle.wire_frames.specs.Query.{IsQueryHeader}
use Rattle.wire_frames.specs.Version.{number_of}

-- what answers the bytes of a query's header is the header of the answer to it
pub answer_to_query : (q : QueryHeader) (status : ℕ) → number_of Single ≤ q.version → q.version ≤ number_of Several → answer_to (query_header q) status ≡ answer_header q status
answer_to_query q status some two = ap (λ (v : ℕ). answer_header (record q { version = v }) status) (answer_version_is q.version some two)

-- a header asks for as many blocks as its query
pub blocks_in_query : (header : List ℕ) (q : QueryHeader) → IsQueryHeader header q → blocks_in header ≡ q.count
blocks_in_query header q is = ap blocks_in is.spelled ∙ count_told q.version q.count q.s is.range.blocks
