-- The ranges of the numbers in frames and session files.
use Rattle.std.specs.Prelude.{ℕ, ◌+◌, ◌*◌, ◌^◌, ◌<◌, ◌≤◌, ◌≡◌, ◌⊎◌}
use Rattle.quantity_limits.specs.declared.TheConstants.{MOST_DEGREE, MOST_SERVERS, MOST_BLOCKS, MOST_WIDTH}
use Rattle.quantity_limits.specs.Shape.{IsShape}
use Rattle.wire_frames.specs.declared.scheme.TheConstants.{SHAMIR, XOR}
use Rattle.wire_frames.specs.declared.version.Version.TheVariants.{Single, Several}
use Rattle.wire_frames.specs.declared.header.QueryHeader.{QueryHeader}
use Rattle.wire_frames.specs.declared.session.SessionParams.{SessionParams}
use Rattle.wire_frames.specs.Version.{number_of}

-- a version, and for how many rows of so many bytes a query asks: in version 1 for one
pub record IsCount (version count s : ℕ) : Type 0 where
  pub some_version : number_of Single ≤ version
  pub two_versions : version ≤ number_of Several
  pub some_blocks : 1 ≤ count
  pub few_blocks : count ≤ MOST_BLOCKS
  pub one_block : version ≡ number_of Single → count ≡ 1
  pub few_bytes : count * s ≤ MOST_WIDTH

-- the numbers that a session may have: a scheme, with 1 <= t < h <= n; in the XOR scheme all
-- servers have to answer, and all of them but one learn nothing
pub record IsInRange (p : SessionParams) : Type 0 where
  pub scheme : (p.scheme ≡ SHAMIR) ⊎ (p.scheme ≡ XOR)
  pub private : 1 ≤ p.t
  pub few_private : p.t ≤ MOST_DEGREE
  pub agreement : p.t < p.h
  pub few_agree : p.h ≤ MOST_SERVERS
  pub servers : p.h ≤ p.n
  pub few_servers : p.n ≤ MOST_SERVERS
  pub all_agree : p.scheme ≡ XOR → p.h ≡ p.t + 1
  pub all_answer : p.scheme ≡ XOR → p.n ≡ p.h
  pub session : p.session < 2 ^ 64
  pub shape : IsShape p.r p.s
  pub blocks : IsCount p.version p.count p.s

-- the numbers that a query may have: a scheme, and an index that is not 0
pub record IsQuery (q : QueryHeader) : Type 0 where
  pub some_scheme : SHAMIR ≤ q.scheme
  pub two_schemes : q.scheme ≤ XOR
  pub some_index : 1 ≤ q.index
  pub few_indices : q.index ≤ 255
  pub session : q.session < 2 ^ 64
  pub shape : IsShape q.r q.s
  pub blocks : IsCount q.version q.count q.s
