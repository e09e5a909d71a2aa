-- The plan of a fetch.
use Rattle.std.specs.Prelude.{ℕ, ◌≡◌, ◌+◌, ◌-◌, ◌*◌, ◌<◌, ◌≤◌, ◌==◌, if◌then◌else◌, List, length, All}
use Rattle.wire_frames.specs.declared.session.SessionParams.{SessionParams}
use Rattle.wire_frames.specs.declared.scheme.TheConstants.{XOR}
use Rattle.wire_frames.specs.declared.scheme.Scheme.{Scheme}
use Rattle.wire_frames.specs.declared.scheme.Scheme.TheVariants.{Shamir, Xor}
use Rattle.wire_frames.specs.Limits.{IsInRange}
use Rattle.wire_frames.specs.declared.version.Version.{Version}
use Rattle.wire_frames.specs.declared.version.Version.TheVariants.{Single, Several}
use Rattle.quantity_limits.specs.declared.TheConstants.{MOST_BLOCKS, MOST_WIDTH}
use Rattle.wire_frames.specs.Scheme.{scheme_of, payload_len}
use Rattle.wire_frames.specs.Version.{number_of}
use Rattle.query_rounds.specs.declared.coins.TheConstants.{NUMBER_LEN}
use Rattle.query_rounds.specs.declared.plan.FetchPlan.{FetchPlan}

-- the version in which so many blocks are asked for: 1 for one
unfoldable pub version_for : ℕ → Version
version_for count = if count == 1 then Single else Several

-- the numbers of the session in which so many blocks are fetched by a plan, which has this number. The degree of its answers is
-- that of the queries and that of the shares of the database together
abbrev pub params_of : FetchPlan → ℕ → ℕ → SessionParams
params_of p count number = record {
  version = number_of (version_for count);
  scheme = p.scheme;
  t = p.t + p.tau;
  h = p.h;
  n = p.n;
  count = count;
  session = number;
  r = p.r;
  s = p.s;
}

-- the numbers of a session, with this degree for its own
abbrev pub with_degree : ℕ → SessionParams → SessionParams
with_degree t p = record p { t = t }

-- the numbers by which its queries are made: those of the session, with the degree of the queries alone
abbrev pub query_params : FetchPlan → ℕ → ℕ → SessionParams
query_params p count number = with_degree p.t (params_of p count number)

-- its numbers are those of a session, its queries hide the block, and in the XOR scheme the database isn't shared
pub record IsPlan (p : FetchPlan) : Type 0 where
  pub numbers : IsInRange (record (params_of p 1 0) { version = number_of Single })
  pub private : 1 ≤ p.t
  pub held_whole : p.scheme ≡ XOR → p.tau ≡ 0

-- these are blocks that may be asked for at once: some, and each of the database
pub record AreBlocks (p : FetchPlan) (blocks : List ℕ) : Type 0 where
  pub some : 1 ≤ length blocks
  pub few : length blocks ≤ MOST_BLOCKS
  pub each : All (λ b. b < p.r) blocks
  pub few_bytes : length blocks * p.s ≤ MOST_WIDTH

-- how many coins the queries of a scheme take for each block: t for each row, and in the XOR scheme a bitmap for each server
-- but the last
abbrev pub coins_for : Scheme → SessionParams → ℕ
coins_for Shamir p = p.r * p.t
coins_for Xor p = (p.n - 1) * payload_len Xor p.r

-- how many coins the queries of a session take for each block
unfoldable pub query_coins : SessionParams → ℕ
query_coins p = coins_for (scheme_of p.scheme) p

-- how many coins a plan needs for so many blocks: those of the session's number, and those of the queries
abbrev pub need : FetchPlan → ℕ → ℕ
need p count = NUMBER_LEN + count * query_coins (query_params p 1 0)
