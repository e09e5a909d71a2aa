-- What the servers of a fetch are asked.
use Rattle.std.specs.Prelude.{ℕ, ◌≡◌, List, length}
use Rattle.wire_frames.specs.declared.scheme.Scheme.{Scheme}
use Rattle.wire_frames.specs.Scheme.{scheme_of}
use Rattle.query_rounds.specs.declared.plan.FetchPlan.{FetchPlan}
use Rattle.query_rounds.specs.Plan.{AreBlocks, IsPlan, need}
use Rattle.query_rounds.specs.Request.{Request}

-- a plan, the blocks that are asked for, the address of each server, and the coins for them
pub record Queries : Type 0 where
  pub plan : FetchPlan
  pub blocks : List ℕ
  pub addresses : List (List ℕ)
  pub coins : List ℕ

-- it is a plan in this scheme, the blocks may be asked for, each server has an address, and there are as many coins as that
-- needs
pub record AreQueries (q : Queries) (scheme : Scheme) : Type 0 where
  pub plan : IsPlan q.plan
  pub scheme_is : scheme ≡ scheme_of q.plan.scheme
  pub blocks : AreBlocks q.plan q.blocks
  pub addresses : length q.addresses ≡ q.plan.n
  pub size : length q.coins ≡ need q.plan (length q.blocks)

-- what is asked for by these queries, and of whom
abbrev pub request_of : Queries → Request
request_of q = record { plan = q.plan; blocks = q.blocks; addresses = q.addresses }
