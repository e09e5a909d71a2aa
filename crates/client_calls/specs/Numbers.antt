-- The numbers of a plan, as a caller in another language gives them.
use Rattle.std.specs.Prelude.{◌≡◌, ◌+◌, ◌<◌, ◌≤◌, ◌⊎◌, Option, Some, None}
use Rattle.quantity_limits.specs.declared.TheConstants.{MOST_SERVERS}
use Rattle.wire_frames.specs.declared.scheme.TheConstants.{SHAMIR, XOR}
use Rattle.query_rounds.specs.declared.plan.FetchPlan.{FetchPlan}
use Rattle.query_rounds.specs.Plan.{IsPlan}
use Rattle.client_calls.specs.declared.numbers.PlanNumbers.{PlanNumbers}

-- the plan that they say
abbrev pub plan_of : PlanNumbers → FetchPlan
plan_of p = record {
  scheme = p.scheme;
  t = p.degree;
  tau = p.tau;
  h = p.agreement;
  n = p.servers;
  r = p.rows;
  s = p.width;
}

-- so many servers can agree in answers of that degree, which is 1 at least
pub record SuitsServers (p : PlanNumbers) : Type 0 where
  pub private : 1 ≤ p.degree
  pub agreement : p.degree + p.tau < p.agreement
  pub servers : p.agreement ≤ p.servers
  pub few_servers : p.servers ≤ MOST_SERVERS

-- in the XOR scheme all servers answer, all but one learn nothing, and each holds the whole database
abbrev pub SuitsXor : PlanNumbers → Type 0
SuitsXor p = (p.tau ≡ 0) × (p.servers ≡ p.agreement) × (p.degree + 1 ≡ p.agreement)

-- the scheme is one, and allows those numbers
abbrev pub SuitsScheme : PlanNumbers → Type 0
SuitsScheme p = (p.scheme ≡ SHAMIR) ⊎ ((p.scheme ≡ XOR) × SuitsXor p)

-- the plan, exactly where they are those of one
abbrev pub SaysPlan : PlanNumbers → Option FetchPlan → Type 0
SaysPlan p (Some plan) = (plan ≡ plan_of p) × IsPlan (plan_of p)
SaysPlan p None = IsPlan (plan_of p) → ⊥
