use Rattle.std.proofs.Common.{◌≡◌, ◌∙◌, ℕ, ◌<◌, ◌≤◌, ◌*◌, ◌-◌, List, length, sym, ap, subst, arith}
use Rattle.shamir_share.specs.Query.{query}
use Rattle.chor_xor.specs.Bitmap.{bitmap, size_of}
use Rattle.wire_frames.specs.Scheme.{scheme_of, payload_len}
use Rattle.wire_frames.specs.declared.scheme.Scheme.{Scheme}
use Rattle.wire_frames.specs.declared.scheme.Scheme.TheVariants.{Shamir, Xor}
use Rattle.query_rounds.specs.declared.plan.FetchPlan.{FetchPlan}
use Rattle.query_rounds.specs.Plan.{coins_for, query_coins, query_params, IsPlan}
use Rattle.query_rounds.specs.Queries.{Queries}
use Rattle.query_rounds.specs.Sent.{payload_in, payload_to}
use Rattle.query_rounds.proofs.queries.Queries.write_vector.Goals as goal

-- what is said of the plan of queries, said of its scheme
coins_by : (plan : FetchPlan) (q : Queries) (told scheme : Scheme) (len : ℕ) → plan ≡ q.plan → told ≡ scheme_of plan.scheme → told ≡ scheme
    → len ≡ query_coins (query_params q.plan 1 0) → len ≡ coins_for scheme (query_params plan 1 0)
unfolding query_coins
coins_by plan q told scheme len same is e all = all ∙ ap (λ (p : FetchPlan). query_coins (query_params p 1 0)) (sym same) ∙ ap (λ (s : Scheme). coins_for s (query_params plan 1 0)) (sym is ∙ e)

-- so is what is said of its room
room_by : (plan : FetchPlan) (q : Queries) (told scheme : Scheme) (len : ℕ) → plan ≡ q.plan → told ≡ scheme_of plan.scheme → told ≡ scheme
    → len ≡ payload_len (scheme_of q.plan.scheme) q.plan.r → len ≡ payload_len scheme plan.r
room_by plan q told scheme len same is e all = all ∙ ap (λ (p : FetchPlan). payload_len (scheme_of p.scheme) p.r) (sym same) ∙ ap (λ (s : Scheme). payload_len s plan.r) (sym is ∙ e)

-- and of the vector
vector_by : (plan : FetchPlan) (q : Queries) (told scheme : Scheme) (coins : List ℕ) (block i : ℕ) → plan ≡ q.plan → told ≡ scheme_of plan.scheme → told ≡ scheme
    → payload_in scheme (query_params plan 1 0) coins block i ≡ payload_to (query_params q.plan 1 0) coins block i
unfolding payload_to
vector_by plan q told scheme coins block i same is e =
    ap (λ (s : Scheme). payload_in s (query_params plan 1 0) coins block i) (sym e ∙ is) ∙ ap (λ (p : FetchPlan). payload_to (query_params p 1 0) coins block i) same

-- a degree is small, and there are two servers at least
small_degree : (given : ℕ) (plan : FetchPlan) → IsPlan plan → given ≡ plan.t → given ≤ 254
small_degree given plan is given_is = omega (arith, given_is, is.numbers.few_private)

-- there are two servers at least
two_servers : (given : ℕ) (plan : FetchPlan) → IsPlan plan → given ≡ plan.n → 2 ≤ given
two_servers given plan is given_is = omega (arith, given_is, is.private, is.numbers.agreement, is.numbers.servers)

pub query_into-requires-clause-coins : goal.query_into-requires-clause-coins
query_into-requires-clause-coins c =
    coins_by c.self.inside.plan c.args.self.now c.self.inside.scheme Shamir (length c.args.coins.now) (ap (λ (z : Queries). z.plan) c.self.view_is) c.self.invariant.scheme_is c.in-Shamir.is c.requires.coins
    ∙ ap (λ (t : ℕ). c.self.inside.plan.r * t) (sym c.from.ensures)

pub query_into-requires-clause-room : goal.query_into-requires-clause-room
query_into-requires-clause-room c =
    room_by c.self.inside.plan c.args.self.now c.self.inside.scheme Shamir (length c.args.out.now) (ap (λ (z : Queries). z.plan) c.self.view_is) c.self.invariant.scheme_is c.in-Shamir.is c.requires.room

pub query_into-requires-clause-block : goal.query_into-requires-clause-block
query_into-requires-clause-block c = subst (λ (z : Queries). c.args.block < z.plan.r) (sym c.self.view_is) c.requires.block

pub query_into-requires-clause-some : goal.query_into-requires-clause-some
query_into-requires-clause-some c = subst (λ (t : ℕ). 1 ≤ t) (sym c.from.ensures) c.self.invariant.plan.private

pub query_into-requires-clause-few : goal.query_into-requires-clause-few
query_into-requires-clause-few c = small_degree c.from.result c.self.inside.plan c.self.invariant.plan c.from.ensures

pub bitmap_into-requires-clause-servers : goal.bitmap_into-requires-clause-servers
bitmap_into-requires-clause-servers c = two_servers c.from-in-Xor.result c.self.inside.plan c.self.invariant.plan c.from-in-Xor.ensures

pub bitmap_into-requires-clause-first : goal.bitmap_into-requires-clause-first
bitmap_into-requires-clause-first c = c.requires.first

pub bitmap_into-requires-clause-last : goal.bitmap_into-requires-clause-last
bitmap_into-requires-clause-last c = subst (λ (n : ℕ). c.args.index ≤ n) (sym (c.from-in-Xor.ensures ∙ ap (λ (z : Queries). z.plan.n) c.self.view_is)) c.requires.last

pub bitmap_into-requires-clause-block : goal.bitmap_into-requires-clause-block
bitmap_into-requires-clause-block c = subst (λ (z : Queries). c.args.block < z.plan.r) (sym c.self.view_is) c.requires.block

pub bitmap_into-requires-clause-coins : goal.bitmap_into-requires-clause-coins
bitmap_into-requires-clause-coins c =
    coins_by c.self.inside.plan c.args.self.now c.self.inside.scheme Xor (length c.args.coins.now) (ap (λ (z : Queries). z.plan) c.self.view_is) c.self.invariant.scheme_is c.in-Xor.is c.requires.coins
    ∙ ap (λ (n : ℕ). (n - 1) * size_of c.self.inside.plan.r) (sym c.from-in-Xor.ensures)

pub bitmap_into-requires-clause-room : goal.bitmap_into-requires-clause-room
bitmap_into-requires-clause-room c =
    room_by c.self.inside.plan c.args.self.now c.self.inside.scheme Xor (length c.args.out.now) (ap (λ (z : Queries). z.plan) c.self.view_is) c.self.invariant.scheme_is c.in-Xor.is c.requires.room

pub returns-in-Shamir : goal.returns-in-Shamir
returns-in-Shamir c =
    c.query_into.ensures ∙ ap (λ (t : ℕ). query c.args.coins.now t c.self.inside.plan.r c.args.block c.args.index) c.from.ensures
    ∙ vector_by c.self.inside.plan c.args.self.now c.self.inside.scheme Shamir c.args.coins.now c.args.block c.args.index (ap (λ (z : Queries). z.plan) c.self.view_is) c.self.invariant.scheme_is c.in-Shamir.is

pub returns-in-Xor : goal.returns-in-Xor
returns-in-Xor c =
    c.bitmap_into.ensures ∙ ap (λ (n : ℕ). bitmap c.args.coins.now n c.self.inside.plan.r c.args.block c.args.index) c.from-in-Xor.ensures
    ∙ vector_by c.self.inside.plan c.args.self.now c.self.inside.scheme Xor c.args.coins.now c.args.block c.args.index (ap (λ (z : Queries). z.plan) c.self.view_is) c.self.invariant.scheme_is c.in-Xor.is
