use Rattle.std.proofs.Common.{◌≡◌, ◌∙◌, ◌++◌, ◌<◌, ℕ, List, length, take, drop, ap, sym, subst, arith}
use Rattle.std.proofs.lemmas.List.{take_at}
use Rattle.query_rounds.specs.declared.plan.FetchPlan.{FetchPlan}
use Rattle.query_rounds.specs.Plan.{need}
use Rattle.query_rounds.specs.Queries.{request_of}
use Rattle.query_rounds.specs.Tossed.{TakesCoins}
use Rattle.query_rounds.proofs.queries.Queries.take_coins.Goals as goal

-- a plan needs some coins
some_needed : (given : ℕ) (plan : FetchPlan) (count : ℕ) → given ≡ need plan count → 0 < given
some_needed given plan count is = omega (arith, is)

-- the coins that were taken are all that there are
pub returns-clause-taken : goal.returns-clause-taken
returns-clause-taken g c =
    let new = c.take_coins.new.coins in
    let len = c.self.inside.coins.len in
    let given = length c.deref_mut.result.now in
    let result = c.take_coins.result in
    let before = g.P.Ports.world c.args.ports.now in
    let after = g.P.Ports.world c.take_coins.new.ports in
    let size : length new ≡ len = omega arith in
    let needed : given ≡ need c.self.inside.plan (length c.self.inside.blocks.now) =
    ap length c.deref_mut.ensures.value ∙ c.self.invariant.size in
    subst (λ (n : ℕ). TakesCoins n result (take len (new ++ drop (length new) c.self.inside.coins.items)) before after) needed
    (subst (λ (coins : List ℕ). TakesCoins given result coins before after) (sym (take_at new (drop (length new) c.self.inside.coins.items) len size)) c.take_coins.ensures.taken)

pub take_coins-requires : goal.take_coins-requires
take_coins-requires g c = some_needed _ c.self.inside.plan (length c.self.inside.blocks.now) (ap length c.deref_mut.ensures.value ∙ c.self.invariant.size)

pub invariant_of-self : goal.invariant_of-self
invariant_of-self g c =
    let new = c.take_coins.new.coins in
    let len = c.self.inside.coins.len in
    let size : length new ≡ len = omega arith in
    record {
      plan = c.self.invariant.plan;
      scheme_is = c.self.invariant.scheme_is;
      blocks = c.self.invariant.blocks;
      addresses = c.self.invariant.addresses;
      size = ap length (take_at new (drop (length new) c.self.inside.coins.items) len size) ∙ c.take_coins.auto.coins ∙ ap length c.deref_mut.ensures.value ∙ c.self.invariant.size;
    }

pub returns-clause-request : goal.returns-clause-request
returns-clause-request g c = ap request_of c.self.view_is

pub returns-clause-others : goal.returns-clause-others
returns-clause-others g c = c.take_coins.ensures.others
