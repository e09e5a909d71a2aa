use Rattle.std.proofs.Common.{◌≡◌, ◌∙◌, ℕ, ◌<◌, ◌≤◌, subst, arith}
use Rattle.port_trait.specs.Number.{link}
use Rattle.port_trait.specs.Each.{TouchesRange}
use Rattle.port_trait.proofs.Ranges.{each_none, range_none, range_more}
use Rattle.quantity_limits.specs.declared.TheConstants.{MOST_SERVERS}
use Rattle.query_rounds.specs.Rounds.{SentEach}
use Rattle.query_rounds.proofs.Asking.{all_asked, sent_more, within}
use Rattle.query_rounds.proofs.rounds.ask_all.Goals as goal

-- a place before the last server is less than the number of servers that there may be
few_servers : (place end : ℕ) → place < end → end ≤ MOST_SERVERS → place < MOST_SERVERS
few_servers place end below few = omega (arith, below, few)

pub places-init : goal.places-init
places-init g c = record { sent = each_none _ _ _ _; others = range_none _ _ }

pub bounds-reached-from : goal.bounds-reached-from
bounds-reached-from g c =
    within _ _ _ _ _ c.from.ensures c.places-test.true c.servers-place-end.ensures.is (c.places.auto.reached ∙ c.requires.reached)

pub ask_at-requires-clause-place : goal.ask_at-requires-clause-place
ask_at-requires-clause-place g c = subst (λ (n : ℕ). c.places.place < n) c.servers-place-end.ensures.is c.places-test.true

pub ask_at-requires-clause-few : goal.ask_at-requires-clause-few
ask_at-requires-clause-few g c = few_servers _ _ c.places-test.true c.servers-place-end.ensures.few

pub ask_at-requires-clause-frame : goal.ask_at-requires-clause-frame
ask_at-requires-clause-frame g c = c.places.auto.frame ∙ c.requires.frame

pub places-preserved : goal.places-preserved
places-preserved g c = record {
  sent = sent_more c.args.queries.now c.places.place c.from.result c.places.reached c.ask_at.result _ _ _ c.from.ensures
      (within _ _ _ _ _ c.from.ensures c.places-test.true c.servers-place-end.ensures.is (c.places.auto.reached ∙ c.requires.reached))
      (few_servers _ _ c.places-test.true c.servers-place-end.ensures.few)
      c.places.invariant.sent c.places.invariant.others c.ask_at.ensures.sent c.ask_at.ensures.others;
  others = range_more (link 1) c.places.place _ _ _ c.places.invariant.others c.ask_at.ensures.others;
}

pub returns-clause-sent : goal.returns-clause-sent
returns-clause-sent g c =
    subst (λ (n : ℕ). SentEach c.args.queries.now n c.places.reached (g.P.Ports.world c.args.ports.now) (g.P.Ports.world c.places.ports))
    (all_asked _ _ _ c.places.auto.place-end c.places-test.false c.servers-place-end.ensures.is) c.places.invariant.sent

pub returns-clause-others : goal.returns-clause-others
returns-clause-others g c =
    subst (λ (n : ℕ). TouchesRange (link 1) n (g.P.Ports.world c.args.ports.now) (g.P.Ports.world c.places.ports))
    (all_asked _ _ _ c.places.auto.place-end c.places-test.false c.servers-place-end.ensures.is) c.places.invariant.others

pub returns-clause-few : goal.returns-clause-few
returns-clause-few g c = subst (λ (n : ℕ). n ≤ MOST_SERVERS) c.servers-place-end.ensures.is c.servers-place-end.ensures.few
