use Rattle.std.proofs.Common.{◌≡◌, ◌∙◌, ◌++◌, ◌∷◌, [], ℕ, ◌+◌, ◌<◌, List, length, ap, sym, subst, arith, length-append, refl}
use Rattle.std.specs.Prelude.{Option}
use Rattle.port_trait.specs.Number.{link}
use Rattle.port_trait.specs.Moves.{Touches}
use Rattle.port_trait.specs.Each.{TouchesRange}
use Rattle.port_trait.specs.World.{World}
use Rattle.port_trait.proofs.Ranges.{each_none, range_none, range_more}
use Rattle.quantity_limits.specs.declared.TheConstants.{MOST_SERVERS}
use Rattle.wire_frames.specs.Sizes.{answer_len}
use Rattle.wire_frames.specs.Session.{Transcript}
use Rattle.wire_frames.specs.declared.session.SessionParams.{SessionParams}
use Rattle.query_rounds.specs.Rounds.{TakenEach}
use Rattle.query_rounds.proofs.Asking.{all_asked, taken_more, within}
use Rattle.query_rounds.proofs.rounds.take_all.Goals as goal

-- a place before the last server is less than the number of servers that there may be
fewer_places : (place end : ℕ) → place < end → end < 256 → place < MOST_SERVERS
fewer_places place end below few = omega (arith, below, few)

-- the link of the next server
next_link : (place : ℕ) (v u : World) → Touches (link (place + 1)) v u → Touches (link 1 + place) v u
next_link place v u touch = subst (λ (p : ℕ). Touches p v u) (omega arith) touch

-- a session with one more record
one_more : (before after : Transcript) (answer : Option (List ℕ)) (place : ℕ)
    → after ≡ record before { records = before.records ++ answer ∷ [] } → length before.records ≡ place
    → length after.records ≡ place + 1
one_more before after answer place is count = ap (λ (t : Transcript). length t.records) is ∙ omega (arith, length-append before.records (answer ∷ []), count)

pub places-init : goal.places-init
places-init g c = record { params = refl; count = ap length c.requires.fresh; taken = each_none _ _ _ _; others = range_none _ _ }

pub bounds-reached-from : goal.bounds-reached-from
bounds-reached-from g c = within _ _ _ _ _ c.from.ensures c.places-test.true c.n-place-end.ensures c.requires.reached

pub take_next-requires-clause-next : goal.take_next-requires-clause-next
take_next-requires-clause-next g c = ap (λ (n : ℕ). n + 1) (sym c.places.invariant.count)

pub take_next-requires-clause-answer : goal.take_next-requires-clause-answer
take_next-requires-clause-answer g c = c.places.auto.answer ∙ c.requires.answer ∙ ap (λ (p : SessionParams). answer_len p.count p.s) (sym c.places.invariant.params)

pub places-preserved : goal.places-preserved
places-preserved g c =
    let so_far = c.places.invariant in
    let touch = next_link c.places.place _ _ c.take_next.ensures.others in
    record {
      params = ap (λ (t : Transcript). t.params) c.take_next.ensures.taken.session ∙ so_far.params;
      count = one_more c.places.session c.take_next.new.session c.take_next.ensures.taken.answer c.places.place c.take_next.ensures.taken.session so_far.count;
      taken = subst (λ (most : ℕ). TakenEach most (c.places.place + 1) c.args.reached.now c.take_next.new.session (g.P.Ports.world c.args.ports.now) (g.P.Ports.world c.take_next.new.ports))
          (sym c.take_next.auto.answer)
          (taken_more (length c.places.answer) c.places.place c.from.result c.args.reached.now _ c.places.session c.take_next.new.session _ _ _ c.from.ensures refl so_far.count
          (fewer_places _ _ c.places-test.true c.n-place-end.type_inv) so_far.taken so_far.others c.take_next.ensures.taken touch);
      others = range_more (link 1) c.places.place _ _ _ so_far.others touch;
    }

pub returns-clause-params : goal.returns-clause-params
returns-clause-params g c = c.places.invariant.params

pub returns-clause-whole : goal.returns-clause-whole
returns-clause-whole g c = c.places.invariant.count ∙ all_asked _ _ _ c.places.auto.place-end c.places-test.false c.n-place-end.ensures

pub returns-clause-taken : goal.returns-clause-taken
returns-clause-taken g c =
    subst (λ (most : ℕ). TakenEach most c.args.session.now.params.n c.args.reached.now c.places.session (g.P.Ports.world c.args.ports.now) (g.P.Ports.world c.places.ports)) c.places.auto.answer
    (subst (λ (n : ℕ). TakenEach (length c.places.answer) n c.args.reached.now c.places.session (g.P.Ports.world c.args.ports.now) (g.P.Ports.world c.places.ports))
    (all_asked _ _ _ c.places.auto.place-end c.places-test.false c.n-place-end.ensures) c.places.invariant.taken)

pub returns-clause-others : goal.returns-clause-others
returns-clause-others g c =
    subst (λ (n : ℕ). TouchesRange (link 1) n (g.P.Ports.world c.args.ports.now) (g.P.Ports.world c.places.ports))
    (all_asked _ _ _ c.places.auto.place-end c.places-test.false c.n-place-end.ensures) c.places.invariant.others
