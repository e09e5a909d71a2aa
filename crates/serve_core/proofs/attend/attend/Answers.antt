use Rattle.std.proofs.Common.{◌≡◌, ◌≤◌, ◌∙◌, ℕ, List, length, subst, sym, refl, arith}
use Rattle.std.proofs.lemmas.List.{take_at}
use Rattle.port_trait.specs.Number.{GUEST}
use Rattle.port_trait.proofs.Cells.{touches_more}
use Rattle.serve_core.specs.Service.{terms_of}
use Rattle.serve_core.specs.Terms.{most_payload_for}
use Rattle.serve_core.specs.Taking.{BreaksTaking, Dismisses, TakesQuery}
use Rattle.serve_core.specs.Stages.{GivesAnswer}
use Rattle.serve_core.specs.declared.met.Met.TheVariants.{Gone, Refused}
use Rattle.serve_core.specs.declared.terms.Terms.{Terms}
use Rattle.serve_core.proofs.Replying.{attends_answer, breaks_taking, replies_gone, replies_refused}
use Rattle.serve_core.proofs.attend.attend.Goals as goal

-- a slice as long as the most blocks want it, on terms that are others
long_enough : (terms others : Terms) (slice : List ℕ) → terms ≡ others → length slice ≡ most_payload_for others
    → most_payload_for terms ≤ length slice
long_enough terms others slice are long =
    subst (λ (t : Terms). most_payload_for t ≤ length slice) (sym are)
    (subst (λ (n : ℕ). most_payload_for others ≤ n) (sym long) (omega arith))

pub take_query-requires : goal.take_query-requires
take_query-requires g c = record {
  room = long_enough c.terms-terms.result (terms_of c.args.service.now) c.as_mut_slice-query.result.now c.terms-terms.ensures.is
      (c.as_mut_slice-query.ensures.len ∙ c.requires.fits.query);
}

pub answer_query-requires-clause-good : goal.answer_query-requires-clause-good
answer_query-requires-clause-good g c κs within =
    let old = g.P.Ports.world c.args.ports.now in
    let mid = g.P.Ports.world c.take_query.new.ports in
    (subst (λ (t : Terms). TakesQuery t c.in-Query.asked c.take_query.new.query old mid) c.terms-terms.ensures.is c.in-Query.ensures.takes).good

pub returns-in-Query-clause-attends : goal.returns-in-Query-clause-attends
returns-in-Query-clause-attends g c =
    let service = c.args.service.now in
    let old = g.P.Ports.world c.args.ports.now in
    let mid = g.P.Ports.world c.take_query.new.ports in
    let new = g.P.Ports.world c.answer_query.new.ports in
    let slice = c.take_query.new.query in
    let back = take_at slice _ c.args.room.now.query.len (c.take_query.auto.query ∙ c.as_mut_slice-query.ensures.len) in
    attends_answer service c.in-Query.asked slice old mid
    (subst (λ (t : Terms). TakesQuery t c.in-Query.asked slice old mid) c.terms-terms.ensures.is c.in-Query.ensures.takes)
    c.answer_query.result new
    (subst (λ (l : List ℕ). GivesAnswer service c.in-Query.asked l c.answer_query.result mid new) back c.answer_query.ensures.gives)

pub returns-in-Refused-clause-attends : goal.returns-in-Refused-clause-attends
returns-in-Refused-clause-attends g c =
    let old = g.P.Ports.world c.args.ports.now in
    let mid = g.P.Ports.world c.take_query.new.ports in
    replies_refused c.args.service.now c.in-Refused.status old mid
    (subst (λ (t : Terms). Dismisses t (Refused c.in-Refused.status) old mid) c.terms-terms.ensures.is c.in-Refused.ensures.takes)

pub returns-in-Gone-clause-attends : goal.returns-in-Gone-clause-attends
returns-in-Gone-clause-attends g c =
    let old = g.P.Ports.world c.args.ports.now in
    let mid = g.P.Ports.world c.take_query.new.ports in
    replies_gone c.args.service.now old mid
    (subst (λ (t : Terms). Dismisses t Gone old mid) c.terms-terms.ensures.is c.in-Gone.ensures.takes)

pub returns-in-GuestFault-clause-attends : goal.returns-in-GuestFault-clause-attends
returns-in-GuestFault-clause-attends g c =
    let old = g.P.Ports.world c.args.ports.now in
    let mid = g.P.Ports.world c.take_query.new.ports in
    breaks_taking c.args.service.now old mid
    (subst (λ (t : Terms). BreaksTaking t old mid) c.terms-terms.ensures.is c.in-GuestFault.ensures.takes)

pub returns-in-Query-clause-others : goal.returns-in-Query-clause-others
returns-in-Query-clause-others g c =
    touches_more GUEST (g.P.Ports.world c.args.ports.now) (g.P.Ports.world c.take_query.new.ports) (g.P.Ports.world c.answer_query.new.ports)
    c.take_query.ensures.others c.answer_query.ensures.others

pub returns-in-Refused-clause-others : goal.returns-in-Refused-clause-others
returns-in-Refused-clause-others g c = c.take_query.ensures.others

pub returns-in-Gone-clause-others : goal.returns-in-Gone-clause-others
returns-in-Gone-clause-others g c = c.take_query.ensures.others

pub returns-in-GuestFault-clause-others : goal.returns-in-GuestFault-clause-others
returns-in-GuestFault-clause-others g c = c.take_query.ensures.others
