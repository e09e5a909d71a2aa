use Rattle.std.proofs.Common.{◌≤◌, ◌∙◌, ℕ, List, true, inl, inr, refl, sym, subst, arith}
use Rattle.port_trait.specs.Number.{GUEST}
use Rattle.port_trait.specs.Whole.{FailsShort}
use Rattle.port_trait.proofs.Cells.{touches_more}
use Rattle.wire_frames.specs.declared.header.QueryHeader.{QueryHeader}
use Rattle.wire_frames.specs.Limits.{IsQuery}
use Rattle.serve_core.specs.Case.{IsShaped}
use Rattle.serve_core.specs.Stages.{GivesRefusal, TakesPayload}
use Rattle.serve_core.specs.declared.terms.Terms.{Terms}
use Rattle.serve_core.specs.declared.refusal.Refusal.TheVariants.{Malformed}
use Rattle.serve_core.proofs.payload.take_into.Goals as goal

-- a database that a query suits has a row
some_rows : (terms : Terms) (query : QueryHeader) → IsQuery query → IsShaped terms query → 1 ≤ terms.rows
some_rows terms query range shape = subst (λ (n : ℕ). 1 ≤ n) shape.rows range.shape.some_rows

pub prove-unreachable-requires : goal.prove-unreachable-requires
prove-unreachable-requires g c =
    let suited = c.requires.suited in
    let range = suited.is.is.range in
    let some = c.payload_len-some.ensures.some range.blocks.some_blocks (some_rows c.args.terms c.args.asked.now range suited.shape) in
    omega (arith, some, c.if-prove.true)

pub read_exactly-requires : goal.read_exactly-requires
read_exactly-requires g c = omega (arith, c.if-prove.false, c.payload_len-some.ensures.is, c.requires.room)

pub some_is_overfull-requires-clause-some : goal.some_is_overfull-requires-clause-some
some_is_overfull-requires-clause-some g c = some_rows c.args.terms c.args.asked.now c.requires.suited.is.is.range c.requires.suited.shape

pub some_is_overfull-requires-clause-few : goal.some_is_overfull-requires-clause-few
some_is_overfull-requires-clause-few g c = c.requires.suited.is.is.range.blocks.few_blocks

pub some_is_overfull-requires-clause-size : goal.some_is_overfull-requires-clause-size
some_is_overfull-requires-clause-size g c = c.read_exactly.auto.into ∙ c.requires.room

pub returns-in-Ended-clause-handles : goal.returns-in-Ended-clause-handles
returns-in-Ended-clause-handles g c =
    inr (inr (inl (
      refl,
      record {
        n = c.in-Ended.field-0;
        before = c.args.query.now;
        after = c.read_exactly.new.into;
        size = c.requires.room;
        ends = c.in-Ended.ensures.filled;
      },
    )))

pub returns-in-Failed-clause-handles : goal.returns-in-Failed-clause-handles
returns-in-Failed-clause-handles g c =
    let old = g.P.Ports.world c.args.ports.now in
    let new = g.P.Ports.world c.read_exactly.new.ports in
    inr (inr (inr (refl, subst (λ (n : ℕ). FailsShort GUEST n old new) c.requires.room c.in-Failed.ensures.filled)))

pub returns-then-some_is_overfull-clause-handles : goal.returns-then-some_is_overfull-clause-handles
returns-then-some_is_overfull-clause-handles g c =
    let old = g.P.Ports.world c.args.ports.now in
    let mid = g.P.Ports.world c.read_exactly.new.ports in
    let new = g.P.Ports.world c.refuse.new.ports in
    let takes : TakesPayload true c.args.terms c.args.asked.now.count c.read_exactly.new.into old mid
    = record {
      before = c.args.query.now;
      size = c.read_exactly.auto.into ∙ c.requires.room;
      hands = c.in-Full.ensures.filled;
      full = sym c.read_exactly.auto.into;
      unused_is = sym c.some_is_overfull.ensures ∙ c.if-some_is_overfull.true;
    } in
    inr (inl (record {
      vectors = c.read_exactly.new.into;
      mid = mid;
      takes = takes;
      gives = subst (λ (h : List ℕ). GivesRefusal h Malformed c.refuse.result mid new) c.requires.suited.is.is.spelled c.refuse.ensures.gives;
    }))

pub returns-clause-handles : goal.returns-clause-handles
returns-clause-handles g c =
    inl (
      refl,
      record {
        before = c.args.query.now;
        size = c.read_exactly.auto.into ∙ c.requires.room;
        hands = c.in-Full.ensures.filled;
        full = sym c.read_exactly.auto.into;
        unused_is = sym c.some_is_overfull.ensures ∙ c.if-some_is_overfull.false;
      },
    )

pub returns-in-Ended-clause-others : goal.returns-in-Ended-clause-others
returns-in-Ended-clause-others g c = c.read_exactly.ensures.others

pub returns-in-Failed-clause-others : goal.returns-in-Failed-clause-others
returns-in-Failed-clause-others g c = c.read_exactly.ensures.others

pub returns-clause-others : goal.returns-clause-others
returns-clause-others g c = c.read_exactly.ensures.others

pub returns-then-some_is_overfull-clause-others : goal.returns-then-some_is_overfull-clause-others
returns-then-some_is_overfull-clause-others g c =
    touches_more GUEST (g.P.Ports.world c.args.ports.now) (g.P.Ports.world c.read_exactly.new.ports) (g.P.Ports.world c.refuse.new.ports)
    c.read_exactly.ensures.others c.refuse.ensures.others
