use Rattle.std.proofs.Common.{inl, arith}
use Rattle.port_trait.specs.Number.{link}
use Rattle.port_trait.proofs.Cells.{touches_more}
use Rattle.shard_front.proofs.Linking.{answers_short, answers_whole, breaks_giving, breaks_reading}
use Rattle.shard_front.proofs.links.ask.Goals as goal

pub returns-in-Failed-clause-asked : goal.returns-in-Failed-clause-asked
returns-in-Failed-clause-asked g c = breaks_reading _ _ _ _ _ _ _ _ c.in-Ok.ensures.ok c.in-Ok-write_all.ensures.ok c.in-Failed.ensures.filled

pub returns-in_default-clause-asked : goal.returns-in_default-clause-asked
returns-in_default-clause-asked g c =
    record { how = inl c.in_default.ensures.failed.cell; rose = c.in_default.ensures.failed.rose }

pub returns-in_default-write_all-clause-asked : goal.returns-in_default-write_all-clause-asked
returns-in_default-write_all-clause-asked g c =
    breaks_giving _ c.args.frame.now _ (link c.args.index) _ (g.P.Ports.world c.open.new.self) (g.P.Ports.world c.write_all.new.ports)
    c.in-Ok.ensures.ok c.in_default-write_all.ensures.failed

pub returns-in-Full-clause-asked : goal.returns-in-Full-clause-asked
returns-in-Full-clause-asked g c =
    answers_whole c.args.address.now c.args.frame.now c.args.answer.now c.read_exactly.new.into (link c.args.index) _ _
    (g.P.Ports.world c.write_all.new.ports) (g.P.Ports.world c.read_exactly.new.ports)
    c.in-Ok.ensures.ok c.in-Ok-write_all.ensures.ok c.read_exactly.auto.into c.in-Full.ensures.filled

pub returns-in-Ended-clause-asked : goal.returns-in-Ended-clause-asked
returns-in-Ended-clause-asked g c =
    answers_short c.args.address.now c.args.frame.now c.args.answer.now c.read_exactly.new.into (link c.args.index) _ _
    (g.P.Ports.world c.write_all.new.ports) (g.P.Ports.world c.read_exactly.new.ports)
    c.in-Ok.ensures.ok c.in-Ok-write_all.ensures.ok c.read_exactly.auto.into c.in-Ended.came c.in-Ended.ensures.filled

pub returns-in-Ended-clause-fits : goal.returns-in-Ended-clause-fits
returns-in-Ended-clause-fits g c =
    omega (arith, c.in-Ended.ensures.filled.fewer, c.read_exactly.auto.into)

pub write_all-requires : goal.write_all-requires
write_all-requires g c = c.requires.frame

pub read_exactly-requires : goal.read_exactly-requires
read_exactly-requires g c = c.requires.answer

pub returns-in_default-clause-others : goal.returns-in_default-clause-others
returns-in_default-clause-others g c = c.open.ensures.others

pub returns-in_default-write_all-clause-others : goal.returns-in_default-write_all-clause-others
returns-in_default-write_all-clause-others g c =
    touches_more _ _ (g.P.Ports.world c.open.new.self) _ c.open.ensures.others c.write_all.ensures.others

pub returns-in-Full-clause-others : goal.returns-in-Full-clause-others
returns-in-Full-clause-others g c =
    touches_more _ _ (g.P.Ports.world c.write_all.new.ports) _
    (touches_more _ _ (g.P.Ports.world c.open.new.self) _ c.open.ensures.others c.write_all.ensures.others) c.read_exactly.ensures.others

pub returns-in-Ended-clause-others : goal.returns-in-Ended-clause-others
returns-in-Ended-clause-others g c =
    touches_more _ _ (g.P.Ports.world c.write_all.new.ports) _
    (touches_more _ _ (g.P.Ports.world c.open.new.self) _ c.open.ensures.others c.write_all.ensures.others) c.read_exactly.ensures.others

pub returns-in-Failed-clause-others : goal.returns-in-Failed-clause-others
returns-in-Failed-clause-others g c =
    touches_more _ _ (g.P.Ports.world c.write_all.new.ports) _
    (touches_more _ _ (g.P.Ports.world c.open.new.self) _ c.open.ensures.others c.write_all.ensures.others) c.read_exactly.ensures.others
