use Rattle.std.proofs.Common.{◌∙◌, sym}
use Rattle.shard_front.proofs.Usable.{usable_size}
use Rattle.shard_front.proofs.shard.add_payload.Goals as goal

pub combine_into-requires : goal.combine_into-requires
combine_into-requires c = usable_size c.args.bytes.now c.in-Some.payload.now c.args.header.now (sym c.in-Some.ensures) ∙ sym c.requires

pub returns-in-Some : goal.returns-in-Some
returns-in-Some c = (c.in-Some.payload.now, sym c.in-Some.ensures, c.combine_into.ensures)

pub returns-in-None : goal.returns-in-None
returns-in-None c = sym c.in-None.ensures
