use Rattle.std.specs.Option.{option_copied}
use Rattle.block_decoder.proofs.Collected.{payload_is_of}
use Rattle.block_decoder.proofs.usable.usable_payload.Goals as goal

pub returns : goal.returns
returns c =
    payload_is_of c.args.session.now c.args.index c.from.result c.in_ok-bytes.bytes.now c.params.result c.asked.result (option_copied c.usable_answer.result)
    c.from.ensures c.in_ok-bytes.ensures c.params.ensures.value c.asked.ensures c.usable_answer.ensures
