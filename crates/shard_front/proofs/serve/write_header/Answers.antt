use Rattle.std.proofs.Common.{◌∙◌, ℕ, List, ap}
use Rattle.wire_frames.specs.Header.{answer_to}
use Rattle.wire_frames.proofs.Answering.{answer_to_query}
use Rattle.shard_front.proofs.serve.write_header.Goals as goal

pub returns : goal.returns
returns c =
    let blocks = c.requires.blocks in
    c.write_answer_header.ensures ∙ ap (λ (l : List ℕ). answer_to l c.args.status) c.write_query_header.ensures
    ∙ answer_to_query c.args.asked.now c.args.status blocks.some_version blocks.two_versions
