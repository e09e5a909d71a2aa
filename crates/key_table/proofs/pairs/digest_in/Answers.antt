use Rattle.std.proofs.Common.{ap, sym, ◌∙◌, take, arith}
use Rattle.key_table.specs.Entry.{Pair}
use Rattle.key_table.proofs.Stored.{pair_past, pair_there}
use Rattle.key_table.proofs.pairs.digest_in.Goals as goal

pub returns-then-place-starts : goal.returns-then-place-starts
returns-then-place-starts c =
    sym (ap (λ (p : Pair). p.digest) (pair_past c.args.size c.args.bytes.now c.args.starts.now c.args.place (omega arith)))

pub returns : goal.returns
returns c =
    c.split_at.ensures.front ∙ ap (take c.args.size) c.text_in.ensures.text
    ∙ sym (ap (λ (p : Pair). p.digest) (pair_there c.args.size c.args.bytes.now c.args.starts.now c.args.place (omega arith)))
