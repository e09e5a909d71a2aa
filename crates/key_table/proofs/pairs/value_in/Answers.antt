use Rattle.std.proofs.Common.{ap, sym, ◌∙◌, drop, arith}
use Rattle.key_table.specs.Entry.{Pair}
use Rattle.key_table.proofs.Stored.{pair_past, pair_there}
use Rattle.key_table.proofs.pairs.value_in.Goals as goal

pub returns-then-place-starts : goal.returns-then-place-starts
returns-then-place-starts c =
    sym (ap (λ (p : Pair). p.value) (pair_past c.args.size c.args.bytes.now c.args.starts.now c.args.place (omega arith)))

pub returns : goal.returns
returns c =
    c.split_at.ensures.back ∙ ap (drop c.args.size) c.text_in.ensures.text
    ∙ sym (ap (λ (p : Pair). p.value) (pair_there c.args.size c.args.bytes.now c.args.starts.now c.args.place (omega arith)))
