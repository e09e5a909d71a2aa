use Rattle.std.proofs.Common.{ap, sym, ◌∙◌, length}
use Rattle.key_table.specs.Held.{Held}
use Rattle.key_table.proofs.Stored.{pairs_count}
use Rattle.key_table.proofs.pairs.Pairs.len.Goals as goal

pub returns : goal.returns
returns c =
    ap length c.as_slice.ensures.value ∙ sym (pairs_count c.self.inside.size c.self.inside.bytes.items c.self.inside.starts.items)
    ∙ ap (λ (h : Held). length h.pairs) c.self.view_is
