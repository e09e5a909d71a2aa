use Rattle.std.proofs.Common.{rules}
use Rattle.std.proofs.lemmas.Fn.{dedup_same}
use Rattle.key_table.specs.Numbered.{same_numbered}
use Rattle.key_table.proofs.entries.keep_firsts.Goals as goal

pub returns : goal.returns
returns c = dedup_same _ (same_numbered c.args.pairs.now.pairs) _ (λ x y b f' x' y' k. search rules) _ _ c.dedup_by.ensures.filtered
