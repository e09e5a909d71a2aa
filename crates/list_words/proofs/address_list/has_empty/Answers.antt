use Rattle.std.proofs.Common.{lit<, rules, tests, length}
use Rattle.std.specs.Prelude.{◌==◌}
use Rattle.std.proofs.lemmas.Iterator.Search.{any_from_yields_List}
use Rattle.std.proofs.lemmas.Iterator.Splits.{YieldsList-from_str_split}
use Rattle.list_words.proofs.address_list.has_empty.Goals as goal

pub returns : goal.returns
returns c =
    any_from_yields_List (λ address. length address == 0) _ _ _ c.any.ensures.ran
    (YieldsList-from_str_split 44 c.args.text.now (lit< tt) c.split.ensures.text c.split.ensures.has_more c.split.ensures.pattern)
    (λ x b q k. search (rules, tests))
