use Rattle.std.proofs.Common.{◌∙◌}
use Rattle.list_keys.proofs.Places.{place_found}
use Rattle.list_keys.proofs.place.place_of.Goals as goal

pub returns-clause-is : goal.returns-clause-is
returns-clause-is c = c.unwrap_or.ensures ∙ place_found c.args.byte c.args.text.now c.memchr.result c.memchr.ensures
