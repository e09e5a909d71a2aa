use Rattle.fetch_client.proofs.Counts.{with_report}
use Rattle.fetch_client.proofs.fetching.fetch_report.Goals as goal

pub fetch_with-requires : goal.fetch_with-requires
fetch_with-requires g c = c.requires

pub returns-clause-fetched : goal.returns-clause-fetched
returns-clause-fetched g c = with_report _ _ _ c.fetch_with.result c.fetch_with.ensures.fetched.fetched

pub returns-clause-others : goal.returns-clause-others
returns-clause-others g c = c.fetch_with.ensures.fetched.others

pub returns-clause-cols : goal.returns-clause-cols
returns-clause-cols g c = c.fetch_with.ensures.counted.cols

pub returns-clause-nodes : goal.returns-clause-nodes
returns-clause-nodes g c = c.fetch_with.ensures.counted.nodes

pub returns-clause-least : goal.returns-clause-least
returns-clause-least g c = c.fetch_with.ensures.counted.least

pub returns-clause-least_nodes : goal.returns-clause-least_nodes
returns-clause-least_nodes g c = c.fetch_with.ensures.counted.least_nodes

pub returns-clause-listed : goal.returns-clause-listed
returns-clause-listed g c = c.fetch_with.ensures.counted.listed

pub returns-clause-xor : goal.returns-clause-xor
returns-clause-xor g c = c.fetch_with.ensures.counted.xor

pub returns-clause-several : goal.returns-clause-several
returns-clause-several g c = c.fetch_with.ensures.counted.several
