use Rattle.key_table.proofs.Law.{table_answers}
use Rattle.key_table.proofs.laws.table_answers_for_its_list.Goals as goal

pub returns : goal.returns
returns c = table_answers
