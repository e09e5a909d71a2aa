use Rattle.list_finds.proofs.ForTheList.{answers_for_the_list}
use Rattle.list_finds.proofs.laws.honest_servers_answer_for_the_list.Goals as goal

pub returns : goal.returns
returns c = answers_for_the_list
