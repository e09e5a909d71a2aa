use Rattle.commands.proofs.replay_command.replay_whole_uncounted.Goals as goal

pub new-cols-requires-clause-name : goal.new-cols-requires-clause-name
new-cols-requires-clause-name g c = c.requires.cols.0

pub new-cols-requires-clause-parts : goal.new-cols-requires-clause-parts
new-cols-requires-clause-parts g c = c.requires.cols.1

pub new-cols-requires-clause-some : goal.new-cols-requires-clause-some
new-cols-requires-clause-some g c = c.requires.cols.2

pub new-nodes-requires-clause-name : goal.new-nodes-requires-clause-name
new-nodes-requires-clause-name g c = c.requires.nodes.0

pub new-nodes-requires-clause-parts : goal.new-nodes-requires-clause-parts
new-nodes-requires-clause-parts g c = c.requires.nodes.1

pub new-nodes-requires-clause-some : goal.new-nodes-requires-clause-some
new-nodes-requires-clause-some g c = c.requires.nodes.2
