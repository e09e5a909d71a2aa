use Rattle.commands.proofs.report.write_whole.Goals as goal

pub write_both-requires : goal.write_both-requires
write_both-requires g c = c.requires c.in-Some.report c.in-Some.is
