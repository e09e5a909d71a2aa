use Rattle.std.proofs.Common.{map, string_bytes}
use Rattle.list_tool.proofs.Ranges.{asked_range}
use Rattle.list_tool.proofs.run.run_list.Goals as goal

pub run_asked-requires : goal.run_asked-requires
run_asked-requires g c = asked_range (map string_bytes c.args.words.now) c.in-Ok.asked c.in-Ok.ensures
