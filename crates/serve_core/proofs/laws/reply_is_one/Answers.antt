use Rattle.serve_core.proofs.OneReply.{one_reply}
use Rattle.serve_core.proofs.laws.reply_is_one.Goals as goal

pub returns : goal.returns
returns c = one_reply c.args.desk.now c.args.guest.now
