use Rattle.std.proofs.Common.{arith}
use Rattle.client_calls.proofs.Ranges.{range_for}
use Rattle.client_calls.proofs.asking.Asking.params.Goals as goal

pub returns-clause-range : goal.returns-clause-range
returns-clause-range c =
    range_for c.args.self.now.plan c.args.self.now.count c.args.session c.requires.plan c.requires.count (omega (arith, c.ranges.session))
