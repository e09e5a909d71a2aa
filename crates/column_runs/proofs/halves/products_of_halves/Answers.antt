use Rattle.std.proofs.Common.{sym, subst}
use Rattle.gf256.specs.Rows.{multiple, AreLanes}
use Rattle.column_runs.specs.Halves.{together}
use Rattle.column_runs.proofs.Together.{products-together}
use Rattle.column_runs.proofs.halves.products_of_halves.Goals as goal

pub returns : goal.returns
returns g c =
    let lows = c.args.low.now in
    let highs = c.args.high.now in
    let f = c.args.factor.now in
    let at = c.args.at in
    subst (λ v. AreLanes g.row.N v (multiple (together lows highs) f) at) (sym c.times_halves.ensures)
    (products-together lows highs c.requires.halves.same g.row.N f at c.requires.within)
