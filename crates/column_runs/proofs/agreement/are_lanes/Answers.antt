use Rattle.std.proofs.Common.{sym, ◌∙◌}
use Rattle.std.proofs.lemmas.Bool.{eqb-true}
use Rattle.std.proofs.lemmas.Simd.{length-chunk}
use Rattle.std.specs.Simd.Lanes.{chunk}
use Rattle.column_runs.proofs.SameLanes.{same_from_or}
use Rattle.column_runs.proofs.agreement.are_lanes.Goals as goal

pub returns : goal.returns
returns g c = λ zero.
    let n = g.row.N in
    let row = c.args.row.now in
    same_from_or (chunk c.args.at n row) c.args.lanes (length-chunk c.args.at n row c.requires.within ∙ sym c.requires.size) (eqb-true _ _ zero)
