use Rattle.std.proofs.Common.{◌-◌, subst, sym, arith}
use Rattle.gs_interpolate.proofs.RowLengths.{IsFilled, filled-room, filled-next}
use Rattle.gs_interpolate.proofs.layout.row_lengths.Goals as goal

pub loop-missing-smaller : goal.loop-missing-smaller
loop-missing-smaller c =
    let room = filled-room c.loop-missing.lengths.items c.loop-missing.missing c.loop-missing.longest c.args.size c.args.t c.args.d c.loop-missing.invariant (omega arith) in
    omega arith

pub loop-missing-preserved : goal.loop-missing-preserved
loop-missing-preserved c =
    let l = c.loop-missing in
    let n = c.min-length.result in
    let size = c.args.size in
    let t = c.args.t in
    let d = c.args.d in
    subst (λ x. IsFilled c.push.new.self.items (l.missing - n) x size t d) (sym c.saturating_sub-longest.ensures)
    (subst (λ ns. IsFilled ns (l.missing - n) (l.longest - t) size t d) (sym c.in_ok-push.ensures.items)
    (filled-next l.lengths.items l.missing l.longest n size t d c.requires.weight l.invariant (omega arith) (omega arith)))

pub overflow_add-longest : goal.overflow_add-longest
overflow_add-longest c = omega arith

pub overflow_sub-missing : goal.overflow_sub-missing
overflow_sub-missing c = omega arith
