use Rattle.std.proofs.Common.{◌≡◌, length, slice_index, refl, subst, arith}
use Rattle.std.proofs.lemmas.List.{get_or_past}
use Rattle.gf256.specs.Rows.{IsAdded}
use Rattle.gf256.proofs.Added.{added-none, added-place, added-all}
use Rattle.gf256.proofs.rows.add_bytes.Goals as goal

pub loop-i-init : goal.loop-i-init
loop-i-init c = added-none c.args.acc.now (slice_index c.args.row.now) 0

pub loop-i-preserved : goal.loop-i-preserved
loop-i-preserved c =
    added-place c.loop-i.acc c.args.acc.now (slice_index c.args.row.now) 0 c.loop-i.i _ (omega arith) (omega arith) refl c.loop-i.invariant

pub returns : goal.returns
returns c =
    let end : c.loop-i.i ≡ length c.args.acc.now = omega arith in
    added-all c.loop-i.acc c.args.acc.now (slice_index c.args.row.now) (length c.args.acc.now)
    (λ k l. get_or_past c.args.row.now k 0 (omega (arith, c.requires)))
    (subst (IsAdded c.loop-i.acc c.args.acc.now (slice_index c.args.row.now) 0) end c.loop-i.invariant)
