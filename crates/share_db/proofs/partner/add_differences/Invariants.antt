use Rattle.gf256.specs.Rows.{IsAdded}
use Rattle.share_db.specs.Partner.{difference}
use Rattle.share_db.proofs.partner.add_differences.Given as goal

abbrev pub invariant-loop-j : goal.invariant-loop-j
invariant-loop-j l = IsAdded l.coins l.initial.coins (difference l.g l.from l.to l.tau) 0 l.j
