use Rattle.gf256.specs.Tables.{HasProducts}
use Rattle.gf256.proofs.tables.Tables.new.Given as goal

abbrev pub invariant-loop-factor : goal.invariant-loop-factor
invariant-loop-factor l = HasProducts l.bytes l.factor
