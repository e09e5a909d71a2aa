use Rattle.std.proofs.Common.{map}
use Rattle.pir_words.proofs.NamedRows.{AreSoFar}
use Rattle.pir_words.proofs.blocks.read_rows.Given as goal

-- the rows so far, behind the first
abbrev pub invariant-loop-text : goal.invariant-loop-text
invariant-loop-text l = AreSoFar l.rows l.first (map (λ t. t.now) l.texts) l.text-index l.list.items
