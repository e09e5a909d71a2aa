use Rattle.std.proofs.Common.{◌≡◌}
use Rattle.port_trait.specs.Number.{OUTPUT}
use Rattle.port_trait.specs.Moves.{Touches, gave}
use Rattle.block_decoder.specs.Text.{words_of}
use Rattle.block_decoder.proofs.FirstAnswers.{first_of}
use Rattle.block_decoder.proofs.liars.write_others.Given as goal

-- the words of the first servers are written
abbrev pub invariant-loop-place : goal.invariant-loop-place
invariant-loop-place g l = record {
  so_far : (g.P.Ports.world l.ports).at OUTPUT ≡ gave (words_of l.indices (first_of l.session l.place)) ((g.P.Ports.world l.initial.ports).at OUTPUT);
  others : Touches OUTPUT (g.P.Ports.world l.initial.ports) (g.P.Ports.world l.ports);
}
