use Rattle.std.proofs.Common.{◌≡◌, ◌+◌, ◌*◌, length, take}
use Rattle.std.specs.List.Sorted.{IsStrictlySortedBy}
use Rattle.block_decoder.specs.Decoding.{counters}
use Rattle.block_decoder.specs.Narrowing.{nexts_of, progress, Grew, TurnsCounted, TurnsGained}
use Rattle.block_decoder.specs.Report.{agreement_cmp}
use Rattle.block_decoder.proofs.narrowing.Narrowing.+extend.Given as goal

-- each call of the other has fewer answers, or the same ones in the next step
abbrev pub decreases-extend : goal.decreases-extend
decreases-extend g l = 2 * length l.candidate.now.kept.now + 1

abbrev pub decreases-extend_by_each : goal.decreases-extend_by_each
decreases-extend_by_each g l = 2 * length l.parting.now.candidate.kept.now

-- the agreements and columns below the polynomials so far
abbrev pub invariant-extend_by_each-loop-polynomial : goal.invariant-extend_by_each-loop-polynomial
invariant-extend_by_each-loop-polynomial g l = record {
  size : length l.block ≡ length l.initial.block;
  kept : take l.parting.candidate.column l.block ≡ take l.parting.candidate.column l.initial.block;
  ascending : IsStrictlySortedBy agreement_cmp l.report;
  counted : TurnsCounted (take l.polynomial-index (nexts_of l.parting)) l.self.decoding l.parting l.initial.block
      (counters l.initial.cols l.initial.nodes) (counters l.cols l.nodes);
  gained : TurnsGained (take l.polynomial-index (nexts_of l.parting)) l.self.decoding l.parting
      (progress l.initial.block l.initial.report l.initial.cols) (progress l.block l.report l.cols);
  grew : Grew l.self.decoding l.polynomial-index l.initial.report l.report l.initial.nodes l.nodes;
}
