use Rattle.std.proofs.Common.{List, ℕ, [], sym, subst}
use Rattle.wire_frames.specs.Answer.{Answer}
use Rattle.block_decoder.specs.Agreed.{answers_of, Filled, Heavy}
use Rattle.block_decoder.specs.Decoding.{decoding}
use Rattle.block_decoder.specs.Gains.{Gains}
use Rattle.block_decoder.specs.Numbered.{Continues}
use Rattle.block_decoder.proofs.Agreed.{filled-answers_of}
use Rattle.block_decoder.proofs.Continued.{continues-Heavy}
use Rattle.block_decoder.proofs.Continues.{Gains-same, Lists-Gains}
use Rattle.program_tests.proofs.plain_blocks.plain_listing.Goals as goal

pub invariant_of-search : goal.invariant_of-search
invariant_of-search c = record {
  small = c.requires.degree;
  filled = subst (Filled c.args.s) (sym c.new.ensures) (filled-answers_of c.args.s c.args.indices.now c.args.bytes.now c.requires.fit);
}

pub returns : goal.returns
returns c =
    let answers = answers_of c.args.s c.args.indices.now c.args.bytes.now in
    let Came : List Answer → List ℕ → List (List ℕ) → Type 0 = λ all first old. Gains (Continues (decoding all c.args.s c.args.t c.args.h) first) old c.extend.new.listing in
    Lists-Gains answers c.args.s c.args.t c.args.h c.extend.new.listing (filled-answers_of c.args.s c.args.indices.now c.args.bytes.now c.requires.fit) c.extend.ensures.ascending
    (Gains-same (Continues (decoding answers c.args.s c.args.t c.args.h) []) (Heavy answers c.args.s c.args.t c.args.h) [] c.extend.new.listing
    (continues-Heavy (decoding answers c.args.s c.args.t c.args.h))
    (subst (λ old. Came answers [] old) c.new-listing.ensures
    (subst (λ first. Came answers first c.new-listing.result) c.new-2.ensures.items
    (subst (λ all. Came all c.new-2.result.items c.new-listing.result) c.new.ensures c.in_ok-extend.ensures.exact))))
