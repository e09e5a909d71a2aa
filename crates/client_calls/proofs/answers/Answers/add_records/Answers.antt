use Rattle.std.proofs.Common.{refl, ap}
use Rattle.wire_frames.specs.Turns.{in_turn}
use Rattle.client_calls.specs.Answers.{given}
use Rattle.client_calls.proofs.Records.{answer_ends, has_room, next_start, records_more, transcript}
use Rattle.client_calls.proofs.answers.Answers.add_records.Goals as goal

pub loop-place-init : goal.loop-place-init
unfolding in_turn
loop-place-init c = record { session = ap (transcript c.args.session.now.params) c.requires.fresh; start = refl }

pub slice_bounds-add_record-end : goal.slice_bounds-add_record-end
slice_bounds-add_record-end c =
    answer_ends (given c.args.self.now) c.loop-place.place c.loop-place.start c.args.session.now.params.n c.requires.answers
    c.loop-place.invariant.start c.loop-place-test.true

pub add_record-requires-clause-few : goal.add_record-requires-clause-few
add_record-requires-clause-few c =
    has_room c.args.most c.loop-place.place c.args.session.now.params.n (given c.args.self.now) c.args.session.now.params c.loop-place.session
    c.loop-place.invariant.session c.loop-place-test.true c.requires.answers.lengths

pub loop-place-preserved : goal.loop-place-preserved
loop-place-preserved c = record {
  session = records_more c.args.most (given c.args.self.now) c.loop-place.place c.loop-place.start c.args.session.now.params
      c.loop-place.session c.add_record.new.session c.loop-place.invariant.session c.loop-place.invariant.start c.add_record.ensures;
  start = next_start c.args.self.now.lengths.now c.loop-place.place c.loop-place.start c.loop-place.invariant.start c.loop-place-test.true;
}
