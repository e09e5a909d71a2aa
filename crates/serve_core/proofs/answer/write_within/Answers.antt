use Rattle.std.proofs.Common.{◌≡◌, ◌∙◌, ◌≤◌, ℕ, List, length, take, drop, sym, arith, length-append}
use Rattle.std.proofs.lemmas.List.{length-take-le, take_at}
use Rattle.wire_frames.specs.declared.header.QueryHeader.{QueryHeader}
use Rattle.serve_core.specs.Service.{Service, frame_len_for, most_frame_for, most_sums_for, sums_len_for, terms_of}
use Rattle.serve_core.specs.Taking.{IsGood}
use Rattle.serve_core.proofs.RoomFor.{few_blocks, frame_fits, sums_fit}
use Rattle.serve_core.proofs.answer.write_within.Goals as goal

-- a good query takes no more of the room than there is
module _ (service : Service) (asked : QueryHeader) (good : IsGood (terms_of service) asked) (long room : ℕ) where
  -- for the sums of the workers
  sums_there : long ≡ sums_len_for service asked.count → room ≡ most_sums_for service → long ≤ room
  sums_there is whole = omega (arith, is, whole, sums_fit service asked.count (few_blocks (terms_of service) asked good.range good.shape))

  -- for the frame of its answer
  frame_there : long ≡ frame_len_for service asked.count → room ≡ most_frame_for service → long ≤ room
  frame_there is whole = omega (arith, is, whole, frame_fits service asked.count (few_blocks (terms_of service) asked good.range good.shape))

pub slice_bounds-scratch-end : goal.slice_bounds-scratch-end
slice_bounds-scratch-end g c =
    sums_there c.args.service.now c.args.query.now.asked c.requires.good c.sums_len.result (length c.args.scratch.now)
    c.sums_len.ensures c.requires.scratch

pub slice_bounds-scratch-end-2 : goal.slice_bounds-scratch-end-2
slice_bounds-scratch-end-2 g c =
    sym (length-take-le c.sums_len.result c.args.scratch.now
    (sums_there c.args.service.now c.args.query.now.asked c.requires.good c.sums_len.result (length c.args.scratch.now)
    c.sums_len.ensures c.requires.scratch))

pub slice_bounds-frame-end : goal.slice_bounds-frame-end
slice_bounds-frame-end g c =
    frame_there c.args.service.now c.args.query.now.asked c.requires.good c.frame_len.result (length c.args.frame.now)
    c.frame_len.ensures c.requires.room

pub slice_bounds-frame-end-2 : goal.slice_bounds-frame-end-2
slice_bounds-frame-end-2 g c =
    sym (length-take-le c.frame_len.result c.args.frame.now
    (frame_there c.args.service.now c.args.query.now.asked c.requires.good c.frame_len.result (length c.args.frame.now)
    c.frame_len.ensures c.requires.room))

pub write_frame-requires-clause-good : goal.write_frame-requires-clause-good
write_frame-requires-clause-good g c κs within = c.requires.good

pub write_frame-requires-clause-query : goal.write_frame-requires-clause-query
write_frame-requires-clause-query g c κs within = c.requires.query

pub write_frame-requires-clause-scratch : goal.write_frame-requires-clause-scratch
write_frame-requires-clause-scratch g c κs within =
    length-take-le c.sums_len.result c.args.scratch.now
    (sums_there c.args.service.now c.args.query.now.asked c.requires.good c.sums_len.result (length c.args.scratch.now)
    c.sums_len.ensures c.requires.scratch)
    ∙ c.sums_len.ensures

pub write_frame-requires-clause-room : goal.write_frame-requires-clause-room
write_frame-requires-clause-room g c κs within =
    length-take-le c.frame_len.result c.args.frame.now
    (frame_there c.args.service.now c.args.query.now.asked c.requires.good c.frame_len.result (length c.args.frame.now)
    c.frame_len.ensures c.requires.room)
    ∙ c.frame_len.ensures

pub returns-clause-frame : goal.returns-clause-frame
returns-clause-frame g c =
    let there = frame_there c.args.service.now c.args.query.now.asked c.requires.good c.frame_len.result (length c.args.frame.now)
    c.frame_len.ensures c.requires.room in
    let long = c.write_frame.auto.frame ∙ length-take-le c.frame_len.result c.args.frame.now there ∙ c.frame_len.ensures in
    take_at c.write_frame.new.frame (drop c.frame_len.result c.args.frame.now) (frame_len_for c.args.service.now c.args.query.now.asked.count) long
    ∙ c.write_frame.ensures.frame

pub returns-clause-size : goal.returns-clause-size
returns-clause-size g c =
    let there = frame_there c.args.service.now c.args.query.now.asked c.requires.good c.frame_len.result (length c.args.frame.now)
    c.frame_len.ensures c.requires.room in
    let long = c.write_frame.auto.frame ∙ length-take-le c.frame_len.result c.args.frame.now there ∙ c.frame_len.ensures in
    omega (arith, long, length-append c.write_frame.new.frame (drop c.frame_len.result c.args.frame.now))
