use Rattle.std.proofs.Common.{◌≡◌, ◌∙◌, ◌≤◌, ℕ, List, length, take, sym, ap, ap₂, arith, subst}
use Rattle.std.proofs.lemmas.List.{length-take-le, take_at}
use Rattle.wire_frames.specs.Header.{query_header}
use Rattle.wire_frames.specs.declared.header.QueryHeader.{QueryHeader}
use Rattle.serve_core.specs.Service.{Service, frame_len_for, terms_of}
use Rattle.serve_core.specs.Terms.{most_payload_for, payload_len_for}
use Rattle.serve_core.specs.Taking.{IsGood}
use Rattle.serve_core.specs.Reply.{answer_frame}
use Rattle.serve_core.specs.Stages.{Gives}
use Rattle.serve_core.specs.declared.met.Met.TheVariants.{Served}
use Rattle.serve_core.proofs.RoomFor.{payload_fits}
use Rattle.serve_core.proofs.answer.answer_query.Goals as goal

-- there is room for the payload of a good query
payload_there : (service : Service) (asked : QueryHeader) (long room : ℕ) → IsGood (terms_of service) asked
    → long ≡ payload_len_for (terms_of service) asked.count → room ≡ most_payload_for (terms_of service) → long ≤ room
payload_there service asked long room good is whole =
    omega (arith, is, whole, payload_fits (terms_of service) asked good.range good.shape)

pub slice_bounds-query-end : goal.slice_bounds-query-end
slice_bounds-query-end g c =
    let there = payload_there c.args.service.now c.args.asked.now c.payload_len.result (length c.as_slice-payload.result.now) c.requires.good
    c.payload_len.ensures (c.as_slice-payload.ensures.len ∙ c.requires.fits.query) in
    sym (length-take-le c.payload_len.result c.as_slice-payload.result.now there)

pub write_within-requires-clause-good : goal.write_within-requires-clause-good
write_within-requires-clause-good g c κs within = c.requires.good

pub write_within-requires-clause-query : goal.write_within-requires-clause-query
write_within-requires-clause-query g c κs within =
    let there = payload_there c.args.service.now c.args.asked.now c.payload_len.result (length c.as_slice-payload.result.now) c.requires.good
    c.payload_len.ensures (c.as_slice-payload.ensures.len ∙ c.requires.fits.query) in
    length-take-le c.payload_len.result c.as_slice-payload.result.now there ∙ c.payload_len.ensures

pub write_within-requires-clause-scratch : goal.write_within-requires-clause-scratch
write_within-requires-clause-scratch g c κs within = c.as_mut_slice-scratch.ensures.len ∙ c.requires.fits.scratch

pub write_within-requires-clause-room : goal.write_within-requires-clause-room
write_within-requires-clause-room g c κs within = c.as_mut_slice-frame.ensures.len ∙ c.requires.fits.frame

pub returns-clause-gives : goal.returns-clause-gives
returns-clause-gives g c =
    let service = c.args.service.now in
    let asked = c.args.asked.now in
    let old = g.P.Ports.world c.args.ports.now in
    let new = g.P.Ports.world c.give.new.ports in
    let whole = c.write_within.new.frame in
    let back = take_at whole _ c.args.room.now.frame.len (c.write_within.auto.frame ∙ c.as_mut_slice-frame.ensures.len) in
    let frame = ap₂ (λ (n : ℕ) (l : List ℕ). take n l) c.frame_len.ensures (c.as_slice-written.ensures.value ∙ back) ∙ c.write_within.ensures.frame
    ∙ ap₂ (λ (n : ℕ) (l : List ℕ). answer_frame service (query_header asked) (take n l)) c.payload_len.ensures c.as_slice-payload.ensures.value in
    subst (λ (f : List ℕ). Gives Served f c.give.result old new) frame c.give.ensures.gives
