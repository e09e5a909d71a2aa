use Rattle.std.proofs.Common.{◌≡◌, ◌∙◌, ℕ, ◌+◌, ◌-◌, ◌*◌, List, ◌++◌, length, take, drop, refl, sym, ap, arith, length-append, length-drop}
use Rattle.std.proofs.lemmas.List.{length-take}
use Rattle.wire_frames.specs.declared.sizes.TheConstants.{FRAME_HEADER_LEN}
use Rattle.wire_frames.specs.Header.{answer_to, blocks_in, query_header}
use Rattle.wire_frames.proofs.Answering.{blocks_in_query}
use Rattle.serve_core.specs.Reply.{answers}
use Rattle.serve_core.proofs.Frame.{two_parts}
use Rattle.serve_core.proofs.answer.write_frame.Goals as goal

-- what stands behind the header is as long as the rows
rows_behind : (frame : List ℕ) (long rows : ℕ) → length frame ≡ long → long ≡ FRAME_HEADER_LEN + rows
    → length (take (length frame - FRAME_HEADER_LEN) (drop FRAME_HEADER_LEN frame)) ≡ rows
rows_behind frame long rows same is =
    omega (arith, length-take (length frame - FRAME_HEADER_LEN) (drop FRAME_HEADER_LEN frame), length-drop FRAME_HEADER_LEN frame, same, is)

pub write_header-requires-clause-query : goal.write_header-requires-clause-query
write_header-requires-clause-query g c = c.requires.good.range

pub write_rows-requires-clause-few : goal.write_rows-requires-clause-few
write_rows-requires-clause-few g c κs within = c.requires.good.range.blocks.few_blocks

pub write_rows-requires-clause-query : goal.write_rows-requires-clause-query
write_rows-requires-clause-query g c κs within = c.requires.query

pub write_rows-requires-clause-scratch : goal.write_rows-requires-clause-scratch
write_rows-requires-clause-scratch g c κs within = c.requires.scratch

pub write_rows-requires-clause-room : goal.write_rows-requires-clause-room
write_rows-requires-clause-room g c κs within =
    rows_behind c.write_header.new.frame (length c.args.frame.now)
    (c.args.query.now.asked.count * c.args.service.now.database.width) c.write_header.auto.frame c.requires.room

pub returns-clause-scratch : goal.returns-clause-scratch
returns-clause-scratch g c = c.write_rows.ensures.scratch

pub returns-clause-frame : goal.returns-clause-frame
returns-clause-frame g c =
    let asked = c.args.query.now.asked in
    let header = answer_to (query_header asked) 0 in
    let rest = drop FRAME_HEADER_LEN c.args.frame.now in
    let count : blocks_in (query_header asked) ≡ asked.count
    = blocks_in_query (query_header asked) asked (record { range = c.requires.good.range; spelled = refl }) in
    let both : length header + length rest ≡ length c.args.frame.now
    = omega (arith, length-append header rest, ap length c.write_header.ensures, c.write_header.auto.frame) in
    two_parts header rest c.write_header.new.frame c.write_rows.new.out
    (omega (arith, both, c.requires.room, length-drop FRAME_HEADER_LEN c.args.frame.now)) c.write_header.ensures
    ∙ ap (λ (l : List ℕ). header ++ l)
    (c.write_rows.ensures.answers ∙ ap (λ (n : ℕ). answers c.args.service.now n c.args.query.now.vectors.now) (sym count))
