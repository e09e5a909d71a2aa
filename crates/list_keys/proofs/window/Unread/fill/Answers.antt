use Rattle.std.proofs.Common.{◌≡◌, ◌∙◌, ◌+◌, ◌-◌, length, take, drop, refl, ap, arith, length-drop, take_at}
use Rattle.std.proofs.lemmas.Bool.{eqb-true}
use Rattle.list_keys.specs.Window.{Window, part}
use Rattle.list_keys.proofs.Given.{given_more}
use Rattle.list_keys.proofs.Parts.{part_refilled}
use Rattle.list_keys.proofs.window.Unread.fill.Goals as goal

pub returns-clause-takes : goal.returns-clause-takes
returns-clause-takes g c = λ given start h.
    let i = c.self.inside in
    let next = c.with_room-self-inside.result in
    let more = c.in_ok-more.more in
    let moved = c.with_room-self-inside.new.bytes in
    let before = c.as_mut_slice-2.result.now in
    let after = c.take_behind.new.bytes in
    let end = next + (i.end - i.start) in
    let size_moved : length moved ≡ i.bytes.len = omega (arith, c.with_room-self-inside.auto.bytes, c.as_mut_slice.ensures.len) in
    let size_after : length after ≡ i.bytes.len = omega (arith, c.take_behind.auto.bytes, c.as_mut_slice-2.ensures.len) in
    let there = c.with_room-self-inside.ensures.kept ∙ ap (λ xs. part xs i.start i.end) c.as_mut_slice.ensures.value in
    let rest = part_refilled i.bytes moved before after i.start i.end next more c.args.self.now.rest size_moved c.as_mut_slice-2.ensures.value
    size_after there (ap (λ (w : Window). w.rest) c.self.view_is) c.in_ok-more.ensures.kept in
    given_more c.args.self.now _ more (drop end before) (drop end after) given start _ _
    (omega (arith, c.take_behind.auto.bytes, length-drop end before, length-drop end after)) rest
    c.requires.more (λ e. eqb-true more 0 e) c.in_ok-more.ensures.piece.0 c.in_ok-more.ensures.piece.1 h

pub returns-clause-kept : goal.returns-clause-kept
returns-clause-kept g c =
    let i = c.self.inside in
    let next = c.with_room-self-inside.result in
    let moved = c.with_room-self-inside.new.bytes in
    let after = c.take_behind.new.bytes in
    let rest = c.args.self.now.rest in
    let size_moved : length moved ≡ i.bytes.len = omega (arith, c.with_room-self-inside.auto.bytes, c.as_mut_slice.ensures.len) in
    let size_after : length after ≡ i.bytes.len = omega (arith, c.take_behind.auto.bytes, c.as_mut_slice-2.ensures.len) in
    let there = c.with_room-self-inside.ensures.kept ∙ ap (λ xs. part xs i.start i.end) c.as_mut_slice.ensures.value in
    ap (take (length rest))
    (part_refilled i.bytes moved c.as_mut_slice-2.result.now after i.start i.end next c.in_ok-more.more rest size_moved c.as_mut_slice-2.ensures.value
    size_after there (ap (λ (w : Window). w.rest) c.self.view_is) c.in_ok-more.ensures.kept)
    ∙ take_at rest (take c.in_ok-more.more (drop (next + (i.end - i.start)) after)) (length rest) refl
