use Rattle.std.proofs.Common.{◌≡◌, ◌<◌, Bor, List, ℕ, [], length, map, get_or, refl, sym, subst, arith}
use Rattle.std.specs.Prelude.{Some, slice_index_or}
use Rattle.std.proofs.lemmas.List.{get_or-map, length-map, length-take-le}
use Rattle.wire_frames.specs.Turns.{piece}
use Rattle.wire_frames.proofs.Turns.{piece_between}
use Rattle.list_finds.specs.Answers.{AnswersInRow, map_answer}
use Rattle.list_finds.proofs.ToldKeys.{told_more}
use Rattle.list_finds.proofs.telling.tell_rows.Goals as goal

-- what stands where there is no key
abbrev none : Bor (List ℕ)
none = record { ref_ptr = (0, 0); now = [] }

-- a key that is read at a place is the text at that place
key_at : (keys : List (Bor (List ℕ))) (n : ℕ) (d : Bor (List ℕ)) → n < length keys
    → (get_or keys n d).now ≡ slice_index_or (map (λ k. k.now) keys) n []
key_at keys n d l = sym (get_or-map (λ (k : Bor (List ℕ)). k.now) keys n d [] l)

pub loop-place-preserved : goal.loop-place-preserved
loop-place-preserved c =
    let list = c.args.list.now in
    let block = c.args.block.now in
    let width = c.args.width in
    let texts = map (λ (k : Bor (List ℕ)). k.now) c.args.keys.now in
    let n = c.loop-place.place in
    let tells = c.loop-place.invariant in
    let low : n < length texts = omega (arith, c.loop-place-test.true, length-map c.args.keys.now (λ (k : Bor (List ℕ)). k.now)) in
    let room = tells.room in
    let some = length-take-le n texts (omega (arith, low)) in
    let answer = map_answer (λ (v : Bor (List ℕ)). v.now) c.look_for.result in
    told_more list c.args.rows width (Some block) texts n c.args.answers.now c.loop-place.answers c.push.new.self answer low tells
    (omega (arith, room, some, c.loop-place-test.true, c.requires.room))
    (subst (λ (k : List ℕ). AnswersInRow list c.args.rows (piece width n block) k answer) (key_at c.args.keys.now n none c.loop-place-test.true)
    (subst (λ (r : List ℕ). AnswersInRow list c.args.rows r (get_or c.args.keys.now n none).now answer) (piece_between n width width block refl) c.look_for.ensures))
    c.push.ensures
