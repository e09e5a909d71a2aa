use Rattle.std.proofs.Common.{◌≡◌, ◌∙◌, ℕ, ◌+◌, ◌-◌, ◌<◌, ◌≤◌, List, length, take, min, arith}
use Rattle.std.proofs.lemmas.List.{length-take}
use Rattle.std.proofs.lemmas.List.Elements.{All-take}
use Rattle.wire_frames.proofs.Digits.{IsByte, bytes_from_fits}
use Rattle.wire_frames.proofs.RecordSteps.{extended_bytes, extended_part, extended_steady, room_left}
use Rattle.wire_frames.proofs.records_reader.RecordsReader.take_bytes.Goals as goal

-- the bytes that are taken fit
fits_room : (piece : List ℕ) (count left room : ℕ) → count ≡ min left (length piece) → left ≤ room → length (take count piece) ≤ room
fits_room piece count left room is few = omega (arith, length-take count piece, is, few)

at_most_left : (count len left : ℕ) → count ≡ min left len → count ≤ left
at_most_left count len left is = omega (arith, is)

taken_whole : (piece : List ℕ) (count left : ℕ) → count ≡ min left (length piece) → count ≡ length (take count piece)
taken_whole piece count left is = omega (arith, length-take count piece, is)

pub close_if_whole-requires-clause-steady : goal.close_if_whole-requires-clause-steady
close_if_whole-requires-clause-steady c =
    let r = c.args.self.now in
    let count = c.min-count.result in
    let piece = c.args.piece.now in
    let room = room_left r c.requires.steady c.requires.part in
    let fits = fits_room piece count r.left r.records.byte_room c.min-count.ensures room in
    extended_steady r c.extend.new.self (take count piece) (r.left - count) c.requires.steady (All-take IsByte count piece (bytes_from_fits piece c.type_inv.piece)) fits c.extend.ensures

pub close_if_whole-requires-clause-part : goal.close_if_whole-requires-clause-part
close_if_whole-requires-clause-part c =
    let r = c.args.self.now in
    let count = c.min-count.result in
    let piece = c.args.piece.now in
    let all : length (take count piece) + (r.left - count) ≡ r.left = omega (arith, length-take count piece, c.min-count.ensures) in
    extended_part r c.extend.new.self (take count piece) (r.left - count) c.requires.part all c.extend.ensures

pub returns-clause-bytes : goal.returns-clause-bytes
returns-clause-bytes c =
    let r = c.args.self.now in
    let count = c.min-count.result in
    let piece = c.args.piece.now in
    let some : 0 < count = omega (arith, c.min-count.ensures, c.requires.left, c.requires.some) in
    let few : count ≤ length piece = omega (arith, c.min-count.ensures) in
    (some, few, c.close_if_whole.ensures.bytes ∙ extended_bytes r c.extend.new.self (take count piece) (r.left - count) c.extend.ensures)

pub extend-requires : goal.extend-requires
extend-requires c = fits_room c.args.piece.now c.min-count.result c.args.self.now.left c.args.self.now.records.byte_room c.min-count.ensures (room_left c.args.self.now c.requires.steady c.requires.part)

pub overflow_sub-self : goal.overflow_sub-self
overflow_sub-self c = at_most_left _ _ c.args.self.now.left c.min-count.ensures

pub returns-clause-open : goal.returns-clause-open
returns-clause-open c = c.close_if_whole.ensures.«open»

pub slice_bounds-extend-end : goal.slice_bounds-extend-end
slice_bounds-extend-end c = taken_whole c.args.piece.now c.min-count.result c.args.self.now.left c.min-count.ensures
