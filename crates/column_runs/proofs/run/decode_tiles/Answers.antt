use Rattle.std.proofs.Common.{◌≡◌, ◌+◌, ◌-◌, ◌≤◌, ℕ, List, Bor, Vec, Global, length, map, take, drop, refl, ◌∙◌, arith, length-drop}
use Rattle.std.proofs.lemmas.List.{length-take-le}
use Rattle.column_runs.proofs.DifferenceRows.{room_kept}
use Rattle.column_runs.proofs.Tiles.{follow_more, constants_more, ends_early}
use Rattle.column_runs.proofs.run.decode_tiles.Goals as goal

-- a part of a list that lies within it
length-part : (out : List ℕ) (done size : ℕ) → done + size ≤ length out → length (take size (drop done out)) ≡ size
length-part out done size room = let rest = length-drop done out in length-take-le size (drop done out) (omega (arith, rest, room))

pub decode_tile-columns-requires-clause-room : goal.decode_tile-columns-requires-clause-room
decode_tile-columns-requires-clause-room c =
    let done = c.tiles.done in
    let part = done + c.min-size.result - done in
    let least = c.min-size.ensures in
    let within = c.tiles.invariant.within in
    let long = c.tiles.auto.out in
    let size = length-part c.tiles.out done part (omega (arith, least, within, long)) in
    room_kept c.args.differences.now c.tiles.differences (length (take part (drop done c.tiles.out))) c.tiles.auto.differences c.tiles.invariant.sizes
    (λ k d l. let room = c.requires.room k d l in omega (arith, room, size, least))

pub tiles-preserved : goal.tiles-preserved
tiles-preserved c =
    let rows = map (λ (row : Bor (List ℕ)). row.now) c.args.rows.now in
    let others = map (λ (f : Vec ℕ Global). f.items) c.args.factors.now.others.items in
    let zero = c.args.factors.now.zero.items in
    let done = c.tiles.done in
    let new = c.decode_tile-columns.new.out in
    let part = done + c.min-size.result - done in
    let least = c.min-size.ensures in
    let within = c.tiles.invariant.within in
    let long = c.tiles.auto.out in
    let room : done + part ≤ length c.tiles.out = omega (arith, least, within, long) in
    let size = c.decode_tile-columns.auto.out ∙ length-part c.tiles.out done part room in
    let tile = c.decode_tile-columns.ensures.tile in
    let most = tile.within in
    record {
      within = omega (arith, most, size, room, long);
      follow = follow_more c.tiles.out new done part room size rows c.args.from others zero c.decode_tile-columns.result tile c.tiles.invariant.follow;
      constants =
          constants_more c.tiles.out new done part room size rows c.args.from others zero c.decode_tile-columns.result tile c.tiles.invariant.constants;
      sizes = λ i. c.decode_tile-columns.ensures.sizes i ∙ c.tiles.invariant.sizes i;
    }

pub returns-then-columns-size : goal.returns-then-columns-size
returns-then-columns-size c =
    let rows = map (λ (row : Bor (List ℕ)). row.now) c.args.rows.now in
    let others = map (λ (f : Vec ℕ Global). f.items) c.args.factors.now.others.items in
    let done = c.tiles.done in
    let part = done + c.min-size.result - done in
    let least = c.min-size.ensures in
    let within = c.tiles.invariant.within in
    let long = c.tiles.auto.out in
    let room : done + part ≤ length c.tiles.out = omega (arith, least, within, long) in
    let size = c.decode_tile-columns.auto.out ∙ length-part c.tiles.out done part room in
    let less = c.if-columns-size.true in
    ends_early c.tiles.out c.decode_tile-columns.new.out done part room size rows c.args.from others c.args.factors.now.zero.items
    c.decode_tile-columns.result c.decode_tile-columns.ensures.tile (omega (arith, less)) c.tiles.invariant.follow c.tiles.invariant.constants

pub tiles-init : goal.tiles-init
tiles-init c =
    record {
      within = omega arith;
      follow = λ i none. absurd (omega (arith, none));
      constants = λ i none. absurd (omega (arith, none));
      sizes = λ i. refl;
    }

pub returns : goal.returns
returns c =
    record {
      within = omega (arith, c.tiles.invariant.within, c.tiles.auto.out);
      follow = c.tiles.invariant.follow;
      constants = c.tiles.invariant.constants;
      longest = λ l. absurd (omega (arith, l, c.tiles-test.false));
    }

pub decode_tile-columns-requires-clause-widths : goal.decode_tile-columns-requires-clause-widths
decode_tile-columns-requires-clause-widths c =
    let done = c.tiles.done in
    let part = done + c.min-size.result - done in
    let size = length-part c.tiles.out done part (omega (arith, c.min-size.ensures, c.tiles.invariant.within, c.tiles.auto.out)) in
    λ k d l.
    let wide = c.requires.widths k d l in
    omega (arith, wide, size, c.min-size.ensures, c.tiles.invariant.within, c.tiles.auto.out)

pub decode_tile-columns-requires-clause-rows : goal.decode_tile-columns-requires-clause-rows
decode_tile-columns-requires-clause-rows c = c.requires.rows

pub decode_tile-columns-requires-clause-factors : goal.decode_tile-columns-requires-clause-factors
decode_tile-columns-requires-clause-factors c = c.requires.factors

pub decode_tile-columns-requires-clause-count : goal.decode_tile-columns-requires-clause-count
decode_tile-columns-requires-clause-count c = c.tiles.auto.differences ∙ c.requires.count

pub tiles-smaller : goal.tiles-smaller
tiles-smaller c = omega (arith, c.if-columns-size.false, c.min-size.ensures, c.requires.some, c.tiles.auto.out, c.tiles-test.true)

pub overflow_sub-out : goal.overflow_sub-out
overflow_sub-out c = omega (arith, c.tiles-test.true)

pub overflow_add-tile : goal.overflow_add-tile
overflow_add-tile c = omega (arith, c.min-size.ensures, c.tiles.invariant.within, c.tiles.auto.out, c.requires.memory)

pub overflow_add-from : goal.overflow_add-from
overflow_add-from c = omega (arith, c.tiles.invariant.within, c.requires.memory)

pub overflow_add-done : goal.overflow_add-done
overflow_add-done c =
    let done = c.tiles.done in
    let part = done + c.min-size.result - done in
    let room : done + part ≤ length c.tiles.out = omega (arith, c.min-size.ensures, c.tiles.invariant.within, c.tiles.auto.out) in
    let size = c.decode_tile-columns.auto.out ∙ length-part c.tiles.out done part room in
    omega (arith, c.decode_tile-columns.ensures.tile.within, size, room, c.tiles.auto.out, c.requires.memory)

pub slice_bounds-tile-start : goal.slice_bounds-tile-start
slice_bounds-tile-start c = omega arith

pub slice_bounds-tile-end : goal.slice_bounds-tile-end
slice_bounds-tile-end c = omega (arith, c.min-size.ensures, c.tiles.invariant.within, c.tiles.auto.out)
