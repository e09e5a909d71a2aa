use Rattle.std.proofs.Common.{◌≡◌, ◌∙◌, ℕ, suc, ◌+◌, ◌-◌, ◌*◌, ◌<◌, ◌≤◌, List, ◌++◌, length, take, refl, sym, ap, arith, suc-mul, zero-mul}
use Rattle.std.proofs.Math.Nat.{mul-le-mul_right}
use Rattle.std.proofs.lemmas.List.{take_all}
use Rattle.wire_frames.specs.Turns.{in_turn}
use Rattle.wire_frames.proofs.Turns.{in_turn-more, length-piece, piece_between, piece_fits, turn_keeps, turn_written}
use Rattle.shard_front.specs.Spread.{rows_in}
use Rattle.shard_front.specs.Parts.{slice_at, slice_for}
use Rattle.shard_front.proofs.parts.write_slices.Goals as goal

-- a vector starts before it ends
starts : (v given : ℕ) → v * given ≤ (v + 1) * given
starts v given = mul-le-mul_right given (omega arith)

-- it ends within the slice that has n of them
ends : (v n given size len : ℕ) → given ≡ size → v < n → len ≡ n * size → (v + 1) * given ≤ len
ends v n given size len is lt all = omega (arith, piece_fits v n size lt, ap (λ (w : ℕ). (v + 1) * w) is, all)

pub loop-v-init : goal.loop-v-init
unfolding in_turn
loop-v-init c = record {
  written = ap (λ (n : ℕ). take n c.args.out.now) (zero-mul (rows_in c.args.spread c.args.place));
  size = c.requires.room;
}

pub loop-v-preserved : goal.loop-v-preserved
loop-v-preserved c =
    let spread = c.args.spread in
    let place = c.args.place in
    let v = c.loop-v.v in
    let out = c.loop-v.out in
    let row = c.write_slice.new.out in
    let size = rows_in spread place in
    let given = c.rows_in-size.result in
    let slices = slice_at spread place c.args.vectors.now in
    let so_far = c.loop-v.invariant in
    let wide : given ≡ size = c.rows_in-size.ensures.is in
    let start : v * given ≡ v * size = ap (λ (w : ℕ). v * w) wide in
    let end : (v + 1) * given ≡ (v + 1) * size = ap (λ (w : ℕ). (v + 1) * w) wide in
    let next : v + 1 ≡ suc v = omega arith in
    let step : (v + 1) * size ≡ v * size + size = ap (λ (k : ℕ). k * size) next ∙ suc-mul v size in
    let fits : (v + 1) * size ≤ c.args.count * size = piece_fits v c.args.count size (omega (arith, c.loop-v-test.true, c.from-v-end.ensures)) in
    let is : row ≡ slices v = c.write_slice.ensures ∙ ap (slice_for spread place) (piece_between v c.rows-rows.result spread.rows c.args.vectors.now c.rows-rows.ensures.is) in
    let long : length row ≡ size = omega (arith, c.write_slice.auto.out, start, end, step, fits, so_far.size) in
    record {
      written = turn_written out row (in_turn v slices) (v * given) v (v + 1) ((v + 1) * given - v * given) size start refl
          (omega (arith, fits, so_far.size)) long so_far.written
          ∙ ap (λ (l : List ℕ). in_turn v slices ++ l) is
          ∙ sym (in_turn-more v (v + 1) slices refl);
      size = turn_keeps out row (v * given) ((v + 1) * given - v * given) (omega (arith, start, end, step, fits, so_far.size)) (omega (arith, long, start, end, step)) ∙ so_far.size;
    }

pub write_slice-requires-clause-room : goal.write_slice-requires-clause-room
write_slice-requires-clause-room c =
    let size = rows_in c.args.spread c.args.place in
    let fits = piece_fits c.loop-v.v c.args.count size (omega (arith, c.loop-v-test.true, c.from-v-end.ensures)) in
    ap length (piece_between c.loop-v.v c.rows_in-size.result size c.loop-v.out c.rows_in-size.ensures.is)
    ∙ length-piece size c.loop-v.v c.loop-v.out (omega (arith, fits, c.loop-v.invariant.size))

pub write_slice-requires-clause-vector : goal.write_slice-requires-clause-vector
write_slice-requires-clause-vector c =
    let fits = piece_fits c.loop-v.v c.args.count c.args.spread.rows (omega (arith, c.loop-v-test.true, c.from-v-end.ensures)) in
    ap length (piece_between c.loop-v.v c.rows-rows.result c.args.spread.rows c.args.vectors.now c.rows-rows.ensures.is)
    ∙ length-piece c.args.spread.rows c.loop-v.v c.args.vectors.now (omega (arith, fits, c.requires.vectors))

pub overflow_mul-vector-in-loop-v : goal.overflow_mul-vector-in-loop-v
overflow_mul-vector-in-loop-v c =
    let below : c.loop-v.v < c.args.count = omega (arith, c.loop-v-test.true, c.from-v-end.ensures) in
    omega (arith, ends c.loop-v.v _ _ _ _ c.rows-rows.ensures.is below c.requires.vectors)

pub overflow_mul-vector : goal.overflow_mul-vector
overflow_mul-vector c =
    let below : c.loop-v.v < c.args.count = omega (arith, c.loop-v-test.true, c.from-v-end.ensures) in
    let end = ends c.loop-v.v _ _ _ _ c.rows-rows.ensures.is below c.requires.vectors in
    omega (arith, starts c.loop-v.v c.rows-rows.result, end)

pub slice_bounds-vector-start : goal.slice_bounds-vector-start
slice_bounds-vector-start c = starts c.loop-v.v c.rows-rows.result

pub slice_bounds-vector-end : goal.slice_bounds-vector-end
slice_bounds-vector-end c =
    let below : c.loop-v.v < c.args.count = omega (arith, c.loop-v-test.true, c.from-v-end.ensures) in
    ends c.loop-v.v _ _ _ _ c.rows-rows.ensures.is below c.requires.vectors

pub overflow_mul-slice-in-loop-v : goal.overflow_mul-slice-in-loop-v
overflow_mul-slice-in-loop-v c =
    let below : c.loop-v.v < c.args.count = omega (arith, c.loop-v-test.true, c.from-v-end.ensures) in
    omega (arith, ends c.loop-v.v _ _ _ _ c.rows_in-size.ensures.is below c.loop-v.invariant.size)

pub overflow_mul-slice : goal.overflow_mul-slice
overflow_mul-slice c =
    let below : c.loop-v.v < c.args.count = omega (arith, c.loop-v-test.true, c.from-v-end.ensures) in
    let end = ends c.loop-v.v _ _ _ _ c.rows_in-size.ensures.is below c.loop-v.invariant.size in
    omega (arith, starts c.loop-v.v c.rows_in-size.result, end)

pub slice_bounds-slice-start : goal.slice_bounds-slice-start
slice_bounds-slice-start c = starts c.loop-v.v c.rows_in-size.result

pub slice_bounds-slice-end : goal.slice_bounds-slice-end
slice_bounds-slice-end c =
    let below : c.loop-v.v < c.args.count = omega (arith, c.loop-v-test.true, c.from-v-end.ensures) in
    ends c.loop-v.v _ _ _ _ c.rows_in-size.ensures.is below c.loop-v.invariant.size

pub returns : goal.returns
returns c =
    let size = rows_in c.args.spread c.args.place in
    let all : c.loop-v.v ≡ c.args.count = omega (arith, c.loop-v-test.false, c.loop-v.auto.v-end, c.from-v-end.ensures) in
    let whole : length c.loop-v.out ≡ c.loop-v.v * size = c.loop-v.invariant.size ∙ ap (λ (n : ℕ). n * size) (sym all) in
    sym (take_all (c.loop-v.v * size) c.loop-v.out (omega (arith, whole))) ∙ c.loop-v.invariant.written
    ∙ ap (λ (n : ℕ). in_turn n (slice_at c.args.spread c.args.place c.args.vectors.now)) all
