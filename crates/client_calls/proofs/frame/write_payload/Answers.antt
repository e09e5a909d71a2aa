use Rattle.std.proofs.Common.{◌≡◌, ◌∙◌, ℕ, suc, ◌+◌, ◌-◌, ◌*◌, ◌^◌, ◌<◌, ◌≤◌, Fits, w64, List, ◌++◌, length, take, drop, get_or, refl, sym, ap, arith, suc-mul, zero-mul}
use Rattle.std.proofs.Math.Nat.{mul-le-mul_right}
use Rattle.std.proofs.lemmas.List.{take_all}
use Rattle.std.proofs.lemmas.Nat.{mul-le}
use Rattle.quantity_limits.specs.declared.TheConstants.{MOST_BLOCKS, MOST_CELLS, MOST_ROWS}
use Rattle.wire_frames.specs.Scheme.{payload_len}
use Rattle.wire_frames.specs.declared.scheme.Scheme.{Scheme}
use Rattle.wire_frames.specs.Turns.{in_turn}
use Rattle.wire_frames.proofs.Turns.{in_turn-more, length-piece, piece_between, piece_fits, turn_keeps, turn_written}
use Rattle.query_rounds.specs.Plan.{query_params}
use Rattle.query_rounds.specs.Sent.{payload_to, vector_at, vector_coins, vector_len}
use Rattle.client_calls.specs.declared.asking.Asking.{Asking}
use Rattle.client_calls.specs.Asking.{IsAsking}
use Rattle.client_calls.proofs.frame.write_payload.Goals as goal

-- up to a block there are no more than may be asked for
few_blocks : (i end blocks : ℕ) → i < end → end ≡ blocks → blocks ≤ MOST_BLOCKS → i + 1 ≤ MOST_BLOCKS
few_blocks i end blocks lt end_is few = omega (arith, lt, end_is, few)

-- so few parts that are so small end at a word's place
fits_part : (k given : ℕ) → k ≤ MOST_BLOCKS → given ≤ 2 ^ 32 → Fits w64 (k * given)
fits_part k given few small = omega (arith, mul-le k given MOST_BLOCKS (2 ^ 32) few small)

-- before it neither
fewer_blocks : (i : ℕ) → i + 1 ≤ MOST_BLOCKS → i ≤ MOST_BLOCKS
fewer_blocks i few = omega (arith, few)

-- the part of a block begins before it ends
part_starts : (i given : ℕ) → i * given ≤ (i + 1) * given
part_starts i given = mul-le-mul_right given (omega arith)

-- it ends within the slice that has one for each block
part_ends : (i blocks given size len : ℕ) → given ≡ size → i < blocks → len ≡ blocks * size → (i + 1) * given ≤ len
part_ends i blocks given size len is lt all = omega (arith, piece_fits i blocks size lt, ap (λ (w : ℕ). (i + 1) * w) is, all)

-- and it has the size of one
part_size : (i blocks given size : ℕ) (xs : List ℕ) → given ≡ size → i < blocks → length xs ≡ blocks * size → length (take ((i + 1) * given - i * given) (drop (i * given) xs)) ≡ size
part_size i blocks given size xs is lt all = ap length (piece_between i given size xs is) ∙ length-piece size i xs (omega (arith, piece_fits i blocks size lt, all))

-- the coins of a block are few
small_coins : (given : ℕ) → given ≤ MOST_CELLS → given ≤ 2 ^ 32
small_coins given few = omega (arith, few)

-- so are the bytes of its vector
small_vector : (given rows : ℕ) → given ≤ rows → rows ≤ MOST_ROWS → given ≤ 2 ^ 32
small_vector given rows few most = omega (arith, few, most)

-- the slice has no part behind the last block
no_longer : (len i blocks size : ℕ) → len ≡ blocks * size → i ≡ blocks → len ≤ i * size
no_longer len i blocks size all same = omega (arith, all, ap (λ (n : ℕ). n * size) same)

-- the size of a vector is that of the plan's scheme
vector_size : (a : Asking) (given : ℕ) → IsAsking a → given ≡ payload_len a.scheme a.plan.r → given ≡ vector_len a.plan
vector_size a given is size = size ∙ ap (λ (s : Scheme). payload_len s a.plan.r) is.scheme

pub overflow_mul-own_coins : goal.overflow_mul-own_coins
overflow_mul-own_coins c = fits_part _ _ (fewer_blocks _ (few_blocks c.loop-i.i _ _ c.loop-i-test.true refl c.requires.blocks.few)) (small_coins _ c.block_coins-own.ensures.few)

pub overflow_mul-own_coins-in-loop-i : goal.overflow_mul-own_coins-in-loop-i
overflow_mul-own_coins-in-loop-i c = fits_part _ _ (few_blocks c.loop-i.i _ _ c.loop-i-test.true refl c.requires.blocks.few) (small_coins _ c.block_coins-own.ensures.few)

pub overflow_mul-vector : goal.overflow_mul-vector
overflow_mul-vector c = fits_part _ _ (fewer_blocks _ (few_blocks c.loop-i.i _ _ c.loop-i-test.true refl c.requires.blocks.few))
    (small_vector _ _ c.payload_len-size.ensures.few c.requires.asking.plan.numbers.shape.few_rows)

pub overflow_mul-vector-in-loop-i : goal.overflow_mul-vector-in-loop-i
overflow_mul-vector-in-loop-i c = fits_part _ _ (few_blocks c.loop-i.i _ _ c.loop-i-test.true refl c.requires.blocks.few)
    (small_vector _ _ c.payload_len-size.ensures.few c.requires.asking.plan.numbers.shape.few_rows)

pub slice_bounds-own_coins-start : goal.slice_bounds-own_coins-start
slice_bounds-own_coins-start c = part_starts c.loop-i.i c.block_coins-own.result

pub slice_bounds-own_coins-end : goal.slice_bounds-own_coins-end
slice_bounds-own_coins-end c = part_ends c.loop-i.i _ _ _ _ c.block_coins-own.ensures.is c.loop-i-test.true c.requires.coins

pub slice_bounds-vector-start : goal.slice_bounds-vector-start
slice_bounds-vector-start c = part_starts c.loop-i.i c.payload_len-size.result

pub slice_bounds-vector-end : goal.slice_bounds-vector-end
slice_bounds-vector-end c =
    part_ends c.loop-i.i _ _ _ _ (vector_size c.args.asking.now c.payload_len-size.result c.requires.asking c.payload_len-size.ensures.is) c.loop-i-test.true c.loop-i.invariant.size

pub write_vector-requires-clause-block : goal.write_vector-requires-clause-block
write_vector-requires-clause-block c = c.requires.blocks.each c.loop-i.i 0 c.loop-i-test.true

pub write_vector-requires-clause-coins : goal.write_vector-requires-clause-coins
write_vector-requires-clause-coins c =
    part_size c.loop-i.i _ _ _ c.args.coins.now c.block_coins-own.ensures.is c.loop-i-test.true c.requires.coins

pub write_vector-requires-clause-room : goal.write_vector-requires-clause-room
write_vector-requires-clause-room c =
    part_size c.loop-i.i _ _ _ c.loop-i.out (vector_size c.args.asking.now c.payload_len-size.result c.requires.asking c.payload_len-size.ensures.is) c.loop-i-test.true c.loop-i.invariant.size

pub loop-i-init : goal.loop-i-init
unfolding in_turn
loop-i-init c = record {
  written = ap (λ (n : ℕ). take n c.args.out.now) (zero-mul (vector_len c.args.asking.now.plan));
  size = c.requires.room;
}

pub loop-i-preserved : goal.loop-i-preserved
loop-i-preserved c =
    let plan = c.args.asking.now.plan in
    let i = c.loop-i.i in
    let out = c.loop-i.out in
    let row = c.write_vector.new.out in
    let params = query_params plan 1 0 in
    let coins = c.args.coins.now in
    let blocks = c.args.blocks.now in
    let size = vector_len plan in
    let given = c.payload_len-size.result in
    let so_far = c.loop-i.invariant in
    let wide : given ≡ size = vector_size c.args.asking.now given c.requires.asking c.payload_len-size.ensures.is in
    let start : i * given ≡ i * size = ap (λ (w : ℕ). i * w) wide in
    let end : (i + 1) * given ≡ (i + 1) * size = ap (λ (w : ℕ). (i + 1) * w) wide in
    let next : i + 1 ≡ suc i = omega arith in
    let step : (i + 1) * size ≡ i * size + size = ap (λ (k : ℕ). k * size) next ∙ suc-mul i size in
    let fits : (i + 1) * size ≤ length blocks * size = piece_fits i (length blocks) size c.loop-i-test.true in
    let own = piece_between i c.block_coins-own.result (vector_coins plan) coins c.block_coins-own.ensures.is in
    let is : row ≡ vector_at params coins blocks c.args.index i =
    c.write_vector.ensures ∙ ap (λ (l : List ℕ). payload_to params l (get_or blocks i 0) c.args.index) own in
    let long : length row ≡ size = omega (arith, c.write_vector.auto.out, start, end, step, fits, so_far.size) in
    record {
      written = turn_written out row (in_turn i (vector_at params coins blocks c.args.index)) (i * given) i (i + 1) ((i + 1) * given - i * given) size start refl
          (omega (arith, fits, so_far.size)) long so_far.written
          ∙ ap (λ (l : List ℕ). in_turn i (vector_at params coins blocks c.args.index) ++ l) is
          ∙ sym (in_turn-more i (i + 1) (vector_at params coins blocks c.args.index) refl);
      size = turn_keeps out row (i * given) ((i + 1) * given - i * given) (omega (arith, start, end, step, fits, so_far.size)) (omega (arith, long, start, end, step)) ∙ so_far.size;
    }

pub returns : goal.returns
returns c =
    let plan = c.args.asking.now.plan in
    let blocks = c.args.blocks.now in
    let same : c.loop-i.i ≡ length blocks = omega (arith, c.loop-i.auto.i-end, c.loop-i-test.false) in
    let size = vector_len plan in
    let reach = no_longer (length c.loop-i.out) c.loop-i.i (length blocks) size c.loop-i.invariant.size same in
    sym (take_all (c.loop-i.i * size) c.loop-i.out reach) ∙ c.loop-i.invariant.written
    ∙ ap (λ (n : ℕ). in_turn n (vector_at (query_params plan 1 0) c.args.coins.now blocks c.args.index)) same
