use Rattle.std.proofs.Common.{◌≡◌, ◌∙◌, ℕ, suc, ◌+◌, ◌-◌, ◌*◌, ◌^◌, ◌<◌, ◌≤◌, Fits, w64, List, ◌++◌, length, take, drop, get_or, refl, sym, ap, ap₂, subst, arith, suc-mul, zero-mul}
use Rattle.std.proofs.Math.Nat.{mul-le-mul_right}
use Rattle.std.proofs.lemmas.List.{take_all}
use Rattle.std.proofs.lemmas.Nat.{mul-le}
use Rattle.quantity_limits.specs.declared.TheConstants.{MOST_BLOCKS, MOST_CELLS, MOST_ROWS}
use Rattle.wire_frames.specs.declared.scheme.Scheme.{Scheme}
use Rattle.query_rounds.specs.declared.plan.FetchPlan.{FetchPlan}
use Rattle.query_rounds.specs.Queries.{Queries}
use Rattle.wire_frames.specs.Scheme.{scheme_of, payload_len}
use Rattle.wire_frames.specs.Turns.{in_turn, piece}
use Rattle.wire_frames.proofs.Turns.{in_turn-more, length-piece, piece_between, piece_fits, turn_keeps, turn_written}
use Rattle.query_rounds.specs.Plan.{query_coins, query_params}
use Rattle.query_rounds.specs.Sent.{payload_to, queries_from, vector_at}
use Rattle.query_rounds.proofs.queries.Queries.write_payload.Goals as goal

-- a block before the last is one of those that are asked for
below : (i end count blocks : ℕ) → i < end → end ≡ count → count ≡ blocks → i < blocks
below i end count blocks lt end_is count_is = omega (arith, lt, end_is, count_is)

-- up to a block there are no more than may be asked for
few_blocks : (i end count : ℕ) → i < end → end ≡ count → count ≤ MOST_BLOCKS → i + 1 ≤ MOST_BLOCKS
few_blocks i end count lt end_is few = omega (arith, lt, end_is, few)

-- and before it neither
fewer_blocks : (i : ℕ) → i + 1 ≤ MOST_BLOCKS → i ≤ MOST_BLOCKS
fewer_blocks i few = omega (arith, few)

-- so few parts that are so small end at a word's place
fits_part : (k given : ℕ) → k ≤ MOST_BLOCKS → given ≤ 2 ^ 32 → Fits w64 (k * given)
fits_part k given few small = omega (arith, mul-le k given MOST_BLOCKS (2 ^ 32) few small)

-- the parts of a slice with a part for each block
part_starts : (i given : ℕ) → i * given ≤ (i + 1) * given
part_starts i given = mul-le-mul_right given (omega arith)

-- the part of a block ends within the slice
part_ends : (i blocks given size len : ℕ) → given ≡ size → i < blocks → len ≡ blocks * size → (i + 1) * given ≤ len
part_ends i blocks given size len is lt all = omega (arith, piece_fits i blocks size lt, ap (λ (w : ℕ). (i + 1) * w) is, all)

-- and it has the size of one
part_size : (i blocks given size : ℕ) (xs : List ℕ) → given ≡ size → i < blocks → length xs ≡ blocks * size → length (take ((i + 1) * given - i * given) (drop (i * given) xs)) ≡ size
part_size i blocks given size xs is lt all = ap length (piece_between i given size xs is) ∙ length-piece size i xs (omega (arith, piece_fits i blocks size lt, all))

-- the loop that ended has been at every block
all_written : (i end count blocks : ℕ) → i ≤ end → end ≤ i → end ≡ count → count ≡ blocks → i ≡ blocks
all_written i end count blocks most least end_is count_is = omega (arith, most, least, end_is, count_is)

-- the coins of a block are few
small_coins : (given : ℕ) → given ≤ MOST_CELLS → given ≤ 2 ^ 32
small_coins given few = omega (arith, few)

-- so are the bytes of its vector
small_vector : (given rows : ℕ) → given ≤ rows → rows ≤ MOST_ROWS → given ≤ 2 ^ 32
small_vector given rows few most = omega (arith, few, most)

-- the sizes of the parts, which the plan determines
own_size : (given : ℕ) (plan : FetchPlan) (q : Queries) → given ≡ query_coins (query_params plan 1 0) → plan ≡ q.plan → given ≡ query_coins (query_params q.plan 1 0)
own_size given plan q is same = is ∙ ap (λ (p : FetchPlan). query_coins (query_params p 1 0)) same

-- the size of a vector, which the plan determines
vector_size : (given : ℕ) (scheme : Scheme) (plan : FetchPlan) (q : Queries) → given ≡ payload_len scheme plan.r
    → scheme ≡ scheme_of plan.scheme → plan ≡ q.plan → given ≡ payload_len (scheme_of q.plan.scheme) q.plan.r
vector_size given scheme plan q is scheme_is same = is ∙ ap (λ (s : Scheme). payload_len s plan.r) scheme_is ∙ ap (λ (p : FetchPlan). payload_len (scheme_of p.scheme) p.r) same

-- the slice has no part behind the last block
no_longer : (len i blocks size : ℕ) → len ≡ blocks * size → i ≡ blocks → len ≤ i * size
no_longer len i blocks size all same = omega (arith, all, ap (λ (n : ℕ). n * size) same)

pub overflow_mul-own_coins : goal.overflow_mul-own_coins
overflow_mul-own_coins c = fits_part _ _ (fewer_blocks _ (few_blocks _ _ _ c.loop-i-test.true c.from-i-end.ensures c.count.ensures.few)) (small_coins _ c.query_coins-own.ensures.few)

pub overflow_mul-own_coins-in-loop-i : goal.overflow_mul-own_coins-in-loop-i
overflow_mul-own_coins-in-loop-i c = fits_part _ _ (few_blocks _ _ _ c.loop-i-test.true c.from-i-end.ensures c.count.ensures.few) (small_coins _ c.query_coins-own.ensures.few)

pub overflow_mul-vector : goal.overflow_mul-vector
overflow_mul-vector c = fits_part _ _ (fewer_blocks _ (few_blocks _ _ _ c.loop-i-test.true c.from-i-end.ensures c.count.ensures.few))
    (small_vector _ _ c.payload_len-size.ensures.few c.self.invariant.plan.numbers.shape.few_rows)

pub overflow_mul-vector-in-loop-i : goal.overflow_mul-vector-in-loop-i
overflow_mul-vector-in-loop-i c = fits_part _ _ (few_blocks _ _ _ c.loop-i-test.true c.from-i-end.ensures c.count.ensures.few)
    (small_vector _ _ c.payload_len-size.ensures.few c.self.invariant.plan.numbers.shape.few_rows)

pub slice_bounds-own_coins-start : goal.slice_bounds-own_coins-start
slice_bounds-own_coins-start c = part_starts c.loop-i.i c.query_coins-own.result

pub slice_bounds-own_coins-end : goal.slice_bounds-own_coins-end
slice_bounds-own_coins-end c =
    part_ends c.loop-i.i _ _ _ _ (own_size c.query_coins-own.result c.self.inside.plan c.args.self.now c.query_coins-own.ensures.is (ap (λ (z : Queries). z.plan) c.self.view_is))
    (below _ _ _ _ c.loop-i-test.true c.from-i-end.ensures c.count.ensures.is) (ap length c.query_coins-coins.ensures.is ∙ c.query_coins-coins.ensures.size)

pub slice_bounds-vector-start : goal.slice_bounds-vector-start
slice_bounds-vector-start c = part_starts c.loop-i.i c.payload_len-size.result

pub slice_bounds-vector-end : goal.slice_bounds-vector-end
slice_bounds-vector-end c =
    part_ends c.loop-i.i _ _ _ _ (vector_size c.payload_len-size.result c.self.inside.scheme c.self.inside.plan c.args.self.now c.payload_len-size.ensures.is c.self.invariant.scheme_is (ap (λ (z : Queries). z.plan) c.self.view_is))
    (below _ _ _ _ c.loop-i-test.true c.from-i-end.ensures c.count.ensures.is) c.loop-i.invariant.size

pub bounds-self-inside-i : goal.bounds-self-inside-i
bounds-self-inside-i c = subst (λ (z : Queries). c.loop-i.i < length z.blocks) (sym c.self.view_is) (below _ _ _ _ c.loop-i-test.true c.from-i-end.ensures c.count.ensures.is)

pub write_vector-requires-clause-first : goal.write_vector-requires-clause-first
write_vector-requires-clause-first c = c.requires.first

pub write_vector-requires-clause-last : goal.write_vector-requires-clause-last
write_vector-requires-clause-last c = c.requires.last

pub write_vector-requires-clause-block : goal.write_vector-requires-clause-block
write_vector-requires-clause-block c =
    let lt = subst (λ (z : Queries). c.loop-i.i < length z.blocks) (sym c.self.view_is) (below _ _ _ _ c.loop-i-test.true c.from-i-end.ensures c.count.ensures.is) in
    subst (λ (z : Queries). get_or c.self.inside.blocks.now c.loop-i.i 0 < z.plan.r) c.self.view_is (c.self.invariant.blocks.each c.loop-i.i 0 lt)

pub write_vector-requires-clause-coins : goal.write_vector-requires-clause-coins
write_vector-requires-clause-coins c =
    part_size c.loop-i.i _ _ _ c.query_coins-coins.result.now
    (own_size c.query_coins-own.result c.self.inside.plan c.args.self.now c.query_coins-own.ensures.is (ap (λ (z : Queries). z.plan) c.self.view_is))
    (below _ _ _ _ c.loop-i-test.true c.from-i-end.ensures c.count.ensures.is) (ap length c.query_coins-coins.ensures.is ∙ c.query_coins-coins.ensures.size)

pub write_vector-requires-clause-room : goal.write_vector-requires-clause-room
write_vector-requires-clause-room c =
    part_size c.loop-i.i _ _ _ c.loop-i.out (vector_size c.payload_len-size.result c.self.inside.scheme c.self.inside.plan c.args.self.now c.payload_len-size.ensures.is c.self.invariant.scheme_is (ap (λ (z : Queries). z.plan) c.self.view_is))
    (below _ _ _ _ c.loop-i-test.true c.from-i-end.ensures c.count.ensures.is) c.loop-i.invariant.size

pub returns : goal.returns
returns c =
    let q = c.args.self.now in
    let same = all_written c.loop-i.i _ _ _ c.loop-i.auto.i-end c.loop-i-test.false c.from-i-end.ensures c.count.ensures.is in
    let size = payload_len (scheme_of q.plan.scheme) q.plan.r in
    let reach = no_longer (length c.loop-i.out) c.loop-i.i (length q.blocks) size c.loop-i.invariant.size same in
    sym (take_all (c.loop-i.i * size) c.loop-i.out reach) ∙ c.loop-i.invariant.written
    ∙ ap (λ (n : ℕ). in_turn n (vector_at (query_params q.plan 1 0) (queries_from q.coins) q.blocks c.args.index)) same

pub loop-i-init : goal.loop-i-init
unfolding in_turn
loop-i-init c = record {
  written = ap (λ (n : ℕ). take n c.args.out.now) (zero-mul (payload_len (scheme_of c.args.self.now.plan.scheme) c.args.self.now.plan.r));
  size = c.requires.room;
}

pub loop-i-preserved : goal.loop-i-preserved
loop-i-preserved c =
    let q = c.args.self.now in
    let i = c.loop-i.i in
    let out = c.loop-i.out in
    let row = c.write_vector.new.out in
    let params = query_params q.plan 1 0 in
    let coins = queries_from q.coins in
    let size = payload_len (scheme_of q.plan.scheme) q.plan.r in
    let given = c.payload_len-size.result in
    let so_far = c.loop-i.invariant in
    let scheme : c.self.inside.scheme ≡ scheme_of q.plan.scheme = c.self.invariant.scheme_is ∙ ap (λ (z : Queries). scheme_of z.plan.scheme) c.self.view_is in
    let rows : c.self.inside.plan.r ≡ q.plan.r = ap (λ (z : Queries). z.plan.r) c.self.view_is in
    let wide : given ≡ size = c.payload_len-size.ensures.is ∙ ap₂ payload_len scheme rows in
    let start : i * given ≡ i * size = ap (λ (w : ℕ). i * w) wide in
    let end : (i + 1) * given ≡ (i + 1) * size = ap (λ (w : ℕ). (i + 1) * w) wide in
    let next : i + 1 ≡ suc i = omega arith in
    let step : (i + 1) * size ≡ i * size + size = ap (λ (k : ℕ). k * size) next ∙ suc-mul i size in
    let fits : (i + 1) * size ≤ length q.blocks * size = piece_fits i (length q.blocks) size (omega (arith, c.loop-i-test.true, c.from-i-end.ensures, c.count.ensures.is)) in
    let own_size : c.query_coins-own.result ≡ query_coins params = c.query_coins-own.ensures.is ∙ ap (λ (z : Queries). query_coins (query_params z.plan 1 0)) c.self.view_is in
    let own = piece_between i c.query_coins-own.result (query_coins params) c.query_coins-coins.result.now own_size
    ∙ ap (piece (query_coins params) i) c.query_coins-coins.ensures.is in
    let is : row ≡ vector_at params coins q.blocks c.args.index i =
    c.write_vector.ensures ∙ ap₂ (λ (l : List ℕ) (b : ℕ). payload_to params l b c.args.index) own (ap (λ (z : Queries). get_or z.blocks i 0) c.self.view_is) in
    let long : length row ≡ size = omega (arith, c.write_vector.auto.out, start, end, step, fits, so_far.size) in
    record {
      written = turn_written out row (in_turn i (vector_at params coins q.blocks c.args.index)) (i * given) i (i + 1) ((i + 1) * given - i * given) size start refl
          (omega (arith, fits, so_far.size)) long so_far.written
          ∙ ap (λ (l : List ℕ). in_turn i (vector_at params coins q.blocks c.args.index) ++ l) is
          ∙ sym (in_turn-more i (i + 1) (vector_at params coins q.blocks c.args.index) refl);
      size = turn_keeps out row (i * given) ((i + 1) * given - i * given) (omega (arith, start, end, step, fits, so_far.size)) (omega (arith, long, start, end, step)) ∙ so_far.size;
    }
