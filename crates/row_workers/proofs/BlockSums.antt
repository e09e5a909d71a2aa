-- The sums of several queries in blocks.
use Rattle.std.proofs.Common.{◌≡◌, ℕ, ◌+◌, ◌-◌, ◌*◌, ◌/◌, ◌%◌, ◌≤◌, ◌<◌, List, length, get_or, slice_index, refl, sym, ap, ap₂, ◌∙◌, arith, mul_comm, mul-add, mul-le-mul, mul-le-mul_left, mul-le-mul_right, lt_of_lt_of_le}
use Rattle.std.specs.Simd.Lanes.{chunk}
use Rattle.std.specs.Int.{div_ceil}
use Rattle.std.proofs.lemmas.Nat.{div-mul-add, mod-mul-add, mul-add-lt, div-add-mod', div_below, mod_below}
use Rattle.std.proofs.lemmas.Grind.{div_ceil_times}
use Rattle.std.proofs.lemmas.Simd.{length-chunk, get_or-chunk}
use Rattle.gf256.specs.Field.{◌⊕◌}
use Rattle.gf256.specs.Rows.{AreLanes}
use Rattle.gf256.specs.Sums.{run_sum}
use Rattle.gf256.proofs.Xor.{add_assoc, add_zero, add_swap, zero_add}
use Rattle.gf256.proofs.RunSums.{run-join}
use Rattle.row_workers.specs.Blocks.{block_start, column_at, query_at, place_of, laid_at, four_of}
use Rattle.row_workers.proofs.RunSums.{none_yet, one_more, part_follows}

-- the place of lane k of block i for query v
module _ (lanes n i v k p : ℕ) (few : v < n) (small : k < lanes) (is : p ≡ lanes * (i * n + v) + k) where
  -- its block, counted over all queries
  block_is : p / lanes ≡ i * n + v
  block_is = ap (λ q. q / lanes) (is ∙ ap (λ q. q + k) (mul_comm lanes (i * n + v))) ∙ div-mul-add (i * n + v) lanes k small

  -- its lane
  pub lane-is : p % lanes ≡ k
  lane-is = ap (λ q. q % lanes) (is ∙ ap (λ q. q + k) (mul_comm lanes (i * n + v))) ∙ mod-mul-add (i * n + v) lanes k small

  -- its query
  pub query-is : query_at lanes n p ≡ v
  query-is = ap (λ b. b % n) block_is ∙ mod-mul-add i n v few

  -- its column
  pub column-is : (width : ℕ) → column_at lanes width n p ≡ block_start lanes width i + k
  column-is width =
      ap₂ (λ b l. block_start lanes width (b / n) + l) block_is lane-is
      ∙ ap (λ b. block_start lanes width b + k) (div-mul-add i n v few)

-- the bytes of a row in places that begin elsewhere
pub lanes-from : (lanes : ℕ) (row : List ℕ) (start at : ℕ) → start + lanes ≤ length row
    → AreLanes lanes (chunk start lanes row) (λ p. get_or row (start + (p - at)) 0) at
lanes-from lanes row start at room = record {
  size = length-chunk start lanes row room;
  each = λ k l.
      let back : k ≡ at + k - at = omega arith in
      get_or-chunk start lanes row k 0 l ∙ ap (λ j. get_or row (start + j) 0) back;
}

-- five terms, one by one or as one more
pub plus_four : (x a b c d : ℕ) → x ⊕ a ⊕ b ⊕ c ⊕ d ≡ x ⊕ (a ⊕ b ⊕ c ⊕ d)
plus_four x a b c d = simp add_assoc

-- the first n terms of each of four parts, of so many terms
abbrev pub quarters : (ℕ → ℕ) → ℕ → ℕ → ℕ → ℕ
quarters f from quarter n =
    run_sum f from (from + n) ⊕ run_sum f (from + quarter) (from + quarter + n)
    ⊕ run_sum f (from + 2 * quarter) (from + 2 * quarter + n) ⊕ run_sum f (from + 3 * quarter) (from + 3 * quarter + n)

-- no terms of each
pub quarters-none : (f : ℕ → ℕ) (from quarter : ℕ) → quarters f from quarter 0 ≡ 0
quarters-none f from quarter =
    ap₂ ◌⊕◌ (ap₂ ◌⊕◌ (ap₂ ◌⊕◌ (none_yet f from) (none_yet f (from + quarter))) (none_yet f (from + 2 * quarter))) (none_yet f (from + 3 * quarter))
    ∙ (let e : 0 ⊕ 0 ⊕ 0 ⊕ 0 ≡ 0 = simp add_zero in e)

-- one more term of each
quarters-next : (f : ℕ → ℕ) (from quarter n : ℕ) → quarters f from quarter (n + 1)
    ≡ quarters f from quarter n
    ⊕ (f (from + n) ⊕ f (from + quarter + n) ⊕ f (from + 2 * quarter + n) ⊕ f (from + 3 * quarter + n))
quarters-next f from quarter n =
    ap₂ ◌⊕◌ (ap₂ ◌⊕◌ (ap₂ ◌⊕◌ (one_more f from n) (one_more f (from + quarter) n)) (one_more f (from + 2 * quarter) n)) (one_more f (from + 3 * quarter) n)
    ∙ in_pairs _ _ _ _ _ _ _ _
  where
    -- four sums of two as two sums of four
    in_pairs : (a b c d u v w x : ℕ) → (a ⊕ u) ⊕ (b ⊕ v) ⊕ (c ⊕ w) ⊕ (d ⊕ x) ≡ (a ⊕ b ⊕ c ⊕ d) ⊕ (u ⊕ v ⊕ w ⊕ x)
    in_pairs a b c d u v w x =
        ap (λ s. s ⊕ (c ⊕ w) ⊕ (d ⊕ x)) (add_swap a u b v)
        ∙ ap (λ s. s ⊕ (d ⊕ x)) (add_swap (a ⊕ b) (u ⊕ v) c w)
        ∙ add_swap (a ⊕ b ⊕ c) (u ⊕ v ⊕ w) d x

-- whole parts are one run
pub quarters-all : (f : ℕ → ℕ) (from quarter : ℕ) → quarters f from quarter quarter ≡ run_sum f from (from + 4 * quarter)
quarters-all f from quarter =
    let P = λ (m : ℕ). run_sum f (from + m) (from + m + quarter) in
    ap (λ s. s ⊕ P (2 * quarter) ⊕ P (3 * quarter)) (part_follows f from quarter (2 * quarter) quarter (omega arith))
    ∙ ap (λ s. s ⊕ P (3 * quarter)) (part_follows f from (2 * quarter) (3 * quarter) quarter (omega arith))
    ∙ part_follows f from (3 * quarter) (4 * quarter) quarter (omega arith)

-- the sums after four rows more
pub four-more : (f : ℕ → ℕ) (new mid old from quarter i : ℕ) → mid ≡ old ⊕ quarters f from quarter i
    → new ≡ mid ⊕ four_of f (from + i) quarter → new ≡ old ⊕ quarters f from quarter (i + 1)
four-more f new mid old from quarter i before more =
    let second : from + i + quarter ≡ from + quarter + i = omega arith in
    let third : from + i + 2 * quarter ≡ from + 2 * quarter + i = omega arith in
    let fourth : from + i + 3 * quarter ≡ from + 3 * quarter + i = omega arith in
    let turned : four_of f (from + i) quarter ≡ f (from + i) ⊕ f (from + quarter + i) ⊕ f (from + 2 * quarter + i) ⊕ f (from + 3 * quarter + i) =
    ap₂ ◌⊕◌ (ap₂ ◌⊕◌ (ap (◌⊕◌ (f (from + i))) (ap f second)) (ap f third)) (ap f fourth) in
    more ∙ ap₂ ◌⊕◌ before turned ∙ add_assoc old (quarters f from quarter i) _ ∙ ap (◌⊕◌ old) (sym (quarters-next f from quarter i))

-- the column of a place is one of the row's
pub column-within : (lanes width n p : ℕ) → 1 ≤ lanes → lanes ≤ width → column_at lanes width n p < width
column-within lanes width n p some wide =
    let lane = mod_below p lanes (omega arith) in
    omega (arith, lane)

-- so many whole blocks and one more cover a row
pub blocks-cover : (lanes width : ℕ) → 1 ≤ lanes → width ≤ div_ceil width lanes * lanes
blocks-cover lanes width some = (div_ceil_times width lanes some).0

-- and each of them begins within it
pub block-begins : (lanes width i : ℕ) → 1 ≤ lanes → i < div_ceil width lanes → lanes * i < width
block-begins lanes width i some l =
    let next : i + 1 ≤ div_ceil width lanes = omega arith in
    omega (arith, mul-le-mul_right lanes next, (div_ceil_times width lanes some).1)

-- they are few for few queries, where the row is short
pub blocks-few : (lanes i n : ℕ) → 1 ≤ lanes → lanes * i < 65536 → n ≤ 16 → i * n ≤ 1048576
blocks-few lanes i n some short few =
    let most : i ≤ 65536 = omega (arith, mul-le-mul_right i some) in
    omega (arith, mul-le-mul most few)

-- the lanes of one query more in a block
pub lanes-next : (lanes b v : ℕ) → lanes * (b + v) + lanes ≡ lanes * (b + (v + 1))
lanes-next lanes b v = grind arith

-- and they are among those of all queries
pub lanes-fit : (lanes b v n : ℕ) → v < n → lanes * (b + v) + lanes ≤ lanes * (b + n)
lanes-fit lanes b v n l =
    let next = lanes-next lanes b v in
    let most : b + (v + 1) ≤ b + n = omega arith in
    omega (arith, mul-le-mul_left lanes most, next)

-- where the sum of query v in column c stands
module _ (lanes width n v c : ℕ) (some : 1 ≤ lanes) (few : v < n) (wide : lanes ≤ width) (within : c < width) where
  -- its lane
  abbrev lane : ℕ
  lane = c - block_start lanes width (c / lanes)

  -- which is one of the block's
  lane_lt : lane < lanes
  lane_lt =
      let place = div-add-mod' c lanes in
      let rest = mod_below c lanes some in
      omega (arith, place, rest)

  -- the column that this lane stands for
  lane_in : block_start lanes width (c / lanes) + lane ≡ c
  lane_in = let place = div-add-mod' c lanes in omega (arith, place)

  -- it is a place of this query
  pub place-query : query_at lanes n (place_of lanes width n v c) ≡ v
  place-query = query-is lanes n (c / lanes) v lane (place_of lanes width n v c) few lane_lt refl

  -- and of this column
  pub place-column : column_at lanes width n (place_of lanes width n v c) ≡ c
  place-column =
      column-is lanes n (c / lanes) v lane (place_of lanes width n v c) few lane_lt refl width ∙ lane_in

  -- and within the blocks
  pub place-within : place_of lanes width n v c < lanes * (div_ceil width lanes * n)
  place-within =
      let block : c / lanes < div_ceil width lanes = div_below c lanes (div_ceil width lanes) some (lt_of_lt_of_le within (blocks-cover lanes width some)) in
      let h : c / lanes * n + v + 1 ≤ div_ceil width lanes * n = omega (arith, mul-add-lt (c / lanes) n v (div_ceil width lanes) block few) in
      let most = mul-le-mul_left lanes h in
      let l = lane_lt in
      let next : lanes * (c / lanes * n + v + 1) ≡ lanes * (c / lanes * n + v) + lanes * 1 = mul-add lanes (c / lanes * n + v) 1 in
      omega (arith, most, next, l)

-- the sums of a group, from those in blocks and the rows that are left over
pub group-sums : (lanes : ℕ) (f : ℕ → ℕ → ℕ) (zeros blocks laid sums : List ℕ) (width n from mid to : ℕ)
    → 1 ≤ lanes → lanes ≤ width → from ≤ mid → mid ≤ to → ((p : ℕ) → slice_index zeros p ≡ 0)
    → ((p : ℕ) → p < lanes * (div_ceil width lanes * n)
    → slice_index blocks p ≡ slice_index zeros p ⊕ run_sum (f (laid_at lanes width n p)) from mid)
    → ((v c : ℕ) → v < n → c < width → slice_index laid (v * width + c) ≡ slice_index blocks (place_of lanes width n v c))
    → ((p : ℕ) → p < n * width → slice_index sums p ≡ slice_index laid p ⊕ run_sum (f p) mid to)
    → (p : ℕ) → p < n * width → slice_index sums p ≡ run_sum (f p) from to
group-sums lanes f zeros blocks laid sums width n from mid to least wide le lt none in_blocks laid_is more p l =
    let v = p / width in
    let c = p % width in
    let some : 0 < width = omega arith in
    let within : c < width = mod_below p width some in
    let few : v < n = div_below p width n some l in
    let place = div-add-mod' p width in
    let at = place_of lanes width n v c in
    let back : laid_at lanes width n at ≡ p =
    ap₂ (λ u k. u * width + k) (place-query lanes width n v c least few wide within) (place-column lanes width n v c least few wide within) ∙ place in
    let first : slice_index laid p ≡ run_sum (f p) from mid =
    ap (slice_index laid) (sym place) ∙ laid_is v c few within ∙ in_blocks at (place-within lanes width n v c least few wide within)
    ∙ ap (λ x. x ⊕ run_sum (f (laid_at lanes width n at)) from mid) (none at) ∙ zero_add _
    ∙ ap (λ q. run_sum (f q) from mid) back in
    more p l ∙ ap (λ x. x ⊕ run_sum (f p) mid to) first ∙ run-join (f p) from mid to le lt
