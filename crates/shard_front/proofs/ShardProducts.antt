-- The product of a vector with a matrix is the sum over the shards of the products of its slices with their rows.
use Rattle.std.proofs.Common.{◌≡◌, ◌∙◌, ℕ, zero, suc, ◌+◌, ◌-◌, ◌*◌, ◌<◌, ◌≤◌, List, [], length, drop, get_or, sym, ap, ap₂, arith, suc-mul, zero-mul}
use Rattle.std.specs.Prelude.{min}
use Rattle.std.proofs.lemmas.Grind.{div_ceil_times}
use Rattle.std.proofs.lemmas.List.{ext_get_or, get_or-drop, get_or-take, length-drop, length-take-le}
use Rattle.std.proofs.lemmas.List.FromFn.{length-map-range_with_len, get_or-map-range_with_len}
use Rattle.gf256.specs.Field.{◌⊕◌, ◌⊗◌}
use Rattle.gf256.specs.Sums.{run_sum, sum_to}
use Rattle.gf256.specs.Product.{product, product_at}
use Rattle.gf256.proofs.Sums.{sum_to-same}
use Rattle.gf256.proofs.RunSums.{run-all, run-join, run-none}
use Rattle.chor_xor.specs.Chosen.{combined, combined_at}
use Rattle.wire_frames.specs.Turns.{in_turn, piece}
use Rattle.wire_frames.proofs.Turns.{in_turn-of-pieces, length-piece, piece-in_turn, piece_fits}
use Rattle.shard_front.specs.Spread.{IsSpread, Spread, first_row, rows_in, shards}
use Rattle.shard_front.specs.Parts.{slice_at, slice_for}
use Rattle.shard_front.specs.Honest.{rows_at}
use Rattle.shard_front.proofs.Spreads.{starts_within}

-- a product has a byte for each column
pub length-product : (rows : List (List ℕ)) (width : ℕ) (vector : List ℕ) → length (product rows width vector) ≡ width
unfolding product
length-product rows width vector = length-map-range_with_len (product_at vector rows) 0 width

-- a column of a product
at_product : (rows : List (List ℕ)) (width : ℕ) (vector : List ℕ) (c : ℕ) → c < width → get_or (product rows width vector) c 0 ≡ product_at vector rows c
unfolding product
at_product rows width vector c l = get_or-map-range_with_len (product_at vector rows) 0 width c c 0 l (omega arith)

-- a place of a piece
at_piece : (size v c : ℕ) (bytes : List ℕ) → c < size → get_or (piece size v bytes) c 0 ≡ get_or bytes (v * size + c) 0
at_piece size v c bytes l = get_or-take size (drop (v * size) bytes) c 0 l ∙ get_or-drop (v * size) bytes c 0

module _ (spread : Spread) (is : IsSpread spread) where
  -- what the rows of the shard at place i give to a sum over all rows
  abbrev shard_sum : (ℕ → ℕ) → ℕ → ℕ
  shard_sum f i = run_sum f (first_row spread i) (first_row spread i + rows_in spread i)

  -- the rows of the first n shards, one run after the other
  sum_first : (f : ℕ → ℕ) (n : ℕ) → n ≤ shards spread → sum_to (shard_sum f) n ≡ run_sum f 0 (min (first_row spread n) spread.rows)
  unfolding sum_to
  sum_first f zero few =
      let none : 0 ≡ min (first_row spread zero) spread.rows = let z = zero-mul spread.shard in omega (arith, z) in
      sym (run-none f 0) ∙ ap (run_sum f 0) none
  sum_first f (suc n) few =
      let starts = starts_within spread is n (omega (arith, few)) in
      let step = suc-mul n spread.shard in
      let from : min (first_row spread n) spread.rows ≡ first_row spread n = omega (arith, starts) in
      let to : first_row spread n + rows_in spread n ≡ min (first_row spread (suc n)) spread.rows = omega (arith, starts, step) in
      ap (λ (s : ℕ). s ⊕ shard_sum f n) (sum_first f n (omega (arith, few)) ∙ ap (run_sum f 0) from)
      ∙ run-join f 0 (first_row spread n) (first_row spread n + rows_in spread n) (omega arith) (omega arith)
      ∙ ap (run_sum f 0) to

  -- those of all shards are all rows
  sum_shards : (f : ℕ → ℕ) → sum_to (shard_sum f) (shards spread) ≡ sum_to f spread.rows
  sum_shards f =
      let times = div_ceil_times spread.rows spread.shard (omega (arith, is.some)) in
      let all : min (first_row spread (shards spread)) spread.rows ≡ spread.rows = omega (arith, times.0) in
      sum_first f (shards spread) (omega arith) ∙ ap (run_sum f 0) all ∙ run-all f spread.rows

  module _ (matrix : List (List ℕ)) (rows : length matrix ≡ spread.rows) where
    -- how many rows a shard has
    pub length-rows_at : (i : ℕ) → i < shards spread → length (rows_at spread i matrix) ≡ rows_in spread i
    length-rows_at i there =
        let starts = starts_within spread is i there in
        length-take-le (rows_in spread i) (drop (first_row spread i) matrix) (omega (arith, starts, rows, length-drop (first_row spread i) matrix))

    module _ (vector : List ℕ) (c : ℕ) where
      -- what a row gives to a column
      abbrev term : ℕ → ℕ
      term j = get_or vector j 0 ⊗ get_or (get_or matrix j []) c 0

      -- a shard sums its rows
      shard_product : (i : ℕ) → i < shards spread → product_at (slice_for spread i vector) (rows_at spread i matrix) c ≡ shard_sum term i
      unfolding product_at run_sum
      shard_product i there =
          let size = rows_in spread i in
          let from = first_row spread i in
          let own : ℕ → ℕ = λ j. get_or (slice_for spread i vector) j 0 ⊗ get_or (get_or (rows_at spread i matrix) j []) c 0 in
          let many : size ≡ from + size - from = omega arith in
          ap (sum_to own) (length-rows_at i there)
          ∙ sum_to-same own (λ j. term (from + j)) size
          (λ j l. ap₂ ◌⊗◌ (get_or-take size (drop from vector) j 0 l ∙ get_or-drop from vector j 0)
          (ap (λ (row : List ℕ). get_or row c 0) (get_or-take size (drop from matrix) j [] l ∙ get_or-drop from matrix j [])))
          ∙ ap (sum_to (λ j. term (from + j))) many

      -- and all of them sum all rows
      pub product_splits : product_at vector matrix c ≡ sum_to (λ i. product_at (slice_for spread i vector) (rows_at spread i matrix) c) (shards spread)
      unfolding product_at
      product_splits =
          ap (sum_to term) rows ∙ sym (sum_shards term)
          ∙ sym (sum_to-same (λ i. product_at (slice_for spread i vector) (rows_at spread i matrix) c) (shard_sum term) (shards spread) shard_product)

    module _ (count : ℕ) (vectors : List ℕ) where
      -- what an honest shard answers to the slices of so many vectors
      abbrev pub payload_of : ℕ → List ℕ
      payload_of i = in_turn count (λ v. product (rows_at spread i matrix) spread.width (slice_at spread i vectors v))

      -- what a server of all rows answers to them
      abbrev pub whole : List ℕ
      whole = in_turn count (λ v. product matrix spread.width (piece spread.rows v vectors))

      -- a column of the answer to one of them
      at_payload : (i v c : ℕ) → v < count → c < spread.width
          → get_or (payload_of i) (v * spread.width + c) 0 ≡ product_at (slice_at spread i vectors v) (rows_at spread i matrix) c
      at_payload i v c few l =
          let gives : ℕ → List ℕ = λ k. product (rows_at spread i matrix) spread.width (slice_at spread i vectors k) in
          sym (at_piece spread.width v c (payload_of i) l)
          ∙ ap (λ (p : List ℕ). get_or p c 0)
          (piece-in_turn count spread.width v gives (λ k m. length-product (rows_at spread i matrix) spread.width (slice_at spread i vectors k)) few)
          ∙ at_product (rows_at spread i matrix) spread.width (slice_at spread i vectors v) c l

      -- payloads of honest shards
      module _ (payloads : List (List ℕ)) (many : length payloads ≡ shards spread) (each : (i : ℕ) → i < shards spread → get_or payloads i [] ≡ payload_of i) where
        -- their sum
        abbrev sum : List ℕ
        sum = combined (count * spread.width) payloads

        -- it has a byte for each column of each block
        length-sum : length sum ≡ count * spread.width
        unfolding combined
        length-sum = length-map-range_with_len (combined_at payloads) 0 (count * spread.width)

        -- a byte of the sum is one of the product with all rows
        at_sum : (v c : ℕ) → v < count → c < spread.width
            → combined_at payloads (v * spread.width + c) ≡ product_at (piece spread.rows v vectors) matrix c
        unfolding combined_at
        at_sum v c few l =
            let place = v * spread.width + c in
            ap (sum_to (λ i. get_or (get_or payloads i []) place 0)) many
            ∙ sum_to-same (λ i. get_or (get_or payloads i []) place 0)
            (λ i. product_at (slice_at spread i vectors v) (rows_at spread i matrix) c) (shards spread)
            (λ i there. ap (λ (p : List ℕ). get_or p place 0) (each i there) ∙ at_payload i v c few l)
            ∙ sym (product_splits (piece spread.rows v vectors) c)

        -- the same of the piece of the sum for a block
        at_both : (v c : ℕ) → v < count → c < spread.width
            → get_or (piece spread.width v sum) c 0 ≡ get_or (product matrix spread.width (piece spread.rows v vectors)) c 0
        unfolding combined
        at_both v c few l =
            let place = v * spread.width + c in
            let fits = piece_fits v count spread.width few in
            let step = suc-mul v spread.width in
            at_piece spread.width v c sum l
            ∙ get_or-map-range_with_len (combined_at payloads) 0 (count * spread.width) place place 0 (omega (arith, fits, step, l)) (omega arith)
            ∙ at_sum v c few l ∙ sym (at_product matrix spread.width (piece spread.rows v vectors) c l)

        -- so that piece is the product with all rows
        piece_is : (v : ℕ) → v < count → piece spread.width v sum ≡ product matrix spread.width (piece spread.rows v vectors)
        piece_is v few =
            let fits = piece_fits v count spread.width few in
            let size = length-piece spread.width v sum (omega (arith, fits, length-sum)) in
            ext_get_or 0 _ _ (size ∙ sym (length-product matrix spread.width (piece spread.rows v vectors)))
            (λ c l. at_both v c few (omega (arith, l, size)))

        -- they have the sum that a server of all rows answers
        pub combined_products : sum ≡ whole
        combined_products = in_turn-of-pieces count spread.width sum _ length-sum piece_is
