-- In the XOR scheme the answers of all servers add up to the block.
use Rattle.std.proofs.Common.{◌≡◌, ℕ, zero, suc, ◌+◌, ◌-◌, ◌*◌, ◌<◌, ◌≤◌, Bool, true, Option, None, Some, List, [], length, map, get_or, count_by, bytes_eq, All, AllPairs, IfSome, inl, inr, refl, sym, ap, subst, ◌∙◌, arith, mul-zero}
use Rattle.std.specs.List.{range_with_len}
use Rattle.std.proofs.lemmas.Bool.{cases_lt}
use Rattle.std.proofs.lemmas.List.{ext_get_or, get_or_past, length-map, get_or-map}
use Rattle.std.proofs.lemmas.List.FromFn.{length-range_with_len, get_or-range_with_len, length-map-range_with_len, get_or-map-range_with_len}
use Rattle.std.proofs.lemmas.List.Sums.{count_by-le-length}
use Rattle.std.proofs.lemmas.Slice.Eq.{bytes_eq-Decides}
use Rattle.wire_frames.specs.declared.scheme.TheConstants.{XOR}
use Rattle.wire_frames.specs.declared.session.SessionParams.{SessionParams}
use Rattle.wire_frames.specs.Answer.{Answer, answers, block_len}
use Rattle.wire_frames.specs.Limits.{IsInRange}
use Rattle.wire_frames.specs.Session.{Transcript}
use Rattle.block_matrix.specs.Database.{Database}
use Rattle.chor_xor.specs.Bitmap.{bitmap, size_of}
use Rattle.chor_xor.specs.Chosen.{chosen, combined}
use Rattle.chor_xor.specs.Chosen.{answers as chosen_answers}
use Rattle.chor_xor.proofs.ChosenSums.{answers-combined, length-chosen}
use Rattle.block_decoder.proofs.Counting.{all_pass, pass_all}
use Rattle.block_decoder.proofs.UsableAnswers.{AreInOrder, answers_in_order}
use Rattle.wire_frames.specs.Turns.{in_turn, piece}
use Rattle.wire_frames.proofs.Turns.{in_turn-same, piece-in_turn}
use Rattle.fetch_client.proofs.BlockSums.{combined-in_turn}
use Rattle.query_rounds.specs.Plan.{query_coins, with_degree}
use Rattle.fetch_client.specs.Held.{held_as, held_by}
use Rattle.query_rounds.specs.Sent.{vector_at}
use Rattle.fetch_client.specs.Honest.{AllHonest, HonestRecords, IsHonest, answer_by, blocks_of, honest_frame, is_frame}
use Rattle.query_rounds.proofs.Schemes.{coins_of_xor, payload_of_xor}
use Rattle.fetch_client.proofs.HonestAnswers.{answer_of_xor}

-- ---- the indices

abbrev no_answer : Answer
no_answer = record { index = 0; payload = [] }

-- the index of the answer at a place
abbrev index_at : List Answer → ℕ → ℕ
index_at all k = (get_or all k no_answer).index

-- ascending indices grow by one a place at least
spaced : (all : List Answer) (k d j : ℕ) → AllPairs (λ a b. a.index < b.index) all → k + d ≡ j → j < length all → index_at all k + d ≤ index_at all j
spaced all k zero j ascending e l =
    let same : k ≡ j = omega (arith, e) in
    let at = ap (index_at all) same in
    omega (arith, at)
spaced all k (suc d) j ascending e l =
    let before = spaced all k d (k + d) ascending refl (omega (arith, e, l)) in
    let step = ascending (k + d) j no_answer (omega (arith, e)) l in
    omega (arith, before, step)

-- n ascending indices from 1 to n are all of them
index_is : (width n : ℕ) (all : List Answer) (k : ℕ) → AreInOrder width 1 (1 + n) all → length all ≡ n → k < n → index_at all k ≡ k + 1
index_is width n all k order size l =
    let above = spaced all 0 k k order.ascending (omega arith) (omega (arith, size, l)) in
    let first = order.from 0 no_answer (omega (arith, size, l)) in
    let to_last = spaced all k (n - 1 - k) (n - 1) order.ascending (omega (arith, l)) (omega (arith, size, l)) in
    let last = order.below (n - 1) no_answer (omega (arith, size, l)) in
    omega (arith, above, first, to_last, last)

-- ---- the answers

module _ (session : Transcript) (t : ℕ) (matrix : List (List ℕ)) (coins blocks : List ℕ) (count : length blocks ≡ session.params.count)
    (range : IsInRange session.params) (two : session.params.scheme ≡ XOR)
    (few : length session.records ≤ session.params.n) (bytes : All (λ r. IfSome r (All (λ b. b < 256))) session.records) where
  abbrev p : SessionParams
  p = session.params

  abbrev q : SessionParams
  q = with_degree t p

  abbrev database : Database
  database = record { rows = matrix; width = p.s }

  abbrev all : List Answer
  all = answers session

  abbrev test : Answer → Bool
  test a = bytes_eq a.payload (answer_by q matrix coins blocks a.index)

  order : AreInOrder (block_len p) 1 (1 + length session.records) all
  order = answers_in_order session bytes

  -- there are not more answers than records
  fits : length all ≤ length session.records
  fits = elim (cases_lt 0 (length all)) [
    | inl some ↦
        let whole = spaced all 0 (length all - 1) (length all - 1) order.ascending (omega arith) (omega (arith, some)) in
        let first = order.from 0 no_answer some in
        let last = order.below (length all - 1) no_answer (omega (arith, some)) in
        omega (arith, whole, first, last, some)
    | inr none ↦ omega (arith, none)
  ]

  module _ (share_coins : List ℕ) (honest : IsHonest session t (held_as 0 matrix share_coins) coins blocks) where
    -- so all servers answered, and honestly
    many : p.n ≤ count_by test all
    unfolding held_by
    many = let e = honest.enough in let same = range.all_answer two in omega (arith, e, same)

    pub all_usable : length all ≡ p.n
    all_usable = let m = many in let l = count_by-le-length test all in let f = fits in omega (arith, m, l, f, few)

    in_order : AreInOrder (block_len p) 1 (1 + p.n) all
    in_order =
        let f = fits in
        let u = all_usable in
        let same : length session.records ≡ p.n = omega (arith, few, f, u) in
        subst (λ (n : ℕ). AreInOrder (block_len p) 1 (1 + n) all) same order

    abbrev own_coins : ℕ → List ℕ
    own_coins v = piece ((p.n - 1) * size_of p.r) v coins

    -- what server i answers to the bitmap for block v
    abbrev chosen_by : ℕ → ℕ → List ℕ
    chosen_by i v = chosen database (bitmap (own_coins v) p.n p.r (get_or blocks v 0) i)

    -- the payload of server k + 1
    payload_is : (k : ℕ) → k < p.n → (get_or all k no_answer).payload ≡ in_turn (length blocks) (chosen_by (k + 1))
    payload_is k l =
        let u = all_usable in
        let m = many in
        let a = get_or all k no_answer in
        let passed = all_pass test all (omega (arith, u, m)) k no_answer (omega (arith, u, l)) in
        (bytes_eq-Decides a.payload (answer_by q matrix coins blocks a.index)).0 passed
        ∙ ap (answer_by q matrix coins blocks) (index_is (block_len p) p.n all k in_order u l)
        ∙ in_turn-same (length blocks) _ _ (λ v low.
        answer_of_xor q two matrix (vector_at q coins blocks (k + 1) v)
        ∙ ap (chosen database) (payload_of_xor q two (piece (query_coins q) v coins) (get_or blocks v 0) (k + 1)
        ∙ ap (λ (n : ℕ). bitmap (piece n v coins) p.n p.r (get_or blocks v 0) (k + 1)) (coins_of_xor q two)))

    -- in each row the payloads are the answers of the servers in their order
    payloads_are : (v : ℕ) → v < length blocks → map (piece p.s v) (map (λ a. a.payload) all) ≡ chosen_answers database (own_coins v) p.n (get_or blocks v 0)
    unfolding chosen_answers
    payloads_are v low_v =
        let u = all_usable in
        let rows = honest.matrix_is.rows in
        let each : ℕ → List ℕ = λ i. chosen database (bitmap (own_coins v) p.n (length matrix) (get_or blocks v 0) i) in
        let size = length-map-range_with_len each 1 p.n in
        let long = length-map all (λ a. a.payload) in
        let long' = length-map (map (λ a. a.payload) all) (piece p.s v) in
        ext_get_or [] (map (piece p.s v) (map (λ a. a.payload) all)) (map each (range_with_len 1 p.n)) (long' ∙ long ∙ u ∙ sym size) (λ k l.
        let low : k < p.n = omega (arith, l, long, long', u) in
        get_or-map (piece p.s v) (map (λ a. a.payload) all) k [] [] (omega (arith, low, long, u))
        ∙ ap (piece p.s v) (get_or-map (λ a. a.payload) all k no_answer [] (omega (arith, low, u)) ∙ payload_is k low)
        ∙ piece-in_turn (length blocks) p.s v (chosen_by (k + 1)) (λ w _. length-chosen database (bitmap (own_coins w) p.n p.r (get_or blocks w 0) (k + 1))) low_v
        ∙ ap (λ (r : ℕ). chosen database (bitmap (own_coins v) p.n r (get_or blocks v 0) (k + 1))) (sym rows)
        ∙ sym (get_or-map-range_with_len each 1 p.n k (k + 1) [] low (omega arith)))

    -- and they add up to the blocks
    pub combined_is_the_blocks : All (λ b. b < p.r) blocks → combined (block_len p) (map (λ a. a.payload) all) ≡ blocks_of matrix blocks
    combined_is_the_blocks within =
        let a = range.private in
        let b = range.agreement in
        let c = range.servers in
        let some : 1 ≤ p.n = omega (arith, a, b, c) in
        ap (λ (n : ℕ). combined (n * p.s) (map (λ a. a.payload) all)) (sym count)
        ∙ combined-in_turn (length blocks) p.s (map (λ a. a.payload) all)
        ∙ in_turn-same (length blocks) _ _ (λ v l.
        ap (combined p.s) (payloads_are v l)
        ∙ answers-combined database (own_coins v) p.n p.r (get_or blocks v 0) some (within v 0 l) honest.matrix_is)

  -- where each server's record is the frame of an honest one, no record is left out
  abbrev record_of : ℕ → Option (List ℕ)
  record_of i = get_or session.records (i - 1) None

  abbrev framed : ℕ → Bool
  framed i = is_frame (honest_frame q matrix coins blocks i) (record_of i)

  all_recorded : AllHonest session t matrix coins blocks → length session.records ≡ p.n
  all_recorded honest =
      let a = range.private in
      let b = range.agreement in
      let c = range.servers in
      let last : record_of p.n ≡ Some (honest_frame q matrix coins blocks p.n) = honest.each p.n (omega (arith, a, b, c)) (omega arith) in
      elim (cases_lt (p.n - 1) (length session.records)) [
        | inl there ↦ omega (arith, there, few, a, b, c)
        | inr past ↦
            let none : record_of p.n ≡ None = get_or_past session.records (p.n - 1) None past in
            absurd (cc)
      ]

  -- and enough are such frames
  pub records_from_all : AllHonest session t matrix coins blocks → HonestRecords session t (held_as 0 matrix []) coins blocks
  unfolding held_by
  records_from_all honest =
      let size = all_recorded honest in
      let servers = range_with_len 1 (length session.records) in
      let long = length-range_with_len 1 (length session.records) in
      let each : All (λ i. framed i ≡ true) servers = λ k d l.
      let at = get_or-range_with_len 1 (length session.records) k d (omega (arith, l, long)) in
      let i = get_or servers k d in
      let frame = honest_frame q matrix coins blocks i in
      ap (is_frame frame) (honest.each i (omega (arith, at)) (omega (arith, at, l, long, size)))
      ∙ (bytes_eq-Decides frame frame).1 refl in
      let counted = pass_all framed servers each in
      let same = range.all_answer two in
      record {
        matrix_is = honest.matrix_is;
        shared = sym (mul-zero (p.r * p.s));
        enough = omega (arith, size, same, counted, long);
      }
