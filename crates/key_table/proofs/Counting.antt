-- How many entries the fullest row has, by counting the entries of each row as they come.
use Rattle.std.proofs.Common.{◌≡◌, ◌≢◌, ◌==◌, ℕ, zero, suc, ◌+◌, ◌-◌, ◌*◌, ◌/◌, ◌^◌, ◌<◌, ◌≤◌, max, Bool, true, false, cond, if◌then◌else◌, List, [], length, take, map, refl, sym, ap, ap₂, subst, ◌∙◌, arith, inl, inr, ne_eqb, eq-eqb}
use Rattle.std.specs.List.{fold, range_with_len}
use Rattle.std.proofs.Math.Nat.{div-div-eq-div-mul, div-lt_iff_lt-mul, mul_assoc, mul_comm, mul-div_cancel}
use Rattle.std.proofs.lemmas.Bool.{cases_eq}
use Rattle.std.proofs.lemmas.List.Filters.{length-filter_more}
use Rattle.std.proofs.lemmas.List.FromFn.{map-range_with_len_more}
use Rattle.std.proofs.lemmas.List.Sums.{fold_push}
use Rattle.std.proofs.lemmas.Nat.{pow-add, pow_pos}
use Rattle.key_table.specs.Digest.{number_of, row_of}
use Rattle.key_table.specs.Entry.{Pair}
use Rattle.key_table.specs.Looked.{pair}
use Rattle.key_table.specs.Table.{pairs_in}
use Rattle.key_table.specs.Width.{fullest}
use Rattle.key_table.specs.Counting.{AreCounted, IsRun, NeverFall, row_at}
use Rattle.key_table.specs.Places.{digest_at}
use Rattle.key_table.specs.declared.runs.Run.{Run}
use Rattle.key_table.specs.declared.shape.Counted.{Counted}

-- the greatest of 1 and the first n numbers
abbrev greatest : (ℕ → ℕ) → ℕ → ℕ
greatest f zero = 1
greatest f (suc n) = max (greatest f n) (f n)

-- it is what a fold over them gives
greatest_folded : (f : ℕ → ℕ) (n : ℕ) → fold max 1 (map f (range_with_len 0 n)) ≡ greatest f n
greatest_folded f zero = refl
greatest_folded f (suc n) =
    let more : suc n ≡ n + 1 = omega arith in
    ap (λ k. fold max 1 (map f (range_with_len 0 k))) more
    ∙ ap (fold max 1) (map-range_with_len_more f 0 n n (omega arith))
    ∙ fold_push max 1 (map f (range_with_len 0 n)) (f n)
    ∙ ap (λ m. max m (f n)) (greatest_folded f n)

-- each of them is at most that
greatest_bounds : (f : ℕ → ℕ) (n j : ℕ) → j < n → f j ≤ greatest f n
greatest_bounds f zero j lt = absurd (omega (arith, lt))
greatest_bounds f (suc n) j lt = elim (cases_eq j n) [
  | inl is ↦ omega (arith, ap f is)
  | inr other ↦ let before = greatest_bounds f n j (omega (arith, lt, other)) in omega (arith, before)
]

-- where one of them grew and no other changed, the greatest is what it was, or that one
greatest_grown : (f g : ℕ → ℕ) (r : ℕ) → ((j : ℕ) → (j ≢ r) → g j ≡ f j) → f r ≤ g r
    → (n : ℕ) → (r < n → greatest g n ≡ max (greatest f n) (g r)) × (n ≤ r → greatest g n ≡ greatest f n)
greatest_grown f g r same grown zero = (λ lt. absurd (omega (arith, lt)), λ le. refl)
greatest_grown f g r same grown (suc n) =
    let before = greatest_grown f g r same grown n in (
      λ lt. elim (cases_eq n r) [
        | inl is ↦ omega (arith, before.1 (omega (arith, is)), ap g is, ap f is, grown)
        | inr other ↦ omega (arith, before.0 (omega (arith, lt, other)), same n other)
      ],
      λ le. let other : n ≢ r = omega (arith, le) in ap₂ max (before.1 (omega (arith, le))) (same n other),
    )

-- the run that begins at an entry, behind another
abbrev pub after : Run → ℕ → Run
after run entry = record { start = entry; fullest = max run.fullest (entry - run.start) }

module _ (rows : ℕ) (pairs : List Pair) where
  -- how many of the first pairs have a row
  abbrev counted_in : ℕ → ℕ → ℕ
  counted_in done j = length (pairs_in rows j (take done pairs))

  -- the fullest row of the first pairs has as many as the greatest of these numbers
  fullest_is : (done : ℕ) → fullest rows (take done pairs) ≡ greatest (counted_in done) rows
  fullest_is done = greatest_folded (counted_in done) rows

  -- one more pair, of the row j or not
  counted_more : (done j : ℕ) → done < length pairs → counted_in (done + 1) j ≡ counted_in done j + cond (row_at rows pairs done == j) 1 0
  counted_more done j lt = length-filter_more (λ (p : Pair). row_of rows p.digest == j) pairs done (pair [] []) lt

  -- it is counted in its row
  counted_own : (done j : ℕ) → done < length pairs → row_at rows pairs done ≡ j → counted_in (done + 1) j ≡ counted_in done j + 1
  counted_own done j lt is =
      counted_more done j lt ∙ ap (λ (b : Bool). counted_in done j + cond b 1 0) (eq-eqb (row_at rows pairs done) j is)

  -- and in no other
  counted_other : (done j : ℕ) → done < length pairs → (row_at rows pairs done ≢ j) → counted_in (done + 1) j ≡ counted_in done j
  counted_other done j lt other =
      let more : counted_in (done + 1) j ≡ counted_in done j + 0 =
      counted_more done j lt ∙ ap (λ (b : Bool). counted_in done j + cond b 1 0) (ne_eqb (row_at rows pairs done) j other) in
      omega (arith, more)

  -- a row that none of them has has none of them
  counted_none : (done j : ℕ) → done ≤ length pairs → ((k : ℕ) → k < done → row_at rows pairs k ≢ j) → counted_in done j ≡ 0
  counted_none zero j le none = refl
  counted_none (suc done) j le none =
      let more : suc done ≡ done + 1 = omega arith in
      ap (λ k. counted_in k j) more ∙ counted_other done j (omega (arith, le)) (none done (omega arith))
      ∙ counted_none done j (omega (arith, le)) (λ k lt. none k (omega (arith, lt)))

  -- a row has no more of them than the fullest
  pub counted_few : (j : ℕ) → j < rows → length (pairs_in rows j pairs) ≤ fullest rows pairs
  counted_few j lt =
      let count : ℕ → ℕ = λ i. length (pairs_in rows i pairs) in
      omega (arith, greatest_folded count rows, greatest_bounds count rows j lt)

  -- before a pair none was counted
  pub counted_start : (row : ℕ) → AreCounted rows pairs 0 (record { row = row; run = 0; fullest = 1 })
  counted_start row = record {
    last = λ k is. absurd (omega (arith, is));
    run = refl;
    fullest = sym (fullest_is 0 ∙ none rows);
    few_run = omega arith;
    few = omega arith;
  }
    where
      none : (n : ℕ) → greatest (counted_in 0) n ≡ 1
      none zero = refl
      none (suc n) = omega (arith, none n)

  -- with one more pair the run of its row is one longer, or begins
  run_more : (done : ℕ) (old : Counted) (row run : ℕ) → NeverFall rows pairs → done < length pairs → row ≡ row_at rows pairs done
      → AreCounted rows pairs done old → run ≡ (if row == old.row then old.run + 1 else 1) → run ≡ counted_in (done + 1) row
  run_more done old row run rise lt is h now = elim (cases_eq row old.row) [
    | inl same ↦
        let own = counted_own done row lt (sym is) in
        let before : counted_in done row ≡ counted_in done old.row = ap (counted_in done) same in
        let more : run ≡ old.run + 1 = now ∙ ap (λ (b : Bool). if b then old.run + 1 else 1) (eq-eqb row old.row same) in
        omega (arith, own, before, more, h.run)
    | inr other ↦
        let own = counted_own done row lt (sym is) in
        let first : run ≡ 1 = now ∙ ap (λ (b : Bool). if b then old.run + 1 else 1) (ne_eqb row old.row other) in
        let none = counted_none done row (omega (arith, lt))
        (λ k less same.
        let last = h.last (done - 1) (omega (arith, less)) in
        let up = rise k (done - 1) (omega (arith, less)) (omega (arith, less, lt)) in
        let on = rise (done - 1) done (omega arith) lt in
        other (omega (arith, same, last, up, on, is))) in
        omega (arith, own, first, none)
  ]

  -- one more pair is counted
  pub count_more : (done : ℕ) (old : Counted) (row run most : ℕ) → NeverFall rows pairs → done < length pairs → row ≡ row_at rows pairs done
      → row < rows → AreCounted rows pairs done old → run ≡ (if row == old.row then old.run + 1 else 1) → most ≡ max old.fullest run
      → AreCounted rows pairs (done + 1) (record { row = row; run = run; fullest = most })
  count_more done old row run most rise lt is low h now top =
      let own = run_more done old row run rise lt is h now in
      let grown : counted_in done row ≤ counted_in (done + 1) row = omega (arith, counted_own done row lt (sym is)) in
      let new = (greatest_grown (counted_in done) (counted_in (done + 1)) row (λ j other. counted_other done j lt (λ same. other (sym same ∙ sym is))) grown rows).0 low in
      let short : run ≤ done + 1 = few_run (row == old.row) now in
      record {
        last = λ k last. let same : done ≡ k = omega (arith, last) in is ∙ ap (row_at rows pairs) same;
        run = own;
        fullest = top ∙ ap₂ max (h.fullest ∙ fullest_is done) own ∙ sym new ∙ sym (fullest_is (done + 1));
        few_run = short;
        few = omega (arith, top, h.few, short);
      }
    where
      few_run : (b : Bool) → run ≡ (if b then old.run + 1 else 1) → run ≤ done + 1
      few_run true e = omega (arith, e, h.few_run)
      few_run false e = omega (arith, e)

  -- no pair was counted yet
  pub run_none : IsRun rows pairs 0 (record { start = 0; fullest = 1 })
  run_none = record { within = omega arith; counted = counted_start (row_at rows pairs 0) }

  -- a pair that has the row of the one before it goes on with its run
  pub run_on : (done : ℕ) (run : Run) → NeverFall rows pairs → done < length pairs → row_at rows pairs done < rows
      → row_at rows pairs done ≡ row_at rows pairs (done - 1) → IsRun rows pairs done run → IsRun rows pairs (done + 1) run
  run_on done run rise lt low same h =
      let row = row_at rows pairs done in
      let old : Counted = record { row = row_at rows pairs (done - 1); run = done - run.start; fullest = max run.fullest (done - run.start) } in
      let yes : (if row == old.row then old.run + 1 else 1) ≡ (done - run.start) + 1 =
      ap (λ (b : Bool). if b then old.run + 1 else 1) (eq-eqb row old.row same) in
      let longer : done + 1 - run.start ≡ (done - run.start) + 1 = omega (arith, h.within) in
      let more = count_more done old row (done + 1 - run.start) (max run.fullest (done + 1 - run.start)) rise lt refl low h.counted
      (longer ∙ sym yes) (omega (arith, longer)) in
      let last : done ≡ done + 1 - 1 = omega arith in
      record {
        within = omega (arith, h.within);
        counted = subst (λ k. AreCounted rows pairs (done + 1)
            (record { row = row_at rows pairs k; run = done + 1 - run.start; fullest = max run.fullest (done + 1 - run.start) })) last more;
      }

  -- a pair that has another row begins a run
  pub run_new : (done : ℕ) (run : Run) → NeverFall rows pairs → done < length pairs → row_at rows pairs done < rows
      → (row_at rows pairs done ≢ row_at rows pairs (done - 1)) → IsRun rows pairs done run
      → IsRun rows pairs (done + 1) (after run done)
  run_new done run rise lt low differ h =
      let row = row_at rows pairs done in
      let old : Counted = record { row = row_at rows pairs (done - 1); run = done - run.start; fullest = max run.fullest (done - run.start) } in
      let no : (if row == old.row then old.run + 1 else 1) ≡ 1 = ap (λ (b : Bool). if b then old.run + 1 else 1) (ne_eqb row old.row differ) in
      let one : done + 1 - done ≡ 1 = omega arith in
      let more = count_more done old row (done + 1 - done) (max (max run.fullest (done - run.start)) (done + 1 - done)) rise lt refl low h.counted
      (one ∙ sym no) refl in
      let last : done ≡ done + 1 - 1 = omega arith in
      record {
        within = omega arith;
        counted = subst (λ k. AreCounted rows pairs (done + 1)
            (record { row = row_at rows pairs k; run = done + 1 - done; fullest = max (max run.fullest (done - run.start)) (done + 1 - done) })) last more;
      }

-- the row of a number among a lesser power of two rows is that among a greater one, divided
row_halved : (a k j : ℕ) → a * 2 ^ k / 2 ^ 64 ≡ (a * 2 ^ (k + j) / 2 ^ 64) / 2 ^ j
row_halved a k j =
    let c = 2 ^ j in
    let x = a * 2 ^ k in
    let whole : x * c ≡ a * 2 ^ (k + j) = mul_assoc a (2 ^ k) c ∙ ap (λ n. a * n) (sym (pow-add 2 k j)) in
    ap (λ n. n / 2 ^ 64) (sym (mul-div_cancel x (pow_pos j)))
    ∙ div-div-eq-div-mul (x * c) c (2 ^ 64)
    ∙ ap (λ n. x * c / n) (mul_comm c (2 ^ 64))
    ∙ sym (div-div-eq-div-mul (x * c) (2 ^ 64) c)
    ∙ ap (λ n. n / 2 ^ 64 / c) whole

-- pairs that have one row have one for each lesser power of two
pub same_below : (pairs : List Pair) (i j k m : ℕ) → k ≤ m → row_at (2 ^ m) pairs i ≡ row_at (2 ^ m) pairs j → row_at (2 ^ k) pairs i ≡ row_at (2 ^ k) pairs j
same_below pairs i j k m le same =
    let a = number_of (digest_at pairs i) in
    let b = number_of (digest_at pairs j) in
    let is : k + (m - k) ≡ m = omega (arith, le) in
    row_halved a k (m - k)
    ∙ ap (λ n. a * 2 ^ n / 2 ^ 64 / 2 ^ (m - k)) is
    ∙ ap (λ n. n / 2 ^ (m - k)) same
    ∙ ap (λ n. b * 2 ^ n / 2 ^ 64 / 2 ^ (m - k)) (sym is)
    ∙ sym (row_halved b k (m - k))

-- a row among a power of two rows is one of the rows among each lesser power too
pub within_below : (pairs : List Pair) (i k m : ℕ) → k ≤ m → row_at (2 ^ m) pairs i < 2 ^ m → row_at (2 ^ k) pairs i < 2 ^ k
within_below pairs i k m le low =
    let a = number_of (digest_at pairs i) in
    let c = 2 ^ (m - k) in
    let is : k + (m - k) ≡ m = omega (arith, le) in
    let halved : row_at (2 ^ k) pairs i ≡ row_at (2 ^ m) pairs i / c = row_halved a k (m - k) ∙ ap (λ n. a * 2 ^ n / 2 ^ 64 / c) is in
    let whole : 2 ^ m ≡ 2 ^ k * c = ap (λ n. 2 ^ n) (sym is) ∙ pow-add 2 k (m - k) in
    let below : row_at (2 ^ m) pairs i / c < 2 ^ k = (div-lt_iff_lt-mul (pow_pos (m - k))).1 (omega (arith, low, whole)) in
    omega (arith, halved, below)
