-- The rows follow the factors in a column exactly where its points lie on one polynomial.
use Rattle.std.proofs.Common.{◌≡◌, ◌≢◌, ℕ, ◌+◌, ◌-◌, ◌<◌, ◌≤◌, inl, inr, List, [], length, map, get_or, take, All, AllPairs, sym, ap, ap₂, subst, ◌∙◌, arith, lit<, get_or-take}
use Rattle.std.specs.List.{range_with_len}
use Rattle.std.proofs.lemmas.Bool.{cases_lt}
use Rattle.std.proofs.lemmas.List.{length-take-le, get_or_past}
use Rattle.std.proofs.lemmas.List.Elements.{All-from_get_or, All-take}
use Rattle.std.proofs.lemmas.List.FromFn.{length-map-range_with_len, get_or-map-range_with_len}
use Rattle.gf256.specs.Field.{◌⊕◌, ◌⊗◌}
use Rattle.gf256.specs.Polynomial.{coef, val, IsPolynomial}
use Rattle.gf256.proofs.Sums.{sum_to-same}
use Rattle.uni_poly.proofs.Values.{val_at_zero}
use Rattle.column_runs.specs.OnOne.{LieOnOne}
use Rattle.column_runs.specs.Lagrange.{extended, Extends, AreFactors}
use Rattle.column_runs.specs.Run.{points_at, IsConstant, IsRun}
use Rattle.column_runs.specs.Tile.{cell, Follow, IsTile}
use Rattle.column_runs.proofs.ColumnPoints.{length-points, point_at}
use Rattle.column_runs.proofs.Extension.{through_all, through_all-interpolates}

-- values that are the same give the same
extended-same : (factors : List ℕ) (u v : ℕ → ℕ) → ((i : ℕ) → i < length factors + 1 → u i ≡ v i) → extended factors u ≡ extended factors v
unfolding extended
extended-same factors u v same =
    ap₂ ◌⊕◌ (same 0 (omega arith))
    (sum_to-same (λ i. get_or factors i 0 ⊗ (u (i + 1) ⊕ u 0)) (λ i. get_or factors i 0 ⊗ (v (i + 1) ⊕ v 0)) (length factors)
    (λ i l. ap₂ (λ x y. get_or factors i 0 ⊗ (x ⊕ y)) (same (i + 1) (omega (arith, l))) (same 0 (omega arith))))

-- of the first of the xs no two are equal
AllPairs-front : (n : ℕ) (xs : List ℕ) → n ≤ length xs → AllPairs (λ x y. x ≢ y) xs → AllPairs (λ x y. x ≢ y) (take n xs)
AllPairs-front n xs enough apart = λ i j d l m same.
    let size = length-take-le n xs enough in
    apart i j d l (omega (arith, m, size, enough))
    (sym (get_or-take n xs i d (omega (arith, l, m, size))) ∙ same ∙ get_or-take n xs j d (omega (arith, m, size)))

module _ (xs : List ℕ) (t : ℕ) (others : List (List ℕ)) (zero : List ℕ) (are : AreFactors xs t others zero) where
  -- there are xs enough
  enough : t + 1 ≤ length xs
  enough = let n = are.count in omega (arith, n)

  -- the first of the xs
  base : List ℕ
  base = take (t + 1) xs

  -- they are t + 1
  length-base : length base ≡ t + 1
  unfolding base
  length-base = length-take-le (t + 1) xs enough

  -- each is the one of the xs at its place
  base-at : (i : ℕ) → i < t + 1 → get_or base i 0 ≡ get_or xs i 0
  unfolding base
  base-at i l = get_or-take (t + 1) xs i 0 l

  -- each list has t factors
  pub length-zero : length zero ≡ t
  unfolding base
  length-zero = let n = length-base in let m = are.constant.size in omega (arith, n, m)

  -- each of the others has t factors
  pub length-other : (k : ℕ) → k < length others → length (get_or others k []) ≡ t
  unfolding base
  length-other k l = let n = length-base in let m = (are.each k l).size in omega (arith, n, m)

  module _ (rows : List (List ℕ)) (same : length rows ≡ length xs) (column : ℕ) where
    -- a polynomial that takes the bytes at the first t + 1 of the xs
    module _ (phi : List ℕ) (is : IsPolynomial t phi) (first : (i : ℕ) → i < t + 1 → val phi (get_or xs i 0) ≡ cell rows column i) where
      -- its value where factors are had
      value : (a : ℕ) (factors : List ℕ) → length factors ≡ t → Extends base a factors → val phi a ≡ extended factors (cell rows column)
      value a factors size extends =
          extends.value phi (subst (λ n. IsPolynomial n phi) (sym size) is)
          ∙ extended-same factors (λ i. val phi (get_or base i 0)) (cell rows column)
          (λ i l. ap (val phi) (base-at i (omega (arith, l, size))) ∙ first i (omega (arith, l, size)))

      value-other : (k : ℕ) → k < length others → val phi (get_or xs (t + 1 + k) 0) ≡ extended (get_or others k []) (cell rows column)
      unfolding base
      value-other k l = value (get_or xs (t + 1 + k) 0) (get_or others k []) (length-other k l) (are.each k l)

      constant-is : coef phi 0 ≡ extended zero (cell rows column)
      unfolding base
      constant-is = sym (val_at_zero phi is.bytes) ∙ value 0 zero length-zero are.constant

      -- where the rows follow, all points lie on it
      on_all : Follow rows t others column → All (λ p. val phi p.0 ≡ p.1) (points_at xs rows column)
      on_all follow = λ k d l.
          let n = length-points xs rows same column in
          let m : k < length xs = omega (arith, l, n) in
          let here : val phi (get_or xs k 0) ≡ cell rows column k =
          elim (cases_lt k (t + 1)) [
            | inl front ↦ first k front
            | inr behind ↦
                let j = k - (t + 1) in
                let place : t + 1 + j ≡ k = omega (arith, behind) in
                let count = are.count in
                let within : j < length others = omega (arith, place, m, count) in
                subst (λ k. val phi (get_or xs k 0) ≡ cell rows column k) place (value-other j within ∙ sym (follow j within))
          ] in
          let at = point_at xs rows same column k d m in
          ap (λ (p : ℕ × ℕ). val phi p.0) at ∙ here ∙ sym (ap (λ (p : ℕ × ℕ). p.1) at)

    -- so where all points lie on one polynomial, the rows follow
    pub follow_from_one : LieOnOne (points_at xs rows column) t → Follow rows t others column
    follow_from_one one =
        let psi = one.0 in
        let at : (k : ℕ) → k < length xs → val psi (get_or xs k 0) ≡ cell rows column k =
        λ k l.
        let n = length-points xs rows same column in
        let point = point_at xs rows same column k (0, 0) l in
        ap (λ (p : ℕ × ℕ). val psi p.0) (sym point) ∙ one.2 k (0, 0) (omega (arith, l, n)) ∙ ap (λ (p : ℕ × ℕ). p.1) point in
        λ k l.
        let count = are.count in
        sym (at (t + 1 + k) (omega (arith, l, count)))
        ∙ value-other psi one.1 (λ i m. at i (let e = enough in omega (arith, m, e))) k l

    -- and where they follow, there is such a polynomial
    pub constant_from_follow : All (λ x. x < 256) xs → AllPairs (λ x y. x ≢ y) xs → ((i : ℕ) → cell rows column i < 256) → Follow rows t others column
        → IsConstant (points_at xs rows column) t (extended zero (cell rows column))
    unfolding base
    constant_from_follow bytes apart small follow =
        let ys = map (cell rows column) (range_with_len 0 (t + 1)) in
        let n = length-map-range_with_len (cell rows column) 0 (t + 1) in
        let at : (i : ℕ) → i < t + 1 → get_or ys i 0 ≡ cell rows column i =
        λ i l. get_or-map-range_with_len (cell rows column) 0 (t + 1) i i 0 l (omega arith) in
        let phi = through_all base ys in
        let through =
        through_all-interpolates base (All-take (λ x. x < 256) (t + 1) xs bytes) (AllPairs-front (t + 1) xs enough apart) ys
        (All-from_get_or (λ y. y < 256) ys 0 (λ i l. subst (λ y. y < 256) (sym (at i (omega (arith, l, n)))) (small i))) (n ∙ sym length-base) in
        let is : IsPolynomial t phi = record { size = through.size ∙ length-base; bytes = through.bytes } in
        let first : (i : ℕ) → i < t + 1 → val phi (get_or xs i 0) ≡ cell rows column i =
        λ i l. ap (val phi) (sym (base-at i l)) ∙ through.through i (let m = length-base in omega (arith, l, m)) ∙ at i l in
        record {
          polynomial = phi;
          degree = is;
          through = on_all phi is first follow;
          constant = constant-is phi is first;
        }

-- the byte of a row of bytes, or 0 where there is none
cell_lt : (rows : List (List ℕ)) → All (λ row. All (λ b. b < 256) row) rows → (column i : ℕ) → cell rows column i < 256
cell_lt rows bytes column i =
    elim (cases_lt i (length rows)) [
      | inl l ↦
          elim (cases_lt column (length (get_or rows i []))) [
            | inl m ↦ bytes i [] l column 0 m
            | inr past ↦ subst (λ x. x < 256) (sym (get_or_past (get_or rows i []) column 0 past)) (lit< tt)
          ]
      | inr past ↦ subst (λ row. get_or row column 0 < 256) (sym (get_or_past rows i [] past)) (lit< tt)
    ]

-- so the tiles are a run
pub is_run : (xs : List ℕ) (rows : List (List ℕ)) (t : ℕ) (others : List (List ℕ)) (zero : List ℕ) → AreFactors xs t others zero
    → length rows ≡ length xs → All (λ x. x < 256) xs → AllPairs (λ x y. x ≢ y) xs → All (λ row. All (λ b. b < 256) row) rows
    → (from : ℕ) (bytes : List ℕ) (n : ℕ) → IsTile rows from others zero bytes n → IsRun xs rows t from bytes n
is_run xs rows t others zero are same small apart bytes from out n tile =
    let size = length-zero xs t others zero are in
    record {
      within = tile.within;
      constants = λ c l.
          subst (IsConstant (points_at xs rows (from + c)) t) (sym (tile.constants c l))
          (constant_from_follow xs t others zero are rows same (from + c) small apart (cell_lt rows bytes (from + c))
          (subst (λ t. Follow rows t others (from + c)) size (tile.follow c l)));
      longest = λ l one.
          tile.longest l
          (subst (λ t. Follow rows t others (from + n)) (sym size) (follow_from_one xs t others zero are rows same (from + n) one));
    }
