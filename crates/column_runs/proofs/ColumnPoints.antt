-- The points of a column.
use Rattle.std.proofs.Common.{◌≡◌, ◌≢◌, ◌<◌, ℕ, List, [], length, map, get_or, All, AllPairs, Bor, refl, sym, ap, ap₂, ◌∙◌, arith}
use Rattle.std.proofs.lemmas.List.{length-map, get_or-map, get_or_default, same_lists}
use Rattle.std.proofs.lemmas.Slice.Zip.{length-zip, get_or-zip}
use Rattle.gf256.specs.Polynomial.{coef, val, IsPolynomial}
use Rattle.column_runs.specs.Run.{points_at, IsConstant}

-- as many rows as there are slices
pub length-rows : (rows : List (Bor (List ℕ))) → length (map (λ (row : Bor (List ℕ)). row.now) rows) ≡ length rows
length-rows rows = length-map rows (λ (row : Bor (List ℕ)). row.now)

module _ (xs : List ℕ) (rows : List (List ℕ)) (same : length rows ≡ length xs) (column : ℕ) where
  -- there are as many points as xs
  pub length-points : length (points_at xs rows column) ≡ length xs
  length-points =
      let n = length-map rows (λ row. get_or row column 0) in
      let z = length-zip xs (map (λ row. get_or row column 0) rows) in
      omega (arith, n, z, same)

  -- at each place that of the xs, with the byte of its row
  pub point_at : (k : ℕ) (d : ℕ × ℕ) → k < length xs
      → get_or (points_at xs rows column) k d ≡ (get_or xs k 0, get_or (get_or rows k []) column 0)
  point_at k d l =
      let n = length-map rows (λ row. get_or row column 0) in
      get_or-zip xs (map (λ row. get_or row column 0) rows) k d l (omega (arith, n, same, l))
      ∙ ap₂ (λ x y. (x, y)) (get_or_default xs k d.0 0 l) (get_or-map (λ row. get_or row column 0) rows k [] d.1 (omega (arith, same, l)))

  -- a list with these is that of the points
  pub are_points : (points : List (ℕ × ℕ)) → length points ≡ length xs
      → ((k : ℕ) (d : ℕ × ℕ) → k < length xs → get_or points k d ≡ (get_or xs k 0, get_or (get_or rows k []) column 0))
      → points ≡ points_at xs rows column
  are_points points size each =
      same_lists points (points_at xs rows column) (size ∙ sym length-points)
      (λ k d l. each k d (omega (arith, l, size)) ∙ sym (point_at k d (omega (arith, l, size))))

  -- no two have the same first member
  pub points_differ : AllPairs (λ x y. x ≢ y) xs → AllPairs (λ p q. p.0 ≢ q.0) (points_at xs rows column)
  points_differ apart = λ i j d l m same.
      let n = length-points in
      apart i j 0 l (omega (arith, m, n))
      (ap (λ (p : ℕ × ℕ). p.0) (sym (point_at i d (omega (arith, l, m, n)))) ∙ same ∙ ap (λ (p : ℕ × ℕ). p.0) (point_at j d (omega (arith, m, n))))

-- where they lie on a polynomial, the byte at its place 0 is the constant
pub constant_of : (phi : List ℕ) (points : List (ℕ × ℕ)) (t : ℕ) → IsPolynomial t phi → All (λ p. val phi p.0 ≡ p.1) points
    → IsConstant points t (get_or phi 0 0)
unfolding coef
constant_of phi points t is on = record {
  polynomial = phi;
  degree = is;
  through = on;
  constant = refl;
}
