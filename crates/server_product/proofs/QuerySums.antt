-- What several queries give, query by query.
use Rattle.std.proofs.Common.{◌≡◌, ℕ, ◌+◌, ◌-◌, ◌*◌, ◌/◌, ◌%◌, ◌≤◌, ◌<◌, List, [], ◌∷◌, length, get_or, slice_index, slice_index_or, slice_range, take, drop, set, refl, sym, ap, ap₂, ◌∙◌, arith, inl, inr}
use borrow.Rule.Slice.PartMut.{put_mid}
use Rattle.std.proofs.lemmas.Bool.{cases_lt}
use Rattle.std.proofs.lemmas.Nat.{div-mul-add, mod-mul-add, mul-add-lt, div-add-mod', div_below, mod_below}
use Rattle.std.proofs.Math.Nat.{mul-le-mul_right}
use Rattle.std.proofs.Math.ListN.{length-set}
use Rattle.gf256.specs.Field.{◌⊗◌}
use Rattle.gf256.specs.Sums.{run_sum}
use Rattle.gf256.specs.Product.{product_at, product}
use Rattle.gf256.proofs.RunSums.{run-all}
use Rattle.server_product.specs.Runs.{term}
use Rattle.row_workers.specs.Pieces.{piece}
use Rattle.server_product.specs.Queries.{entry}
use Rattle.server_product.proofs.RunSums.{product-is}
use Rattle.row_workers.proofs.Workers.{at-range}
use Rattle.row_workers.proofs.RunSums.{run-same}
use Rattle.row_workers.proofs.PieceSums.{piece-at, length-piece, put-below, put-at, length-part, filled-next, part-size}

-- what a row gives, by the query's own piece
pub entry-is : (queries : List ℕ) (rows : List (List ℕ)) (width v c j : ℕ) → c < width → j < length rows
    → entry queries rows width (v * width + c) j ≡ term (piece (length rows) queries v) rows c j
unfolding entry term
entry-is queries rows width v c j l m =
    ap₂ (λ u d. slice_index queries (u * length rows + j) ⊗ slice_index (slice_index_or rows j []) d)
    (div-mul-add v width c l) (mod-mul-add v width c l)
    ∙ ap (λ x. x ⊗ slice_index (slice_index_or rows j []) c) (sym (piece-at queries (length rows) v j m))

-- the products of all queries
pub products-are : (queries out : List ℕ) (rows : List (List ℕ)) (width count : ℕ) → length out ≡ count * width
    → length queries ≡ count * length rows
    → ((p : ℕ) → p < count * width → slice_index out p ≡ run_sum (entry queries rows width p) 0 (length rows))
    → (v : ℕ) → v < count → piece width out v ≡ product rows width (piece (length rows) queries v)
unfolding term product_at
products-are queries out rows width count size long is v l =
    product-is (piece (length rows) queries v) (piece width out v) rows width (length-piece out width v count l size)
    (λ k m.
    piece-at out width v k m ∙ is (v * width + k) (let h = mul-add-lt v width k count l m in omega (arith, h))
    ∙ run-same (entry queries rows width (v * width + k)) (term (piece (length rows) queries v) rows k) 0 (length rows)
    (λ j a b. entry-is queries rows width v k j m b)
    ∙ run-all (term (piece (length rows) queries v) rows k) (length rows))

-- the only piece is the list
piece-one : (xs : List ℕ) (size : ℕ) → length xs ≡ size → piece size xs 0 ≡ xs
piece-one xs size long =
    let none : 0 * size ≡ 0 = omega arith in
    let all : (0 + 1) * size - 0 * size ≡ size = omega arith in
    ap₂ (λ n a. take n (drop a xs)) all none ∙ ap (λ n. take n xs) (sym long) ∙ take-whole xs where
      -- a list is its own front
      take-whole : (ys : List ℕ) → take (length ys) ys ≡ ys
      take-whole [] = refl
      take-whole (y ∷ ys) = ap (λ zs. y ∷ zs) (take-whole ys)

-- the product of the only query
pub one-product : (q out : List ℕ) (rows : List (List ℕ)) (width : ℕ) → length out ≡ width → length q ≡ length rows
    → piece width out 0 ≡ product rows width (piece (length rows) q 0) → out ≡ product rows width q
one-product q out rows width size long is = sym (piece-one out width size) ∙ is ∙ ap (product rows width) (piece-one q (length rows) long)

-- what a row gives, by the queries from one on up to another
pub entry-part : (queries : List ℕ) (rows : List (List ℕ)) (width done end r p j : ℕ) → r ≡ length rows → done ≤ end
    → p < (end - done) * width → j < length rows
    → entry (slice_range queries (done * r) (end * r)) rows width p j ≡ entry queries rows width (done * width + p) j
unfolding entry
entry-part queries rows width done end r p j er le l m =
    let some : 0 < width = grind arith in
    let u = p / width in
    let k = p % width in
    let small : k < width = mod_below p width some in
    let less : u < end - done = div_below p width (end - done) some l in
    let whole : u * width + k ≡ p = div-add-mod' p width in
    let place : done * width + p ≡ (done + u) * width + k = grind (arith, whole) in
    let inside = mul-add-lt u (length rows) j (end - done) less m in
    let range : u * length rows + j < end * length rows - done * length rows = grind (arith, inside) in
    let there : done * length rows + (u * length rows + j) ≡ (done + u) * length rows + j = grind arith in
    ap₂ (λ x d. x ⊗ slice_index (slice_index_or rows j []) d)
    (ap (λ n. slice_index (take (end * n - done * n) (drop (done * n) queries)) (u * length rows + j)) er
    ∙ at-range queries (done * length rows) (end * length rows - done * length rows) (u * length rows + j) range
    ∙ ap (slice_index queries) there
    ∙ ap (λ v. slice_index queries (v * length rows + j)) (sym (ap (λ x. x / width) place ∙ div-mul-add (done + u) width k small)))
    (sym (ap (λ x. x % width) place ∙ mod-mul-add (done + u) width k small))

-- the sums of one group of queries more
pub group-more : (queries sums new : List ℕ) (rows : List (List ℕ)) (width done end from to count r w : ℕ) → r ≡ length rows → w ≡ width
    → done ≤ end → end ≤ count → length sums ≡ count * width → length new ≡ length (take (end * w - done * w) (drop (done * w) sums)) → to ≤ length rows
    → ((p : ℕ) → p < (end - done) * width → slice_index new p ≡ run_sum (entry (slice_range queries (done * r) (end * r)) rows width p) from to)
    → ((p : ℕ) → p < done * width → slice_index sums p ≡ run_sum (entry queries rows width p) from to)
    → (p : ℕ) → p < end * width
    → slice_index (put_mid (done * w) (end * w - done * w) sums new) p ≡ run_sum (entry queries rows width p) from to
group-more queries sums new rows width done end from to count r w er ew le most room long within more before p l =
    let fits = mul-le-mul_right width (let h : done ≤ count = omega arith in h) in
    let ends = mul-le-mul_right width most in
    let size = part-size done end width le in
    let whole = long ∙ ap (λ w. length (take (end * w - done * w) (drop (done * w) sums))) ew ∙ length-part sums (done * width) (end * width) (mul-le-mul_right width le) (omega (arith, ends, room)) in
    ap (λ w. slice_index (put_mid (done * w) (end * w - done * w) sums new) p) ew
    ∙ elim (cases_lt p (done * width)) [
      | inl low ↦ put-below (done * width) (end * width - done * width) sums new p (omega arith) low ∙ before p low
      | inr high ↦
          let there : done * width + (p - done * width) ≡ p = omega arith in
          let less : p - done * width < (end - done) * width = omega (arith, size, l, high) in
          ap (slice_index (put_mid (done * width) (end * width - done * width) sums new)) (sym there)
          ∙ put-at (done * width) (end * width - done * width) sums new (p - done * width) (omega arith) (omega (arith, whole, l, high))
          ∙ more (p - done * width) less
          ∙ run-same _ (entry queries rows width (done * width + (p - done * width))) from to
          (λ j a b. entry-part queries rows width done end r (p - done * width) j er le less (omega (arith, b)))
          ∙ ap (λ q. run_sum (entry queries rows width q) from to) there
    ]

-- the sums of the only query
pub one-query : (queries : List ℕ) (rows : List (List ℕ)) (width p from to : ℕ) → p < width
    → run_sum (term queries rows p) from to ≡ run_sum (entry queries rows width p) from to
unfolding entry term
one-query queries rows width p from to l =
    let none : 0 * width + p ≡ p = omega arith in
    let quotient : p / width ≡ 0 = ap (λ x. x / width) (sym none) ∙ div-mul-add 0 width p l in
    let rest : p % width ≡ p = ap (λ x. x % width) (sym none) ∙ mod-mul-add 0 width p l in
    run-same _ _ from to
    (λ j a b.
    let at : j ≡ 0 * length rows + j = omega arith in
    ap₂ (λ x d. x ⊗ slice_index (slice_index_or rows j []) d)
    (ap (slice_index queries) at ∙ ap (λ v. slice_index queries (v * length rows + j)) (sym quotient)) (sym rest))

-- four places more
pub filled-four : (xs : List ℕ) (h : ℕ → ℕ) (m x y z w : ℕ) → m + 4 ≤ length xs → x ≡ h m → y ≡ h (m + 1) → z ≡ h (m + 2) → w ≡ h (m + 3)
    → ((p : ℕ) → p < m → get_or xs p 0 ≡ h p)
    → (p : ℕ) → p < m + 4 → get_or (set (set (set (set xs m x) (m + 1) y) (m + 2) z) (m + 3) w) p 0 ≡ h p
filled-four xs h m x y z w room a b c d before p l =
    let one = set xs m x in
    let two = set one (m + 1) y in
    let three = set two (m + 2) z in
    let long_one = length-set xs m x in
    let long_two = length-set one (m + 1) y in
    let long_three = length-set two (m + 2) z in
    filled-next three h (m + 3) w (omega arith) d
    (λ p l. filled-next two h (m + 2) z (omega arith) c
    (λ p l. filled-next one h (m + 1) y (omega arith) b (filled-next xs h m x (omega arith) a before) p (omega arith)) p (omega arith)) p (omega arith)

-- what a row gives, by the query that is cut out
pub term-is : (queries : List ℕ) (rows : List (List ℕ)) (width m r c j : ℕ) → r ≡ length rows → c < width → j < length rows
    → term (slice_range queries (m * r) ((m + 1) * r)) rows c j ≡ entry queries rows width (m * width + c) j
term-is queries rows width m r c j er l k =
    ap (λ r. term (slice_range queries (m * r) ((m + 1) * r)) rows c j) er ∙ sym (entry-is queries rows width m c j l k)
