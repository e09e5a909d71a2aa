-- Sums over runs of rows.
use Rattle.std.proofs.Common.{◌≡◌, ℕ, ◌+◌, ◌*◌, ◌<◌, List, [], length, get_or, slice_index, slice_index_or, sym, ap, ap₂, ◌∙◌, arith, add-one}
use Rattle.std.proofs.lemmas.List.{same_lists, get_or_default}
use Rattle.std.proofs.lemmas.List.FromFn.{length-map-range_with_len, get_or-map-range_with_len}
use Rattle.gf256.specs.Field.{◌⊕◌, ◌⊗◌}
use Rattle.gf256.specs.Sums.{sum_to, run_sum}
use Rattle.gf256.specs.Product.{product_at, product}
use Rattle.gf256.proofs.Xor.{add_zero, add_swap}
use Rattle.gf256.proofs.RunSums.{run-all}
use Rattle.server_product.specs.Runs.{term}
use Rattle.row_workers.proofs.RunSums.{none_yet, one_more, part_follows}

-- all rows
pub run-product : (q : List ℕ) (rows : List (List ℕ)) (c : ℕ) → run_sum (term q rows c) 0 (length rows) ≡ product_at q rows c
unfolding term product_at
run-product q rows c = run-all (term q rows c) (length rows)

-- the first n terms of each of six parts, of so many terms
abbrev pub sixths : (ℕ → ℕ) → ℕ → ℕ → ℕ → ℕ
sixths f from sixth n =
    run_sum f from (from + n) ⊕ run_sum f (from + sixth) (from + sixth + n)
    ⊕ run_sum f (from + 2 * sixth) (from + 2 * sixth + n) ⊕ run_sum f (from + 3 * sixth) (from + 3 * sixth + n)
    ⊕ run_sum f (from + 4 * sixth) (from + 4 * sixth + n) ⊕ run_sum f (from + 5 * sixth) (from + 5 * sixth + n)

-- no terms of each
pub sixths-none : (f : ℕ → ℕ) (from sixth : ℕ) → sixths f from sixth 0 ≡ 0
sixths-none f from sixth =
    ap₂ ◌⊕◌ (ap₂ ◌⊕◌ (ap₂ ◌⊕◌ (ap₂ ◌⊕◌ (ap₂ ◌⊕◌
    (none_yet f from) (none_yet f (from + sixth))) (none_yet f (from + 2 * sixth))) (none_yet f (from + 3 * sixth)))
    (none_yet f (from + 4 * sixth))) (none_yet f (from + 5 * sixth))
    ∙ (let e : 0 ⊕ 0 ⊕ 0 ⊕ 0 ⊕ 0 ⊕ 0 ≡ 0 = simp add_zero in e)

-- six sums of two as two sums of six
in_pairs : (a b c d e f u v w x y z : ℕ)
    → (a ⊕ u) ⊕ (b ⊕ v) ⊕ (c ⊕ w) ⊕ (d ⊕ x) ⊕ (e ⊕ y) ⊕ (f ⊕ z) ≡ (a ⊕ b ⊕ c ⊕ d ⊕ e ⊕ f) ⊕ (u ⊕ v ⊕ w ⊕ x ⊕ y ⊕ z)
in_pairs a b c d e f u v w x y z =
    ap (λ s. s ⊕ (c ⊕ w) ⊕ (d ⊕ x) ⊕ (e ⊕ y) ⊕ (f ⊕ z)) (add_swap a u b v)
    ∙ ap (λ s. s ⊕ (d ⊕ x) ⊕ (e ⊕ y) ⊕ (f ⊕ z)) (add_swap (a ⊕ b) (u ⊕ v) c w)
    ∙ ap (λ s. s ⊕ (e ⊕ y) ⊕ (f ⊕ z)) (add_swap (a ⊕ b ⊕ c) (u ⊕ v ⊕ w) d x)
    ∙ ap (λ s. s ⊕ (f ⊕ z)) (add_swap (a ⊕ b ⊕ c ⊕ d) (u ⊕ v ⊕ w ⊕ x) e y)
    ∙ add_swap (a ⊕ b ⊕ c ⊕ d ⊕ e) (u ⊕ v ⊕ w ⊕ x ⊕ y) f z

-- one more term of each
pub sixths-next : (f : ℕ → ℕ) (from sixth n : ℕ) → sixths f from sixth (n + 1)
    ≡ sixths f from sixth n
    ⊕ (f (from + n) ⊕ f (from + sixth + n) ⊕ f (from + 2 * sixth + n)
    ⊕ f (from + 3 * sixth + n) ⊕ f (from + 4 * sixth + n) ⊕ f (from + 5 * sixth + n))
sixths-next f from sixth n =
    ap₂ ◌⊕◌ (ap₂ ◌⊕◌ (ap₂ ◌⊕◌ (ap₂ ◌⊕◌ (ap₂ ◌⊕◌
    (one_more f from n) (one_more f (from + sixth) n)) (one_more f (from + 2 * sixth) n)) (one_more f (from + 3 * sixth) n))
    (one_more f (from + 4 * sixth) n)) (one_more f (from + 5 * sixth) n)
    ∙ in_pairs _ _ _ _ _ _ _ _ _ _ _ _

-- whole parts are one run
pub sixths-all : (f : ℕ → ℕ) (from sixth : ℕ) → sixths f from sixth sixth ≡ run_sum f from (from + 6 * sixth)
sixths-all f from sixth =
    let P = λ (m : ℕ). run_sum f (from + m) (from + m + sixth) in
    ap (λ s. s ⊕ P (2 * sixth) ⊕ P (3 * sixth) ⊕ P (4 * sixth) ⊕ P (5 * sixth)) (part_follows f from sixth (2 * sixth) sixth (omega arith))
    ∙ ap (λ s. s ⊕ P (3 * sixth) ⊕ P (4 * sixth) ⊕ P (5 * sixth)) (part_follows f from (2 * sixth) (3 * sixth) sixth (omega arith))
    ∙ ap (λ s. s ⊕ P (4 * sixth) ⊕ P (5 * sixth)) (part_follows f from (3 * sixth) (4 * sixth) sixth (omega arith))
    ∙ ap (λ s. s ⊕ P (5 * sixth)) (part_follows f from (4 * sixth) (5 * sixth) sixth (omega arith))
    ∙ part_follows f from (5 * sixth) (6 * sixth) sixth (omega arith)

-- one more row of all
pub term-next : (q : List ℕ) (rows : List (List ℕ)) (c j sum next : ℕ) → sum ≡ sum_to (term q rows c) j
    → next ≡ sum ⊕ slice_index q j ⊗ slice_index (slice_index_or rows j []) c → next ≡ sum_to (term q rows c) (j + 1)
unfolding sum_to term
term-next q rows c j sum next e is = is ∙ ap (λ s. s ⊕ term q rows c j) e ∙ sym (ap (sum_to (term q rows c)) (add-one j))

-- the bytes of the product
pub product-is : (q out : List ℕ) (rows : List (List ℕ)) (width : ℕ) → length out ≡ width
    → ((k : ℕ) → k < width → get_or out k 0 ≡ product_at q rows k) → out ≡ product rows width q
unfolding product
product-is q out rows width size is =
    same_lists _ _ (size ∙ sym (length-map-range_with_len (product_at q rows) 0 width))
    (λ k d l.
    get_or_default out k d 0 l ∙ is k (omega arith)
    ∙ sym (get_or-map-range_with_len (product_at q rows) 0 width k k d (omega arith) (omega arith)))
