-- The places of a matrix's entries among its cells.
use Rattle.std.proofs.Common.{◌≡◌, ◌≢◌, ◌⊎◌, ℕ, ◌+◌, ◌*◌, ◌/◌, ◌<◌, ◌≤◌, List, length, set, replicate, take, drop, refl, sym, ap, ◌∙◌, arith, inl, inr, add-mul, one-mul, mul-le-mul_right, add-one-le, get_or-set_same, get_or-set_other, get_or-take, get_or-drop}
use Rattle.std.proofs.lemmas.Bool.{cases_lt}
use Rattle.std.proofs.lemmas.List.{get_or-replicate, get_or_past, length-replicate}
use Rattle.std.proofs.lemmas.Nat.{div-mul-add}
use Rattle.linear_solve.specs.Matrix.{Matrix, entry, IsZeroMatrix, IsWithEntry}
use Rattle.linear_solve.specs.Kernel.{component, inner}
use Rattle.linear_solve.proofs.InnerProducts.{inner-same}

-- two entries that are not the same have two places
pub other_place : (i j a b n : ℕ) → j < n → b < n → (a ≢ i) ⊎ (b ≢ j) → a * n + b ≢ i * n + j
other_place i j a b n l m d e =
    let same : a ≡ i = sym (div-mul-add a n b m) ∙ ap (λ x. x / n) e ∙ div-mul-add i n j l in
    elim d [
      | inl h ↦ h same
      | inr h ↦ let f = ap (λ x. x * n) same in h (omega (arith, e, f))
    ]

-- an entry has its place among the cells
pub place_inside : (i j rows n : ℕ) → i < rows → j < n → i * n + j < rows * n
place_inside i j rows n l m =
    let room : (i + 1) * n ≤ rows * n = mul-le-mul_right n (add-one-le l) in
    omega (arith, room, add-mul i 1 n, one-mul n, m)

-- a matrix of which one cell was set
pub with_entry : (rows cols : ℕ) (cells new : List ℕ) (i j v : ℕ) → i < rows → j < cols → length cells ≡ rows * cols → new ≡ set cells (i * cols + j) v
    → IsWithEntry (record { rows = rows; cols = cols; cells = new }) (record { rows = rows; cols = cols; cells = cells }) i j v
unfolding entry
with_entry rows cols cells new i j v l m size e =
    let p = place_inside i j rows cols l m in
    record {
      height = refl;
      width = refl;
      here = rw e (get_or-set_same cells (i * cols + j) v 0 (omega (arith, p, size)));
      elsewhere = λ a b k d. rw e (get_or-set_other cells (i * cols + j) (a * cols + b) v 0 (other_place i j a b cols m k d));
    }

-- a matrix of which all cells are 0
pub zero_matrix : (rows cols : ℕ) (cells : List ℕ) (n : ℕ) → cells ≡ replicate n 0 → IsZeroMatrix (record { rows = rows; cols = cols; cells = cells }) rows cols
unfolding entry
zero_matrix rows cols cells n e = record {
  height = refl;
  width = refl;
  zero = λ i j. rw e
      elim (cases_lt (i * cols + j) n) [
        | inl l ↦ get_or-replicate n (i * cols + j) 0 0 l
        | inr l ↦ get_or_past (replicate n 0) (i * cols + j) 0 (rw length-replicate l)
      ];
}

-- a row of the matrix as a slice of its cells
pub inner-row : (m : Matrix) (v : List ℕ) (i : ℕ) → inner (component (take m.cols (drop (i * m.cols) m.cells))) v m.cols ≡ inner (entry m i) v m.cols
unfolding component entry
inner-row m v i = inner-same _ _ v m.cols (λ k l. get_or-take m.cols (drop (i * m.cols) m.cells) k 0 l ∙ get_or-drop (i * m.cols) m.cells k 0)
