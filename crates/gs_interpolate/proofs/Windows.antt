-- Polynomials side by side about a point, first in x and then in y.
use Rattle.std.proofs.Common.{◌≡◌, ◌≢◌, ℕ, ◌+◌, ◌-◌, ◌*◌, ◌/◌, ◌%◌, ◌<◌, ◌≤◌, List, [], length, map, get_or, take, refl, sym, ap, ap₂, ◌∙◌, arith, inl, inr, add-one, mul_comm}
use Rattle.std.proofs.lemmas.Bool.{cases_lt}
use Rattle.std.proofs.lemmas.List.{get_or_past, get_or-map, get_or-take, length-map}
use Rattle.std.proofs.lemmas.Nat.{div-mul-add, mod-mul-add}
use Rattle.std.proofs.Math.Nat.{div-lt_iff_lt-mul, div-add-mod, mod-lt}
use Rattle.gf256.specs.Field.{◌⊕◌, ◌⊗◌, power}
use Rattle.gf256.specs.Sums.{sum_to}
use Rattle.gf256.specs.Polynomial.{coef}
use Rattle.gf256.proofs.Xor.{add_self, add_self_left}
use Rattle.gf256.proofs.Powers.{power-mul}
use Rattle.gf256.proofs.Sums.{sum_to-same, sum_to-zero, sum_to-one, sum_to-add}
use Rattle.uni_poly.specs.Taylor.{taylor}
use Rattle.uni_poly.proofs.Taylor.{taylor-same}
use Rattle.bi_poly.specs.Rows.{row}
use Rattle.bi_poly.specs.Hasse.{hasse}
use Rattle.bi_poly.proofs.Binomials.{HasPascalSteps}
use Rattle.bi_poly.proofs.Derivatives.{taylor-derivative, derivative_to, derivative_to-all}
use Rattle.bi_poly.proofs.Expansion.{derivatives-row}
use Rattle.bi_poly.proofs.Hasse.{derivatives, hasse-derivative}
use Rattle.gs_interpolate.specs.Family.{lane, member}
use Rattle.gs_interpolate.specs.Expansion.{AreExpanded, IsPieceAdded}
use Rattle.gs_interpolate.specs.Window.{IsWindow}
use Rattle.gf256.proofs.FlatRows.{row_within}
use Rattle.gs_interpolate.proofs.Expansions.{term, term-zero, term-add, term-folded, taylor-terms}
use Rattle.gs_interpolate.proofs.Places.{part_before, row-member}

-- at place k of what a row expands to: a coefficient about a, for each of the rows
abbrev pub row_values : ℕ → ℕ → ℕ → List (List ℕ) → List ℕ
row_values n a k rows = map (λ r. taylor (lane n (k % n) r) a (k / n)) rows

-- what the first of these values, so many, add to the coefficient at y ^ v about b
abbrev pub values_sum : ℕ → ℕ → List ℕ → ℕ → ℕ
values_sum b v values j = sum_to (λ i. term b v i (get_or values i 0)) j

-- all of them are the series
values-all : (n a k b v : ℕ) (rows : List (List ℕ)) → taylor (row_values n a k rows) b v ≡ values_sum b v (row_values n a k rows) (length rows)
unfolding derivative_to coef
values-all n a k b v rows =
    let values = row_values n a k rows in
    taylor-derivative values b v
    ∙ sym (derivative_to-all values b v (length rows) (let size = length-map rows (λ r. taylor (lane n (k % n) r) a (k / n)) in omega (arith, size)))

-- so much do the rows at place k add to the coefficient at y ^ v about b, of so many that are left of all
abbrev pub cells_sum : ℕ → ℕ → ℕ → ℕ → List ℕ → ℕ → ℕ
cells_sum s e b v cells k = sum_to (λ r. term b v r (get_or cells (r * s + k) 0)) e

-- the rows that are left have the sums of the first j of all
abbrev pub AreValuesFolded : ℕ → ℕ → ℕ → ℕ → ℕ → List (List ℕ) → List ℕ → ℕ → Type 0
AreValuesFolded s e n a b rows cells j =
    (k v : ℕ) → k < s → v < e → cells_sum s e b v cells k ≡ values_sum b v (row_values n a k rows) j

-- none are zeros
pub values_folded-none : (s e n a b : ℕ) (rows : List (List ℕ)) (cells : List ℕ) → ((k : ℕ) → get_or cells k 0 ≡ 0) → AreValuesFolded s e n a b rows cells 0
unfolding sum_to
values_folded-none s e n a b rows cells zeros k v l h =
    sum_to-zero (λ r. term b v r (get_or cells (r * s + k) 0)) e (λ r m. ap (term b v r) (zeros (r * s + k)) ∙ term-zero b v r)

-- a coefficient is added in its row
cells_sum-next : (s e b v j k c : ℕ) (now before : List ℕ) → HasPascalSteps e → v < e
    → get_or now (j % e * s + k) 0 ≡ get_or before (j % e * s + k) 0 ⊕ power b (j - j % e) ⊗ c
    → ((r : ℕ) → r < e → r ≢ j % e → get_or now (r * s + k) 0 ≡ get_or before (r * s + k) 0)
    → cells_sum s e b v now k ≡ cells_sum s e b v before k ⊕ term b v j c
cells_sum-next s e b v j k c now before step l here others =
    let old = λ (r : ℕ). get_or before (r * s + k) 0 in
    let new = λ (r : ℕ). get_or now (r * s + k) 0 in
    let more = λ (r : ℕ). old r ⊕ new r in
    let at = j % e in
    let p = power b (j - at) in
    let turns = j / e in
    let whole : turns * e + at ≡ j = omega (arith, div-add-mod j e) in
    let times : e * turns ≡ j - at = omega (arith, div-add-mod j e, mul_comm e turns) in
    let added : more at ≡ p ⊗ c = ap (◌⊕◌ (old at)) here ∙ add_self_left (old at) (p ⊗ c) in
    let same : term b v at (p ⊗ c) ≡ term b v j c =
    ap (λ f. term b v at (f ⊗ c)) (sym (power-mul b e turns ∙ ap (power b) times)) ∙ sym (term-folded e b v turns at c step l) ∙ ap (λ i. term b v i c) whole in
    sum_to-same (λ r. term b v r (new r)) (λ r. term b v r (old r) ⊕ term b v r (more r)) e
    (λ r m. ap (term b v r) (sym (add_self_left (old r) (new r))) ∙ term-add b v r (old r) (more r))
    ∙ sum_to-add (λ r. term b v r (old r)) (λ r. term b v r (more r)) e
    ∙ ap (◌⊕◌ (cells_sum s e b v before k))
    (sum_to-one (λ r. term b v r (more r)) e at (mod-lt j (omega (arith, l)))
    (λ r m o. ap (term b v r) (ap (◌⊕◌ (old r)) (others r m o) ∙ add_self (old r)) ∙ term-zero b v r)
    ∙ ap (term b v at) added ∙ same)

-- the values of one row more
pub values_folded-next : (s e n a b j : ℕ) (rows : List (List ℕ)) (values now before : List ℕ) → HasPascalSteps e → 1 ≤ e → j < length rows → length values ≡ s
    → ((k : ℕ) → k < s → get_or values k 0 ≡ taylor (lane n (k % n) (row rows j)) a (k / n))
    → IsPieceAdded (power b (j - j % e)) (j % e) values now before
    → AreValuesFolded s e n a b rows before j → AreValuesFolded s e n a b rows now (j + 1)
unfolding sum_to
values_folded-next s e n a b j rows values now before step some l size are added done k v h m =
    let at = j % e in
    let value = taylor (lane n (k % n) (row rows j)) a (k / n) in
    let all = row_values n a k rows in
    let within = row_within at e s (mod-lt j some) in
    let place : at * length values + k ≡ at * s + k = ap (λ s. at * s + k) size in
    let here = ap (λ i. get_or now i 0) (sym place) ∙ added.here k (omega (arith, h, size))
    ∙ ap₂ (λ i x. get_or before i 0 ⊕ power b (j - at) ⊗ x) place (are k h) in
    let others : (r : ℕ) → r < e → r ≢ at → get_or now (r * s + k) 0 ≡ get_or before (r * s + k) 0 = λ r i o.
    added.others (r * s + k) (elim (cases_lt r at) [
      | inl less ↦ inl (let fit = row_within r at s less in let size = ap (λ s. at * s) size in omega (arith, fit, h, size))
      | inr more ↦ inr (let fit = row_within at r s (omega (arith, more, o)) in let whole = ap (λ s. at * s) size in omega (arith, fit, whole, size))
    ]) in
    cells_sum-next s e b v j k value now before step m here others
    ∙ ap₂ ◌⊕◌ (done k v h m) (ap (term b v j) (sym (get_or-map (λ r. taylor (lane n (k % n) r) a (k / n)) rows j [] 0 l)))
    ∙ ap (values_sum b v all) (sym (add-one j))

-- all rows, about b
pub values_folded-all : (s e m n a b : ℕ) (rows : List (List ℕ)) (cells made : List ℕ) → 1 ≤ s → m ≤ e → length cells ≡ e * s
    → AreValuesFolded s e n a b rows cells (length rows) → AreExpanded s e b made (λ k. lane s k cells)
    → AreExpanded s m b (take (m * s) made) (λ k. row_values n a k rows)
values_folded-all s e m n a b rows cells made some few size done expanded v k l h =
    let fit = row_within v m s l in
    let low : v < e = omega (arith, l, few) in
    get_or-take (m * s) made (v * s + k) 0 (omega (arith, fit, h)) ∙ expanded v k low h
    ∙ taylor-terms s k b v e cells some (omega (arith, size)) ∙ done k v h low ∙ sym (values-all n a k b v rows)

-- what a row expands to, by places
pub expanded-at : (n m a : ℕ) (made r : List ℕ) (k : ℕ) → 1 ≤ n → k < m * n
    → ((u g : ℕ) → u < m → g < n → get_or made (u * n + g) 0 ≡ taylor (lane n g r) a u) → get_or made k 0 ≡ taylor (lane n (k % n) r) a (k / n)
expanded-at n m a made r k some l each =
    let place : k / n * n + k % n ≡ k = omega (arith, div-add-mod k n) in
    ap (λ i. get_or made i 0) (sym place) ∙ each (k / n) (k % n) ((div-lt_iff_lt-mul some).1 l) (mod-lt k some)

-- the derivatives in x of the rows are the coefficients of a polynomial in y
hasse-values : (n : ℕ) (rows : List (List ℕ)) (g u v a b : ℕ) → hasse (member n rows g) u v a b ≡ taylor (map (λ r. taylor (lane n g r) a u) rows) b v
unfolding coef lane taylor
hasse-values n rows g u v a b =
    let q = member n rows g in
    hasse-derivative q u v a b ∙ sym (taylor-derivative (derivatives q a u) b v)
    ∙ taylor-same (derivatives q a u) (map (λ r. taylor (lane n g r) a u) rows) b v
    (λ j. derivatives-row q a u j ∙ ap (λ r. taylor r a u) (row-member n rows g j)
    ∙ elim (cases_lt j (length rows)) [
      | inl l ↦ sym (get_or-map (λ r. taylor (lane n g r) a u) rows j [] 0 l)
      | inr l ↦
          ap (λ r. taylor (lane n g r) a u) (get_or_past rows j [] l)
          ∙ sym (get_or_past (map (λ r. taylor (lane n g r) a u) rows) j 0 (let s = length-map rows (λ r. taylor (lane n g r) a u) in omega (arith, s, l)))
    ])

-- so they make a window
pub is_window : (n m a b : ℕ) (cells : List ℕ) (rows : List (List ℕ)) → length rows ≤ n
    → AreExpanded (m * n) m b cells (λ k. row_values n a k rows)
    → IsWindow n m a b rows (record { lanes = n; m = m; a = a; b = b; cells = cells })
is_window n m a b cells rows wide done = record {
  lanes = refl;
  order = refl;
  first = refl;
  second = refl;
  each = λ u w g l inside.
      let h : g < n = omega (arith, inside, wide) in
      let fit = row_within u m n (omega (arith, l)) in
      part_before cells (w * (m * n)) (m * n) (u * n + g) (omega (arith, fit, h))
      ∙ done w (u * n + g) (omega (arith, l)) (omega (arith, fit, h))
      ∙ ap₂ (λ x y. taylor (map (λ r. taylor (lane n x r) a y) rows) b w) (mod-mul-add u n g h) (div-mul-add u n g h)
      ∙ sym (hasse-values n rows g u w a b);
}
