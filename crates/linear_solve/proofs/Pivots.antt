-- Pivots as the list of their columns and the list of their rows.
use Rattle.std.proofs.Common.{◌≡◌, ℕ, ◌<◌, List, [], ◌∷◌, ◌++◌, length, get_or, refl, sym, ap, ◌∙◌, arith}
use Rattle.std.proofs.lemmas.List.{get_or-map, map-append, length-map}
use Rattle.linear_solve.specs.declared.echelon.PivotRow.{PivotRow}
use Rattle.linear_solve.specs.Echelon.{columns_of, rows_of, row_at, IsEchelon}

-- there are as many columns as pivots
pub length-columns_of : (ps : List PivotRow) → length (columns_of ps) ≡ length ps
unfolding columns_of
length-columns_of ps = length-map ps (λ p. p.column)

-- there are as many rows as pivots
pub length-rows_of : (ps : List PivotRow) → length (rows_of ps) ≡ length ps
unfolding rows_of
length-rows_of ps = length-map ps (λ p. p.row.items)

-- the column of one of them
pub column-is : (ps : List PivotRow) (t : ℕ) (p : PivotRow) → t < length ps → p ≡ get_or ps t p → p.column ≡ get_or (columns_of ps) t 0
unfolding columns_of
column-is ps t p l e = ap (λ q. q.column) e ∙ sym (get_or-map (λ q. q.column) ps t p 0 l)

-- the row of one of them
pub row-is : (ps : List PivotRow) (t : ℕ) (p : PivotRow) → t < length ps → p ≡ get_or ps t p → p.row.items ≡ row_at (rows_of ps) t
unfolding rows_of row_at
row-is ps t p l e = ap (λ q. q.row.items) e ∙ sym (get_or-map (λ q. q.row.items) ps t p [] l)

-- the columns with one more pivot
pub columns_of-push : (ps : List PivotRow) (p : PivotRow) → columns_of (ps ++ p ∷ []) ≡ columns_of ps ++ p.column ∷ []
unfolding columns_of
columns_of-push ps p = map-append (λ q. q.column) ps (p ∷ [])

-- the rows with one more pivot
pub rows_of-push : (ps : List PivotRow) (p : PivotRow) → rows_of (ps ++ p ∷ []) ≡ rows_of ps ++ p.row.items ∷ []
unfolding rows_of
rows_of-push ps p = map-append (λ q. q.row.items) ps (p ∷ [])

-- no pivots are an echelon form
pub no_pivots : (n : ℕ) → IsEchelon (columns_of []) (rows_of []) n
unfolding columns_of rows_of
no_pivots n = record {
  same = refl;
  wide = λ t l. absurd (omega arith);
  inside = λ t l. absurd (omega arith);
  one = λ t l. absurd (omega arith);
  none = λ s t h l. absurd (omega arith);
}

-- no pivots have no row
pub no_rows : length (rows_of []) ≡ 0
unfolding rows_of
no_rows = refl
