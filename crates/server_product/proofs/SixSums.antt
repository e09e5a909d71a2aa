-- Six rows that are added to a list at once, each times its factor.
use Rattle.std.proofs.Common.{◌≡◌, ℕ, ◌≤◌, List, length, bit_xor, ap₂, ◌∙◌, arith}
use Rattle.std.specs.Simd.Lanes.{zip2}
use Rattle.gf256.specs.Field.{◌⊕◌}
use Rattle.gf256.specs.Rows.{multiple, AreLanes}
use Rattle.gf256.proofs.Xor.{add_zero}
use Rattle.gf256.proofs.LaneSums.{lanes-sum}
use Rattle.gf256.proofs.RowSums.{multiple-past}
use Rattle.server_product.specs.SixRows.{scaled_at, six_at}
use Rattle.server_product.specs.declared.six_rows.SixRows.{SixRows}

-- six rows give nothing past their ends
pub six-past : (six : SixRows) (n : ℕ)
    → length six.a.row.now ≡ n → length six.b.row.now ≡ n → length six.c.row.now ≡ n
    → length six.d.row.now ≡ n → length six.e.row.now ≡ n → length six.f.row.now ≡ n
    → (k : ℕ) → n ≤ k → six_at six k ≡ 0
unfolding six_at
six-past six n ea eb ec ed ee ef k l =
    let past : (row : List ℕ) (f : ℕ) → length row ≡ n → multiple row f k ≡ 0 = λ row f e. multiple-past row f k (omega (arith, e, l)) in
    ap₂ ◌⊕◌ (ap₂ ◌⊕◌ (ap₂ ◌⊕◌ (ap₂ ◌⊕◌ (ap₂ ◌⊕◌
    (past six.a.row.now six.a.factor ea) (past six.b.row.now six.b.factor eb)) (past six.c.row.now six.c.factor ec))
    (past six.d.row.now six.d.factor ed)) (past six.e.row.now six.e.factor ee)) (past six.f.row.now six.f.factor ef)
    ∙ (let none : 0 ⊕ 0 ⊕ 0 ⊕ 0 ⊕ 0 ⊕ 0 ≡ 0 = simp add_zero in none)

-- the sums of n products with each row
pub six-lanes : {n : ℕ} (six : SixRows) (pa pb pc pd pe pf : List ℕ) (at : ℕ)
    → AreLanes n pa (scaled_at six.a) at → AreLanes n pb (scaled_at six.b) at → AreLanes n pc (scaled_at six.c) at
    → AreLanes n pd (scaled_at six.d) at → AreLanes n pe (scaled_at six.e) at → AreLanes n pf (scaled_at six.f) at
    → AreLanes n (zip2 bit_xor (zip2 bit_xor (zip2 bit_xor (zip2 bit_xor (zip2 bit_xor pa pb) pc) pd) pe) pf) (six_at six) at
unfolding six_at
six-lanes six pa pb pc pd pe pf at a b c d e f =
    lanes-sum _ pf _ _ at (lanes-sum _ pe _ _ at (lanes-sum _ pd _ _ at (lanes-sum _ pc _ _ at (lanes-sum pa pb _ _ at a b) c) d) e) f

-- one place of six rows
pub six-place : (six : SixRows) (k xa xb xc xd xe xf : ℕ)
    → xa ≡ scaled_at six.a k → xb ≡ scaled_at six.b k → xc ≡ scaled_at six.c k
    → xd ≡ scaled_at six.d k → xe ≡ scaled_at six.e k → xf ≡ scaled_at six.f k
    → bit_xor (bit_xor (bit_xor (bit_xor (bit_xor xa xb) xc) xd) xe) xf ≡ six_at six k
unfolding ◌⊕◌ six_at
six-place six k xa xb xc xd xe xf ea eb ec ed ee ef =
    ap₂ bit_xor (ap₂ bit_xor (ap₂ bit_xor (ap₂ bit_xor (ap₂ bit_xor ea eb) ec) ed) ee) ef

-- what six rows give, by what each of them gives
pub six-terms : (six : SixRows) (k xa xb xc xd xe xf : ℕ)
    → scaled_at six.a k ≡ xa → scaled_at six.b k ≡ xb → scaled_at six.c k ≡ xc
    → scaled_at six.d k ≡ xd → scaled_at six.e k ≡ xe → scaled_at six.f k ≡ xf
    → six_at six k ≡ xa ⊕ xb ⊕ xc ⊕ xd ⊕ xe ⊕ xf
unfolding six_at
six-terms six k xa xb xc xd xe xf ea eb ec ed ee ef =
    ap₂ ◌⊕◌ (ap₂ ◌⊕◌ (ap₂ ◌⊕◌ (ap₂ ◌⊕◌ (ap₂ ◌⊕◌ ea eb) ec) ed) ee) ef
