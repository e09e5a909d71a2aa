-- What a server holds: each byte of its rows is the value of the polynomial of its position, at the server's index.
use Rattle.std.proofs.Common.{◌≡◌, ℕ, zero, suc, ◌+◌, ◌-◌, ◌*◌, ◌<◌, List, [], length, drop, get_or, refl, sym, ap, ap₂, ◌∙◌, arith}
use Rattle.std.proofs.lemmas.List.{get_or-take, get_or-drop}
use Rattle.std.proofs.lemmas.List.Elements.{All-from_get_or}
use Rattle.gf256.specs.Field.{◌⊕◌, ◌⊗◌}
use Rattle.gf256.specs.Polynomial.{coef, val}
use Rattle.gf256.specs.Product.{IsMatrix}
use Rattle.gf256.proofs.FieldLaws.{mul_one, mul_zero}
use Rattle.gf256.proofs.Xor.{add_zero}
use Rattle.uni_poly.proofs.Values.{val_nil, val_lt}
use Rattle.uni_poly.proofs.Coefficients.{IsBytes-from_all}
use Rattle.block_matrix.proofs.Rows.{IsMatrix-rows_of, get_or-rows_of}
use Rattle.shamir_share.specs.Query.{row_coins}
use Rattle.gf256.proofs.FlatRows.{row_within}
use Rattle.share_bytes.specs.Share.{position_polynomial, share}
use Rattle.share_bytes.proofs.Shares.{length-share, share_at, val-position}
use Rattle.wire_frames.proofs.Turns.{length-in_turn, piece-in_turn}
use Rattle.fetch_client.specs.Held.{block_of, bytes_of, held_by, share_rows}

-- ---- the bytes of a matrix

module _ (matrix : List (List ℕ)) (r s : ℕ) (is : IsMatrix matrix r s) where
  widths : (j : ℕ) → j < length matrix → length (block_of matrix j) ≡ s
  widths j l = is.widths j [] l

  pub length-bytes_of : length (bytes_of matrix) ≡ r * s
  length-bytes_of = length-in_turn (length matrix) s (block_of matrix) widths ∙ ap (λ (n : ℕ). n * s) is.rows

  -- byte c of row j
  pub byte_of : (j c : ℕ) → j < r → c < s → get_or (bytes_of matrix) (j * s + c) 0 ≡ get_or (block_of matrix j) c 0
  byte_of j c low in_row =
      let n = is.rows in
      sym (get_or-drop (j * s) (bytes_of matrix) c 0)
      ∙ sym (get_or-take s (drop (j * s) (bytes_of matrix)) c 0 in_row)
      ∙ ap (λ (row : List ℕ). get_or row c 0) (piece-in_turn (length matrix) s j (block_of matrix) widths (omega (arith, low, n)))

  -- it stands among them
  pub place_within : (j c : ℕ) → j < r → c < s → j * s + c < r * s
  place_within j c low in_row = omega (arith, row_within j r s low, in_row)

-- a position has no coins where the degree is 0
no_coins : (coins : List ℕ) (i : ℕ) → row_coins coins 0 i ≡ []
unfolding row_coins
no_coins coins i = refl

module _ (matrix : List (List ℕ)) (share_coins : List ℕ) (r s : ℕ) (is : IsMatrix matrix r s) where
  -- where the matrix is held whole, the polynomial of a position is its byte
  whole_at : (j c a : ℕ) → j < r → c < s → get_or (block_of matrix j) c 0 ≡ val (position_polynomial (bytes_of matrix) share_coins 0 (j * s + c)) a
  unfolding coef
  whole_at j c a low in_row =
      let n = is.rows in
      let i = j * s + c in
      let byte = IsBytes-from_all (block_of matrix j) (is.bytes j [] (omega (arith, low, n))) c in
      let none : a ⊗ val (row_coins share_coins 0 i) a ≡ 0 =
      ap (λ (p : List ℕ). a ⊗ val p a) (no_coins share_coins i) ∙ ap (◌⊗◌ a) (val_nil a) ∙ mul_zero a in
      sym (val-position (bytes_of matrix) share_coins 0 i a
      ∙ ap₂ ◌⊕◌ (ap (λ (b : ℕ). b ⊗ 1) (byte_of matrix r s is j c low in_row) ∙ mul_one (get_or (block_of matrix j) c 0) byte) none
      ∙ add_zero (get_or (block_of matrix j) c 0))

  -- a share is as long
  length-share_of : (tau a : ℕ) → length (share (bytes_of matrix) share_coins tau a) ≡ length matrix * s
  length-share_of tau a = length-share (bytes_of matrix) share_coins tau a ∙ length-bytes_of matrix r s is ∙ sym (ap (λ (n : ℕ). n * s) is.rows)

  -- each byte of its rows
  share_row_at : (tau j c a : ℕ) → j < r → c < s
      → get_or (block_of (share_rows tau matrix s share_coins a) j) c 0 ≡ val (position_polynomial (bytes_of matrix) share_coins tau (j * s + c)) a
  share_row_at tau j c a low in_row =
      let n = is.rows in
      let own = share (bytes_of matrix) share_coins tau a in
      let size = length-bytes_of matrix r s is in
      ap (λ (row : List ℕ). get_or row c 0) (get_or-rows_of s (length matrix) own j (omega (arith, low, n)))
      ∙ get_or-take (j * s + s - j * s) (drop (j * s) own) c 0 (omega (arith, in_row)) ∙ get_or-drop (j * s) own c 0
      ∙ share_at (bytes_of matrix) share_coins tau a (j * s + c) (omega (arith, size, place_within matrix r s is j c low in_row))

  pub held_at : (tau j c a : ℕ) → j < r → c < s
      → get_or (block_of (held_by tau matrix s share_coins a) j) c 0 ≡ val (position_polynomial (bytes_of matrix) share_coins tau (j * s + c)) a
  unfolding held_by
  held_at zero j c a low in_row = whole_at j c a low in_row
  held_at (suc tau) j c a low in_row = share_row_at (suc tau) j c a low in_row

  share_is_matrix : (tau a : ℕ) → IsMatrix (share_rows tau matrix s share_coins a) (length matrix) s
  share_is_matrix tau a =
      let own = share (bytes_of matrix) share_coins tau a in
      let size = length-share (bytes_of matrix) share_coins tau a in
      IsMatrix-rows_of s (length matrix) own (length-share_of tau a) (All-from_get_or (λ b. b < 256) own 0 (λ i l.
      let p = position_polynomial (bytes_of matrix) share_coins tau i in
      let is_value = share_at (bytes_of matrix) share_coins tau a i (omega (arith, l, size)) in
      omega (arith, is_value, val_lt p a)))

  -- and it has the shape of the matrix
  pub held_is_matrix : (tau a : ℕ) → IsMatrix (held_by tau matrix s share_coins a) r s
  unfolding held_by
  held_is_matrix zero a = is
  held_is_matrix (suc tau) a =
      let own = share_is_matrix (suc tau) a in
      record { rows = own.rows ∙ is.rows; widths = own.widths; bytes = own.bytes }
