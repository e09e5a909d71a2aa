-- A query from its masks, and its bytes one by one.
use Rattle.std.proofs.Common.{◌≡◌, ℕ, ◌<◌, List, ◌∷◌, length, get_or, set, sym, ap, ◌∙◌, inl, inr, arith, length-set, get_or-set_same, get_or-set_other, lit<}
use Rattle.std.specs.Prelude.{if◌then◌else◌}
use Rattle.std.proofs.lemmas.Bool.{cases_eq, eq-eqb, ne_eqb}
use Rattle.std.proofs.lemmas.List.{ext_get_or}
use Rattle.std.proofs.lemmas.List.FromFn.{length-map-range_with_len, get_or-map-range_with_len}
use Rattle.gf256.specs.Field.{◌⊕◌, ◌⊗◌}
use Rattle.gf256.specs.Polynomial.{val}
use Rattle.gf256.proofs.Xor.{add_comm, zero_add}
use Rattle.gf256.proofs.FieldLaws.{mul_one, zero_mul}
use Rattle.uni_poly.proofs.Values.{val_cons}
use Rattle.shamir_share.specs.Query.{row_coins, row_polynomial, query, masks}
use Rattle.shamir_share.proofs.Rows.{masks_at, length-masks}

-- byte j of a query
pub query_at : (coins : List ℕ) (t r block a j : ℕ) → j < r → get_or (query coins t r block a) j 0 ≡ val (row_polynomial coins t block j) a
unfolding query
query_at coins t r block a j lt = get_or-map-range_with_len (λ j. val (row_polynomial coins t block j) a) 0 r j j 0 lt (omega arith)

-- a query has a byte for each row
pub length-query : (coins : List ℕ) (t r block a : ℕ) → length (query coins t r block a) ≡ r
unfolding query
length-query coins t r block a = length-map-range_with_len _ 0 r

-- at the block 1 is added to the mask
at_block : (coins : List ℕ) (t block j a : ℕ) → j ≡ block → val (row_polynomial coins t block j) a ≡ a ⊗ val (row_coins coins t j) a ⊕ 1
unfolding row_polynomial
at_block coins t block j a is =
    ap (λ b. val ((if b then 1 else 0) ∷ row_coins coins t j) a) (eq-eqb j block is)
    ∙ val_cons 1 (row_coins coins t j) a ∙ ap (λ x. x ⊕ a ⊗ val (row_coins coins t j) a) (mul_one 1 (lit< tt)) ∙ add_comm 1 _

-- elsewhere the mask is the value
off_block : (coins : List ℕ) (t block j a : ℕ) → (j ≡ block → ⊥) → val (row_polynomial coins t block j) a ≡ a ⊗ val (row_coins coins t j) a
unfolding row_polynomial
off_block coins t block j a isnt =
    ap (λ b. val ((if b then 1 else 0) ∷ row_coins coins t j) a) (ne_eqb j block isnt)
    ∙ val_cons 0 (row_coins coins t j) a ∙ ap (λ x. x ⊕ a ⊗ val (row_coins coins t j) a) (zero_mul 1) ∙ zero_add _

-- the masks with 1 added at the block are the query
pub query_from_masks : (coins : List ℕ) (t r block a : ℕ) → block < r
    → set (masks coins t r a) block (get_or (masks coins t r a) block 0 ⊕ 1) ≡ query coins t r block a
query_from_masks coins t r block a lt =
    let xs = masks coins t r a in
    let v = get_or xs block 0 ⊕ 1 in
    let long = length-masks coins t r a in
    ext_get_or 0 (set xs block v) (query coins t r block a) (length-set xs block v ∙ long ∙ sym (length-query coins t r block a)) (λ j below.
    let within : j < r = omega (arith, length-set xs block v) in
    elim (cases_eq j block) [
      | inl e ↦
          ap (λ k. get_or (set xs block v) k 0) e ∙ get_or-set_same xs block v 0 (omega arith)
          ∙ ap (λ k. get_or xs k 0 ⊕ 1) (sym e) ∙ ap (λ x. x ⊕ 1) (masks_at coins t r a j within) ∙ sym (at_block coins t block j a e)
          ∙ sym (query_at coins t r block a j within)
      | inr n ↦
          get_or-set_other xs block j v 0 n ∙ masks_at coins t r a j within ∙ sym (off_block coins t block j a n)
          ∙ sym (query_at coins t r block a j within)
    ])
