-- The columns of a tile: what the rows of differences give is what the factors give by the rows themselves.
use Rattle.std.proofs.Common.{◌≡◌, ℕ, ◌+◌, ◌<◌, ◌≤◌, List, [], length, get_or, sym, ap, ap₂, subst, ◌∙◌, arith}
use Rattle.gf256.specs.Field.{◌⊕◌, ◌⊗◌}
use Rattle.gf256.proofs.Sums.{sum_to-same}
use Rattle.column_runs.specs.Lagrange.{extended}
use Rattle.column_runs.specs.Tile.{cell, with_differences, tile, Agree, AreDifferences, Follow, IsTile}

module _ (rows : List (List ℕ)) (from : ℕ) (first : List ℕ) (ds : List (List ℕ))
    (are : AreDifferences ds rows from first)
    (begin : (c : ℕ) → c < length first → get_or first c 0 ≡ cell rows (from + c) 0) where
  -- the one and the other
  pub by_differences : (factors : List ℕ) (c : ℕ) → length factors ≡ length ds → c < length first
      → with_differences factors ds (get_or first c 0) c ≡ extended factors (cell rows (from + c))
  unfolding with_differences extended
  by_differences factors c size l =
      let values = cell rows (from + c) in
      ap₂ ◌⊕◌ (begin c l)
      (sum_to-same (λ i. get_or factors i 0 ⊗ cell ds c i) (λ i. get_or factors i 0 ⊗ (values (i + 1) ⊕ values 0)) (length factors)
      (λ i m. ap (λ d. get_or factors i 0 ⊗ d) (are i c (omega (arith, m, size)) l ∙ ap (λ x. values (i + 1) ⊕ x) (begin c l))))

  module _ (others : List (List ℕ)) (sizes : (k : ℕ) → k < length others → length (get_or others k []) ≡ length ds) where
    -- where the rows agree in a place of the tile, they do in its column
    pub follow : (c : ℕ) → c < length first → Agree rows (tile from first ds) others c (length others) → Follow rows (length ds) others (from + c)
    follow c l agree = λ k m. agree k m ∙ by_differences (get_or others k []) c (sizes k m) l

    -- and the other way round
    agree_from_follow : (c : ℕ) → c < length first → Follow rows (length ds) others (from + c) → Agree rows (tile from first ds) others c (length others)
    agree_from_follow c l follows = λ k m. follows k m ∙ sym (by_differences (get_or others k []) c (sizes k m) l)

    pub is_tile : (zero bytes : List ℕ) (n : ℕ) → length zero ≡ length ds → length bytes ≡ length first → n ≤ length first
        → ((c : ℕ) → c < n → Agree rows (tile from first ds) others c (length others))
        → (n < length first → ¬ Agree rows (tile from first ds) others n (length others))
        → ((c : ℕ) → c < n → get_or bytes c 0 ≡ with_differences zero ds (get_or first c 0) c)
        → IsTile rows from others zero bytes n
    is_tile zero bytes n size same within agree differ made = record {
      within = omega (arith, within, same);
      follow = λ c l. subst (λ t. Follow rows t others (from + c)) (sym size) (follow c (omega (arith, l, within)) (agree c l));
      constants = λ c l. made c l ∙ by_differences zero c size (omega (arith, l, within));
      longest = λ l follows.
          differ (omega (arith, l, same))
          (agree_from_follow n (omega (arith, l, same)) (subst (λ t. Follow rows t others (from + n)) size follows));
    }
