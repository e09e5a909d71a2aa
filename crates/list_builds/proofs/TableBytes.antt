-- A table that is given row by row.
use Rattle.std.proofs.Common.{◌≡◌, ◌∙◌, ℕ, ◌+◌, ◌<◌, List, [], ◌∷◌, ◌++◌, append_assoc, take, drop, map, refl, sym, ap, subst, arith}
use Rattle.std.specs.List.{concat, range_with_len}
use Rattle.std.proofs.lemmas.List.{append-nil, take-append-drop}
use Rattle.std.proofs.lemmas.List.Folds.{concat-append}
use Rattle.std.proofs.lemmas.List.FromFn.{map-range_with_len_more, take-map-range_with_len}
use Rattle.port_trait.specs.World.{World}
use Rattle.port_trait.specs.Moves.{gave}
use Rattle.port_trait.specs.Whole.{FailsWithin}
use Rattle.port_trait.proofs.Cells.{gave-gave}
use Rattle.port_trait.proofs.Pieces.{gave_none, written_cut}
use Rattle.list_builds.specs.TableBytes.{first_rows}

-- the bytes of no row
pub no_rows : (row : ℕ → List ℕ) → concat (first_rows row 0) ≡ []
unfolding first_rows
no_rows row = refl

-- the bytes of one row more
pub rows_next : (row : ℕ → List ℕ) (n : ℕ) → concat (first_rows row (n + 1)) ≡ concat (first_rows row n) ++ row n
unfolding first_rows
rows_next row n =
    ap concat (map-range_with_len_more row 0 n n (let e : 0 + n ≡ n = omega arith in e)) ∙ concat-append (map row (range_with_len 0 n)) (row n ∷ [])
    ∙ ap (λ bytes. concat (map row (range_with_len 0 n)) ++ bytes) (append-nil (row n))

-- the bytes of all rows are those of the first, of the next, and of the others
pub rows_split : (row : ℕ → List ℕ) (n all : ℕ) → n < all
    → (rest : List ℕ) × (concat (first_rows row n) ++ (row n ++ rest) ≡ concat (first_rows row all))
unfolding first_rows
rows_split row n all lt =
    let xs = map row (range_with_len 0 all) in
    let rest = concat (drop (n + 1) xs) in
    let first : concat (take (n + 1) xs) ≡ concat (map row (range_with_len 0 n)) ++ row n
    = ap concat (take-map-range_with_len row 0 all (n + 1) (omega (arith, lt))) ∙ rows_next row n in (
      rest,
      sym (append_assoc (concat (map row (range_with_len 0 n))) (row n) rest)
          ∙ ap (λ bytes. bytes ++ rest) (sym first)
          ∙ sym (concat-append (take (n + 1) xs) (drop (n + 1) xs))
          ∙ ap concat (take-append-drop (n + 1) xs),
    )

-- no row was given
pub no_row_given : (row : ℕ → List ℕ) (p : ℕ) (w : World) → w.at p ≡ gave (concat (first_rows row 0)) (w.at p)
no_row_given row p w = sym (gave_none (w.at p)) ∙ ap (λ bytes. gave bytes (w.at p)) (sym (no_rows row))

-- the first n rows were given, and then the next one, or a part of it
module _ (row : ℕ → List ℕ) (p n all : ℕ) (w v u : World) (so_far : v.at p ≡ gave (concat (first_rows row n)) (w.at p)) where
  -- it was given whole
  pub row_given : u.at p ≡ gave (row n) (v.at p) → u.at p ≡ gave (concat (first_rows row (n + 1))) (w.at p)
  row_given is =
      is ∙ ap (gave (row n)) so_far ∙ gave-gave (concat (first_rows row n)) (row n) (w.at p)
      ∙ ap (λ bytes. gave bytes (w.at p)) (sym (rows_next row n))

  -- it was cut short, and so the table was
  pub row_cut : n < all → FailsWithin p (row n) v u → FailsWithin p (concat (first_rows row all)) w u
  row_cut lt cut =
      let split = rows_split row n all lt in
      subst (λ bytes. FailsWithin p bytes w u) split.1 (written_cut p (concat (first_rows row n)) (row n) split.0 w v u so_far cut)
