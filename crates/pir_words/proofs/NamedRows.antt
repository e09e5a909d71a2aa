-- Rows that texts name, one more after the other.
use Rattle.std.proofs.Common.{◌≡◌, ℕ, suc, zero, ◌<◌, ◌≤◌, List, [], ◌∷◌, ◌++◌, length, take, get_or, Option, Some, None, refl, sym, ap, ◌∙◌, arith}
use Rattle.std.specs.Prelude.{option_map}
use Rattle.std.proofs.Math.Seq.{take-suc}
use Rattle.std.proofs.lemmas.List.{take_all}
use Rattle.clap.specs.Words.{Text}
use Rattle.pir_words.specs.Chain.{◌>>=◌}
use Rattle.pir_words.specs.Ranges.{row_named}
use Rattle.pir_words.specs.FetchForm.{rows_behind, rows_named}
use Rattle.pir_words.proofs.Chains.{some_is}

-- one more text names one more row
more_rows : (rows : ℕ) (texts : List Text) (text : Text) (named : List ℕ) (row : ℕ) → rows_named rows texts ≡ Some named → row_named rows text ≡ Some row
    → rows_named rows (texts ++ text ∷ []) ≡ Some (named ++ row ∷ [])
unfolding rows_named
more_rows rows [] text named row e one =
    ap (λ (o : Option ℕ). o >>= (λ a. Some (a ∷ []))) one ∙ ap (λ (xs : List ℕ). Some (xs ++ row ∷ [])) (some_is [] named e)
more_rows rows (first ∷ texts) text named row e one = by_first (row_named rows first) (rows_named rows texts) (rows_named rows (texts ++ text ∷ [])) (λ others k. more_rows rows texts text others row k one) e
  where
    -- whichever the first is
    by_first : (f : Option ℕ) (o p : Option (List ℕ)) → ((others : List ℕ) → o ≡ Some others → p ≡ Some (others ++ row ∷ []))
        → (f >>= (λ a. o >>= (λ others. Some (a ∷ others)))) ≡ Some named → (f >>= (λ a. p >>= (λ others. Some (a ∷ others)))) ≡ Some (named ++ row ∷ [])
    by_first None o p more h = cc
    by_first (Some a) None p more h = cc
    by_first (Some a) (Some others) p more h =
        ap (λ (q : Option (List ℕ)). q >>= (λ xs. Some (a ∷ xs))) (more others refl) ∙ ap (λ (x : Option (List ℕ)). x >>= (λ xs. Some (xs ++ row ∷ []))) h

-- where one text names none, they name none
pub no_rows : (rows : ℕ) (texts : List Text) (i : ℕ) → i < length texts → row_named rows (get_or texts i []) ≡ None → rows_named rows texts ≡ None
unfolding rows_named
no_rows rows [] i l e = absurd (omega arith)
no_rows rows (text ∷ texts) zero l e = ap (λ (o : Option ℕ). o >>= (λ row. rows_named rows texts >>= (λ others. Some (row ∷ others)))) e
no_rows rows (text ∷ texts) (suc i) l e =
    by_first (row_named rows text) (rows_named rows texts) (no_rows rows texts i (omega (arith, l)) e)
  where
    -- whichever the first is
    by_first : (f : Option ℕ) (o : Option (List ℕ)) → o ≡ None → (f >>= (λ a. o >>= (λ others. Some (a ∷ others)))) ≡ None
    by_first None o none = refl
    by_first (Some a) o none = ap (λ (x : Option (List ℕ)). x >>= (λ others. Some (a ∷ others))) none

-- rows behind a first, of the first i texts
pub record AreSoFar (rows first : ℕ) (texts : List Text) (i : ℕ) (blocks : List ℕ) : Type 0 where
  pub more : List ℕ
  pub blocks_are : blocks ≡ first ∷ more
  pub named : rows_named rows (take i texts) ≡ Some more

-- and of one more
pub one_more : (rows first : ℕ) (texts : List Text) (i j row : ℕ) (blocks : List ℕ) → AreSoFar rows first texts i blocks → i < length texts → j ≡ suc i
    → row_named rows (get_or texts i []) ≡ Some row → AreSoFar rows first texts j (blocks ++ row ∷ [])
one_more rows first texts i j row blocks so_far l next is = record {
  more = so_far.more ++ row ∷ [];
  blocks_are = ap (λ (xs : List ℕ). xs ++ row ∷ []) so_far.blocks_are;
  named = ap (rows_named rows) (ap (λ (k : ℕ). take k texts) next ∙ take-suc texts i [] l) ∙ more_rows rows (take i texts) (get_or texts i []) so_far.more row so_far.named is;
}

-- the rows of all texts, behind the first
pub all_rows : (rows first : ℕ) (texts : List Text) (i : ℕ) (blocks : List ℕ) → AreSoFar rows first texts i blocks → length texts ≤ i
    → Some blocks ≡ rows_behind first rows texts
unfolding rows_behind
all_rows rows first texts i blocks so_far whole =
    ap Some so_far.blocks_are
    ∙ sym (ap (option_map (λ others. first ∷ others)) (ap (rows_named rows) (sym (take_all i texts whole)) ∙ so_far.named))

-- none where a text names none
pub none_read : (rows first : ℕ) (texts : List Text) (i : ℕ) → i < length texts → None ≡ row_named rows (get_or texts i [])
    → None ≡ rows_behind first rows texts
unfolding rows_behind
none_read rows first texts i l none = sym (ap (option_map (λ others. first ∷ others)) (no_rows rows texts i l (sym none)))

-- no text yet
pub none_yet : (rows first : ℕ) (texts : List Text) (blocks : List ℕ) → blocks ≡ first ∷ [] → AreSoFar rows first texts 0 blocks
unfolding rows_named
none_yet rows first texts blocks is = record { more = []; blocks_are = is; named = refl }
