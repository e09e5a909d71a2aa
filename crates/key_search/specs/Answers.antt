-- What a search comes to, by the rows that it was told.
use Rattle.std.specs.Prelude.{◌≡◌, ℕ, Bool, true, false, List, [], ◌∷◌, ◌++◌, length, map, take, nat_eq, Option, Some, None, is_none, slice_get, ⊤, fold}
use Rattle.std.specs.Cmp.Lexicographic.{slice_cmp}
use Rattle.std.specs.List.{find, filter_map, list_any, starts_with}
use Rattle.std.specs.List.Sorted.{IsStrictlySortedBy}
use Rattle.std.specs.Ordering.{nat_cmp}
use Rattle.key_search.specs.declared.search.Outcome.{Outcome}
use Rattle.key_search.specs.declared.search.Outcome.TheVariants.{Lost, Found, Absent}
use Rattle.key_search.specs.Standing.{Standing, asked_row, standing_at_start, standing_after}

-- how a search ends by how it stands
abbrev pub EndsAs : Standing → Outcome → Type 0
EndsAs s Lost = s.is_lost ≡ true
EndsAs s (Found row) = (s.is_lost ≡ false) × (s.found ≡ Some row.now)
EndsAs s Absent = (s.is_lost ≡ false) × (s.found ≡ None)

-- whether a row begins with the key
abbrev pub has_key : List ℕ → List ℕ → Bool
has_key key row = starts_with nat_eq row key

-- the first of the rows that begins with the key: where the rows ascend by their keys, the only one
abbrev pub row_with : List ℕ → List (List ℕ) → Option (List ℕ)
row_with key rows = find (has_key key) rows

-- the rows that were told, without those that were lost
abbrev pub rows_told : List (Option (List ℕ)) → List (List ℕ)
rows_told answers = filter_map (λ answer. answer) answers

-- how a search ends by what it was told
abbrev pub EndsBy : List ℕ → List (Option (List ℕ)) → Outcome → Type 0
EndsBy key answers Lost = list_any is_none answers ≡ true
EndsBy key answers (Found row) = (list_any is_none answers ≡ false) × (row_with key (rows_told answers) ≡ Some row.now)
EndsBy key answers Absent = (list_any is_none answers ≡ false) × (row_with key (rows_told answers) ≡ None)

-- a search finds the row with the key among all rows, or that there is none
abbrev pub Finds : List ℕ → List (List ℕ) → Outcome → Type 0
Finds key rows Lost = ⊥
Finds key rows (Found row) = row_with key rows ≡ Some row.now
Finds key rows Absent = row_with key rows ≡ None

-- a search as it was made
abbrev pub start_of : Standing → Standing
start_of s = standing_at_start s.rows s.width s.key

-- this is what a search was told, from its start on
abbrev pub WasTold : Standing → List (Option (List ℕ)) → Type 0
WasTold s answers = s ≡ fold standing_after (start_of s) answers

-- the rows strictly ascend by their first bytes, as many as the key has
abbrev pub AreSortedByKey : List ℕ → List (List ℕ) → Type 0
AreSortedByKey key rows = IsStrictlySortedBy (slice_cmp nat_cmp) (map (take (length key)) rows)

-- each answer is the row that the search asks for then
abbrev pub AreRowsAsked : List (List ℕ) → Standing → List (Option (List ℕ)) → Type 0
AreRowsAsked rows s [] = ⊤
AreRowsAsked rows s (answer ∷ answers) =
    (answer ≡ slice_get rows (asked_row s)) × AreRowsAsked rows (standing_after s answer) answers

-- the rows that a search was told are those that it asked for, of rows that ascend
pub record IsLookUp (rows : List (List ℕ)) (s : Standing) (answers : List (Option (List ℕ))) : Type 0 where
  pub told_so : WasTold s answers
  pub all : length rows ≡ s.rows
  pub sorted : AreSortedByKey s.key rows
  pub asked_for : AreRowsAsked rows (start_of s) answers

-- a look-up begins among any rows, as many, that ascend by their keys
abbrev pub BeginsLookUp : ℕ → List ℕ → Standing → Type 0
BeginsLookUp count key s = (rows : List (List ℕ)) → length rows ≡ count → AreSortedByKey key rows → IsLookUp rows s []

-- what a search was told so far has one more answer at its end
abbrev pub IsToldMore : Standing → Option (List ℕ) → Standing → Type 0
IsToldMore old answer new = (answers : List (Option (List ℕ))) → WasTold old answers → WasTold new (answers ++ answer ∷ [])

-- so it has in a look-up, where the answer is the row that was asked for
abbrev pub LooksUpMore : Standing → Option (List ℕ) → Standing → Type 0
LooksUpMore old answer new = (rows : List (List ℕ)) (answers : List (Option (List ℕ))) → IsLookUp rows old answers
    → answer ≡ slice_get rows (asked_row old) → IsLookUp rows new (answers ++ answer ∷ [])

-- a search ends by what it was told alone, whatever that was
abbrev pub EndsByAnswers : Standing → Outcome → Type 0
EndsByAnswers s outcome = (answers : List (Option (List ℕ))) → WasTold s answers → EndsBy s.key answers outcome

-- a look-up finds the row with the key among its rows, or that there is none
abbrev pub FindsAmongRows : Standing → Outcome → Type 0
FindsAmongRows s outcome = (rows : List (List ℕ)) (answers : List (Option (List ℕ))) → IsLookUp rows s answers
    → Finds s.key rows outcome
