-- What a search comes to, by the rows that it was told, whatever they are.
use Rattle.std.proofs.Common.{◌≡◌, ℕ, ◌+◌, ◌||◌, Bool, true, false, cond, List, [], ◌∷◌, ◌++◌, length, take, Option, Some, None, refl, sym, ap, ap₂, subst, ◌∙◌, arith}
use Rattle.std.specs.Prelude.{nat_lt, fold, is_none, slice_get}
use Rattle.std.specs.Cmp.Lexicographic.{texts_ties, nat_list_eq_equiv}
use Rattle.std.specs.declared.cmp.Ordering.{Ordering}
use Rattle.std.specs.declared.cmp.Ordering.TheVariants.{Less, Equal, Greater}
use Rattle.std.specs.List.{list_any}
use Rattle.std.proofs.lemmas.List.Sums.{fold-append}
use Rattle.std.specs.Option.{option_or}
use Rattle.std.specs.Ordering.{is_eq}
use Rattle.key_search.specs.declared.search.Outcome.{Outcome}
use Rattle.key_search.specs.declared.search.Outcome.TheVariants.{Lost, Found, Absent}
use Rattle.key_search.specs.Standing.{IsNextTurn, Standing, asked_row, key_order, middle_row, standing_after, standing_at_start, standing_by}
use Rattle.key_search.specs.Answers.{AreRowsAsked, AreSortedByKey, EndsAs, EndsBy, IsLookUp, WasTold, has_key, row_with, rows_told, start_of}

-- a row begins with the key where it compares as equal
pub has_key-compared : (key row : List ℕ) → has_key key row ≡ is_eq (key_order key row)
has_key-compared key row =
    nat_list_eq_equiv.symm key (take (length key) row) ∙ texts_ties (take (length key) row) key

-- what no row changes
pub record Passes (s t : Standing) : Type 0 where
  pub rows : t.rows ≡ s.rows
  pub width : t.width ≡ s.width
  pub key : t.key ≡ s.key
  pub turn : t.turn ≡ s.turn
  pub is_lost : t.is_lost ≡ s.is_lost

-- to leave the rows above the middle one is a step of a search
above-passes : (b : Bool) (s : Standing) → Passes s (cond b (record s { from = middle_row s + 1 }) s)
above-passes true s = record { rows = refl; width = refl; key = refl; turn = refl; is_lost = refl }
above-passes false s = record { rows = refl; width = refl; key = refl; turn = refl; is_lost = refl }

-- so is to leave those below it
below-passes : (b : Bool) (s : Standing) → Passes s (cond b (record s { to = middle_row s }) s)
below-passes true s = record { rows = refl; width = refl; key = refl; turn = refl; is_lost = refl }
below-passes false s = record { rows = refl; width = refl; key = refl; turn = refl; is_lost = refl }

-- so is what a row makes of a search
met-passes : (o : Ordering) (row : List ℕ) (s : Standing) → Passes s (standing_by o row s)
met-passes Less row s = above-passes (nat_lt s.from s.to) s
met-passes Equal row s = record { rows = refl; width = refl; key = refl; turn = refl; is_lost = refl }
met-passes Greater row s = below-passes (nat_lt s.from s.to) s

-- nothing more is found
or_none : (found : Option (List ℕ)) → found ≡ option_or found None
or_none None = refl
or_none (Some row) = refl

-- to leave the rows above the middle one keeps the row that was found
above-found : (b : Bool) (s : Standing) → (cond b (record s { from = middle_row s + 1 }) s).found ≡ s.found
above-found true s = refl
above-found false s = refl

-- so does to leave those below it
below-found : (b : Bool) (s : Standing) → (cond b (record s { to = middle_row s }) s).found ≡ s.found
below-found true s = refl
below-found false s = refl

-- what a row makes of the row that was found
met-found : (o : Ordering) (row : List ℕ) (s : Standing)
    → (standing_by o row s).found ≡ option_or s.found (cond (is_eq o) (Some row) None)
met-found Less row s = above-found (nat_lt s.from s.to) s ∙ or_none s.found
met-found Equal row s = refl
met-found Greater row s = below-found (nat_lt s.from s.to) s ∙ or_none s.found

-- what is found after a row is what was found before, or the row where it begins with the key
told-found : (s : Standing) (row : List ℕ)
    → (standing_after s (Some row)).found ≡ option_or s.found (cond (has_key s.key row) (Some row) None)
told-found s row =
    met-found (key_order s.key row) row (record s { turn = s.turn + 1 })
    ∙ ap (λ (b : Bool). option_or s.found (cond b (Some row) None)) (sym (has_key-compared s.key row))

-- to be told a row is a step of a search
told-passes : (s : Standing) (row : List ℕ) → Passes (record s { turn = s.turn + 1 }) (standing_after s (Some row))
told-passes s row = met-passes (key_order s.key row) row (record s { turn = s.turn + 1 })

-- the first of three that is there
or_or : (found : Option (List ℕ)) (b : Bool) (row : List ℕ) (rest : Option (List ℕ))
    → option_or (option_or found (cond b (Some row) None)) rest ≡ option_or found (cond b (Some row) rest)
or_or None true row rest = refl
or_or None false row rest = refl
or_or (Some first) b row rest = refl

-- the row that was found after some answers
fold-found : (answers : List (Option (List ℕ))) (s : Standing)
    → (fold standing_after s answers).found ≡ option_or s.found (row_with s.key (rows_told answers))
fold-found [] s = or_none s.found
fold-found (None ∷ answers) s = fold-found answers (standing_after s None)
fold-found (Some row ∷ answers) s =
    fold-found answers (standing_after s (Some row))
    ∙ ap₂ (λ (found : Option (List ℕ)) (key : List ℕ). option_or found (row_with key (rows_told answers))) (told-found s row) (told-passes s row).key
    ∙ or_or s.found (has_key s.key row) row (row_with s.key (rows_told answers))

-- a test, or one that holds
or_true : (b c : Bool) → true ≡ (b || (true || c))
or_true true c = refl
or_true false c = refl

-- a test, or one that fails
or_false : (b : Bool) → b ≡ (b || false)
or_false true = refl
or_false false = refl

-- whether a row was lost after some answers
fold-lost : (answers : List (Option (List ℕ))) (s : Standing)
    → (fold standing_after s answers).is_lost ≡ (s.is_lost || list_any is_none answers)
fold-lost [] s = or_false s.is_lost
fold-lost (None ∷ answers) s = fold-lost answers (standing_after s None) ∙ or_true s.is_lost (list_any is_none answers)
fold-lost (Some row ∷ answers) s =
    fold-lost answers (standing_after s (Some row))
    ∙ ap (λ (b : Bool). b || list_any is_none answers) (told-passes s row).is_lost

-- a turn for each answer
pub fold-turn : (answers : List (Option (List ℕ))) (s : Standing)
    → (fold standing_after s answers).turn ≡ s.turn + length answers
fold-turn [] s = omega arith
fold-turn (None ∷ answers) s = omega (arith, fold-turn answers (standing_after s None))
fold-turn (Some row ∷ answers) s =
    omega (arith, fold-turn answers (standing_after s (Some row)), (told-passes s row).turn)

-- what was found is the first row told that begins with the key
pub found-told : (s : Standing) (answers : List (Option (List ℕ))) → WasTold s answers
    → s.found ≡ row_with s.key (rows_told answers)
found-told s answers h = ap (λ (t : Standing). t.found) h ∙ fold-found answers (start_of s)

-- a row was lost where one was told to be
pub lost-told : (s : Standing) (answers : List (Option (List ℕ))) → WasTold s answers
    → s.is_lost ≡ list_any is_none answers
lost-told s answers h = ap (λ (t : Standing). t.is_lost) h ∙ fold-lost answers (start_of s)

-- no answer changes what a search looks for, and each takes a turn
next-turn : (s : Standing) (answer : Option (List ℕ)) → IsNextTurn s (standing_after s answer)
next-turn s None = record { rows = refl; width = refl; key = refl; turn = refl }
next-turn s (Some row) =
    let same = told-passes s row in record { rows = same.rows; width = same.width; key = same.key; turn = same.turn }

-- one answer is one turn
pub IsNextTurn-from : (s t : Standing) (answer : Option (List ℕ)) → t ≡ standing_after s answer → IsNextTurn s t
IsNextTurn-from s t answer is = subst (λ (u : Standing). IsNextTurn s u) (sym is) (next-turn s answer)

-- an answer keeps the start of a search
start_of-after : (s : Standing) (answer : Option (List ℕ)) → start_of (standing_after s answer) ≡ start_of s
start_of-after s answer =
    let same = next-turn s answer in
    ap (λ (rows : ℕ). standing_at_start rows (standing_after s answer).width (standing_after s answer).key) same.rows
    ∙ ap₂ (λ (width : ℕ) (key : List ℕ). standing_at_start s.rows width key) same.width same.key

-- the search after one more answer, from its start on
WasTold-more : (s : Standing) (answers : List (Option (List ℕ))) (answer : Option (List ℕ)) → WasTold s answers
    → WasTold (standing_after s answer) (answers ++ answer ∷ [])
WasTold-more s answers answer h =
    ap (λ (t : Standing). standing_after t answer) h
    ∙ sym (fold-append standing_after (start_of s) answers (answer ∷ []))
    ∙ ap (λ (t : Standing). fold standing_after t (answers ++ answer ∷ [])) (sym (start_of-after s answer))

-- what was told has one more answer at its end
pub WasTold-from : (s t : Standing) (answers : List (Option (List ℕ))) (answer : Option (List ℕ)) → t ≡ standing_after s answer → WasTold s answers
    → WasTold t (answers ++ answer ∷ [])
WasTold-from s t answers answer is h = subst (λ (u : Standing). WasTold u (answers ++ answer ∷ [])) (sym is) (WasTold-more s answers answer h)

-- one more of the rows that are asked for
AreRowsAsked-more : (rows : List (List ℕ)) (answers : List (Option (List ℕ))) (s : Standing) (answer : Option (List ℕ))
    → AreRowsAsked rows s answers → answer ≡ slice_get rows (asked_row (fold standing_after s answers))
    → AreRowsAsked rows s (answers ++ answer ∷ [])
AreRowsAsked-more rows [] s answer h is = (is, tt)
AreRowsAsked-more rows (first ∷ answers) s answer h is =
    (h.0, AreRowsAsked-more rows answers (standing_after s first) answer h.1 is)

-- a look-up goes on by the row that is asked for
pub IsLookUp-more : (rows : List (List ℕ)) (s t : Standing) (answers : List (Option (List ℕ))) (answer : Option (List ℕ))
    → t ≡ standing_after s answer → IsLookUp rows s answers → answer ≡ slice_get rows (asked_row s)
    → IsLookUp rows t (answers ++ answer ∷ [])
IsLookUp-more rows s t answers answer next h is =
    subst (λ (u : Standing). IsLookUp rows u (answers ++ answer ∷ [])) (sym next) (record {
      told_so = WasTold-more s answers answer h.told_so;
      all = h.all ∙ sym (next-turn s answer).rows;
      sorted = subst (λ (key : List ℕ). AreSortedByKey key rows) (sym (next-turn s answer).key) h.sorted;
      asked_for =
          subst (λ (u : Standing). AreRowsAsked rows u (answers ++ answer ∷ [])) (sym (start_of-after s answer))
          (AreRowsAsked-more rows answers (start_of s) answer h.asked_for (is ∙ ap (λ (u : Standing). slice_get rows (asked_row u)) h.told_so));
    })

-- a search ends by what it was told
pub EndsBy-from : (s : Standing) (answers : List (Option (List ℕ))) (o : Outcome) → EndsAs s o → WasTold s answers
    → EndsBy s.key answers o
EndsBy-from s answers Lost ends h = sym (lost-told s answers h) ∙ ends
EndsBy-from s answers (Found row) ends h =
    (sym (lost-told s answers h) ∙ ends.0, sym (found-told s answers h) ∙ ends.1)
EndsBy-from s answers Absent ends h =
    (sym (lost-told s answers h) ∙ ends.0, sym (found-told s answers h) ∙ ends.1)
