-- A look-up among rows that ascend finds the row with the key, or that there is none.
use Rattle.std.proofs.Common.{◌≡◌, ℕ, ◌+◌, ◌-◌, ◌^◌, ◌<◌, ◌≤◌, ◌||◌, suc, Bool, true, false, cond, List, [], ◌∷◌, length, map, take, get_or, Option, Some, None, refl, sym, ap, subst, ◌∙◌, inl, inr, arith}
use Rattle.std.specs.Prelude.{nat_lt, nat_le, fold, is_some}
use Rattle.std.specs.Cmp.Lexicographic.{slice_cmp, nat_list_cmp_total, bytes_decides}
use Rattle.std.specs.declared.cmp.Ordering.{Ordering}
use Rattle.std.specs.declared.cmp.Ordering.TheVariants.{Less, Equal, Greater}
use Rattle.std.specs.List.{find}
use Rattle.std.specs.Option.{option_or}
use Rattle.std.specs.Ordering.{nat_cmp, is_eq, ordering_reverse}
use Rattle.std.proofs.Math.Nat.{one-le-pow, pow-suc, pow-zero}
use Rattle.std.proofs.lemmas.Bool.{cases_order, false_from_ne_true, leb-false, lt-leb, ltb-false, ltb-true}
use Rattle.std.proofs.lemmas.Cmp.{tied_itself}
use Rattle.std.proofs.lemmas.List.{get_or-map, length-map}
use Rattle.std.proofs.lemmas.List.Recursion.{found_at, found_nowhere}
use Rattle.std.proofs.lemmas.Map.Keys.{Less-from_sorted}
use Rattle.std.proofs.lemmas.Option.{slice_get-get_or}
use Rattle.key_search.specs.declared.search.Outcome.{Outcome}
use Rattle.key_search.specs.declared.search.Outcome.TheVariants.{Lost, Found, Absent}
use Rattle.key_search.specs.Standing.{Standing, asked_row, key_order, standing_by, middle_row, standing_after, turns_of}
use Rattle.key_search.specs.Answers.{AreRowsAsked, AreSortedByKey, EndsAs, Finds, IsLookUp, has_key, row_with, start_of}
use Rattle.key_search.proofs.ByAnswers.{fold-turn, has_key-compared}
use Rattle.key_search.proofs.Turns.{rows-lt-turns}

-- ---- rows that ascend by their keys

-- the first bytes of a row, as many as the key has
abbrev key_at : List ℕ → List (List ℕ) → ℕ → List ℕ
key_at key rows i = take (length key) (get_or rows i [])

-- a row that begins with the key has it as its first bytes
key_at-is : (key : List ℕ) (rows : List (List ℕ)) (i : ℕ) → has_key key (get_or rows i []) ≡ true → key_at key rows i ≡ key
key_at-is key rows i h = sym ((bytes_decides key (key_at key rows i)).0 h)

-- the keys of two rows compare as their places do
key_at-less : (key : List ℕ) (rows : List (List ℕ)) (i j : ℕ) → AreSortedByKey key rows → i < j → j < length rows
    → slice_cmp nat_cmp (key_at key rows i) (key_at key rows j) ≡ Less
key_at-less key rows i j sorted lt in_rows =
    let len = length-map rows (take {A = ℕ} (length key)) in
    let less = Less-from_sorted (slice_cmp nat_cmp) (map (take (length key)) rows) i j [] sorted lt (omega (arith, len)) in
    subst (λ (x : List ℕ). slice_cmp nat_cmp x (key_at key rows j) ≡ Less) (get_or-map (take (length key)) rows i [] [] (omega arith))
    (subst (λ (y : List ℕ). slice_cmp nat_cmp (get_or (map (take (length key)) rows) i []) y ≡ Less) (get_or-map (take (length key)) rows j [] [] in_rows) less)

-- a key is equal to itself
key_at-itself : (key : List ℕ) → slice_cmp nat_cmp key key ≡ Equal
key_at-itself key = tied_itself nat_list_cmp_total key

-- no two rows begin with the key
keys-apart : (key : List ℕ) (rows : List (List ℕ)) (i j : ℕ) → AreSortedByKey key rows → i < j → j < length rows
    → has_key key (get_or rows i []) ≡ true → has_key key (get_or rows j []) ≡ true → ⊥
keys-apart key rows i j sorted lt in_rows hi hj =
    let less = key_at-less key rows i j sorted lt in_rows in
    let e1 = key_at-is key rows i hi in
    let e2 = key_at-is key rows j hj in
    let same = key_at-itself key in
    cc

-- where the row at m stands before the key, the row with the key comes after m
key-after : (key : List ℕ) (rows : List (List ℕ)) (m j : ℕ) → AreSortedByKey key rows → m < length rows
    → key_order key (get_or rows m []) ≡ Less → has_key key (get_or rows j []) ≡ true → m < j
key-after key rows m j sorted in_rows before h =
    elim (cases_order m j) [
      | inl same ↦
          let e1 = key_at-is key rows j h in
          let e2 : key_at key rows m ≡ key_at key rows j = ap (key_at key rows) same in
          let itself = key_at-itself key in
          absurd (cc)
      | inr (inl lt) ↦ lt
      | inr (inr gt) ↦
          let less = key_at-less key rows j m sorted gt in_rows in
          let e1 = key_at-is key rows j h in
          let turned : slice_cmp nat_cmp (key_at key rows m) key ≡ ordering_reverse (slice_cmp nat_cmp key (key_at key rows m)) = nat_list_cmp_total.antisymm (key_at key rows m) key in
          let e2 : slice_cmp nat_cmp key (key_at key rows m) ≡ Less = subst (λ (x : List ℕ). slice_cmp nat_cmp x (key_at key rows m) ≡ Less) e1 less in
          let e3 : ordering_reverse (slice_cmp nat_cmp key (key_at key rows m)) ≡ Greater = ap ordering_reverse e2 in
          absurd (cc)
    ]

-- where the row at m stands after the key, the row with the key comes before m
key-before : (key : List ℕ) (rows : List (List ℕ)) (m j : ℕ) → AreSortedByKey key rows → j < length rows
    → key_order key (get_or rows m []) ≡ Greater → has_key key (get_or rows j []) ≡ true → j < m
key-before key rows m j sorted in_rows behind h =
    elim (cases_order m j) [
      | inl same ↦
          let e1 = key_at-is key rows j h in
          let e2 : key_at key rows m ≡ key_at key rows j = ap (key_at key rows) same in
          let itself = key_at-itself key in
          absurd (cc)
      | inr (inl lt) ↦
          let less = key_at-less key rows m j sorted lt in_rows in
          let e1 = key_at-is key rows j h in
          absurd (cc)
      | inr (inr gt) ↦ gt
    ]

-- the row that begins with the key is the one that is found
row_with-at : (key : List ℕ) (rows : List (List ℕ)) (i : ℕ) → AreSortedByKey key rows → i < length rows
    → has_key key (get_or rows i []) ≡ true → row_with key rows ≡ Some (get_or rows i [])
row_with-at key rows i sorted in_rows h =
    found_at (find (has_key key)) (has_key key) Some None refl (λ _ _. refl) rows i [] in_rows
    (λ k lt. false_from_ne_true (has_key key (get_or rows k [])) (λ at_k. keys-apart key rows k i sorted lt in_rows at_k h)) h

-- no row begins with the key
row_with-none : (key : List ℕ) (rows : List (List ℕ)) → ((j : ℕ) → j < length rows → has_key key (get_or rows j []) ≡ true → ⊥)
    → row_with key rows ≡ None
row_with-none key rows none =
    found_nowhere (find (has_key key)) (has_key key) Some None refl (λ _ _. refl) rows []
    (λ k lt. false_from_ne_true (has_key key (get_or rows k [])) (none k lt))

-- ---- what holds in each turn

-- a search among the rows, of which k turns are left: nothing was lost; what was found is the row with the key; and until
-- then the row with the key is among those that are left, which k halvings use up
record Leads (rows : List (List ℕ)) (s : Standing) (k : ℕ) : Type 0 where
  pub sorted : AreSortedByKey s.key rows
  pub some : 1 ≤ length rows
  pub within : s.to ≤ length rows
  pub safe : s.is_lost ≡ false
  pub found : (row : List ℕ) → s.found ≡ Some row → row_with s.key rows ≡ Some row
  pub few : s.found ≡ None → s.to - s.from < 2 ^ k
  pub inside : s.found ≡ None → (j : ℕ) → j < length rows → has_key s.key (get_or rows j []) ≡ true
      → (s.from ≤ j) × (j < s.to)

-- the middle one is asked for while the search goes on
asked-middle : (s : Standing) → s.is_lost ≡ false → s.found ≡ None → s.from < s.to → asked_row s ≡ middle_row s
asked-middle s safe found wide =
    let shut : nat_le s.to s.from ≡ false = lt-leb s.to s.from wide in
    rw (safe, found, shut) refl

-- a row is asked for
asked-lt : (s : Standing) (n : ℕ) → s.to ≤ n → 1 ≤ n → asked_row s < n
asked-lt s n within some = go (s.is_lost || is_some s.found) (nat_le s.to s.from) refl
  where
    go : (b c : Bool) → c ≡ nat_le s.to s.from → cond (b || c) 0 (middle_row s) < n
    go true c e = omega arith
    go false true e = omega arith
    go false false e = let wide = leb-false s.to s.from (sym e) in omega arith

-- where the middle row is less than the key, the rows above it lead to the row with the key
above-leads : (rows : List (List ℕ)) (s : Standing) (k : ℕ) (b : Bool) → nat_lt s.from s.to ≡ b → Leads rows s (suc k)
    → key_order s.key (get_or rows (asked_row s) []) ≡ Less
    → Leads rows (cond b (record s { turn = s.turn + 1; from = middle_row s + 1 }) (record s { turn = s.turn + 1 })) k
above-leads rows s k true e h before =
    let wide = ltb-true s.from s.to e in
    record {
      sorted = h.sorted;
      some = h.some;
      within = h.within;
      safe = h.safe;
      found = h.found;
      few = λ none. let few = h.few none in let twice = pow-suc 2 k in omega arith;
      inside = λ none j lt at_j.
          let is = asked-middle s h.safe none wide in
          let past = key-after s.key rows (asked_row s) j h.sorted (asked-lt s (length rows) h.within h.some) before at_j in
          (omega arith, (h.inside none j lt at_j).1);
    }
above-leads rows s k false e h before =
    let shut = ltb-false s.from s.to e in
    record {
      sorted = h.sorted;
      some = h.some;
      within = h.within;
      safe = h.safe;
      found = h.found;
      few = λ none. let one = one-le-pow k 2 (omega arith) in omega arith;
      inside = h.inside;
    }

-- where it is greater, the rows below it do
below-leads : (rows : List (List ℕ)) (s : Standing) (k : ℕ) (b : Bool) → nat_lt s.from s.to ≡ b → Leads rows s (suc k)
    → key_order s.key (get_or rows (asked_row s) []) ≡ Greater
    → Leads rows (cond b (record s { turn = s.turn + 1; to = middle_row s }) (record s { turn = s.turn + 1 })) k
below-leads rows s k true e h behind =
    let wide = ltb-true s.from s.to e in
    record {
      sorted = h.sorted;
      some = h.some;
      within = let w = h.within in omega arith;
      safe = h.safe;
      found = h.found;
      few = λ none. let few = h.few none in let twice = pow-suc 2 k in omega arith;
      inside = λ none j lt at_j.
          let is = asked-middle s h.safe none wide in
          let past = key-before s.key rows (asked_row s) j h.sorted lt behind at_j in
          ((h.inside none j lt at_j).0, omega arith);
    }
below-leads rows s k false e h behind =
    let shut = ltb-false s.from s.to e in
    record {
      sorted = h.sorted;
      some = h.some;
      within = h.within;
      safe = h.safe;
      found = h.found;
      few = λ none. let one = one-le-pow k 2 (omega arith) in omega arith;
      inside = h.inside;
    }

-- the row that is found, where it was found before or is now
kept-found : (found : Option (List ℕ)) (new row : List ℕ) (goal : Option (List ℕ)) → option_or found (Some new) ≡ Some row
    → ((x : List ℕ) → found ≡ Some x → goal ≡ Some x) → goal ≡ Some new → goal ≡ Some row
kept-found None new row goal e old is = is ∙ e
kept-found (Some x) new row goal e old is = old x refl ∙ e

-- a row that is kept is some row
kept-some : (found : Option (List ℕ)) (new : List ℕ) → option_or found (Some new) ≡ None → ⊥
kept-some None new e = cc e
kept-some (Some x) new e = cc e

-- what the middle row makes of a search leads there
met-leads : (rows : List (List ℕ)) (s : Standing) (k : ℕ) (o : Ordering) → key_order s.key (get_or rows (asked_row s) []) ≡ o
    → Leads rows s (suc k) → Leads rows (standing_by o (get_or rows (asked_row s) []) (record s { turn = s.turn + 1 })) k
met-leads rows s k Less e h = above-leads rows s k (nat_lt s.from s.to) refl h e
met-leads rows s k Greater e h = below-leads rows s k (nat_lt s.from s.to) refl h e
met-leads rows s k Equal e h =
    let row = get_or rows (asked_row s) [] in
    let has : has_key s.key row ≡ true = has_key-compared s.key row ∙ ap is_eq e in
    let is = row_with-at s.key rows (asked_row s) h.sorted (asked-lt s (length rows) h.within h.some) has in
    record {
      sorted = h.sorted;
      some = h.some;
      within = h.within;
      safe = h.safe;
      found = λ x was. kept-found s.found row x (row_with s.key rows) was h.found is;
      few = λ none. absurd (kept-some s.found row none);
      inside = λ none. absurd (kept-some s.found row none);
    }

-- so does to be told the row that was asked for
told-leads : (rows : List (List ℕ)) (s : Standing) (k : ℕ) → Leads rows s (suc k)
    → Leads rows (standing_after s (Some (get_or rows (asked_row s) []))) k
told-leads rows s k h = met-leads rows s k (key_order s.key (get_or rows (asked_row s) [])) refl h

-- rows that were asked for, in all turns
fold-leads : (answers : List (Option (List ℕ))) (rows : List (List ℕ)) (s : Standing) → Leads rows s (length answers)
    → AreRowsAsked rows s answers → Leads rows (fold standing_after s answers) 0
fold-leads [] rows s h asked_for = h
fold-leads (answer ∷ answers) rows s h asked_for =
    let there = slice_get-get_or rows (asked_row s) [] (asked-lt s (length rows) h.within h.some) in
    let is : answer ≡ Some (get_or rows (asked_row s) []) = asked_for.0 ∙ there in
    let next = subst (λ (a : Option (List ℕ)). Leads rows (standing_after s a) (length answers)) (sym is) (told-leads rows s (length answers) h) in
    fold-leads answers rows (standing_after s answer) next asked_for.1

-- at its start a search leads to the row with the key
start-leads : (rows : List (List ℕ)) (s : Standing) → 1 ≤ s.rows → s.rows < 2 ^ 32 → length rows ≡ s.rows → AreSortedByKey s.key rows
    → Leads rows (start_of s) (turns_of s.rows)
start-leads rows s some few all sorted = record {
  sorted = sorted;
  some = omega arith;
  within = omega arith;
  safe = refl;
  found = λ row was. cc was;
  few = λ none. let turns = rows-lt-turns s.rows few in omega arith;
  inside = λ none j lt at_j. (omega arith, omega arith);
}

-- after all turns none of the rows is left that may still have the key
none-led : (s : Standing) (rows : List (List ℕ)) → Leads rows s 0 → s.found ≡ None → row_with s.key rows ≡ None
none-led s rows h none =
    row_with-none s.key rows (λ j lt at_j.
    let left = h.inside none j lt at_j in
    let few = h.few none in
    let one = pow-zero 2 in
    omega arith)

-- after all turns it has found that row, or there is none
found-led : (s : Standing) (rows : List (List ℕ)) (found : Option (List ℕ)) → s.found ≡ found → Leads rows s 0
    → found ≡ row_with s.key rows
found-led s rows None is h = sym (none-led s rows h is)
found-led s rows (Some row) is h = sym (h.found row is)

-- after all turns
ends : (s : Standing) (rows : List (List ℕ)) (o : Outcome) → Leads rows s 0 → EndsAs s o → Finds s.key rows o
ends s rows Lost h lost = absurd (cc (sym lost ∙ h.safe))
ends s rows (Found row) h is = h.found row.now is.1
ends s rows Absent h is = none-led s rows h is.1

-- a look-up of rows that were asked for, in all turns, as it stands then
led : (s : Standing) (rows : List (List ℕ)) (answers : List (Option (List ℕ)))
    → 1 ≤ s.rows → s.rows < 2 ^ 32 → s.turn ≡ turns_of s.rows → IsLookUp rows s answers → Leads rows s 0
led s rows answers some few turn h =
    let count : length answers ≡ turns_of s.rows = omega (arith, ap (λ (t : Standing). t.turn) h.told_so, fold-turn answers (start_of s), turn) in
    let begun = start-leads rows s some few h.all h.sorted in
    let led = fold-leads answers rows (start_of s) (subst (λ (k : ℕ). Leads rows (start_of s) k) (sym count) begun) h.asked_for in
    subst (λ (t : Standing). Leads rows t 0) (sym h.told_so) led

-- a look-up finds the row with the key, or that there is none
pub Finds-from : (s : Standing) (rows : List (List ℕ)) (answers : List (Option (List ℕ))) (o : Outcome)
    → 1 ≤ s.rows → s.rows < 2 ^ 32 → s.turn ≡ turns_of s.rows → EndsAs s o → IsLookUp rows s answers → Finds s.key rows o
Finds-from s rows answers o some few turn is h = ends s rows o (led s rows answers some few turn h) is

-- so nothing was lost, and what it found is the row with the key, where there is one
pub found-from : (s : Standing) (rows : List (List ℕ)) (answers : List (Option (List ℕ)))
    → 1 ≤ s.rows → s.rows < 2 ^ 32 → s.turn ≡ turns_of s.rows → IsLookUp rows s answers
    → (s.is_lost ≡ false) × (s.found ≡ row_with s.key rows)
found-from s rows answers some few turn h =
    let led = led s rows answers some few turn h in
    (led.safe, found-led s rows s.found refl led)
