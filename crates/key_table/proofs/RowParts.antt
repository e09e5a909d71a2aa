-- The entries of a row are a part of the sorted entries, and each row has room for its own.
use Rattle.std.proofs.Common.{◌≡◌, ◌==◌, ℕ, ◌+◌, ◌-◌, ◌*◌, ◌<◌, ◌≤◌, Bool, true, false, cond, List, [], ◌∷◌, ◌++◌, length, take, drop, get_or, All, refl, sym, ap, ap₂, ◌∙◌, arith, inl, inr, ne_eqb, eq-eqb, mul-le-mul_left}
use borrow.Rule.Slice.PartMut.{put_mid}
use Rattle.std.specs.List.{filter, flat_map}
use Rattle.std.proofs.lemmas.Bool.{cases_lt}
use Rattle.std.proofs.lemmas.List.{append-nil, flat_map_more, get_or-drop, get_or-take, get_or_default, length-drop, length-take, take-append-drop, take_more}
use Rattle.std.proofs.lemmas.List.Elements.{All-head, All-tail, filter-append}
use Rattle.std.proofs.lemmas.Slice.{take-put_mid}
use Rattle.key_table.specs.Digest.{row_of}
use Rattle.key_table.specs.Entry.{Pair, entry_size}
use Rattle.key_table.specs.Looked.{pair}
use Rattle.key_table.specs.Places.{pair_at}
use Rattle.key_table.specs.Table.{head_size, pairs_in}
use Rattle.key_table.specs.Width.{width_of}
use Rattle.key_table.specs.Counting.{row_at}
use Rattle.key_table.specs.Rows.{RowsAreTable, StartsAt}
use Rattle.key_table.proofs.Counting.{counted_few}

module _ {X : Type 0} (test : X → Bool) where
  -- where no member passes, none is kept
  filter_none : (xs : List X) → All (λ x. test x ≡ false) xs → filter test xs ≡ []
  filter_none [] h = refl
  filter_none (x ∷ xs) h =
      ap (λ b. cond b (x ∷ filter test xs) (filter test xs)) (All-head (λ y. test y ≡ false) x xs h)
      ∙ filter_none xs (All-tail (λ y. test y ≡ false) x xs h)

  -- where each passes, all are
  filter_whole : (xs : List X) → All (λ x. test x ≡ true) xs → filter test xs ≡ xs
  filter_whole [] h = refl
  filter_whole (x ∷ xs) h =
      ap (λ b. cond b (x ∷ filter test xs) (filter test xs)) (All-head (λ y. test y ≡ true) x xs h)
      ∙ ap (λ ys. x ∷ ys) (filter_whole xs (All-tail (λ y. test y ≡ true) x xs h))

-- a row begins where the next one does, or before
pub starts_in_order : (rows j : ℕ) (pairs : List Pair) (start end : ℕ) → StartsAt rows j pairs start → StartsAt rows (j + 1) pairs end → start ≤ end
starts_in_order rows j pairs start end s e = elim (cases_lt end start) [
  | inl lt ↦
      let before = s.before end lt in
      let behind = e.behind end (omega arith) (omega (arith, lt, s.within)) in
      absurd (omega (arith, before, behind))
  | inr ge ↦ ge
]

module _ (rows j : ℕ) (pairs : List Pair) (start end : ℕ) (s : StartsAt rows j pairs start) (e : StartsAt rows (j + 1) pairs end) where
  -- whether a pair has the row
  abbrev has_row : Pair → Bool
  has_row p = row_of rows p.digest == j

  -- how many have it
  abbrev count : ℕ
  count = end - start

  -- no pair before the row has it
  none_before : All (λ p. has_row p ≡ false) (take start pairs)
  none_before k d lt =
      let inside : k < start = omega (arith, lt, length-take start pairs) in
      let there : k < length pairs = omega (arith, inside, s.within) in
      let low = s.before k inside in
      ap has_row (get_or-take start pairs k d inside ∙ get_or_default pairs k d (pair [] []) there)
      ∙ ne_eqb (row_at rows pairs k) j (λ same. omega (arith, same, low))

  -- each that stands in it has
  all_inside : All (λ p. has_row p ≡ true) (take count (drop start pairs))
  all_inside k d lt =
      let inside : k < count = omega (arith, lt, length-take count (drop start pairs)) in
      let there : start + k < length pairs = omega (arith, inside, e.within) in
      let low = s.behind (start + k) (omega arith) there in
      let high = e.before (start + k) (omega (arith, inside)) in
      ap has_row (get_or-take count (drop start pairs) k d inside ∙ get_or-drop start pairs k d ∙ get_or_default pairs (start + k) d (pair [] []) there)
      ∙ eq-eqb (row_at rows pairs (start + k)) j (omega (arith, low, high))

  -- and none behind it
  none_behind : All (λ p. has_row p ≡ false) (drop count (drop start pairs))
  none_behind k d lt =
      let order = starts_in_order rows j pairs start end s e in
      let there : start + (count + k) < length pairs =
      omega (arith, lt, length-drop count (drop start pairs), length-drop start pairs) in
      let high = e.behind (start + (count + k)) (omega (arith, order)) there in
      ap has_row (get_or-drop count (drop start pairs) k d ∙ get_or-drop start pairs (count + k) d ∙ get_or_default pairs (start + (count + k)) d (pair [] []) there)
      ∙ ne_eqb (row_at rows pairs (start + (count + k))) j (λ same. omega (arith, same, high))

  -- the pairs of the row are those that stand in it
  pub row_part : pairs_in rows j pairs ≡ take count (drop start pairs)
  row_part =
      let a = take start pairs in
      let b = take count (drop start pairs) in
      let c = drop count (drop start pairs) in
      let split : pairs ≡ a ++ (b ++ c) =
      sym (take-append-drop start pairs) ∙ ap (λ ps. a ++ ps) (sym (take-append-drop count (drop start pairs))) in
      ap (filter has_row) split
      ∙ filter-append has_row a (b ++ c)
      ∙ ap₂ (λ (x y : List Pair). x ++ y) (filter_none has_row a none_before)
      (filter-append has_row b c ∙ ap₂ (λ (x y : List Pair). x ++ y) (filter_whole has_row b all_inside) (filter_none has_row c none_behind) ∙ append-nil b)

-- a run of entries that is one longer
run_longer : (start i step : ℕ) → start ≤ i → (i + 1 - start) * step ≡ (i - start) * step + step
run_longer start i step le =
    let longer : i + 1 - start ≡ i - start + 1 = omega (arith, le) in
    ap (λ k. k * step) longer ∙ next (i - start)
  where
    next : (m : ℕ) → (m + 1) * step ≡ m * step + step
    next m = omega arith

-- one more entry is written behind those from a place on
pub written_more : (f : Pair → List ℕ) (ps : List Pair) (start i step k : ℕ) (out new : List ℕ) (x : Pair) → start ≤ i → i < length ps
    → x ≡ pair_at ps i → new ≡ f x → length new ≡ step → (i - start) * step ≤ length out
    → take ((i - start) * step) out ≡ flat_map f (take (i - start) (drop start ps))
    → take ((i + 1 - start) * step) (put_mid ((i - start) * step) k out new) ≡ flat_map f (take (i + 1 - start) (drop start ps))
written_more f ps start i step k out new x le lt is own long room before =
    let m = i - start in
    let longer : i + 1 - start ≡ m + 1 = omega (arith, le) in
    let size : (i + 1 - start) * step ≡ m * step + length new = run_longer start i step le ∙ ap (λ n. m * step + n) (sym long) in
    let place : start + m ≡ i = omega (arith, le) in
    let last : get_or (drop start ps) m (pair [] []) ≡ x =
    get_or-drop start ps m (pair [] []) ∙ ap (λ n. pair_at ps n) place ∙ sym is in
    let there : m < length (drop start ps) = omega (arith, length-drop start ps, le, lt) in
    take-put_mid (m * step) k out new ((i + 1 - start) * step) size room
    ∙ ap₂ (λ (a b : List ℕ). a ++ b) before own
    ∙ flat_map_more f [] (take m (drop start ps)) x
    ∙ ap (flat_map f) (sym (ap (λ n. take n (drop start ps)) longer ∙ take_more (drop start ps) m (pair [] []) there ∙ ap (λ y. take m (drop start ps) ++ y ∷ []) last))

-- each row has room for its entries, in rows as wide as the list needs
pub row_has_room : (size most rows width j : ℕ) (pairs : List Pair) → j < rows → width_of size most rows pairs ≤ width
    → head_size + entry_size size most * length (pairs_in rows j pairs) ≤ width
unfolding width_of
row_has_room size most rows width j pairs lt wide =
    omega (arith, wide, mul-le-mul_left (entry_size size most) (counted_few rows pairs j lt))

-- how many pairs a row has
pub row_count : (rows j : ℕ) (pairs : List Pair) (start end : ℕ) → StartsAt rows j pairs start → StartsAt rows (j + 1) pairs end
    → length (pairs_in rows j pairs) ≡ end - start
row_count rows j pairs start end s e =
    ap length (row_part rows j pairs start end s e)
    ∙ omega (arith, length-take (end - start) (drop start pairs), length-drop start pairs, e.within)

-- the rows are the table
pub rows_are_table : RowsAreTable
rows_are_table m salt width list sorted table is_sorted tag wide many row = record {
  sorted = sorted;
  is_sorted = is_sorted;
  tag = tag;
  rows = many;
  fits = λ j lt. row_has_room m.size m.most m.rows width j sorted lt wide;
  row = row;
}
