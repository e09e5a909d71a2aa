-- A gathered list is laid out.
use Rattle.std.proofs.Common.{◌≡◌, ◌≢◌, ◌∙◌, ℕ, ◌+◌, ◌<◌, ◌≤◌, List, [], ◌∷◌, ◌++◌, length, map, refl, sym, ap, subst, arith}
use Rattle.std.specs.Prelude.{All, Contains, Option, None, Some, Ok, slice_get}
use Rattle.std.specs.List.{range_with_len}
use Rattle.std.proofs.lemmas.Option.{slice_get-get_or}
use Rattle.std.proofs.lemmas.List.{length-take-le}
use Rattle.std.proofs.lemmas.List.Elements.{All-head, All-map, All-weaker}
use Rattle.std.proofs.lemmas.List.FromFn.{get_or-map-range_with_len, length-map-range_with_len}
use Rattle.sha2.specs.Sha256.{sha256}
use Rattle.sha2.proofs.Facts256.{length-sha256}
use Rattle.key_table.specs.Entry.{IsPair, Pair, newline}
use Rattle.key_table.specs.Held.{Held}
use Rattle.key_table.specs.KeyList.{AreSorted}
use Rattle.key_table.specs.Rows.{row_bytes}
use Rattle.key_table.specs.Shapes.{HasShape}
use Rattle.key_table.specs.Sorting.{Sorted, Sorts}
use Rattle.key_table.specs.Table.{IsTable}
use Rattle.key_table.specs.declared.TheConstants.{MOST_DIGEST, MOST_VALUE}
use Rattle.key_table.specs.declared.shape.Shape.{Shape}
use Rattle.key_table.proofs.RowParts.{rows_are_table}
use Rattle.list_keys.specs.Form.{IsForm, IsWhole, key_of, most_value, value_of}
use Rattle.list_keys.specs.declared.form.Form.{Form}
use Rattle.list_keys.specs.declared.form.Form.TheVariants.{Key, KeyAndValue}
use Rattle.list_builds.specs.Gathering.{Gathered, Gathers}
use Rattle.list_builds.specs.Laid.{Laid, making_in, rows_in, table_in}
use Rattle.list_builds.specs.Layout.{IsLaidOut, ShapesFor, most_for}
use Rattle.list_builds.specs.Listing.{longest_of, pair_of, pairs_of}
use Rattle.list_builds.specs.Order.{form_of}
use Rattle.list_builds.specs.TableBytes.{first_rows}
use Rattle.list_builds.specs.declared.order.Values.{Values}
use Rattle.list_builds.specs.declared.order.Values.TheVariants.{Absent, UpToLongest, UpTo}
use Rattle.list_builds.proofs.Longest.{at_most_longest, longest_few}

-- the values of whole lines fit
lines_fit : (salt : List ℕ) (size : ℕ) (form : Form) (given : List (List ℕ)) → All (IsWhole form) given
    → All (λ p. length p.value ≤ most_value form) (pairs_of salt size form given)
lines_fit salt size form given whole =
    All-map (λ (p : Pair). length p.value ≤ most_value form) (pair_of salt size form) given
    (All-weaker (IsWhole form) (λ line. length (value_of form line) ≤ most_value form) (λ line w. w.value.few) given whole)

-- no value that was gathered has more bytes than values may have
pub values_fit : (salt : List ℕ) (size : ℕ) (values : Values) (given : List (List ℕ)) (held : Held) (longest : ℕ)
    → All (IsWhole (form_of values)) given → Gathers salt size (form_of values) given held longest
    → All (λ p. length p.value ≤ most_for values longest) held.pairs
values_fit salt size Absent given held longest whole h =
    subst (λ (l : Held). All (λ p. length p.value ≤ 0) l.pairs) (sym h.held_is) (lines_fit salt size Key given whole)
values_fit salt size (UpTo most) given held longest whole h =
    subst (λ (l : Held). All (λ p. length p.value ≤ most) l.pairs) (sym h.held_is) (lines_fit salt size (KeyAndValue most) given whole)
values_fit salt size UpToLongest given held longest whole h =
    subst (λ (n : ℕ). All (λ p. length p.value ≤ n) held.pairs) (sym h.longest_is)
    (subst (λ (l : Held). All (λ p. length p.value ≤ longest_of (pairs_of salt size (form_of UpToLongest) given)) l.pairs) (sym h.held_is)
    (at_most_longest (pairs_of salt size (form_of UpToLongest) given)))

-- a digest of so many bytes, and a value without a newline
abbrev IsClean : ℕ → Pair → Type 0
IsClean size p = (length p.digest ≡ size) × All (λ b. b ≢ newline) p.value

-- a whole line has them
line_clean : (salt : List ℕ) (size : ℕ) (form : Form) (line : List ℕ) → size ≤ MOST_DIGEST → IsWhole form line → IsClean size (pair_of salt size form line)
line_clean salt size form line few whole =
    let hash = sha256 (salt ++ key_of form line) in
    (length-take-le size hash (omega (arith, few, length-sha256 (salt ++ key_of form line))), whole.value.no_newline)

-- so each pair that was gathered is one of a table
pub pairs_are : (salt : List ℕ) (size : ℕ) (values : Values) (given : List (List ℕ)) (held : Held) (longest : ℕ) → size ≤ MOST_DIGEST
    → All (IsWhole (form_of values)) given → Gathers salt size (form_of values) given held longest
    → All (IsPair size (most_for values longest)) held.pairs
pairs_are salt size values given held longest few whole h =
    let form = form_of values in
    let clean : All (IsClean size) held.pairs =
    subst (λ (l : Held). All (IsClean size) l.pairs) (sym h.held_is)
    (All-map (IsClean size) (pair_of salt size form) given
    (All-weaker (IsWhole form) (λ line. IsClean size (pair_of salt size form line)) (λ line w. line_clean salt size form line few w) given whole)) in
    let short = values_fit salt size values given held longest whole h in
    λ k d lt. record {
      digest_size = (clean k d lt).0;
      is_value = record { few = short k d lt; no_newline = (clean k d lt).1 };
    }

-- where there are pairs, there are entries
pub some_sorted : (most : ℕ) (list sorted : List Pair) → AreSorted most list sorted → 0 < length list → 0 < length sorted
some_sorted most [] sorted h some = absurd (omega (arith, some))
some_sorted most (p ∷ list) sorted h some =
    let there = All-head (Contains sorted) p list h.all in
    omega (arith, there.1)

-- the shape for so many rows, or the best one, is a shape of the list
pub shape_of_list : (rows : Option ℕ) (sorted : Sorted) (shape : Shape) → ShapesFor rows sorted (Ok shape) → HasShape sorted shape
shape_of_list (Some rows) sorted shape h = h.1
shape_of_list None sorted shape h = h.0

-- row j of the first n
row_of_first : (row : ℕ → List ℕ) (n j : ℕ) → j < n → slice_get (first_rows row n) j ≡ Some (row j)
unfolding first_rows
row_of_first row n j lt =
    let rows = map row (range_with_len 0 n) in
    slice_get-get_or rows j [] (omega (arith, lt, length-map-range_with_len row 0 n))
    ∙ ap (λ (x : List ℕ). Some x) (get_or-map-range_with_len row 0 n j j [] lt (let e : 0 + j ≡ j = omega arith in e))

-- how many they are
count_first : (row : ℕ → List ℕ) (n : ℕ) → length (first_rows row n) ≡ n
unfolding first_rows
count_first row n = length-map-range_with_len row 0 n

-- the rows are the table of the list
pub table_of_list : (laid : Laid) (most : ℕ) (held : Held) → Sorts held most (Ok laid.sorted) → HasShape laid.sorted laid.shape
    → IsTable (making_in laid) laid.salt laid.shape.width held.pairs (table_in laid)
table_of_list laid most held sorts has =
    let sorted = laid.sorted in
    let row = row_bytes (rows_in laid) in
    rows_are_table (making_in laid) laid.salt laid.shape.width held.pairs sorted.pairs (table_in laid)
    (subst (λ (m : ℕ). AreSorted m held.pairs sorted.pairs) (sym sorts.1) sorts.3)
    refl (omega (arith, has.width)) (count_first row laid.shape.rows) (row_of_first row laid.shape.rows)

-- a list that is sorted, and whose table has a shape, is laid out
pub laid_out : (salt : List ℕ) (values : Values) (rows : Option ℕ) (list : Gathered) (most : ℕ) (laid : Laid) → most ≡ most_for values list.longest
    → laid.salt ≡ salt → Sorts list.held most (Ok laid.sorted) → ShapesFor rows laid.sorted (Ok laid.shape)
    → IsLaidOut salt (most_for values list.longest) rows list.held laid
laid_out salt values rows list most laid same salt_is sorts shapes = record {
  salt_is = salt_is;
  sorts = subst (λ (m : ℕ). Sorts list.held m (Ok laid.sorted)) same sorts;
  shapes = shapes;
  is_table = subst (λ (s : List ℕ). IsTable (making_in laid) s laid.shape.width list.held.pairs (table_in laid)) salt_is
      (table_of_list laid most list.held sorts (shape_of_list rows laid.sorted laid.shape shapes));
}

-- and that is no more than a table's values may have
pub most_fits : (salt : List ℕ) (size : ℕ) (values : Values) (given : List (List ℕ)) (held : Held) (longest : ℕ)
    → IsForm (form_of values) → All (IsWhole (form_of values)) given → Gathers salt size (form_of values) given held longest
    → most_for values longest ≤ MOST_VALUE
most_fits salt size Absent given held longest is whole h = omega arith
most_fits salt size (UpTo most) given held longest is whole h = is
most_fits salt size UpToLongest given held longest is whole h =
    let pairs = pairs_of salt size (form_of UpToLongest) given in
    omega (arith, h.longest_is, longest_few MOST_VALUE pairs (lines_fit salt size (KeyAndValue MOST_VALUE) given whole))
