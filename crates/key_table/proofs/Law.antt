-- A row has one list of pairs, and that of a list's table has those of the list.
use Rattle.std.proofs.Common.{◌≡◌, ◌==◌, ◌≢◌, ℕ, ◌+◌, ◌*◌, ◌<◌, ◌≤◌, Bool, true, List, [], ◌∷◌, ◌++◌, length, take, drop, map, All, Contains, Option, Some, unwrap_or, slice_get, refl, sym, ap, ap₂, subst, ◌∙◌, arith, mul-le-mul_right, one-mul, mul_comm, true≢false, eqb-true, eq-eqb, Less, nat_cmp, is_lt}
use Rattle.std.specs.List.{flat_map, AllByRecursion}
use Rattle.std.specs.List.Sorted.{IsStrictlySortedBy}
use Rattle.std.specs.Cmp.Lexicographic.{slice_cmp}
use Rattle.std.proofs.lemmas.Cmp.{nat_list_cmp_total, tied_itself}
use Rattle.std.proofs.lemmas.List.{length-take-le}
use Rattle.std.proofs.lemmas.List.Elements.{All-head, All-tail, All-weaker, All-contains, All-filter, filter_passes}
use Rattle.std.proofs.lemmas.Option.{slice_get_within}
use Rattle.sha2.specs.Sha256.{sha256}
use Rattle.sha2.proofs.Facts256.{length-sha256}
use Rattle.key_table.specs.Digest.{row_of}
use Rattle.key_table.specs.Entry.{Pair, IsPair, entry, entry_size, value_bytes}
use Rattle.key_table.specs.KeyList.{Ascend, IsClear}
use Rattle.key_table.specs.Table.{Making, IsRowOf, IsTable, head_size, pairs_in, table_row}
use Rattle.key_table.specs.Looked.{AnswersFor, LooksUp, TableAnswers, pair}
use Rattle.key_table.specs.declared.row.Finding.{Finding}
use Rattle.key_table.specs.declared.row.Finding.TheVariants.{Broken, Absent, Found}
use Rattle.key_table.proofs.EntryBytes.{entry-is, entries-unique, length-entries, sizes_of_pairs}
use Rattle.key_table.proofs.Frames.{frame_parts, length-framed}
use Rattle.key_table.proofs.Members.{Contains-here, Contains-there, Contains-kept, Contains-unkept}
use Rattle.key_table.proofs.Order.{Ascend-kept, fronts_decide}

-- a row of at most so many bytes has fewer entries than two bytes count
pub few_pairs : (size most count width : ℕ) → 1 ≤ size → head_size + entry_size size most * count ≤ width → width ≤ 65536 → count < 65536
few_pairs size most count width some fits short =
    let many : 1 * count ≤ entry_size size most * count = mul-le-mul_right count (omega (arith, some)) in
    omega (arith, many, one-mul count, fits, short)

-- a row is that of one list of pairs
pub row_unique : (m : Making) (j : ℕ) (row : List ℕ) (ps qs : List Pair) → length m.tag ≡ 8 → 1 ≤ m.size → m.most ≤ 16384
    → length row ≤ 65536 → IsRowOf m j row ps → IsRowOf m j row qs → ps ≡ qs
row_unique m j row ps qs eight some most short a b =
    let one = frame_parts (length row) m.tag row (length ps) (flat_map (entry m.most) ps) eight (few_pairs m.size m.most (length ps) (length row) some a.fits short) a.is in
    let other = frame_parts (length row) m.tag row (length qs) (flat_map (entry m.most) qs) eight (few_pairs m.size m.most (length qs) (length row) some b.fits short) b.is in
    let counts : length ps ≡ length qs = sym one.count ∙ other.count in
    let lengths : length (flat_map (entry m.most) ps) ≡ length (flat_map (entry m.most) qs) =
    length-entries m.size m.most ps (sizes_of_pairs m.size m.most ps a.may.each) ∙ ap (λ n. n * entry_size m.size m.most) counts ∙ sym (length-entries m.size m.most qs (sizes_of_pairs m.size m.most qs b.may.each)) in
    entries-unique m.size m.most ps qs most some a.may.each b.may.each
    (sym one.front ∙ ap (λ n. take n (drop 10 row)) lengths ∙ other.front)

-- no text is below itself
not_below_itself : (x : List ℕ) → slice_cmp nat_cmp x x ≡ Less → ⊥
not_below_itself x lt = true≢false (ap is_lt (sym lt ∙ tied_itself nat_list_cmp_total x))

-- an entry that is below others has the lesser digest, where theirs are others
below_digests : (size most : ℕ) (p : Pair) (qs : List Pair) → IsPair size most p → All (IsPair size most) qs
    → ((q : Pair) → Contains qs q → p.digest ≡ q.digest → p ≡ q)
    → AllByRecursion (λ z. slice_cmp nat_cmp (entry most p) z ≡ Less) (map (entry most) qs)
    → AllByRecursion (λ z. slice_cmp nat_cmp p.digest z ≡ Less) (map (λ q. q.digest) qs)
below_digests size most p [] is each clear below = tt
below_digests size most p (q ∷ qs) is each clear below =
    let iq = All-head (IsPair size most) q qs each in
    let apart : (p.digest ≢ q.digest) = λ same. not_below_itself (entry most p)
    (subst (λ (o : Pair). slice_cmp nat_cmp (entry most p) (entry most o) ≡ Less) (sym (clear q (Contains-here q qs) same)) below.0) in
    let written : slice_cmp nat_cmp (p.digest ++ value_bytes most p.value) (q.digest ++ value_bytes most q.value) ≡ Less =
    ap₂ (λ x y. slice_cmp nat_cmp x y) (sym (entry-is most p)) (sym (entry-is most q)) ∙ below.0 in (
      fronts_decide p.digest q.digest (value_bytes most p.value) (value_bytes most q.value) (is.digest_size ∙ sym iq.digest_size) apart written,
      below_digests size most p qs is (All-tail (IsPair size most) q qs each) (λ o has. clear o (Contains-there q o qs has)) below.1,
    )

-- the digests of a clear list ascend as its entries do
pub ascend_digests : (size most : ℕ) (ps : List Pair) → All (IsPair size most) ps → IsClear ps → Ascend (map (entry most) ps)
    → Ascend (map (λ p. p.digest) ps)
unfolding IsStrictlySortedBy
ascend_digests size most [] each clear h = h
ascend_digests size most (p ∷ ps) each clear h = (
  below_digests size most p ps (All-head (IsPair size most) p ps each) (All-tail (IsPair size most) p ps each)
      (λ q has. clear p q (Contains-here p ps) (Contains-there p q ps has)) h.0,
  ascend_digests size most ps (All-tail (IsPair size most) p ps each)
      (λ q o a b. clear q o (Contains-there p q ps a) (Contains-there p o ps b)) h.1,
)

-- row j of a table of a clear list is that of the pairs with that row
pub row_of_table : (m : Making) (salt : List ℕ) (width : ℕ) (list : List Pair) (table : List (List ℕ)) (j : ℕ) (row : List ℕ)
    → (t : IsTable m salt width list table) → IsClear list → All (IsPair m.size m.most) list → length m.tag ≡ 8
    → slice_get table j ≡ Some row → IsRowOf m j row (pairs_in m.rows j t.sorted) × (length row ≡ width)
row_of_table m salt width list table j row t clear pairs eight is =
    let here : j < m.rows = subst (λ n. j < n) t.rows (slice_get_within table j row is) in
    let own = pairs_in m.rows j t.sorted in
    let test : Pair → Bool = λ p. row_of m.rows p.digest == j in
    let made : row ≡ table_row width m.tag m.most own = ap (λ (o : Option (List ℕ)). unwrap_or o []) (sym is ∙ t.row j here) in
    let each : All (IsPair m.size m.most) t.sorted =
    All-weaker (Contains list) (IsPair m.size m.most) (λ p has. All-contains (IsPair m.size m.most) list p pairs has) t.sorted t.is_sorted.only in
    let kept = All-filter test (IsPair m.size m.most) t.sorted each in
    let inside : (p : Pair) → Contains t.sorted p → Contains list p = λ p has. All-contains (Contains list) t.sorted p t.is_sorted.only has in
    let rising = ascend_digests m.size m.most t.sorted each (λ p q a b. clear p q (inside p a) (inside q b)) t.is_sorted.ascend in
    let long : 10 + length (flat_map (entry m.most) own) ≤ width =
    omega (arith, t.fits j here, length-entries m.size m.most own (sizes_of_pairs m.size m.most own kept), mul_comm (length own) (entry_size m.size m.most)) in
    let whole : length row ≡ width = ap length made ∙ length-framed width m.tag (length own) (flat_map (entry m.most) own) eight long in (
      record {
        may = record {
          each = kept;
          ascend = Ascend-kept (λ (p : Pair). p.digest) test t.sorted rising;
          placed = All-weaker (λ p. test p ≡ true) (λ p. row_of m.rows p.digest ≡ j) (λ p passes. eqb-true (row_of m.rows p.digest) j passes) own (filter_passes test t.sorted);
        };
        fits = subst (λ n. head_size + entry_size m.size m.most * length own ≤ n) (sym whole) (t.fits j here);
        is = subst (λ n. row ≡ table_row n m.tag m.most own) (sym whole) made;
      },
      whole,
    )

-- what a look-up in the table of a clear list comes to
pub table_answers : TableAnswers
table_answers m salt width list table digest row finding t clear pairs least most few is looked =
    let j = row_of m.rows digest in
    let eight : length m.tag ≡ 8 =
    ap length t.tag ∙ length-take-le 8 (sha256 (salt ++ flat_map (entry m.most) t.sorted)) (omega (arith, length-sha256 (salt ++ flat_map (entry m.most) t.sorted))) in
    let own = pairs_in m.rows j t.sorted in
    let test : Pair → Bool = λ p. row_of m.rows p.digest == j in
    let both = row_of_table m salt width list table j row t clear pairs eight is in
    let same : (ps : List Pair) → IsRowOf m j row ps → ps ≡ own = λ ps h.
    row_unique m j row ps own eight (omega (arith, least)) most (omega (arith, both.1, few)) h both.0 in
    by finding looked both.0 same
    (λ p has. All-contains (Contains list) t.sorted p t.is_sorted.only (Contains-unkept test t.sorted p has))
    (λ value has. Contains-kept test t.sorted (pair digest value)
    (All-contains (Contains t.sorted) list (pair digest value) t.is_sorted.all has) (eq-eqb j j refl))
  where
    by : (f : Finding) → LooksUp m row digest f → IsRowOf m (row_of m.rows digest) row (pairs_in m.rows (row_of m.rows digest) t.sorted)
        → ((ps : List Pair) → IsRowOf m (row_of m.rows digest) row ps → ps ≡ pairs_in m.rows (row_of m.rows digest) t.sorted)
        → ((p : Pair) → Contains (pairs_in m.rows (row_of m.rows digest) t.sorted) p → Contains list p)
        → ((value : List ℕ) → Contains list (pair digest value) → Contains (pairs_in m.rows (row_of m.rows digest) t.sorted) (pair digest value))
        → AnswersFor list digest f
    by Broken h own same into from = h (pairs_in m.rows (row_of m.rows digest) t.sorted) own
    by (Found value) h own same into from = into (pair digest value.now) (subst (λ ps. Contains ps (pair digest value.now)) (same h.0 h.1) h.2)
    by Absent h own same into from = λ value has. h.2 value (subst (λ ps. Contains ps (pair digest value)) (sym (same h.0 h.1)) (from value has))
