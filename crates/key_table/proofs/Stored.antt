-- Pairs in memory: what stands at a place, and one more behind the others.
use Rattle.std.proofs.Common.{◌≡◌, ℕ, zero, suc, ◌+◌, ◌-◌, ◌<◌, ◌≤◌, List, [], ◌∷◌, ◌++◌, length, take, drop, map, get_or, refl, ap, ap₂, ◌∙◌, arith, inl, inr, take_at, drop_at}
use Rattle.std.proofs.lemmas.Bool.{cases_lt}
use Rattle.std.specs.List.{range_with_len}
use Rattle.std.proofs.lemmas.List.{length-append, length-drop, length_push, get_or_past, take-append-le, drop-append-le, take_all}
use Rattle.std.proofs.lemmas.List.FromFn.{length-map-range_with_len, get_or-map-range_with_len, map-range_with_len_more, fill_by_all}
use Rattle.key_table.specs.Entry.{Pair}
use Rattle.key_table.specs.Looked.{pair}
use Rattle.key_table.specs.Places.{pair_at}
use Rattle.key_table.specs.Held.{AreStarts, pairs_of, split_pair, start_of, text_of}

-- there are as many pairs as starts
pub pairs_count : (size : ℕ) (bytes starts : List ℕ) → length (pairs_of size bytes starts) ≡ length starts
unfolding pairs_of
pairs_count size bytes starts = length-map-range_with_len (λ place. split_pair size (text_of bytes starts place)) 0 (length starts)

-- the pair at a place is that of its bytes
pub pair_there : (size : ℕ) (bytes starts : List ℕ) (place : ℕ) → place < length starts
    → pair_at (pairs_of size bytes starts) place ≡ split_pair size (text_of bytes starts place)
unfolding pairs_of
pair_there size bytes starts place lt =
    get_or-map-range_with_len (λ at. split_pair size (text_of bytes starts at)) 0 (length starts) place place (pair [] []) lt (omega arith)

-- behind the last there is none
pub pair_past : (size : ℕ) (bytes starts : List ℕ) (place : ℕ) → length starts ≤ place → pair_at (pairs_of size bytes starts) place ≡ pair [] []
pair_past size bytes starts place le =
    get_or_past (pairs_of size bytes starts) place (pair [] []) (omega (arith, le, pairs_count size bytes starts))

-- with one more start, what was behind the last is that start, and what was before stays
start_kept : (starts : List ℕ) (t k d : ℕ) → k ≤ length starts → get_or (starts ++ t ∷ []) k d ≡ get_or starts k t
start_kept [] t zero d le = refl
start_kept [] t (suc k) d le = absurd (omega (arith, le))
start_kept (s ∷ ss) t zero d le = refl
start_kept (s ∷ ss) t (suc k) d le = start_kept ss t k d (omega (arith, le))

-- more bytes and one more start leave the bytes of a pair that was there
text_kept : (size : ℕ) (bytes starts more : List ℕ) (place : ℕ) → AreStarts size bytes starts → place < length starts
    → text_of (bytes ++ more) (starts ++ length bytes ∷ []) place ≡ text_of bytes starts place
text_kept size bytes starts more place h lt =
    let s = start_of bytes starts place in
    let e = start_of bytes starts (place + 1) in
    let here = start_kept starts (length bytes) place (length (bytes ++ more)) (omega (arith, lt)) in
    let next = start_kept starts (length bytes) (place + 1) (length (bytes ++ more)) (omega (arith, lt)) in
    ap₂ (λ a b. take (b - a) (drop a (bytes ++ more))) here next
    ∙ ap (take (e - s)) (drop-append-le s bytes more (h.within place))
    ∙ take-append-le (e - s) (drop s bytes) more (omega (arith, length-drop s bytes, h.within (place + 1)))

-- they are the bytes of the new pair
text_new : (bytes starts more : List ℕ) → text_of (bytes ++ more) (starts ++ length bytes ∷ []) (length starts) ≡ more
text_new bytes starts more =
    let whole = length (bytes ++ more) in
    let here : start_of (bytes ++ more) (starts ++ length bytes ∷ []) (length starts) ≡ length bytes =
    start_kept starts (length bytes) (length starts) whole (omega arith) ∙ get_or_past starts (length starts) (length bytes) (omega arith) in
    let next : start_of (bytes ++ more) (starts ++ length bytes ∷ []) (length starts + 1) ≡ whole =
    get_or_past (starts ++ length bytes ∷ []) (length starts + 1) whole (omega (arith, length_push starts (length bytes))) in
    ap₂ (λ a b. take (b - a) (drop a (bytes ++ more))) here next
    ∙ ap (take (whole - length bytes)) (drop_at bytes more (length bytes) refl)
    ∙ take_all (whole - length bytes) more (omega (arith, length-append bytes more))

-- with a digest and its value behind the bytes there is one more pair behind the others
pub pairs_push : (size : ℕ) (bytes starts digest value : List ℕ) → length digest ≡ size → AreStarts size bytes starts
    → pairs_of size (bytes ++ (digest ++ value)) (starts ++ length bytes ∷ []) ≡ pairs_of size bytes starts ++ pair digest value ∷ []
unfolding pairs_of
pairs_push size bytes starts digest value long h =
    let old : ℕ → Pair = λ place. split_pair size (text_of bytes starts place) in
    let new : ℕ → Pair = λ place. split_pair size (text_of (bytes ++ (digest ++ value)) (starts ++ length bytes ∷ []) place) in
    let n = length starts in
    let before : map new (range_with_len 0 n) ≡ map old (range_with_len 0 n) =
    fill_by_all old (map new (range_with_len 0 n)) n (pair [] []) (length-map-range_with_len new 0 n)
    (λ k lt. get_or-map-range_with_len new 0 n k k (pair [] []) lt (omega arith) ∙ ap (split_pair size) (text_kept size bytes starts (digest ++ value) k h lt)) in
    let last : new n ≡ pair digest value =
    ap (split_pair size) (text_new bytes starts (digest ++ value)) ∙ ap₂ pair (take_at digest value size long) (drop_at digest value size long) in
    ap (λ m. map new (range_with_len 0 m)) (length_push starts (length bytes))
    ∙ map-range_with_len_more new 0 n n (omega arith)
    ∙ ap₂ (λ xs x. xs ++ x ∷ []) before last

-- and each pair still starts behind the one before it
pub starts_push : (size : ℕ) (bytes starts digest value : List ℕ) → length digest ≡ size → AreStarts size bytes starts
    → AreStarts size (bytes ++ (digest ++ value)) (starts ++ length bytes ∷ [])
starts_push size bytes starts digest value long h =
    let more = digest ++ value in
    let whole = length (bytes ++ more) in
    let after = starts ++ length bytes ∷ [] in
    let sum = length-append bytes more in
    let parts = length-append digest value in
    let count = length_push starts (length bytes) in
    let kept : (k : ℕ) → k ≤ length starts → start_of (bytes ++ more) after k ≡ start_of bytes starts k = λ k le. start_kept starts (length bytes) k whole le in
    let last : start_of bytes starts (length starts) ≡ length bytes = get_or_past starts (length starts) (length bytes) (omega arith) in
    let past : (k : ℕ) → length starts < k → start_of (bytes ++ more) after k ≡ whole = λ k lt. get_or_past after k whole (omega (arith, count, lt)) in
    record {
      least = h.least;
      most = h.most;
      each = λ place lt. elim (cases_lt place (length starts)) [
        | inl in_old ↦ omega (arith, h.each place in_old, kept place (omega (arith, in_old)), kept (place + 1) (omega (arith, in_old)))
        | inr not_old ↦
            let here : start_of (bytes ++ more) after place ≡ length bytes =
            kept place (omega (arith, lt, count)) ∙ get_or_past starts place (length bytes) (omega (arith, not_old)) in
            omega (arith, here, past (place + 1) (omega (arith, not_old)), sum, parts, long)
      ];
      within = λ place. elim (cases_lt (length starts) place) [
        | inl behind ↦ omega (arith, past place behind)
        | inr there ↦ omega (arith, kept place (omega (arith, there)), h.within place, sum)
      ];
    }

-- no pair yet
pub starts_none : (size : ℕ) → 8 ≤ size → size ≤ 32 → AreStarts size [] []
starts_none size least most = record {
  least = least;
  most = most;
  each = λ place lt. absurd (omega (arith, lt));
  within = λ place. omega (arith, get_or_past {X = ℕ} [] place 0 (omega arith));
}
