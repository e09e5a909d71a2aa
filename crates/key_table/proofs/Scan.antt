-- Looking through the places of a list, in the order of their digests, for its clash.
use Rattle.std.proofs.Common.{◌≡◌, ◌≢◌, ◌⊎◌, inl, inr, ℕ, ◌+◌, ◌-◌, ◌<◌, ◌≤◌, false, is_lt, nat_cmp, List, [], length, get_or, refl, sym, ap, ap₂, subst, ◌∙◌, arith}
use Rattle.std.specs.Cmp.Lexicographic.{slice_cmp}
use Rattle.std.proofs.lemmas.Bool.{cases_lt}
use Rattle.std.proofs.lemmas.List.{get_or_default}
use Rattle.std.proofs.lemmas.List.Sorted.{sorted_far}
use Rattle.key_table.specs.Entry.{Pair}
use Rattle.key_table.specs.KeyList.{IsClear}
use Rattle.key_table.specs.Looked.{pair}
use Rattle.key_table.specs.Places.{IsClash, comes_before, digest_at, pair_at, value_at}
use Rattle.key_table.proofs.PlaceOrder.{neither_below, not_below, not_earlier, places_rank}
use Rattle.key_table.specs.Scan.{AreOrdered, IsFirst, IsOff, IsSeen, Scanned}

-- at the start
pub scan_start : (list : List Pair) (places : List ℕ) (first least least_first : ℕ) → length list ≤ least → Scanned list places 0 first least least_first
scan_start list places first least least_first none = record {
  last = λ k e. absurd (omega (arith, e));
  off = λ lt. absurd (omega (arith, lt, none));
  seen = λ k lt. absurd (omega (arith, lt));
}

-- one more place
pub scan_more : (list : List Pair) (places : List ℕ) (i first least least_first now place lower lower_first : ℕ)
    → Scanned list places i first least least_first → place ≡ get_or places i 0 → IsFirst list now place → lower ≤ least
    → (lower < length list → IsOff list lower_first lower) → (value_at list now ≡ value_at list place) ⊎ (lower ≤ place)
    → Scanned list places (i + 1) now lower lower_first
scan_more list places i first least least_first now place lower lower_first h is is_now fewer off settled = record {
  last = λ k e. subst (IsFirst list now) (is ∙ ap (λ j. get_or places j 0) (omega (arith, e))) is_now;
  off = off;
  seen = λ k lt. elim (cases_lt k i) [
    | inl before ↦
        let s = h.seen k before in
        record {
          first = s.first;
          is_first = s.is_first;
          settled = elim s.settled [
            | inl same ↦ inl same
            | inr le ↦ inr (omega (arith, le, fewer))
          ];
        }
    | inr not ↦
        let e : i ≡ k = omega (arith, lt, not) in
        subst (IsSeen list lower) (is ∙ ap (λ j. get_or places j 0) e) (record { first = now; is_first = is_now; settled = settled })
  ];
}

-- a place whose digest isn't that of the one before it is the first with its digest
pub first_new : (list : List Pair) (places : List ℕ) (i first : ℕ) → AreOrdered list places → i < length places
    → ((k : ℕ) → k + 1 ≡ i → IsFirst list first (get_or places k 0)) → (0 < i → digest_at list first ≢ digest_at list (get_or places i 0))
    → IsFirst list (get_or places i 0) (get_or places i 0)
first_new list places i first o lt last other = record {
  within = o.inside i 0 lt;
  same = refl;
  least = λ k ltk same.
      let has = o.whole k ltk in
      let j = has.0 in
      let is : get_or places j 0 ≡ k = get_or_default places j 0 k has.1 ∙ has.2 in
      let tied : digest_at list (get_or places j 0) ≡ digest_at list (get_or places i 0) = ap (digest_at list) is ∙ same in
      elim (cases_lt j i) [
        | inl before ↦
            let k' = i - 1 in
            let next : k' + 1 ≡ i = omega (arith, before) in
            let low = not_below list (get_or places k' 0) (get_or places j 0)
            (sorted_far (comes_before list) (places_rank list) places o.up j k' 0 (omega (arith, before)) (omega (arith, lt, before))) in
            let high = not_below list (get_or places i 0) (get_or places k' 0)
            (sorted_far (comes_before list) (places_rank list) places o.up k' i 0 (omega arith) lt) in
            let one = neither_below (digest_at list (get_or places k' 0)) (digest_at list (get_or places i 0)) (subst (λ d. is_lt (slice_cmp nat_cmp (digest_at list (get_or places k' 0)) d) ≡ false) tied low) high in
            absurd (other (omega (arith, before)) ((last k' next).same ∙ one))
        | inr behind ↦
            omega (
              arith,
              is,
              not_earlier list (get_or places j 0) (get_or places i 0)
                  (sorted_far (comes_before list) (places_rank list) places o.up i j 0 behind has.1) tied,
            )
      ];
}

-- when one place was looked at
pub scan_one : (list : List Pair) (places : List ℕ) (first least least_first : ℕ) → AreOrdered list places → 0 < length places
    → first ≡ get_or places 0 0 → length list ≤ least → Scanned list places 1 first least least_first
scan_one list places first least least_first o some is none =
    let new = first_new list places 0 first o some (λ k e. absurd (omega (arith, e))) (λ lt. absurd (omega (arith, lt))) in
    scan_more list places 0 first least least_first first first least least_first (scan_start list places first least least_first none) is
    (subst (λ f. IsFirst list f f) (sym is) new) (omega arith) (λ lt. absurd (omega (arith, lt, none))) (inl refl)

-- the first place of the digest of a place is that of another one with the digest
pub first_same : (list : List Pair) (first one other : ℕ) → IsFirst list first one → digest_at list first ≡ digest_at list other → IsFirst list first other
first_same list first one other h same = record {
  within = h.within;
  same = same;
  least = λ k lt e. h.least k lt (e ∙ sym same ∙ h.same);
}

-- a place that is off is behind the first of its digest
pub off_behind : (list : List Pair) (first place : ℕ) → place < length list → IsOff list first place → first < place
off_behind list first place lt h =
    let le = h.is_first.least place lt refl in
    elim (cases_lt first place) [
      | inl less ↦ less
      | inr not ↦ absurd (h.value (ap (value_at list) (omega (arith, le, not))))
    ]

-- two places with one digest have one first place
firsts_same : (list : List Pair) (a b one other : ℕ) → IsFirst list a one → IsFirst list b other → digest_at list one ≡ digest_at list other → a ≡ b
firsts_same list a b one other h k same =
    omega (arith, h.least b k.within (k.same ∙ sym same), k.least a h.within (h.same ∙ same))

-- when all places were looked at, so was each place of the list
seen_at : (list : List Pair) (places : List ℕ) (first least least_first k : ℕ) → AreOrdered list places
    → Scanned list places (length places) first least least_first → k < length list → IsSeen list least k
seen_at list places first least least_first k o h lt =
    let has = o.whole k lt in
    subst (IsSeen list least) (get_or_default places has.0 0 k has.1 ∙ has.2) (h.seen has.0 has.1)

-- where none is off the list is clear
pub scan_clear : (list : List Pair) (places : List ℕ) (first least least_first : ℕ) → AreOrdered list places
    → Scanned list places (length places) first least least_first → length list ≤ least → IsClear list
scan_clear list places first least least_first o h none p q hp hq same =
    let a = hp.0 in
    let b = hq.0 in
    let at_a : pair_at list a ≡ p = get_or_default list a (pair [] []) p hp.1 ∙ hp.2 in
    let at_b : pair_at list b ≡ q = get_or_default list b (pair [] []) q hq.1 ∙ hq.2 in
    let sa = seen_at list places first least least_first a o h hp.1 in
    let sb = seen_at list places first least least_first b o h hq.1 in
    let digests : digest_at list a ≡ digest_at list b =
    ap (λ (r : Pair). r.digest) at_a ∙ same ∙ sym (ap (λ (r : Pair). r.digest) at_b) in
    let one : sa.first ≡ sb.first = firsts_same list sa.first sb.first a b sa.is_first sb.is_first digests in
    let va : value_at list sa.first ≡ value_at list a = settle sa.first a hp.1 sa.settled in
    let vb : value_at list sb.first ≡ value_at list b = settle sb.first b hq.1 sb.settled in
    sym at_a ∙ ap₂ pair digests (sym va ∙ ap (value_at list) one ∙ vb) ∙ at_b
  where
    settle : (f k : ℕ) → k < length list → (value_at list f ≡ value_at list k) ⊎ (least ≤ k) → value_at list f ≡ value_at list k
    settle f k lt (inl e) = e
    settle f k lt (inr le) = absurd (omega (arith, lt, le, none))

-- else the least that is off is the clash
pub scan_clash : (list : List Pair) (places : List ℕ) (first least least_first : ℕ) → AreOrdered list places
    → Scanned list places (length places) first least least_first → least < length list → IsClash list least_first least
scan_clash list places first least least_first o h lt =
    let off = h.off lt in
    record {
      clashes = record {
        before = off_behind list least_first least lt off;
        within = lt;
        digest = off.is_first.same;
        value = off.value;
      };
      earliest = off.is_first.least;
      least = λ e k c.
          let sk = seen_at list places first least least_first k o h c.within in
          let se = seen_at list places first least least_first e o h (omega (arith, c.before, c.within)) in
          let one : se.first ≡ sk.first = firsts_same list se.first sk.first e k se.is_first sk.is_first c.digest in
          elim sk.settled [
            | inr le ↦ le
            | inl vk ↦ elim se.settled [
              | inr le ↦ omega (arith, le, c.before)
              | inl ve ↦ absurd (c.value (sym ve ∙ ap (value_at list) one ∙ vk))
            ]
          ];
    }
