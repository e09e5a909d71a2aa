-- A session has some verdict: the agreed blocks can be listed, since there are finitely many vectors of polynomials.
use Rattle.std.proofs.Common.{◌≡◌, ℕ, zero, suc, ◌+◌, ◌*◌, ◌%◌, ◌^◌, List, [], ◌∷◌, ◌++◌, length, map, Option, None, Some, inl, inr, refl, subst, arith}
use Rattle.std.specs.Cmp.Lexicographic.{slice_cmp}
use Rattle.std.specs.List.Sorted.{IsStrictlySortedBy}
use Rattle.std.specs.Ordering.{nat_cmp}
use Rattle.std.proofs.lemmas.Bool.{cases_lt}
use Rattle.std.proofs.lemmas.Cmp.{nat_list_cmp_total}
use Rattle.std.proofs.lemmas.List.{length-append}
use Rattle.std.proofs.lemmas.List.Elements.{All-nil, All-cons}
use Rattle.std.proofs.lemmas.Map.Lookups.{exact_bytes}
use Rattle.wire_frames.specs.declared.session.SessionParams.{SessionParams}
use Rattle.wire_frames.specs.Answer.{Answer, answers, answers_from, asked, block_len, usable, with_answer}
use Rattle.wire_frames.specs.Session.{Transcript}
use Rattle.chor_xor.specs.Chosen.{combined}
use Rattle.column_lists.specs.Numbers.{cost}
use Rattle.column_lists.specs.declared.TheConstants.{MOST_COST}
use Rattle.block_decoder.specs.Agreed.{constants_of, Heavy, weight, Filled, Lists}
use Rattle.block_decoder.specs.Decoding.{decoding}
use Rattle.block_decoder.specs.Gains.{Gains}
use Rattle.block_decoder.specs.Numbered.{all_numbered, Continues, ContinuesBelow}
use Rattle.block_decoder.specs.Verdict.{IsDecided, IsCombined}
use Rattle.block_decoder.specs.declared.decoding.Decoding.{Decoding}
use Rattle.block_decoder.specs.declared.verdict.Verdict.{Verdict}
use Rattle.block_decoder.specs.declared.verdict.Verdict.TheVariants.{Listed, TooFew, TooWeak, TooCostly}
use Rattle.block_decoder.proofs.Continued.{continues-light, continues-Heavy}
use Rattle.block_decoder.proofs.Continues.{Gains-none, Gains-same, Gains-both, Continues-whole, Continues-next, ContinuesBelow-more, Lists-Gains}
use Rattle.block_decoder.proofs.Members.{sorted_nil, with_member}
use Rattle.block_decoder.proofs.UsableAnswers.{usable_size}
use Rattle.pir_tool.specs.Verdicts.{HasVerdict}

-- ---- the agreed blocks

-- some blocks in order are the old ones and those of which P holds
record Gained (P : List ℕ → Type 0) (old : List (List ℕ)) : Type 0 where
  new : List (List ℕ)
  ascending : IsStrictlySortedBy (slice_cmp nat_cmp) new
  gains : Gains P old new

module _ (d : Decoding) where
  -- by the next number, where the continuations by each number may be gained
  gained_below : (numbers : List ℕ) → ((n : ℕ) (old : List (List ℕ)) → IsStrictlySortedBy (slice_cmp nat_cmp) old → Gained (Continues d (numbers ++ n ∷ [])) old)
      → (bound : ℕ) (old : List (List ℕ)) → IsStrictlySortedBy (slice_cmp nat_cmp) old → Gained (ContinuesBelow bound d numbers) old
  gained_below numbers each zero old p =
      record { new = old; ascending = p; gains = Gains-none (ContinuesBelow 0 d numbers) old (λ b c. let l = c.below in absurd (omega (arith, l))) }
  gained_below numbers each (suc bound) old p =
      let some = gained_below numbers each bound old p in
      let more = each bound some.new some.ascending in
      let e : bound + 1 ≡ suc bound = omega arith in
      record {
        new = more.new;
        ascending = more.ascending;
        gains = subst (λ n. Gains (ContinuesBelow n d numbers) old more.new) e
            (Gains-both (ContinuesBelow bound d numbers) (Continues d (numbers ++ bound ∷ [])) (ContinuesBelow (bound + 1) d numbers)
            old some.new more.new some.gains more.gains (ContinuesBelow-more d numbers bound));
      }

  -- one column after the other
  gained : (left : ℕ) (numbers : List ℕ) → length numbers + left ≡ d.width → (old : List (List ℕ)) → IsStrictlySortedBy (slice_cmp nat_cmp) old
      → Gained (Continues d numbers) old
  gained zero numbers e old p =
      elim (cases_lt (weight (all_numbered d.degree numbers) d.answers) d.agreement) [
        | inl light ↦ record { new = old; ascending = p; gains = Gains-none (Continues d numbers) old (continues-light constants_of d (all_numbered d.degree numbers) light) }
        | inr heavy ↦
            let block = map (λ n. n % 256) numbers in
            let more = with_member nat_list_cmp_total exact_bytes block old p in
            record {
              new = more.new;
              ascending = more.ascending;
              gains = Gains-same (λ b. b ≡ block) (Continues d numbers) old more.new (Continues-whole d numbers (omega (arith, e)) heavy) more.members;
            }
      ]
  gained (suc left) numbers e old p =
      let all = gained_below numbers (λ n older q. let l = length-append numbers (n ∷ []) in gained left (numbers ++ n ∷ []) (omega (arith, l, e)) older q) (256 ^ (d.degree + 1)) old p in
      record {
        new = all.new;
        ascending = all.ascending;
        gains = Gains-same (ContinuesBelow (256 ^ (d.degree + 1)) d numbers) (Continues d numbers) old all.new
            (Continues-next d numbers (omega (arith, e))) all.gains;
      }

  -- the agreed blocks can be listed
  pub some_listing : Filled d.width d.answers → (blocks : List (List ℕ)) × Lists blocks d.answers d.width d.degree d.agreement
  some_listing filled =
      let all = gained d.width [] (omega arith) [] (sorted_nil nat_list_cmp_total) in (
        all.new,
        Lists-Gains d.answers d.width d.degree d.agreement all.new filled all.ascending
            (Gains-same (Continues d []) (Heavy d.answers d.width d.degree d.agreement) [] all.new (continues-Heavy d) all.gains),
      )

-- ---- the verdict

module _ (all : List Answer) (width : ℕ) where
  -- there is one on answers in Shamir's scheme
  pub some_decided : (t h : ℕ) → Filled width all → (verdict : Verdict) × IsDecided all width t h verdict
  some_decided t h filled =
      elim (cases_lt (length all) h) [
        | inl few ↦ (TooFew (length all) h, (refl, refl, few))
        | inr enough ↦ elim (cases_lt (length all * t) (h * h)) [
          | inl strong ↦ elim (cases_lt MOST_COST (cost (length all) t h)) [
            | inl costly ↦ (TooCostly (cost (length all) t h), (refl, enough, strong, costly))
            | inr cheap ↦ let (blocks, lists) = some_listing (decoding all width t h) filled in (Listed blocks, (enough, strong, cheap, lists))
          ]
          | inr weak ↦ (TooWeak (length all) t h, (refl, refl, refl, enough, weak))
        ]
      ]

  -- and in the XOR scheme
  pub some_combined : (n h : ℕ) → (verdict : Verdict) × IsCombined all width n h verdict
  some_combined n h =
      elim (cases_lt (length all) n) [
        | inl few ↦ (TooFew (length all) h, (refl, refl, few))
        | inr enough ↦ (Listed (combined width (map (λ (a : Answer). a.payload) all) ∷ []), (enough, refl))
      ]

-- usable answers have a byte for each column
filled_with : (width i : ℕ) (payload : Option (List ℕ)) (rest : List Answer) → ((bytes : List ℕ) → payload ≡ Some bytes
    → length bytes ≡ width) → Filled width rest → Filled width (with_answer i payload rest)
filled_with width i None rest size filled = filled
filled_with width i (Some payload) rest size filled = All-cons (λ (a : Answer). length a.payload ≡ width) (record { index = i; payload = payload }) rest (size payload refl) filled

-- so have all usable answers of a session
filled_from : (i : ℕ) (p : SessionParams) (records : List (Option (List ℕ))) → Filled (block_len p) (answers_from i p records)
filled_from i p [] = All-nil (λ (a : Answer). length a.payload ≡ block_len p)
filled_from i p (None ∷ records) = filled_from (i + 1) p records
filled_from i p (Some bytes ∷ records) = filled_with (block_len p) i (usable bytes (asked p i)) (answers_from (i + 1) p records)
    (λ payload e. usable_size bytes payload (asked p i) e) (filled_from (i + 1) p records)

-- there is a verdict on each session
pub some_verdict : (session : Transcript) → HasVerdict session
some_verdict session =
    let p = session.params in
    let (decided, is_decided) = some_decided (answers session) (block_len p) p.t p.h (filled_from 1 p session.records) in
    let (summed, is_summed) = some_combined (answers session) (block_len p) p.n p.h in
    elim (cases_lt p.scheme 2) [
      | inl low ↦ record { verdict = decided; is = record { shamir = λ e. is_decided; xor = λ e. absurd (omega (arith, e, low)) } }
      | inr high ↦ record { verdict = summed; is = record { shamir = λ e. absurd (omega (arith, e, high)); xor = λ e. is_summed } }
    ]
