-- A listing has at most as many blocks, and a report at most as many agreements, as Johnson's bound says: each is made of a
-- heavy vector.
use Rattle.std.proofs.Common.{◌≡◌, ◌≢◌, ℕ, ◌*◌, ◌<◌, ◌≤◌, List, [], ◌∷◌, length, map, get_or, All, AllPairs, refl, sym, ap, ap₂, subst, ◌∙◌, arith}
use Rattle.std.specs.Cmp.{IsTotalOrder}
use Rattle.std.specs.List.Sorted.{IsStrictlySortedBy}
use Rattle.std.specs.declared.cmp.Ordering.{Ordering}
use Rattle.std.proofs.lemmas.Cmp.{nat_list_cmp_total}
use Rattle.std.proofs.lemmas.List.{length-map}
use Rattle.std.proofs.lemmas.List.Elements.{All-nil, All-cons, All-head, All-tail, Contains-get_or}
use Rattle.std.proofs.lemmas.Map.Keys.{Less-from_sorted}
use Rattle.wire_frames.specs.Answer.{Answer}
use Rattle.block_decoder.specs.Agreed.{constants_of, Filled, HasColumns, Lists}
use Rattle.block_decoder.specs.Decoding.{decoding}
use Rattle.block_decoder.specs.Narrowing.{agreement_on, ContinuesFrom}
use Rattle.block_decoder.specs.Numbers.{bound_of}
use Rattle.block_decoder.specs.Report.{Agreement, IsReport}
use Rattle.block_decoder.specs.Vectors.{IsHeavyVector}
use Rattle.block_decoder.specs.Verdict.{IsDecided, ListsNoMoreThan}
use Rattle.block_decoder.specs.declared.verdict.Verdict.{Verdict}
use Rattle.block_decoder.specs.declared.verdict.Verdict.TheVariants.{Listed, TooFew, TooWeak, TooCostly}
use Rattle.block_decoder.proofs.Agreed.{heavy_from_agreed}
use Rattle.block_decoder.proofs.Continued.{continues-Heavy}
use Rattle.block_decoder.proofs.HeavyVectors.{few_heavy}
use Rattle.block_decoder.proofs.Members.{not_before_itself}
use Rattle.block_decoder.proofs.Pairs.{AllPairs-from_map}
use Rattle.block_decoder.proofs.Reported.{agreement_cmp_total, continues-agreement}

-- heavy vectors, of which these are made
record HasVectors {X : Type 0} (made : List (List ℕ) → X) (answers : List Answer) (c t h : ℕ) (xs : List X) : Type 0 where
  vectors : List (List (List ℕ))
  heavy : All (IsHeavyVector answers c t h) vectors
  are : map made vectors ≡ xs

-- they can be found
has_vectors : {X : Type 0} (made : List (List ℕ) → X) (answers : List Answer) (c t h : ℕ) (xs : List X)
    → All (ContinuesFrom made (decoding answers c t h) []) xs → HasVectors made answers c t h xs
has_vectors made answers c t h [] all =
    record { vectors = []; heavy = All-nil (IsHeavyVector answers c t h); are = refl }
has_vectors made answers c t h (x ∷ xs) all =
    let first = All-head (ContinuesFrom made (decoding answers c t h) []) x xs all in
    let rest = has_vectors made answers c t h xs (All-tail (ContinuesFrom made (decoding answers c t h) []) x xs all) in
    record {
      vectors = first.more ∷ rest.vectors;
      heavy = All-cons (IsHeavyVector answers c t h) first.more rest.vectors
          (record { one_a_column = let n = first.one_a_column in omega (arith, n); degree = first.degree; enough = first.enough }) rest.heavy;
      are = ap₂ (λ y ys. y ∷ ys) (sym first.is) rest.are;
    }

-- what stands in order differs
different_in_order : {K : Type 0} {R : K → K → Ordering} → IsTotalOrder R → (xs : List K) → IsStrictlySortedBy R xs
    → AllPairs (λ a b. a ≢ b) xs
different_in_order {K} {R} o xs ascending i j d before within same =
    let less = Less-from_sorted R xs i j d ascending before within in
    not_before_itself o (get_or xs j d) (ap (λ b. R b (get_or xs j d)) (sym same) ∙ less)

module _ (answers : List Answer) (bytes : All (λ a. a.index < 256) answers)
    (different : AllPairs (λ a b. a.index ≢ b.index) answers) where
  -- of what is made of heavy vectors no more can stand in order than Johnson's bound says, where k * t < h * h
  few_made : {X : Type 0} {R : X → X → Ordering} → IsTotalOrder R → (made : List (List ℕ) → X) (width t h : ℕ) (xs : List X)
      → t < h → length answers * t < h * h → IsStrictlySortedBy R xs → All (ContinuesFrom made (decoding answers width t h) []) xs
      → length xs ≤ bound_of (length answers) t h
  few_made {X} {R} o made width t h xs less strong ascending each =
      let has = has_vectors made answers width t h xs each in
      let differ : AllPairs (λ a b. a ≢ b) (map made has.vectors) =
      subst (AllPairs (λ a b. a ≢ b)) (sym has.are) (different_in_order o xs ascending) in
      let apart = AllPairs-from_map (λ (a b : X). a ≢ b) made has.vectors differ in
      let count = few_heavy answers bytes different width t h has.vectors less strong (record {
        different = λ i j d before l same. apart i j d before l (ap made same);
        heavy = has.heavy;
      }) in
      subst (λ n. n ≤ bound_of (length answers) t h) (sym (length-map has.vectors made) ∙ ap length has.are) count

  -- so a listing has no more blocks
  pub few_blocks : (width t h : ℕ) (blocks : List (List ℕ)) → Filled width answers → t < h → length answers * t < h * h
      → Lists blocks answers width t h → length blocks ≤ bound_of (length answers) t h
  few_blocks width t h blocks filled less strong lists =
      few_made nat_list_cmp_total constants_of width t h blocks less strong lists.ascending (λ i d l.
      (continues-Heavy (decoding answers width t h) (get_or blocks i d)).1 (heavy_from_agreed answers width t h (get_or blocks i d) filled
      ((lists.exact (get_or blocks i d)).0 (Contains-get_or blocks i d l))))

  -- and a report no more agreements
  pub few_agreements : (width t h : ℕ) (agreements : List Agreement) → Filled width answers → t < h
      → length answers * t < h * h → IsReport answers width t h agreements → length agreements ≤ bound_of (length answers) t h
  few_agreements width t h agreements filled less strong report =
      few_made agreement_cmp_total (agreement_on answers) width t h agreements less strong report.ascending (λ i d l.
      (continues-agreement answers width t h filled (get_or agreements i d)).1
      ((report.exact (get_or agreements i d)).0 (Contains-get_or agreements i d l)))

-- so has a verdict that is decided
pub few_decided : (answers : List Answer) (width t h : ℕ) (verdict : Verdict) → HasColumns width answers → t < h
    → IsDecided answers width t h verdict → ListsNoMoreThan (bound_of (length answers) t h) verdict
few_decided answers width t h (TooFew k agree) columns less is = tt
few_decided answers width t h (TooWeak k degree agree) columns less is = tt
few_decided answers width t h (TooCostly equations) columns less is = tt
few_decided answers width t h (Listed blocks) columns less is =
    few_blocks answers columns.indices columns.different width t h blocks columns.filled less is.1 is.3
