-- The verdict and the report that some agreements make.
use Rattle.std.proofs.Common.{◌≡◌, ℕ, ◌+◌, ◌*◌, ◌<◌, ◌≤◌, Bool, true, false, List, [], ◌∷◌, length, Option, Some, None, refl, sym, ap, subst, ◌∙◌, arith}
use Rattle.std.proofs.lemmas.List.{length-map}
use Rattle.wire_frames.specs.Answer.{Answer}
use Rattle.column_lists.specs.Numbers.{cost}
use Rattle.column_lists.specs.declared.TheConstants.{MOST_COST}
use Rattle.block_decoder.specs.Agreed.{HasColumns}
use Rattle.block_decoder.specs.Numbers.{bound_of}
use Rattle.block_decoder.specs.Report.{Agreement, IsReport}
use Rattle.block_decoder.specs.Reported.{ListsBlocksOf, IsListedFrom, IsReportBeside, ReportsNoMoreThan}
use Rattle.block_decoder.specs.Verdict.{IsDecided, IsRefusal, ListsNoMoreThan, least_coefficients, least_columns}
use Rattle.block_decoder.specs.declared.verdict.Verdict.{Verdict}
use Rattle.block_decoder.specs.declared.verdict.Verdict.TheVariants.{Listed, TooFew, TooWeak, TooCostly}
use Rattle.block_decoder.proofs.Candidates.{not_before}
use Rattle.block_decoder.proofs.Continued.{Contains-one}
use Rattle.block_decoder.proofs.FewBlocks.{few_agreements}
use Rattle.block_decoder.proofs.Reported.{reported-lists}

-- the list where there is one, else none
list_in : {X : Type 0} → Option (List X) → List X
list_in None = []
list_in (Some xs) = xs

module _ (answers : List Answer) (width t h : ℕ) (columns : HasColumns width answers) (agreements : List Agreement)
    (report : IsReport answers width t h agreements) where
  -- their blocks are the verdict
  pub decided : h ≤ length answers → length answers * t < h * h → cost (length answers) t h ≤ MOST_COST
      → (verdict : Verdict) → ListsBlocksOf agreements verdict → IsDecided answers width t h verdict
  decided enough strong cheap (Listed blocks) lists =
      (enough, strong, cheap, reported-lists answers width t h columns.filled agreements blocks report lists.0 lists.1)
  decided enough strong cheap (TooFew k agree) lists = absurd lists
  decided enough strong cheap (TooWeak k degree agree) lists = absurd lists
  decided enough strong cheap (TooCostly equations) lists = absurd lists

  -- they stand beside a listing of their blocks
  beside_some : (verdict : Verdict) → ListsBlocksOf agreements verdict
      → IsReportBeside answers width t h verdict (Some agreements)
  beside_some (Listed blocks) lists = (report, lists.1)
  beside_some (TooFew k agree) lists = absurd lists
  beside_some (TooWeak k degree agree) lists = absurd lists
  beside_some (TooCostly equations) lists = absurd lists

  -- they themselves stand beside it where they are wanted
  pub beside : (wanted : Bool) (found : Verdict × Option (List Agreement)) → IsListedFrom wanted agreements found
      → wanted ≡ true → IsReportBeside answers width t h found.0 found.1
  beside true found is wanted =
      subst (IsReportBeside answers width t h found.0) (sym is.1) (beside_some found.0 is.0)
  beside false found is wanted = absurd cc

  -- and are no more than Johnson's bound says
  pub few_beside : t < h → length answers * t < h * h → (wanted : Bool) (found : Verdict × Option (List Agreement))
      → IsListedFrom wanted agreements found → ReportsNoMoreThan (bound_of (length answers) t h) found.1
  unfolding list_in
  few_beside less strong true found is all same =
      let e : agreements ≡ all = ap list_in (sym is.1 ∙ same) in
      subst (λ (l : List Agreement). length l ≤ bound_of (length answers) t h) e
      (few_agreements answers columns.indices columns.different width t h agreements columns.filled less strong report)
  few_beside less strong false found is all same = let none : ◌≡◌ {A = Option (List Agreement)} None (Some all) = sym is.1 ∙ same in absurd cc

-- a listing takes a column, and one of a block all columns
pub least_listed : (agreements : List Agreement) (width c0 c1 : ℕ) (verdict : Verdict) → ListsBlocksOf agreements verdict
    → c0 < c1 → (0 < length agreements → c0 + width ≤ c1) → c0 + least_columns width verdict ≤ c1
least_listed agreements width c0 c1 (Listed []) lists tried found = omega (arith, tried)
least_listed agreements width c0 c1 (Listed (block ∷ blocks)) lists tried found =
    let (i, within, is) = (lists.1 block).0 (0, omega arith, refl) in
    let size = length-map agreements (λ (a : Agreement). a.block) in
    found (omega (arith, within, size))
least_listed agreements width c0 c1 (TooFew k agree) lists tried found = absurd lists
least_listed agreements width c0 c1 (TooWeak k degree agree) lists tried found = absurd lists
least_listed agreements width c0 c1 (TooCostly equations) lists tried found = absurd lists

-- different blocks are those of different agreements
two_blocks : (agreements : List Agreement) (block other : List ℕ) (blocks : List (List ℕ))
    → ListsBlocksOf agreements (Listed (block ∷ other ∷ blocks)) → 1 < length agreements
two_blocks [] block other blocks lists =
    let (i, within, is) = (lists.1 block).0 (0, omega arith, refl) in absurd (omega (arith, within))
two_blocks (one ∷ []) block other blocks lists =
    let all = block ∷ other ∷ blocks in
    let first = Contains-one one.block block ((lists.1 block).0 (0, omega arith, refl)) in
    let second = Contains-one one.block other ((lists.1 other).0 (1, omega arith, refl)) in
    absurd (not_before all 1 lists.0 (omega arith) (0, omega arith, first ∙ sym second))
two_blocks (one ∷ more ∷ agreements) block other blocks lists = omega arith

-- a listing of several blocks takes the coefficients of a polynomial
pub least_several : (agreements : List Agreement) (t n0 n1 : ℕ) (verdict : Verdict) → ListsBlocksOf agreements verdict
    → n0 ≤ n1 → (1 < length agreements → n0 + (t + 1) ≤ n1) → n0 + least_coefficients t verdict ≤ n1
least_several agreements t n0 n1 (Listed []) lists rises several = omega (arith, rises)
least_several agreements t n0 n1 (Listed (block ∷ [])) lists rises several = omega (arith, rises)
least_several agreements t n0 n1 (Listed (block ∷ other ∷ blocks)) lists rises several =
    several (two_blocks agreements block other blocks lists)
least_several agreements t n0 n1 (TooFew k agree) lists rises several = absurd lists
least_several agreements t n0 n1 (TooWeak k degree agree) lists rises several = absurd lists
least_several agreements t n0 n1 (TooCostly equations) lists rises several = absurd lists

-- where nothing is listed no column is taken and no coefficient fixed, and there is no report
pub refused : (answers : List Answer) (width t h most : ℕ) (verdict : Verdict) → IsRefusal (length answers) t h verdict
    → IsDecided answers width t h verdict × (least_columns width verdict ≡ 0) × (least_coefficients t verdict ≡ 0) × ListsNoMoreThan most verdict × IsReportBeside answers width t h verdict None
refused answers width t h most (TooFew k agree) is = (is, refl, refl, tt, refl)
refused answers width t h most (TooWeak k degree agree) is = (is, refl, refl, tt, refl)
refused answers width t h most (TooCostly equations) is = (is, refl, refl, tt, refl)
refused answers width t h most (Listed blocks) is = absurd is
