use Rattle.std.proofs.Common.{◌≡◌, ◌+◌, ◌<◌, ◌≤◌, ℕ, List, [], ◌∷◌, length, Result, Ok, Err, IfOk, refl, subst, arith}
use Rattle.wire_frames.specs.Answer.{Answer}
use Rattle.column_lists.specs.Numbers.{cost, mult}
use Rattle.column_lists.specs.declared.TheConstants.{MOST_COST}
use Rattle.block_decoder.specs.Agreed.{answers_of}
use Rattle.block_decoder.specs.Numbers.{most_columns}
use Rattle.block_decoder.specs.Verdict.{IsDecided, least_columns}
use Rattle.block_decoder.specs.declared.verdict.Verdict.{Verdict}
use Rattle.block_decoder.specs.declared.verdict.Verdict.TheVariants.{Listed, TooFew, TooWeak, TooCostly}
use Rattle.program_tests.proofs.asked_way.decided.Goals as goal

module _ (all : List Answer) (five : length all ≡ 5) (old new : ℕ) where
  -- five answers, of which three are to agree on a line, are listed, so a column is counted
  one_column : (v : Verdict) → IsDecided all 1 1 3 v → old + least_columns 1 v ≤ new → old + 1 ≤ new
  unfolding mult
  one_column (TooFew k agree) is least = absurd (omega (arith, is.2, five))
  one_column (TooWeak k degree agree) is least = absurd (omega (arith, is.4, five))
  one_column (TooCostly equations) is least =
      let costly : MOST_COST < cost 5 1 3 = subst (λ (k : ℕ). MOST_COST < cost k 1 3) five is.3 in
      absurd (omega (arith, costly))
  one_column (Listed []) is least = least
  one_column (Listed (block ∷ blocks)) is least = least

  one_column_if_ok : {E : Type 0} (r : Result Verdict E) → new ≤ old + 1 → IfOk r (IsDecided all 1 1 3)
      → IfOk r (λ v. old + least_columns 1 v ≤ new) → IfOk r (λ _. new ≡ old + 1)
  one_column_if_ok (Ok v) most is least = let l = one_column v is least in omega (arith, l, most)
  one_column_if_ok (Err e) most is least = tt

pub returns : goal.returns
unfolding most_columns
returns g c =
    one_column_if_ok (answers_of 1 (1 ∷ 2 ∷ 3 ∷ 4 ∷ 5 ∷ []) (16 ∷ 16 ∷ 16 ∷ 23 ∷ 22 ∷ [])) refl c.args.cols.now c.decide.new.cols c.decide.result c.decide.ensures.cols c.decide.ensures.verdict c.decide.ensures.listed
