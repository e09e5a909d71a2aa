-- What the verdicts of a look-up's fetches tell the search.
use Rattle.std.proofs.Common.{◌≡◌, ◌∙◌, ℕ, ◌*◌, ◌||◌, Bool, true, false, cond, List, [], ◌∷◌, ◌++◌, length, map, Option, Some, None, refl, ap, one-mul, arith}
use Rattle.std.specs.Prelude.{IfSome, is_none, is_some, slice_get}
use Rattle.std.specs.List.{list_any}
use Rattle.std.specs.Option.{option_or}
use Rattle.std.proofs.lemmas.List.Folds.{find-append}
use Rattle.wire_frames.specs.declared.scheme.TheConstants.{SHAMIR}
use Rattle.wire_frames.specs.declared.session.SessionParams.{SessionParams}
use Rattle.wire_frames.specs.Session.{Transcript}
use Rattle.block_decoder.specs.Verdict.{IsVerdict}
use Rattle.block_decoder.specs.declared.verdict.Verdict.{Verdict}
use Rattle.block_decoder.specs.declared.verdict.Verdict.TheVariants.{Listed, TooFew, TooWeak, TooCostly}
use Rattle.query_rounds.specs.declared.plan.FetchPlan.{FetchPlan}
use Rattle.query_rounds.specs.Plan.{params_of}
use Rattle.key_search.specs.Standing.{Standing, standing_after}
use Rattle.key_search.specs.Answers.{AreRowsAsked}
use Rattle.key_fetches.specs.Listed.{first_unlisted, only_block, unlisted_of}
use Rattle.key_fetches.specs.Rounds.{AreJudged, ListRowsAsked, Round}

-- the first such verdict, of one more
pub unlisted-more : (verdicts : List Verdict) (verdict : Verdict)
    → first_unlisted (verdicts ++ verdict ∷ []) ≡ option_or (first_unlisted verdicts) (unlisted_of verdict)
unlisted-more verdicts verdict = find-append (λ v. is_none (only_block v)) verdicts (verdict ∷ [])

-- one of them was lost exactly where there is such a verdict
pub lost-unlisted : (verdicts : List Verdict) → list_any is_none (map only_block verdicts) ≡ is_some (first_unlisted verdicts)
lost-unlisted [] = refl
lost-unlisted (verdict ∷ verdicts) =
    ap (λ (b : Bool). is_none (only_block verdict) || b) (lost-unlisted verdicts)
    ∙ by_first (is_none (only_block verdict))
  where
    by_first : (b : Bool) → (b || is_some (first_unlisted verdicts)) ≡ is_some (cond b (Some verdict) (first_unlisted verdicts))
    by_first true = refl
    by_first false = refl

-- the block of a verdict of one fetch is as long as a row
pub width-listed : (p : FetchPlan) (number : ℕ) (session : Transcript) (verdict : Verdict) → p.scheme ≡ SHAMIR
    → session.params ≡ params_of p 1 number → IsVerdict session verdict → IfSome (only_block verdict) (λ block. length block ≡ p.s)
width-listed p number session (TooFew k h) shamir params is = tt
width-listed p number session (TooWeak k t h) shamir params is = tt
width-listed p number session (TooCostly equations) shamir params is = tt
width-listed p number session (Listed []) shamir params is = tt
width-listed p number session (Listed (block ∷ (more ∷ blocks))) shamir params is = tt
width-listed p number session (Listed (block ∷ [])) shamir params is =
    let listed = is.shamir (ap (λ (q : SessionParams). q.scheme) params ∙ shamir) in
    listed.3.sizes 0 [] (omega arith)
    ∙ ap (λ (q : SessionParams). q.count * q.s) params
    ∙ one-mul p.s

-- where each verdict lists the row that was asked for, the search is told the rows that it asks for
pub rows_asked : (p : FetchPlan) (rows : List (List ℕ)) (s : Standing) (rounds : List Round) (verdicts : List Verdict)
    → AreJudged p s rounds verdicts → ListRowsAsked rows rounds verdicts → AreRowsAsked rows s (map only_block verdicts)
rows_asked p rows s [] [] judged list = tt
rows_asked p rows s [] (verdict ∷ verdicts) judged list = absurd judged
rows_asked p rows s (round ∷ rounds) [] judged list = absurd judged
rows_asked p rows s (round ∷ rounds) (verdict ∷ verdicts) judged list = (
  list.0 ∙ ap (slice_get rows) judged.0.round_is.row_is,
  rows_asked p rows (standing_after s (only_block verdict)) rounds verdicts judged.1 list.1,
)
