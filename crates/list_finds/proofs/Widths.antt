-- How many bytes the one block has that a verdict lists.
use Rattle.std.proofs.Common.{◌≡◌, ◌∙◌, ℕ, ◌*◌, [], ◌∷◌, length, ap, arith}
use Rattle.std.specs.Prelude.{IfSome}
use Rattle.wire_frames.specs.declared.scheme.TheConstants.{SHAMIR}
use Rattle.wire_frames.specs.declared.session.SessionParams.{SessionParams}
use Rattle.wire_frames.specs.Session.{Transcript}
use Rattle.block_decoder.specs.Verdict.{IsVerdict}
use Rattle.block_decoder.specs.declared.verdict.Verdict.{Verdict}
use Rattle.block_decoder.specs.declared.verdict.Verdict.TheVariants.{Listed, TooFew, TooWeak, TooCostly}
use Rattle.query_rounds.specs.declared.plan.FetchPlan.{FetchPlan}
use Rattle.query_rounds.specs.Plan.{params_of}
use Rattle.key_fetches.specs.Listed.{only_block}

-- the block of a verdict has the rows that were asked for
pub width_listed : (p : FetchPlan) (count number : ℕ) (session : Transcript) (verdict : Verdict) → p.scheme ≡ SHAMIR
    → session.params ≡ params_of p count number → IsVerdict session verdict
    → IfSome (only_block verdict) (λ block. length block ≡ count * p.s)
width_listed p count number session (TooFew k h) shamir params is = tt
width_listed p count number session (TooWeak k t h) shamir params is = tt
width_listed p count number session (TooCostly equations) shamir params is = tt
width_listed p count number session (Listed []) shamir params is = tt
width_listed p count number session (Listed (block ∷ (more ∷ blocks))) shamir params is = tt
width_listed p count number session (Listed (block ∷ [])) shamir params is =
    let listed = is.shamir (ap (λ (q : SessionParams). q.scheme) params ∙ shamir) in
    listed.3.sizes 0 [] (omega arith) ∙ ap (λ (q : SessionParams). q.count * q.s) params
