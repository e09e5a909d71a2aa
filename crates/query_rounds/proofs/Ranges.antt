-- The numbers of a session in which several blocks are fetched are in their ranges.
use Rattle.std.proofs.Common.{ℕ, ◌*◌, ◌^◌, ◌<◌, ◌≤◌, List, [], ◌∷◌, length, one-mul, arith}
use Rattle.std.specs.Prelude.{◌==◌}
use Rattle.std.proofs.lemmas.Bool.{cond_both, eqb-true}
use Rattle.std.proofs.lemmas.List.Elements.{All-cons, All-nil}
use Rattle.quantity_limits.specs.declared.TheConstants.{MOST_BLOCKS, MOST_WIDTH}
use Rattle.wire_frames.specs.declared.version.Version.{Version}
use Rattle.wire_frames.specs.declared.version.Version.TheVariants.{Single, Several}
use Rattle.wire_frames.specs.Limits.{IsCount, IsInRange}
use Rattle.wire_frames.specs.Version.{number_of}
use Rattle.query_rounds.specs.declared.plan.FetchPlan.{FetchPlan}
use Rattle.query_rounds.specs.Plan.{AreBlocks, IsPlan, params_of, version_for}

-- a version says for so many blocks
count_for : (n s : ℕ) → 1 ≤ n → n ≤ MOST_BLOCKS → n * s ≤ MOST_WIDTH → IsCount (number_of (version_for n)) n s
unfolding version_for
count_for n s some few bytes = cond_both (n == 1) Single Several (λ (v : Version). IsCount (number_of v) n s)
    (λ one. record {
      some_version = omega arith;
      two_versions = omega arith;
      some_blocks = some;
      few_blocks = few;
      one_block = λ _. eqb-true n 1 one;
      few_bytes = bytes;
    })
    (λ _. record {
      some_version = omega arith;
      two_versions = omega arith;
      some_blocks = some;
      few_blocks = few;
      one_block = λ e. absurd (omega (arith, e));
      few_bytes = bytes;
    })

-- so are those of a plan for these blocks
pub range_of : (p : FetchPlan) (blocks : List ℕ) (number : ℕ) → IsPlan p → AreBlocks p blocks → number < 2 ^ 64 → IsInRange (params_of p (length blocks) number)
range_of p blocks number plan are below = record {
  scheme = plan.numbers.scheme;
  private = plan.numbers.private;
  few_private = plan.numbers.few_private;
  agreement = plan.numbers.agreement;
  few_agree = plan.numbers.few_agree;
  servers = plan.numbers.servers;
  few_servers = plan.numbers.few_servers;
  all_agree = plan.numbers.all_agree;
  all_answer = plan.numbers.all_answer;
  session = below;
  shape = plan.numbers.shape;
  blocks = count_for (length blocks) p.s are.some are.few are.few_bytes;
}

-- one block of the database may be asked for
pub one_block : (p : FetchPlan) (block : ℕ) → IsPlan p → block < p.r → AreBlocks p (block ∷ [])
one_block p block plan low = record {
  some = omega arith;
  few = omega arith;
  each = All-cons (λ b. b < p.r) block [] low (All-nil (λ b. b < p.r));
  few_bytes = omega (arith, one-mul p.s, plan.numbers.shape.few_bytes);
}
