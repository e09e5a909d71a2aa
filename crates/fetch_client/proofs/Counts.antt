-- What a fetch does and counts where it fails, or has judged a session.
use Rattle.std.proofs.Common.{◌≡◌, ◌∙◌, ℕ, Bool, true, List, All, ◌+◌, ◌*◌, ◌≤◌, length, inr, refl, sym, ap, subst, le_refl, arith}
use Rattle.std.specs.Prelude.{Option, Result, Ok, Err}
use Rattle.port_trait.specs.World.{World}
use Rattle.wire_frames.specs.declared.session.SessionParams.{SessionParams}
use Rattle.wire_frames.specs.declared.scheme.TheConstants.{XOR}
use Rattle.wire_frames.specs.Answer.{answers, block_len}
use Rattle.wire_frames.specs.Limits.{IsInRange}
use Rattle.wire_frames.specs.Session.{Fits, Transcript}
use Rattle.wire_frames.specs.Sizes.{answer_len}
use Rattle.block_decoder.specs.Decoding.{counters}
use Rattle.block_decoder.specs.Numbers.{most_columns, most_nodes}
use Rattle.block_decoder.specs.Judging.{JudgesWith}
use Rattle.block_decoder.specs.Report.{Agreement}
use Rattle.block_decoder.specs.Verdict.{least_coefficients, least_columns}
use Rattle.block_decoder.specs.declared.verdict.Verdict.{Verdict}
use Rattle.block_decoder.proofs.UsableAnswers.{length-answers_from-le}
use Rattle.query_rounds.specs.declared.plan.FetchPlan.{FetchPlan}
use Rattle.query_rounds.specs.declared.plan.FetchFault.{FetchFault}
use Rattle.query_rounds.specs.declared.plan.FetchFault.TheVariants.{CoinsFault, CoinsEnded, Memory}
use Rattle.query_rounds.specs.declared.gathering.Gathered.{Gathered}
use Rattle.query_rounds.specs.Gathered.{AsksWith, FetchesTo, GathersTo, Gathers, TouchesLinks}
use Rattle.query_rounds.specs.Plan.{AreBlocks, IsPlan, params_of}
use Rattle.query_rounds.specs.Request.{Request}
use Rattle.query_rounds.specs.Sent.{session_number}
use Rattle.fetch_client.specs.Fetched.{ConcludesWhole, ConcludesWith, CountsForSome, CountsSteps, FetchCountsOf, FetchesWhole, FetchesWith, steps_for}
use Rattle.fetch_client.proofs.Judged.{concludes, concludes_whole}

-- what a fetch with a report answers
abbrev Answered : Type 0
Answered = Result (Transcript × Verdict × Option (List Agreement)) FetchFault

-- without the coins no step is counted, and where memory ran out before anything was touched neither
counts_none : {T : Type 0} (session_of : T → Transcript) (most : ℕ → ℕ) (servers : ℕ) (fault : FetchFault) (before : ℕ)
    → FetchCountsOf session_of most servers (Err fault) before before
counts_none session_of most servers CoinsFault before = refl
counts_none session_of most servers (CoinsEnded taken) before = refl
counts_none session_of most servers Memory before = record { answers = 0; few = omega arith; bounded = omega arith }

-- where a fetch fails, what was done doesn't depend on what would have been answered
module _ {T U : Type 0} (P : T → World → World → Type 0) (Q : U → World → World → Type 0) (r : Request) (old new : World) where
  failed : (fault : FetchFault) → FetchesTo P r (Err fault) old new → FetchesTo Q r (Err fault) old new
  failed CoinsFault is = is
  failed (CoinsEnded taken) is = is
  failed Memory is = is

  pub failed_alike : (result : Result U FetchFault) (fault given : FetchFault) → result ≡ Err fault → fault ≡ given
      → FetchesTo P r (Err given) old new → FetchesTo Q r result old new
  failed_alike result fault given is same done =
      subst (λ (a : Result U FetchFault). FetchesTo Q r a old new) (sym (is ∙ ap Err same)) (failed given done)

-- nor does what was counted
module _ {T U : Type 0} (session_of : T → Transcript) (session_in : U → Transcript) (most : ℕ → ℕ) (servers before now : ℕ) where
  counted : (fault : FetchFault) → FetchCountsOf session_of most servers (Err fault) before now
      → FetchCountsOf session_in most servers (Err fault) before now
  counted CoinsFault is = is
  counted (CoinsEnded taken) is = is
  counted Memory is = is

  pub counted_alike : (result : Result U FetchFault) (fault given : FetchFault) → result ≡ Err fault → fault ≡ given
      → FetchCountsOf session_of most servers (Err given) before now → FetchCountsOf session_in most servers result before now
  counted_alike result fault given is same done =
      subst (λ (a : Result U FetchFault). FetchCountsOf session_in most servers a before now) (sym (is ∙ ap Err same)) (counted given done)

-- where nothing was gathered no step is counted
pub none_counted : (p : FetchPlan) (blocks : List ℕ) (result : Answered) (fault : FetchFault) (cols nodes : ℕ) → result ≡ Err fault
    → CountsSteps p blocks result (counters cols nodes) (counters cols nodes)
none_counted p blocks result fault cols nodes is =
    subst (λ (a : Answered). CountsSteps p blocks a (counters cols nodes) (counters cols nodes)) (sym is) record {
      cols = counts_none (λ (found : Transcript × Verdict × Option (List Agreement)). found.0) (steps_for most_columns p blocks) p.n fault cols;
      nodes = counts_none (λ (found : Transcript × Verdict × Option (List Agreement)). found.0) (steps_for most_nodes p blocks) p.n fault nodes;
      least = le_refl cols;
      least_nodes = le_refl nodes;
      listed = λ one. tt;
      several = λ one. tt;
      xor = λ two. (refl, refl);
    }

module _ (wanted : Bool) (r : Request) (old new : World) where
  abbrev p : FetchPlan
  p = r.plan

  abbrev blocks : List ℕ
  blocks = r.blocks

  -- where nothing was gathered nothing is judged
  pub not_gathered : (result : Answered) (fault given : FetchFault) → result ≡ Err fault → fault ≡ given
      → GathersTo r (Err given) old new → TouchesLinks p.n old new → FetchesWith wanted r result old new
  not_gathered result fault given is same done others = record {
    fetched = failed_alike (λ (all : Gathered). Gathers r all.queries all.session) (ConcludesWith wanted r) r old new result fault given is same done;
    others = others;
  }

  module _ (coins : List ℕ) (session : Transcript) (asked : AsksWith r coins session old new) where
    params : session.params ≡ params_of p (length blocks) (session_number coins)
    params = asked.asked.params

    -- memory ran out when every server was asked
    pub not_judged : (result : Answered) (fault : FetchFault) → result ≡ Err fault → fault ≡ Memory → TouchesLinks p.n old new
        → FetchesWith wanted r result old new
    not_judged result fault is same others =
        subst (λ (a : Answered). FetchesWith wanted r a old new) (sym (is ∙ ap Err same)) record {
          fetched = inr record { coins = coins; session = session; asked = asked };
          others = others;
        }

    -- the session of every server was judged
    pub is_judged : {E : Type 0} (verdict : Verdict) (report : Option (List Agreement)) (cols cols_now nodes nodes_now : ℕ)
        → IsPlan p → AreBlocks p blocks → IsInRange session.params
        → All (Fits (answer_len session.params.count session.params.s)) session.records → TouchesLinks p.n old new
        → JudgesWith wanted session {E = E} (Ok (verdict, report)) (counters cols nodes) (counters cols_now nodes_now)
        → FetchesWith wanted r (Ok (session, verdict, report)) old new
    is_judged verdict report cols cols_now nodes nodes_now plan are range fits others judges = record {
      fetched = record {
        concludes = concludes r coins session old new plan are asked range fits verdict judges.verdict;
        reports = λ want. concludes_whole r coins session old new plan are asked range fits verdict report judges.verdict (judges.report want);
      };
      others = others;
    }

    module _ (cols cols_now nodes nodes_now : ℕ) where
      bound : (most : ℕ → ℕ → ℕ → ℕ → ℕ) (before now : ℕ)
          → now ≤ before + most (length (answers session)) session.params.t session.params.h (block_len session.params)
          → now ≤ before + steps_for most p blocks (length (answers session))
      bound most before now l =
          subst (λ (q : SessionParams). now ≤ before + most (length (answers session)) q.t q.h (block_len q)) params l

      -- of some answers there are no more than servers
      for_some : (most : ℕ → ℕ → ℕ → ℕ → ℕ) (before now : ℕ)
          → now ≤ before + most (length (answers session)) session.params.t session.params.h (block_len session.params)
          → CountsForSome (steps_for most p blocks) p.n before now
      for_some most before now l =
          let few = length-answers_from-le 1 session.params session.records in
          let whole = asked.asked.whole in
          record { answers = length (answers session); few = omega (arith, few, whole); bounded = bound most before now l }

      no_step : (session.params.scheme ≡ XOR → (cols_now ≡ cols) × (nodes_now ≡ nodes)) → p.scheme ≡ XOR
          → (cols_now ≡ cols) × (nodes_now ≡ nodes)
      no_step none two = none (ap (λ (q : SessionParams). q.scheme) params ∙ two)

      pub counts_unjudged : {E : Type 0} (judged : Result (Verdict × Option (List Agreement)) E) (result : Answered)
          (fault : FetchFault) → result ≡ Err fault → fault ≡ Memory
          → JudgesWith wanted session judged (counters cols nodes) (counters cols_now nodes_now)
          → CountsSteps p blocks result (counters cols nodes) (counters cols_now nodes_now)
      counts_unjudged judged result fault is same judges =
          subst (λ (a : Answered). CountsSteps p blocks a (counters cols nodes) (counters cols_now nodes_now)) (sym (is ∙ ap Err same)) record {
            cols = for_some most_columns cols cols_now judges.cols;
            nodes = for_some most_nodes nodes nodes_now judges.nodes;
            least = judges.least;
            least_nodes = judges.least_nodes;
            listed = λ one. tt;
            several = λ one. tt;
            xor = no_step judges.xor;
          }

      pub counts_judged : {E : Type 0} (verdict : Verdict) (report : Option (List Agreement))
          → JudgesWith wanted session {E = E} (Ok (verdict, report)) (counters cols nodes) (counters cols_now nodes_now)
          → CountsSteps p blocks (Ok (session, verdict, report)) (counters cols nodes) (counters cols_now nodes_now)
      counts_judged verdict report judges = record {
        cols = bound most_columns cols cols_now judges.cols;
        nodes = bound most_nodes nodes nodes_now judges.nodes;
        least = judges.least;
        least_nodes = judges.least_nodes;
        listed = λ one. subst (λ (q : SessionParams). cols + least_columns (block_len q) verdict ≤ cols_now) params
            (judges.listed (ap (λ (q : SessionParams). q.scheme) params ∙ one));
        several = λ one. subst (λ (q : SessionParams). nodes + least_coefficients q.t verdict ≤ nodes_now) params
            (judges.several (ap (λ (q : SessionParams). q.scheme) params ∙ one));
        xor = no_step judges.xor;
      }

-- where the report is wanted, it is there
pub with_report : (r : Request) (old new : World) (result : Answered)
    → FetchesTo (ConcludesWith true r) r result old new → FetchesWhole r result old new
with_report r old new (Ok found) is = is.reports refl
with_report r old new (Err fault) is = failed (ConcludesWith true r) (ConcludesWhole r) r old new fault is
