-- What is judged with a report that may be wanted: from what is decided of its answers, of their sum, and where memory ran out.
use Rattle.std.proofs.Common.{◌≡◌, ℕ, Bool, true, false, if◌then◌else◌, List, Some, None, length, IfOk, refl, subst, arith, ◌+◌, ◌*◌, ◌≤◌, ◌<◌, le_refl}
use Rattle.std.specs.Prelude.{Result, Ok}
use Rattle.std.proofs.lemmas.Result.{IfOk-weaker}
use Rattle.wire_frames.specs.Answer.{Answer, answers, block_len}
use Rattle.wire_frames.specs.Session.{Transcript}
use Rattle.wire_frames.specs.declared.scheme.TheConstants.{SHAMIR, XOR}
use Rattle.column_lists.specs.Numbers.{cost}
use Rattle.column_lists.specs.declared.TheConstants.{MOST_COST}
use Rattle.block_decoder.specs.Agreed.{HasColumns}
use Rattle.block_decoder.specs.Decoding.{decoding, most_columns_of, most_nodes_of, Counters, IsReportOf}
use Rattle.block_decoder.specs.Judging.{most_blocks_of, DecidesWith, Judgement, JudgesWith}
use Rattle.block_decoder.specs.Report.{Agreement}
use Rattle.block_decoder.specs.Reported.{IsListedFrom, IsReportBeside, IsReportOn, ReportsNoMoreThan}
use Rattle.block_decoder.specs.Verdict.{IsCombined, IsDecided, IsRefusal, IsUnlisted, IsVerdict, ListsNoMoreThan, least_coefficients, least_columns}
use Rattle.block_decoder.specs.declared.decoding.Decoding.{Decoding}
use Rattle.block_decoder.specs.declared.verdict.Verdict.{Verdict}
use Rattle.block_decoder.proofs.Beside.{decided, beside, few_beside, least_listed, least_several, refused}
use Rattle.std.proofs.Math.Nat.{le-add_right}
use Rattle.block_decoder.proofs.Costs.{no_steps}
use Rattle.block_decoder.proofs.FewBlocks.{few_decided}

-- where an answer is refused, nothing is listed and no step taken
pub refused_with : (wanted : Bool) (d : Decoding) {E : Type 0} (verdict : Verdict) (a : Counters)
    → IsRefusal (length d.answers) d.degree d.agreement verdict → DecidesWith wanted d {E = E} (Ok (verdict, None)) a a
refused_with wanted d verdict a is =
    let (decided, nothing, nothing_fixed, few, none) = refused d.answers d.width d.degree d.agreement (most_blocks_of d) verdict is in
    record {
      verdict = decided;
      report = λ asked. none;
      unwanted = λ unasked. refl;
      cols = le-add_right a.cols _;
      nodes = le-add_right a.nodes _;
      least = le_refl a.cols;
      least_nodes = le_refl a.nodes;
      listed = omega (arith, nothing);
      several = omega (arith, nothing_fixed);
      unlisted = λ unlisted. no_steps a.cols a.nodes;
      few = few;
      few_agree = λ agreements given. (cc);
    }

-- where memory ran out on the way to a listing
pub untold_with : (wanted : Bool) (d : Decoding) {E : Type 0} (result : Result Judgement E) (a b : Counters)
    → ((P : Judgement → Type 0) → IfOk result P) → b.cols ≤ a.cols + most_columns_of d → b.nodes ≤ a.nodes + most_nodes_of d
    → (a.cols ≤ b.cols) × (a.nodes ≤ b.nodes) → ¬ IsUnlisted (length d.answers) d.degree d.agreement
    → DecidesWith wanted d result a b
untold_with wanted d result a b none most most_of_nodes least can = record {
  verdict = none _;
  report = none _;
  unwanted = none _;
  cols = most;
  nodes = most_of_nodes;
  least = least.0;
  least_nodes = least.1;
  listed = none _;
  several = none _;
  unlisted = λ unlisted. absurd (can unlisted);
  few = none _;
  few_agree = none _;
}

-- where every agreement was found, and is listed
pub listed_with : (wanted : Bool) (d : Decoding) {E : Type 0} (result : Result Judgement E) (a b : Counters)
    (report : List Agreement) → HasColumns d.width d.answers → d.degree < d.agreement
    → (d.agreement ≤ length d.answers) × (length d.answers * d.degree < d.agreement * d.agreement)
    × (cost (length d.answers) d.degree d.agreement ≤ MOST_COST)
    → IsReportOf d report → IfOk result (IsListedFrom wanted report) → a.cols < b.cols
    → (0 < length report → a.cols + d.width ≤ b.cols)
    → (1 < length report → a.nodes + (d.degree + 1) ≤ b.nodes) → b.cols ≤ a.cols + most_columns_of d
    → b.nodes ≤ a.nodes + most_nodes_of d → (a.cols ≤ b.cols) × (a.nodes ≤ b.nodes)
    → ¬ IsUnlisted (length d.answers) d.degree d.agreement → DecidesWith wanted d result a b
listed_with wanted d result a b report has less can_be is lists tried found several most most_of_nodes least can =
    let all = d.answers in
    let width = d.width in
    let t = d.degree in
    let h = d.agreement in
    let decides = IfOk-weaker result (IsListedFrom wanted report) (λ (found : Judgement). IsDecided all width t h found.0)
    (λ found listed. decided all width t h has report is can_be.0 can_be.1 can_be.2 found.0 listed.0) lists in
    record {
      verdict = decides;
      report = IfOk-weaker result (IsListedFrom wanted report) (λ (found : Judgement). wanted ≡ true → IsReportBeside all width t h found.0 found.1)
          (λ found listed. beside all width t h has report is wanted found listed) lists;
      unwanted = IfOk-weaker result (IsListedFrom wanted report) (λ (found : Judgement). wanted ≡ false → found.1 ≡ None)
          (λ found listed unasked. subst (λ (w : Bool). found.1 ≡ if w then Some report else None) unasked listed.1) lists;
      cols = most;
      nodes = most_of_nodes;
      least = least.0;
      least_nodes = least.1;
      listed = IfOk-weaker result (IsListedFrom wanted report) (λ (found : Judgement). a.cols + least_columns width found.0 ≤ b.cols)
          (λ of listed. least_listed report width a.cols b.cols of.0 listed.0 tried found) lists;
      several = IfOk-weaker result (IsListedFrom wanted report) (λ (found : Judgement). a.nodes + least_coefficients t found.0 ≤ b.nodes)
          (λ of listed. least_several report t a.nodes b.nodes of.0 listed.0 least.1 several) lists;
      unlisted = λ unlisted. absurd (can unlisted);
      few = IfOk-weaker result (λ (found : Judgement). IsDecided all width t h found.0)
          (λ (found : Judgement). ListsNoMoreThan (most_blocks_of d) found.0)
          (λ found listed. few_decided all width t h found.0 has less listed) decides;
      few_agree = IfOk-weaker result (IsListedFrom wanted report) (λ (found : Judgement). ReportsNoMoreThan (most_blocks_of d) found.1)
          (λ found listed. few_beside all width t h has report is less can_be.1 wanted found listed) lists;
    }

-- a session of Shamir's scheme is judged by what is decided of its answers, with equal numbers
pub judged : (wanted : Bool) (session : Transcript) (all : List Answer) (s t h : ℕ) {E : Type 0} (result : Result Judgement E)
    (a b : Counters) → (session.params.scheme ≡ XOR → ⊥) → all ≡ answers session → s ≡ block_len session.params
    → t ≡ session.params.t → h ≡ session.params.h → DecidesWith wanted (decoding all s t h) result a b
    → JudgesWith wanted session result a b
judged wanted session all s t h result a b shamir same width degree agree is =
    let p = session.params in
    let decides : DecidesWith wanted (decoding (answers session) (block_len p) p.t p.h) result a b =
    subst (λ (x : List Answer). DecidesWith wanted (decoding x (block_len p) p.t p.h) result a b) same
    (subst (λ (n : ℕ). DecidesWith wanted (decoding all n p.t p.h) result a b) width
    (subst (λ (n : ℕ). DecidesWith wanted (decoding all s n p.h) result a b) degree
    (subst (λ (n : ℕ). DecidesWith wanted (decoding all s t n) result a b) agree is))) in
    record {
      verdict = IfOk-weaker result (λ (found : Judgement). IsDecided (answers session) (block_len p) p.t p.h found.0)
          (λ (found : Judgement). IsVerdict session found.0)
          (λ found decided. record { shamir = λ one. decided; xor = λ two. absurd (shamir two) }) decides.verdict;
      report = IfOk-weaker result (λ (found : Judgement). wanted ≡ true → IsReportBeside (answers session) (block_len p) p.t p.h found.0 found.1)
          (λ (found : Judgement). wanted ≡ true → IsReportOn session found.0 found.1)
          (λ found beside asked. record { shamir = λ one. beside asked; xor = λ two. absurd (shamir two) }) decides.report;
      unwanted = decides.unwanted;
      cols = decides.cols;
      nodes = decides.nodes;
      least = decides.least;
      least_nodes = decides.least_nodes;
      listed = λ one. decides.listed;
      several = IfOk-weaker result _ _ (λ found least one. least) decides.several;
      unlisted = decides.unlisted;
      few = λ one. decides.few;
      few_agree = λ one. decides.few_agree;
      xor = λ two. absurd (shamir two);
    }

-- where nothing was found, for want of memory, and no step taken
pub unjudged : (wanted : Bool) (session : Transcript) {E : Type 0} (result : Result Judgement E) (a : Counters)
    → ((P : Judgement → Type 0) → IfOk result P) → JudgesWith wanted session result a a
unjudged wanted session result a none = record {
  verdict = none _;
  report = none _;
  unwanted = none _;
  cols = le-add_right a.cols _;
  nodes = le-add_right a.nodes _;
  least = le_refl a.cols;
  least_nodes = le_refl a.nodes;
  listed = λ one. none _;
  several = none _;
  unlisted = λ is. (refl, refl);
  few = λ one. none _;
  few_agree = λ one. none _;
  xor = λ two. (refl, refl);
}

-- a session of the XOR scheme is judged by the sum of its answers, with no report and no step
pub combined : (wanted : Bool) (session : Transcript) {E : Type 0} (verdict : Verdict) (a : Counters) → session.params.scheme ≡ XOR
    → IsCombined (answers session) (block_len session.params) session.params.n session.params.h verdict
    → JudgesWith wanted session {E = E} (Ok (verdict, None)) a a
combined wanted session verdict a xor is =
    let no_shamir : session.params.scheme ≡ SHAMIR → ⊥ = λ shamir. omega (arith, shamir, xor) in
    record {
      verdict = record { shamir = λ one. absurd (no_shamir one); xor = λ two. is };
      report = λ asked. record { shamir = λ one. absurd (no_shamir one); xor = λ two. refl };
      unwanted = λ unasked. refl;
      cols = le-add_right a.cols _;
      nodes = le-add_right a.nodes _;
      least = le_refl a.cols;
      least_nodes = le_refl a.nodes;
      listed = λ one. absurd (no_shamir one);
      several = λ one. absurd (no_shamir one);
      unlisted = λ none. (refl, refl);
      few = λ one. absurd (no_shamir one);
      few_agree = λ one. absurd (no_shamir one);
      xor = λ two. (refl, refl);
    }
