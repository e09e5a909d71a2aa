-- Where the answers that agree are many, they agree on one block at most.
use Rattle.std.proofs.Common.{◌≡◌, ℕ, ◌+◌, ◌-◌, ◌*◌, ◌<◌, ◌≤◌, List, [], length, get_or, Contains, sym, ap, subst, ◌∙◌, arith, inl, inr}
use Rattle.std.specs.Cmp.Lexicographic.{slice_cmp}
use Rattle.std.specs.Ordering.{nat_cmp}
use Rattle.std.proofs.Math.Nat.{mul-le-mul_left}
use Rattle.std.proofs.lemmas.Bool.{cases_lt}
use Rattle.std.proofs.lemmas.Cmp.{nat_list_cmp_total}
use Rattle.std.proofs.lemmas.List.Elements.{Contains-get_or}
use Rattle.std.proofs.lemmas.Map.Keys.{Less-from_sorted}
use Rattle.wire_frames.specs.Answer.{block_len, Answer, answers}
use Rattle.wire_frames.specs.Limits.{IsInRange}
use Rattle.wire_frames.specs.Session.{Transcript}
use Rattle.column_lists.specs.declared.TheConstants.{MOST_POINTS}
use Rattle.column_lists.proofs.Counting.{close_is_cheap}
use Rattle.block_decoder.specs.Agreed.{constants_of, Agreed, Lists, holds_first, HasColumns}
use Rattle.block_decoder.specs.Decoding.{decoding}
use Rattle.block_decoder.specs.Narrowing.{ContinuesFrom, agreement_on}
use Rattle.block_decoder.specs.Report.{Agreement, agreement_cmp, IsAgreement, IsReport}
use Rattle.block_decoder.specs.Verdict.{IsDecided, IsCombined, IsVerdict, ListsAtMostOne}
use Rattle.block_decoder.specs.declared.verdict.Verdict.{Verdict}
use Rattle.block_decoder.specs.declared.verdict.Verdict.TheVariants.{Listed, TooFew, TooWeak, TooCostly}
use Rattle.block_decoder.proofs.Agreed.{heavy_from_agreed}
use Rattle.block_decoder.proofs.Continued.{continues-Heavy}
use Rattle.block_decoder.proofs.HeavyVectors.{same_vectors}
use Rattle.block_decoder.proofs.Members.{not_before_itself}
use Rattle.block_decoder.proofs.Places.{count_by_both}
use Rattle.block_decoder.proofs.Reported.{agreement_cmp_total, continues-agreement}
use Rattle.block_decoder.proofs.UsableAnswers.{length-answers_from-le}

-- where 2 h > k + t what is made of two heavy vectors is one
pub one_made : {X : Type 0} (made : List (List ℕ) → X) (answers : List Answer) (width t h : ℕ) (one other : X) → HasColumns width answers
    → length answers + t < 2 * h → ContinuesFrom made (decoding answers width t h) [] one → ContinuesFrom made (decoding answers width t h) [] other → one ≡ other
one_made made answers width t h one other columns close p q =
    let m = p.enough in
    let n = q.enough in
    let both = count_by_both (holds_first p.more) (holds_first q.more) answers in
    let same = same_vectors answers columns.indices columns.different width t p.more q.more (let c = p.one_a_column in omega (arith, c))
    (let c = q.one_a_column in omega (arith, c)) p.degree q.degree (omega (arith, m, n, both, close)) in
    p.is ∙ ap made same ∙ sym q.is

-- so two agreed blocks are one
pub one_block : (answers : List Answer) (width t h : ℕ) (one other : List ℕ) → HasColumns width answers → length answers + t < 2 * h
    → Agreed answers width t h one → Agreed answers width t h other → one ≡ other
one_block answers width t h one other columns close first second =
    one_made constants_of answers width t h one other columns close
    ((continues-Heavy (decoding answers width t h) one).1 (heavy_from_agreed answers width t h one columns.filled first))
    ((continues-Heavy (decoding answers width t h) other).1 (heavy_from_agreed answers width t h other columns.filled second))

-- and two agreements
pub one_agreement : (answers : List Answer) (width t h : ℕ) (one other : Agreement) → HasColumns width answers → length answers + t < 2 * h
    → IsAgreement answers width t h one → IsAgreement answers width t h other → one ≡ other
one_agreement answers width t h one other columns close first second =
    one_made (agreement_on answers) answers width t h one other columns close
    ((continues-agreement answers width t h columns.filled one).1 first) ((continues-agreement answers width t h columns.filled other).1 second)

-- and a listing has one block at most
pub listed_alone : (answers : List Answer) (width t h : ℕ) (blocks : List (List ℕ)) → HasColumns width answers → length answers + t < 2 * h
    → Lists blocks answers width t h → length blocks ≤ 1
listed_alone answers width t h blocks columns close lists =
    elim (cases_lt 1 (length blocks)) [
      | inl many ↦
          let first : Contains blocks (get_or blocks 0 []) = Contains-get_or blocks 0 [] (omega arith) in
          let second : Contains blocks (get_or blocks 1 []) = Contains-get_or blocks 1 [] many in
          let same = one_block answers width t h (get_or blocks 0 []) (get_or blocks 1 []) columns close
          ((lists.exact (get_or blocks 0 [])).0 first) ((lists.exact (get_or blocks 1 [])).0 second) in
          let before = Less-from_sorted (slice_cmp nat_cmp) blocks 0 1 [] lists.ascending (omega arith) many in
          absurd (not_before_itself nat_list_cmp_total (get_or blocks 1 []) (ap (λ (b : List ℕ). slice_cmp nat_cmp b (get_or blocks 1 [])) (sym same) ∙ before))
      | inr few ↦ few
    ]

-- and a report has one agreement at most
pub reported_alone : (answers : List Answer) (width t h : ℕ) (agreements : List Agreement) → HasColumns width answers
    → length answers + t < 2 * h → IsReport answers width t h agreements → length agreements ≤ 1
reported_alone answers width t h agreements columns close report =
    elim (cases_lt 1 (length agreements)) [
      | inl many ↦
          let none : Agreement = record { block = []; indices = [] } in
          let one = get_or agreements 0 none in
          let other = get_or agreements 1 none in
          let same = one_agreement answers width t h one other columns close
          ((report.exact one).0 (Contains-get_or agreements 0 none (omega arith))) ((report.exact other).0 (Contains-get_or agreements 1 none many)) in
          let before = Less-from_sorted agreement_cmp agreements 0 1 none report.ascending (omega arith) many in
          absurd (not_before_itself agreement_cmp_total other (ap (λ (a : Agreement). agreement_cmp a other) (sym same) ∙ before))
      | inr few ↦ few
    ]

-- where h lies so close to k, Johnson's bound holds
strong : (t g r : ℕ) → r < g → (t + g + r) * t < (t + g) * (t + g)
strong t g r less =
    let part : t * r ≤ t * g = mul-le-mul_left t (let l : r ≤ g = omega arith in l) in
    let square : g * 1 ≤ g * g = mul-le-mul_left g (let l : 1 ≤ g = omega arith in l) in
    omega arith

-- 2 h > k + t is strong enough for Johnson's bound
pub close_is_strong : (k t h : ℕ) → h ≤ k → k + t < 2 * h → k * t < h * h
close_is_strong k t h enough close =
    let all : t + (h - t) + (k - h) ≡ k = omega arith in
    let most : t + (h - t) ≡ h = omega arith in
    subst (λ n. n * t < h * h) all (subst (λ n. (t + (h - t) + (k - h)) * t < n * n) most (strong t (h - t) (k - h) (omega arith)))

-- where h <= k and 2 h > k + t the verdict lists one block, or none
pub close_is_listed : (answers : List Answer) (width t h : ℕ) (verdict : Verdict) → HasColumns width answers → length answers ≤ MOST_POINTS → h ≤ length answers
    → length answers + t < 2 * h → IsDecided answers width t h verdict → ListsAtMostOne verdict
close_is_listed answers width t h (TooFew k agree) columns most enough close is = let few = is.2 in absurd (omega (arith, few, enough))
close_is_listed answers width t h (TooWeak k degree agree) columns most enough close is =
    let weak = is.4 in
    let strong = close_is_strong (length answers) t h enough close in
    absurd (omega (arith, weak, strong))
close_is_listed answers width t h (TooCostly equations) columns most enough close is =
    let costly = is.3 in
    let cheap = close_is_cheap (length answers) t h enough most close is.2 in
    absurd (omega (arith, costly, cheap))
close_is_listed answers width t h (Listed blocks) columns most enough close is = listed_alone answers width t h blocks columns close is.3

-- where n <= k the verdict of the XOR scheme lists one block
pub combined_is_listed : (answers : List Answer) (width n h : ℕ) (verdict : Verdict) → n ≤ length answers → IsCombined answers width n h verdict → ListsAtMostOne verdict
combined_is_listed answers width n h (TooFew k agree) all is = let few = is.2 in absurd (omega (arith, few, all))
combined_is_listed answers width n h (TooWeak k degree agree) all is = absurd is
combined_is_listed answers width n h (TooCostly equations) all is = absurd is
combined_is_listed answers width n h (Listed blocks) all is = let one = ap length is.1 in omega (arith, one)

-- where h <= k and 2 h > k + t the verdict on a session lists one block, or none, in either scheme
pub close_verdict_is_listed : (session : Transcript) (verdict : Verdict) → IsInRange session.params → HasColumns (block_len session.params) (answers session)
    → length session.records ≤ session.params.n → session.params.h ≤ length (answers session) → length (answers session) + session.params.t < 2 * session.params.h
    → IsVerdict session verdict → ListsAtMostOne verdict
close_verdict_is_listed session verdict range columns few enough close is =
    let p = session.params in
    let usable = length-answers_from-le 1 p session.records in
    let servers = range.few_servers in
    elim range.scheme [
      | inl shamir ↦ close_is_listed (answers session) (block_len p) p.t p.h verdict columns (omega (arith, usable, few, servers)) enough close (is.shamir shamir)
      | inr xor ↦ let all = range.all_answer xor in combined_is_listed (answers session) (block_len p) p.n p.h verdict (omega (arith, all, enough)) (is.xor xor)
    ]
