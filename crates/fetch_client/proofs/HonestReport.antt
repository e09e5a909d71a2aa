-- Who is named as a liar, where enough servers are honest.
use Rattle.std.proofs.Common.{◌≡◌, ◌≢◌, ◌↔◌, ℕ, ◌+◌, ◌*◌, ◌<◌, ◌≤◌, Bool, true, false, List, [], ◌∷◌, All, length, filter, Contains, IfSome, count_by, bytes_eq, refl, sym, ap, subst, ◌∙◌, inl, inr, arith}
use Rattle.std.specs.Prelude.{Option}
use Rattle.std.proofs.lemmas.List.{length-map}
use Rattle.std.proofs.lemmas.List.Sums.{length-filter}
use Rattle.std.proofs.lemmas.Slice.Eq.{bytes_eq-Decides}
use Rattle.wire_frames.specs.declared.scheme.TheConstants.{SHAMIR}
use Rattle.wire_frames.specs.Answer.{Answer, answers, block_len}
use Rattle.wire_frames.specs.Limits.{IsInRange}
use Rattle.wire_frames.specs.Session.{Transcript}
use Rattle.block_decoder.specs.Agreed.{constants_of, HasColumns}
use Rattle.block_decoder.specs.Report.{Agreement, holds, indices_of, IsAgreement, IsReport}
use Rattle.block_decoder.specs.Reported.{IsReportOn, IsSessionReport}
use Rattle.block_decoder.specs.declared.verdict.Verdict.{Verdict}
use Rattle.block_decoder.specs.Text.{others}
use Rattle.block_decoder.proofs.OneBlock.{reported_alone}
use Rattle.block_decoder.proofs.OneReport.{session_report}
use Rattle.block_decoder.proofs.Others.{others-exact}
use Rattle.block_decoder.proofs.UsableAnswers.{columns-answers}
use Rattle.fetch_client.specs.Held.{held_by}
use Rattle.fetch_client.specs.Honest.{IsClose, NamesLiars, NamesLiarsIn, blocks_of}
use Rattle.query_rounds.specs.Plan.{query_coins, with_degree}
use Rattle.fetch_client.proofs.HonestBlock.{AreProducts, all_columns, answer_by-products, constants-all_columns, degree-all_columns, length-all_columns, only_member, products_at, products_from_honest, reply-all_columns}
use Rattle.query_rounds.proofs.Schemes.{coins_of_shamir}

-- a test that fails is one whose subject isn't so
fails-Decides : (b : Bool) (P : Type 0) → (b ≡ true → P) → (P → b ≡ true) → (b ≡ false) ↔ (P → ⊥)
fails-Decides true P tells told = (λ e. absurd cc, λ no. absurd (no (tells refl)))
fails-Decides false P tells told = (λ e p. let t = told p in absurd cc, λ no. refl)

module _ (all : List Answer) (matrix : List (List ℕ)) (tau : ℕ) (share_coins coins blocks : List ℕ) (t r s h : ℕ) (size : length coins ≡ length blocks * (r * t)) (within : All (λ b. b < r) blocks)
    (honest : AreProducts all matrix tau share_coins coins blocks t r s h) where
  abbrev products : ℕ → List ℕ
  products = products_at (held_by tau matrix s share_coins) coins blocks t r s

  pub vector : List (List ℕ)
  vector = all_columns matrix tau share_coins coins blocks t r s

  -- it holds at the answers that are such products
  holds-vector : (a : Answer) → holds vector a ≡ bytes_eq a.payload (products a.index)
  unfolding vector
  holds-vector a = ap (bytes_eq a.payload) (reply-all_columns matrix tau share_coins coins blocks t r s honest.matrix_is honest.shared size a.index)

  pub made : Agreement
  made = record { block = constants_of vector; indices = indices_of (filter (holds vector) all) }

  agrees : IsAgreement all (length blocks * s) (t + tau) h made
  unfolding made vector
  agrees =
      let enough = honest.enough in
      let tests : ◌≡◌ {A = Answer → Bool} (holds vector) (λ a. bytes_eq a.payload (products a.index)) = λ i a. holds-vector a i in
      let count = ap (λ (test : Answer → Bool). count_by test all) tests in
      let n = length-map (filter (holds vector) all) (λ (a : Answer). a.index) in
      let m = length-filter (holds vector) all in
      record {
        polynomials = vector;
        one_a_column = length-all_columns matrix tau share_coins coins blocks t r s;
        degree = degree-all_columns matrix tau share_coins coins blocks t r s;
        block = refl;
        indices = refl;
        enough = omega (arith, enough, count, n, m);
      }

  pub alone : (agreements : List Agreement) → HasColumns (length blocks * s) all → length all + (t + tau) < 2 * h
      → IsReport all (length blocks * s) (t + tau) h agreements → agreements ≡ made ∷ []
  alone agreements columns close report =
      only_member agreements made (reported_alone all (length blocks * s) (t + tau) h agreements columns close report) ((report.exact made).1 agrees)

  pub block-made : made.block ≡ blocks_of matrix blocks
  unfolding made vector
  block-made = sym (constants-all_columns matrix tau share_coins coins blocks t r s honest.matrix_is honest.shared size within)

  pub left_out : HasColumns (length blocks * s) all → (a : Answer) → Contains all a
      → Contains (others made.indices all) a.index ↔ (a.payload ≢ products a.index)
  unfolding made
  left_out columns a among =
      let exact = others-exact (holds vector) all columns.different a among in
      let decides = bytes_eq-Decides a.payload (products a.index) in
      let fails = fails-Decides (holds vector a) (a.payload ≡ products a.index)
      (λ e. decides.0 (sym (holds-vector a) ∙ e)) (λ e. holds-vector a ∙ decides.1 e) in
      (λ c. fails.0 (exact.0 c), λ no. exact.1 (fails.1 no))

-- in a session of Shamir's scheme
pub liars_named : (session : Transcript) (t tau : ℕ) (coins asked : List ℕ) (agreements : List Agreement) → length asked ≡ session.params.count → IsInRange session.params
    → length session.records ≤ session.params.n → All (λ r. IfSome r (All (λ b. b < 256))) session.records → length coins ≡ length asked * query_coins (with_degree t session.params)
    → All (λ b. b < session.params.r) asked → session.params.t ≡ t + tau → session.params.scheme ≡ SHAMIR → IsClose session → IsSessionReport session agreements
    → NamesLiars session t tau coins asked agreements
liars_named session t tau coins asked agreements count range few bytes size within degree one close report = λ matrix share_coins honest.
    let p = session.params in
    let width : block_len p ≡ length asked * p.s = ap (λ (n : ℕ). n * p.s) (sym count) in
    let servers = range.few_servers in
    let columns = subst (λ (w : ℕ). HasColumns w (answers session)) width (columns-answers session (omega (arith, few, servers)) bytes) in
    let own = size ∙ ap (λ (n : ℕ). length asked * n) (coins_of_shamir (with_degree t p) one) in
    let are = products_from_honest session t tau matrix share_coins coins asked one honest in
    let is = subst (λ (d : ℕ). IsReport (answers session) (length asked * p.s) d p.h agreements) degree
    (subst (λ (w : ℕ). IsReport (answers session) w p.t p.h agreements) width report) in
    record {
      one = made (answers session) matrix tau share_coins coins asked t p.r p.s p.h own within are;
      alone = alone (answers session) matrix tau share_coins coins asked t p.r p.s p.h own within are agreements columns (omega (arith, close, degree)) is;
      block = block-made (answers session) matrix tau share_coins coins asked t p.r p.s p.h own within are;
      exact = λ a among. subst (λ (payload : List ℕ). Contains
          (others (made (answers session) matrix tau share_coins coins asked t p.r p.s p.h own within are).indices (answers session)) a.index ↔
          (a.payload ≢ payload))
          (sym (answer_by-products session t (held_by tau matrix p.s share_coins) coins asked one a.index))
          (left_out (answers session) matrix tau share_coins coins asked t p.r p.s p.h own within are columns a among);
    }

-- in a session of either scheme: in the XOR scheme there is no report
pub liars_named_in : (session : Transcript) (t tau : ℕ) (coins asked : List ℕ) (verdict : Verdict) (report : Option (List Agreement)) → length asked ≡ session.params.count → IsInRange session.params
    → length session.records ≤ session.params.n → All (λ r. IfSome r (All (λ b. b < 256))) session.records → length coins ≡ length asked * query_coins (with_degree t session.params)
    → All (λ b. b < session.params.r) asked → session.params.t ≡ t + tau → IsReportOn session verdict report → NamesLiarsIn session t tau coins asked report
liars_named_in session t tau coins asked verdict report count range few bytes size within degree is = λ agreements same close.
    elim range.scheme [
      | inl one ↦ liars_named session t tau coins asked agreements count range few bytes size within degree one close (session_report session verdict range.scheme report agreements is same)
      | inr two ↦ let none = is.xor two in absurd cc
    ]
