-- What a verdict says of the block that honest servers hold, in each scheme.
use Rattle.std.proofs.Common.{◌≡◌, ℕ, ◌+◌, ◌*◌, ◌<◌, ◌≤◌, List, [], ◌∷◌, length, map, All, IfSome, Contains, sym, ap, subst, ◌∙◌, inl, inr, arith}
use Rattle.std.proofs.lemmas.List.Elements.{Contains-get_or}
use Rattle.quantity_limits.specs.declared.TheConstants.{MOST_SERVERS}
use Rattle.wire_frames.specs.declared.scheme.TheConstants.{SHAMIR, XOR}
use Rattle.wire_frames.specs.Answer.{Answer, answers, block_len}
use Rattle.wire_frames.specs.Limits.{IsInRange}
use Rattle.wire_frames.specs.Session.{Transcript}
use Rattle.chor_xor.specs.Chosen.{combined}
use Rattle.block_decoder.specs.Verdict.{IsCombined, IsDecided, IsVerdict, ListsAtMostOne}
use Rattle.block_decoder.specs.Agreed.{HasColumns}
use Rattle.block_decoder.specs.declared.verdict.Verdict.{Verdict}
use Rattle.block_decoder.specs.declared.verdict.Verdict.TheVariants.{Listed, TooFew, TooWeak, TooCostly}
use Rattle.block_decoder.proofs.OneBlock.{close_verdict_is_listed}
use Rattle.block_decoder.proofs.UsableAnswers.{columns-answers, length-answers_from-le}
use Rattle.query_rounds.specs.Plan.{query_coins, with_degree}
use Rattle.fetch_client.specs.Held.{held_as}
use Rattle.fetch_client.specs.Honest.{FindsHonestBlock, HonestRecords, IsHonest, blocks_of}
use Rattle.query_rounds.proofs.Schemes.{coins_of_shamir}
use Rattle.fetch_client.proofs.HonestFrames.{honest_from_records}
use Rattle.fetch_client.proofs.HonestBlock.{products_from_honest, honest_is_listed, honest_is_alone}
use Rattle.fetch_client.proofs.HonestXor.{all_usable, combined_is_the_blocks, records_from_all}

-- the verdict on n answers of the XOR scheme is their sum
combined_alone : (all : List Answer) (width n h : ℕ) (block : List ℕ) (verdict : Verdict) → length all ≡ n → combined width (map (λ a. a.payload) all) ≡ block
    → IsCombined all width n h verdict → verdict ≡ Listed (block ∷ [])
combined_alone all width n h block (TooFew k agree) size sum is = let few = is.2 in absurd (omega (arith, few, size))
combined_alone all width n h block (TooWeak k degree agree) size sum is = absurd is
combined_alone all width n h block (TooCostly equations) size sum is = absurd is
combined_alone all width n h block (Listed blocks) size sum is = ap Listed (is.1 ∙ ap (λ b. b ∷ []) sum)

-- a block that is listed alone is in the list
listed_if_alone : (verdict : Verdict) (block : List ℕ) (blocks : List (List ℕ)) → verdict ≡ Listed (block ∷ []) → verdict ≡ Listed blocks → Contains blocks block
listed_if_alone verdict block blocks alone is =
    let same : block ∷ [] ≡ blocks = cc in
    subst (λ (bs : List (List ℕ)). Contains bs block) same (Contains-get_or (block ∷ []) 0 [] (omega arith))

module _ (session : Transcript) (t tau : ℕ) (coins asked : List ℕ) (verdict : Verdict) (count : length asked ≡ session.params.count)
    (range : IsInRange session.params) (few : length session.records ≤ session.params.n)
    (bytes : All (λ r. IfSome r (All (λ b. b < 256))) session.records)
    (size : length coins ≡ length asked * query_coins (with_degree t session.params)) (within : All (λ b. b < session.params.r) asked)
    (is : IsVerdict session verdict) where
  by_frames : (matrix : List (List ℕ)) (share_coins : List ℕ) → HonestRecords session t (held_as tau matrix share_coins) coins asked → IsHonest session t (held_as tau matrix share_coins) coins asked
  by_frames matrix share_coins = honest_from_records session t tau matrix share_coins coins asked count

  columns : HasColumns (block_len session.params) (answers session)
  columns = let servers = range.few_servers in columns-answers session (omega (arith, few, servers)) bytes

  few_answers : length (answers session) ≤ MOST_SERVERS
  few_answers = let usable = length-answers_from-le 1 session.params session.records in let servers = range.few_servers in omega (arith, usable, few, servers)

  close : session.params.h ≤ length (answers session) → length (answers session) + session.params.t < 2 * session.params.h → ListsAtMostOne verdict
  close enough near = close_verdict_is_listed session verdict range columns few enough near is

  -- in Shamir's sharing
  module _ (degree : session.params.t ≡ t + tau) (one : session.params.scheme ≡ SHAMIR) where
    width : block_len session.params ≡ length asked * session.params.s
    width = ap (λ (n : ℕ). n * session.params.s) (sym count)

    decided : IsDecided (answers session) (length asked * session.params.s) (t + tau) session.params.h verdict
    decided = subst (λ (w : ℕ). IsDecided (answers session) w (t + tau) session.params.h verdict) width
        (subst (λ (d : ℕ). IsDecided (answers session) (block_len session.params) d session.params.h verdict) degree (is.shamir one))

    coins_are : length coins ≡ length asked * (session.params.r * t)
    coins_are = size ∙ ap (λ (n : ℕ). length asked * n) (coins_of_shamir (with_degree t session.params) one)

    listed : (matrix : List (List ℕ)) (share_coins : List ℕ)
        → IsHonest session t (held_as tau matrix share_coins) coins asked → (blocks : List (List ℕ))
        → verdict ≡ Listed blocks → Contains blocks (blocks_of matrix asked)
    listed matrix share_coins honest blocks same =
        let p = session.params in
        honest_is_listed (answers session) matrix tau share_coins coins asked t p.r p.s p.h blocks coins_are within (products_from_honest session t tau matrix share_coins coins asked one honest)
        (subst (λ (v : Verdict). IsDecided (answers session) (length asked * p.s) (t + tau) p.h v) same decided)

    alone : (matrix : List (List ℕ)) (share_coins : List ℕ)
        → IsHonest session t (held_as tau matrix share_coins) coins asked
        → length (answers session) + session.params.t < 2 * session.params.h
        → verdict ≡ Listed (blocks_of matrix asked ∷ [])
    alone matrix share_coins honest near =
        let p = session.params in
        honest_is_alone (answers session) matrix tau share_coins coins asked t p.r p.s p.h verdict (subst (λ (w : ℕ). HasColumns w (answers session)) width columns) few_answers coins_are within
        (products_from_honest session t tau matrix share_coins coins asked one honest) (omega (arith, near, degree)) decided

    finds_in_shamir : FindsHonestBlock session t tau coins asked verdict
    finds_in_shamir = record {
      listed = listed;
      alone = alone;
      close = close;
      listed_by_frames = λ matrix share_coins records. listed matrix share_coins (by_frames matrix share_coins records);
      alone_by_frames = λ matrix share_coins records. alone matrix share_coins (by_frames matrix share_coins records);
      xor = λ two. absurd (omega (arith, one, two));
      xor_by_frames = λ two. absurd (omega (arith, one, two));
    }

  -- in the XOR scheme
  module _ (whole : tau ≡ 0) (two : session.params.scheme ≡ XOR) where
    held_whole : (matrix : List (List ℕ)) (share_coins : List ℕ) → IsHonest session t (held_as tau matrix share_coins) coins asked → IsHonest session t (held_as 0 matrix share_coins) coins asked
    held_whole matrix share_coins honest = subst (λ (u : ℕ). IsHonest session t (held_as u matrix share_coins) coins asked) whole honest

    alone_of_all : (matrix : List (List ℕ)) (share_coins : List ℕ) → IsHonest session t (held_as 0 matrix share_coins) coins asked → verdict ≡ Listed (blocks_of matrix asked ∷ [])
    alone_of_all matrix share_coins honest =
        let p = session.params in
        combined_alone (answers session) (block_len p) p.n p.h (blocks_of matrix asked) verdict (all_usable session t matrix coins asked count range two few bytes share_coins honest)
        (combined_is_the_blocks session t matrix coins asked count range two few bytes share_coins honest within) (is.xor two)

    alone_of_enough : (matrix : List (List ℕ)) (share_coins : List ℕ) → IsHonest session t (held_as tau matrix share_coins) coins asked → verdict ≡ Listed (blocks_of matrix asked ∷ [])
    alone_of_enough matrix share_coins honest = alone_of_all matrix share_coins (held_whole matrix share_coins honest)

    listed_of_all : (matrix : List (List ℕ)) (share_coins : List ℕ)
        → IsHonest session t (held_as tau matrix share_coins) coins asked → (blocks : List (List ℕ))
        → verdict ≡ Listed blocks → Contains blocks (blocks_of matrix asked)
    listed_of_all matrix share_coins honest blocks same = listed_if_alone verdict (blocks_of matrix asked) blocks (alone_of_enough matrix share_coins honest) same

    finds_in_xor : FindsHonestBlock session t tau coins asked verdict
    finds_in_xor = record {
      listed = listed_of_all;
      alone = λ matrix share_coins honest near. alone_of_enough matrix share_coins honest;
      close = close;
      listed_by_frames = λ matrix share_coins records. listed_of_all matrix share_coins (by_frames matrix share_coins records);
      alone_by_frames = λ matrix share_coins records near. alone_of_enough matrix share_coins (by_frames matrix share_coins records);
      xor = λ two. alone_of_enough;
      xor_by_frames = λ two matrix honest. alone_of_all matrix []
          (honest_from_records session t 0 matrix [] coins asked count (records_from_all session t matrix coins asked count range two few bytes honest));
    }

  -- in a session of either scheme
  pub finds_honest_block : session.params.t ≡ t + tau → (session.params.scheme ≡ XOR → tau ≡ 0) → FindsHonestBlock session t tau coins asked verdict
  finds_honest_block degree whole = elim range.scheme [
    | inl one ↦ finds_in_shamir degree one
    | inr two ↦ finds_in_xor (whole two) two
  ]
