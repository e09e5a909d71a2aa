-- A coalition is sent the same frames, in each scheme.
use Rattle.std.proofs.Common.{◌≡◌, ◌≢◌, ℕ, ◌+◌, ◌-◌, ◌*◌, ◌<◌, ◌≤◌, List, ◌++◌, length, take, drop, get_or, All, [], refl, sym, ap, ap₂, subst, ◌∙◌, arith, length-append, length-drop}
use Rattle.std.proofs.Math.Seq.{get_or-take, take-append_seam, drop-append_seam}
use Rattle.std.proofs.lemmas.List.{get_or_default, length-take-le, take-append-drop}
use Rattle.std.proofs.lemmas.List.Elements.{All-take, All-drop, All-append}
use Rattle.chor_xor.specs.Bitmap.{size_of}
use Rattle.wire_frames.specs.declared.scheme.TheConstants.{SHAMIR, XOR}
use Rattle.wire_frames.specs.Answer.{asked}
use Rattle.wire_frames.specs.Header.{query_header}
use Rattle.wire_frames.specs.Turns.{in_turn, piece}
use Rattle.wire_frames.proofs.Turns.{in_turn-same}
use Rattle.query_rounds.specs.declared.coins.TheConstants.{NUMBER_LEN}
use Rattle.query_rounds.specs.declared.plan.FetchPlan.{FetchPlan}
use Rattle.query_rounds.specs.Plan.{params_of, query_coins, query_params, need}
use Rattle.query_rounds.specs.Sent.{header_to, queries_from, session_number, payload_for, payload_to, sent, vector_at}
use Rattle.query_rounds.proofs.Asking.{sent_is}
use Rattle.query_rounds.proofs.Schemes.{coins_of_shamir, payload_of_shamir, coins_of_xor, payload_of_xor}
use Rattle.privacy_law.specs.Bijection.{AreCoins, IsBijection}
use Rattle.privacy_law.specs.Partner.{partner_list, partner_xor_list}
use Rattle.privacy_law.proofs.PartnerLists.{IsBijection-list, IsBijection-xor_list, list_same, xor_list_same}
use Rattle.pir_tool.specs.Privacy.{partner_coins, IsSentTheSame, partner_coins_xor, OthersAreSentTheSame}

-- the number of a session is in the first coins
session_front : (coins : List ℕ) → session_number (take NUMBER_LEN coins) ≡ session_number coins
unfolding session_number
session_front coins =
    let same : (k : ℕ) → k < NUMBER_LEN → get_or (take NUMBER_LEN coins) k 0 ≡ get_or coins k 0 = λ k l. get_or-take NUMBER_LEN coins k 0 l in
    omega (arith, same 0 (omega arith), same 1 (omega arith), same 2 (omega arith), same 3 (omega arith), same 4 (omega arith), same 5 (omega arith), same 6 (omega arith), same 7 (omega arith))

-- two lists, of which the first is as long as the number of a session
module _ (front rest : List ℕ) (size : length front ≡ NUMBER_LEN) where
  front_of : take NUMBER_LEN (front ++ rest) ≡ front
  front_of = subst (λ (n : ℕ). take n (front ++ rest) ≡ front) size (take-append_seam front rest)

  rest_of : drop NUMBER_LEN (front ++ rest) ≡ rest
  rest_of = subst (λ (n : ℕ). drop n (front ++ rest) ≡ rest) size (drop-append_seam front rest)

-- what is done to all coins but those of the number of the session
abbrev behind : (List ℕ → List ℕ) → List ℕ → List ℕ
behind f coins = take NUMBER_LEN coins ++ f (drop NUMBER_LEN coins)

module _ (n : ℕ) where
  -- coins in two parts
  parts : (coins : List ℕ) → AreCoins (NUMBER_LEN + n) coins → (length (take NUMBER_LEN coins) ≡ NUMBER_LEN) × AreCoins n (drop NUMBER_LEN coins)
  parts coins is =
      let size = is.size in (
        length-take-le NUMBER_LEN coins (omega (arith, size)),
        record {
          size = let d = length-drop NUMBER_LEN coins in omega
              (arith, d, size);
          bytes = All-drop (λ c. c < 256) NUMBER_LEN coins is.bytes;
        },
      )

  joined : (coins rest : List ℕ) → AreCoins (NUMBER_LEN + n) coins → AreCoins n rest → AreCoins (NUMBER_LEN + n) (take NUMBER_LEN coins ++ rest)
  joined coins rest is more =
      let front = (parts coins is).0 in
      let size = more.size in
      record {
        size = omega (arith, length-append (take NUMBER_LEN coins) rest, front, size);
        bytes = All-append (λ c. c < 256) (take NUMBER_LEN coins) rest (All-take (λ c. c < 256) NUMBER_LEN coins is.bytes) more.bytes;
      }

  -- one after the other
  behind_both : (f g : List ℕ → List ℕ) (coins : List ℕ) → AreCoins (NUMBER_LEN + n) coins → g (f (drop NUMBER_LEN coins)) ≡ drop NUMBER_LEN coins → behind g (behind f coins) ≡ coins
  behind_both f g coins is back =
      let front = (parts coins is).0 in
      ap₂ (λ (x y : List ℕ). x ++ y)
      (front_of (take NUMBER_LEN coins) (f (drop NUMBER_LEN coins)) front)
      (ap g (rest_of (take NUMBER_LEN coins) (f (drop NUMBER_LEN coins)) front) ∙ back)
      ∙ take-append-drop NUMBER_LEN coins

  -- a bijection of the others is one of all
  pub bijection_behind : (f : List ℕ → List ℕ) → IsBijection n f → IsBijection (NUMBER_LEN + n) (behind f)
  bijection_behind f b = record {
    inverse = behind b.inverse;
    into = λ coins is. joined coins (f (drop NUMBER_LEN coins)) is (b.into (drop NUMBER_LEN coins) (parts coins is).1);
    back = λ coins is. joined coins (b.inverse (drop NUMBER_LEN coins)) is (b.back (drop NUMBER_LEN coins) (parts coins is).1);
    left = λ coins is. behind_both f b.inverse coins is (b.left (drop NUMBER_LEN coins) (parts coins is).1);
    right = λ coins is. behind_both b.inverse f coins is (b.right (drop NUMBER_LEN coins) (parts coins is).1);
  }

-- a header and the payload for these blocks are the frame
framed : (p : FetchPlan) (blocks coins : List ℕ) (i : ℕ)
    → query_header (header_to p (length blocks) coins i) ++ payload_for (query_params p 1 0) (queries_from coins) blocks i
    ≡ sent p blocks coins i
framed p blocks coins i =
    sent_is (record { plan = p; blocks = blocks; addresses = []; coins = coins }) i _ _ refl refl

-- a frame is the same where each vector of its payload is
same_frame : (p : FetchPlan) (blocks others : List ℕ) (i : ℕ) (coins rest : List ℕ) → length others ≡ length blocks → AreCoins (need p (length blocks)) coins
    → ((v : ℕ) → v < length blocks → vector_at (query_params p 1 0) rest others i v ≡ vector_at (query_params p 1 0) (drop NUMBER_LEN coins) blocks i v)
    → sent p others (take NUMBER_LEN coins ++ rest) i ≡ sent p blocks coins i
same_frame p blocks others i coins rest as_many is same =
    let params = query_params p 1 0 in
    let front = (parts (length blocks * query_coins params) coins is).0 in
    let number : session_number (take NUMBER_LEN coins ++ rest) ≡ session_number coins =
    sym (session_front (take NUMBER_LEN coins ++ rest)) ∙ ap session_number (front_of (take NUMBER_LEN coins) rest front) ∙ session_front coins in
    sym (framed p others (take NUMBER_LEN coins ++ rest) i)
    ∙ ap₂ (λ (x y : List ℕ). x ++ y)
    (ap₂ (λ (q n : ℕ). query_header (asked (params_of p q n) i)) as_many number)
    (ap (λ (l : List ℕ). payload_for params l others i) (rest_of (take NUMBER_LEN coins) rest front)
    ∙ ap (λ (n : ℕ). in_turn n (vector_at params rest others i)) as_many ∙ in_turn-same (length blocks) _ _ same)
    ∙ framed p blocks coins i

-- in Shamir's sharing the frames are the same where the queries are
module _ (p : FetchPlan) (one : p.scheme ≡ SHAMIR) (coalition blocks others : List ℕ) (as_many : length others ≡ length blocks)
    (bytes : All (λ a. a < 256) coalition) (nonzero : All (λ a. a ≢ 0) coalition) where
  abbrev changed : List ℕ → List ℕ
  changed coins = partner_list coins p.t p.r coalition blocks others

  pub bijection_in_shamir : IsBijection (need p (length blocks)) (λ coins. partner_coins p coalition blocks others coins)
  unfolding partner_coins
  bijection_in_shamir =
      bijection_behind (length blocks * query_coins (query_params p 1 0)) changed
      (subst (λ (n : ℕ). IsBijection (length blocks * n) changed) (sym (coins_of_shamir (query_params p 1 0) one)) (IsBijection-list p.t p.r coalition blocks others as_many bytes nonzero))

  pub same_in_shamir : length coalition ≤ p.t → IsSentTheSame p coalition blocks others
  unfolding partner_coins
  same_in_shamir few coins is = λ k d l.
      let params = query_params p 1 0 in
      let i = get_or coalition k d in
      let behind_number = drop NUMBER_LEN coins in
      let own = coins_of_shamir params one in
      let coins_behind = (parts (length blocks * query_coins params) coins is).1 in
      let whole : length behind_number ≡ length blocks * (p.r * p.t) = coins_behind.size ∙ ap (λ (n : ℕ). length blocks * n) own in
      same_frame p blocks others i coins (changed behind_number) as_many is (λ v low.
      ap (λ (n : ℕ). payload_to params (piece n v (changed behind_number)) (get_or others v 0) i) own
      ∙ payload_of_shamir params one (piece (p.r * p.t) v (changed behind_number)) (get_or others v 0) i
      ∙ list_same behind_number p.t p.r coalition blocks others whole v i low few bytes nonzero (k, l, get_or_default coalition k i d l)
      ∙ sym (payload_of_shamir params one (piece (p.r * p.t) v behind_number) (get_or blocks v 0) i)
      ∙ sym (ap (λ (n : ℕ). payload_to params (piece n v behind_number) (get_or blocks v 0) i) own))

-- in the XOR scheme they are where the bitmaps are
module _ (p : FetchPlan) (two : p.scheme ≡ XOR) (left_out : ℕ) (blocks others : List ℕ) (as_many : length others ≡ length blocks) where
  abbrev flipped : List ℕ → List ℕ
  flipped coins = partner_xor_list coins p.n p.r left_out blocks others

  pub bijection_in_xor : IsBijection (need p (length blocks)) (λ coins. partner_coins_xor p left_out blocks others coins)
  unfolding partner_coins_xor
  bijection_in_xor =
      bijection_behind (length blocks * query_coins (query_params p 1 0)) flipped
      (subst (λ (n : ℕ). IsBijection (length blocks * n) flipped) (sym (coins_of_xor (query_params p 1 0) two)) (IsBijection-xor_list p.n p.r left_out blocks others as_many))

  pub same_in_xor : All (λ b. b < p.r) blocks → All (λ b. b < p.r) others → 1 ≤ left_out → left_out ≤ p.n → OthersAreSentTheSame p left_out blocks others
  unfolding partner_coins_xor
  same_in_xor in_range others_in_range least most coins is i first last ne =
      let params = query_params p 1 0 in
      let size = (p.n - 1) * size_of p.r in
      let behind_number = drop NUMBER_LEN coins in
      let own = coins_of_xor params two in
      let coins_behind = (parts (length blocks * query_coins params) coins is).1 in
      let whole : length behind_number ≡ length blocks * size = coins_behind.size ∙ ap (λ (n : ℕ). length blocks * n) own in
      same_frame p blocks others i coins (flipped behind_number) as_many is (λ v low.
      ap (λ (n : ℕ). payload_to params (piece n v (flipped behind_number)) (get_or others v 0) i) own
      ∙ payload_of_xor params two (piece size v (flipped behind_number)) (get_or others v 0) i
      ∙ xor_list_same behind_number p.n p.r left_out blocks others whole v i low (in_range v 0 low) (others_in_range v 0 (omega (arith, low, as_many))) least most first last ne
      ∙ sym (payload_of_xor params two (piece size v behind_number) (get_or blocks v 0) i)
      ∙ sym (ap (λ (n : ℕ). payload_to params (piece n v behind_number) (get_or blocks v 0) i) own))
