-- The frames of honest servers are usable, and so their payloads are honest answers.
use Rattle.std.proofs.Common.{◌*◌, ◌≡◌, ℕ, suc, ◌+◌, ◌-◌, ◌≤◌, ◌<◌, Bool, true, false, Option, None, Some, option_and_then, List, [], ◌∷◌, length, get_or, count_by, bytes_eq, refl, ap, ◌∙◌, arith}
use Rattle.std.specs.List.{range_with_len}
use Rattle.std.proofs.lemmas.Slice.Eq.{bytes_eq-Decides}
use Rattle.wire_frames.specs.declared.session.SessionParams.{SessionParams}
use Rattle.wire_frames.specs.Answer.{Answer, answers_from, asked, usable, with_answer}
use Rattle.wire_frames.specs.Session.{Transcript}
use Rattle.block_decoder.proofs.Counting.{one_if, count-cons}
use Rattle.block_decoder.proofs.UsableAnswers.{usable_frame, answers_from-cons}
use Rattle.query_rounds.specs.Plan.{with_degree}
use Rattle.fetch_client.specs.Held.{held_as, held_by}
use Rattle.fetch_client.specs.Honest.{IsHonest, HonestRecords, answer_by, honest_frame, is_frame}
use Rattle.fetch_client.proofs.HonestAnswers.{length-answer_by}

module _ (p : SessionParams) (t : ℕ) (held : ℕ → List (List ℕ)) (coins blocks : List ℕ) (count : length blocks ≡ p.count) where
  abbrev reply : ℕ → List ℕ
  reply i = answer_by (with_degree t p) (held i) coins blocks i

  abbrev frame : ℕ → List ℕ
  frame i = honest_frame (with_degree t p) (held i) coins blocks i

  abbrev is_honest : Answer → Bool
  is_honest a = bytes_eq a.payload (reply a.index)

  abbrev payload : ℕ → Option (List ℕ) → Option (List ℕ)
  payload i x = option_and_then (λ bytes. usable bytes (asked p i)) x

  usable_honest : (i : ℕ) → usable (frame i) (asked p i) ≡ Some (reply i)
  unfolding honest_frame
  usable_honest i = usable_frame (reply i) (asked p i) (length-answer_by (with_degree t p) (held i) coins blocks i ∙ ap (λ (n : ℕ). n * p.s) count)

  -- one more server in front takes none away
  no_fewer : (i : ℕ) (o : Option (List ℕ)) (rest : List Answer) → count_by is_honest rest ≤ count_by is_honest (with_answer i o rest)
  no_fewer i None rest = omega arith
  no_fewer i (Some bytes) rest = let e = count-cons is_honest (record { index = i; payload = bytes }) rest in omega (arith, e)

  -- and an honest one adds one
  one_more : (i : ℕ) (o : Option (List ℕ)) (rest : List Answer) → o ≡ Some (reply i) → 1 + count_by is_honest rest ≤ count_by is_honest (with_answer i o rest)
  one_more i None rest e = absurd (cc)
  one_more i (Some bytes) rest e =
      let same : bytes ≡ reply i = cc in
      let one = ap one_if ((bytes_eq-Decides bytes (reply i)).1 same) in
      let more = count-cons is_honest (record { index = i; payload = bytes }) rest in
      omega (arith, more, one)

  by_test : (i : ℕ) (bytes : List ℕ) (rest : List Answer) (b : Bool) → bytes_eq bytes (frame i) ≡ b
      → one_if b + count_by is_honest rest ≤ count_by is_honest (with_answer i (usable bytes (asked p i)) rest)
  by_test i bytes rest false e = let l = no_fewer i (usable bytes (asked p i)) rest in omega (arith, l)
  by_test i bytes rest true e =
      let same : bytes ≡ frame i = (bytes_eq-Decides bytes (frame i)).0 e in
      one_more i (usable bytes (asked p i)) rest (ap (λ b. usable b (asked p i)) same ∙ usable_honest i)

  one_server : (i : ℕ) (x : Option (List ℕ)) (rest : List Answer) → one_if (is_frame (frame i) x) + count_by is_honest rest ≤ count_by is_honest (with_answer i (payload i x) rest)
  one_server i None rest = omega arith
  one_server i (Some bytes) rest = by_test i bytes rest (bytes_eq bytes (frame i)) refl

  -- from server i on there are as many honest answers as honest frames, or more
  pub count_frames : (records whole : List (Option (List ℕ))) (i : ℕ) → 1 ≤ i → ((k : ℕ) → k < length records → get_or whole (i + k - 1) None ≡ get_or records k None)
      → count_by (λ j. is_frame (frame j) (get_or whole (j - 1) None)) (range_with_len i (length records)) ≤ count_by is_honest (answers_from i p records)
  count_frames [] whole i first at = omega arith
  count_frames (x ∷ records) whole i first at =
      let here : get_or whole (i - 1) None ≡ x = let e : i - 1 ≡ i + 0 - 1 = omega arith in ap (λ k. get_or whole k None) e ∙ at 0 (omega arith) in
      let more = count-cons (λ j. is_frame (frame j) (get_or whole (j - 1) None)) i (range_with_len (i + 1) (length records)) in
      let ih = count_frames records whole (i + 1) (omega arith) (λ k l. let e : i + 1 + k - 1 ≡ i + suc k - 1 = omega arith in ap (λ k. get_or whole k None) e ∙ at (suc k) (omega arith)) in
      let step = one_server i x (answers_from (i + 1) p records) in
      let one = ap (λ y. one_if (is_frame (frame i) y)) here in
      let all = ap (count_by is_honest) (answers_from-cons i p x records) in
      omega (arith, more, ih, step, one, all)

-- where enough records are honest frames, enough answers are honest
pub honest_from_records : (session : Transcript) (t tau : ℕ) (matrix : List (List ℕ)) (share_coins coins blocks : List ℕ) → length blocks ≡ session.params.count
    → HonestRecords session t (held_as tau matrix share_coins) coins blocks → IsHonest session t (held_as tau matrix share_coins) coins blocks
honest_from_records session t tau matrix share_coins coins blocks count records =
    let held = held_by tau matrix session.params.s share_coins in
    let few = count_frames session.params t held coins blocks count session.records session.records 1 (omega arith)
    (λ k l. let e : 1 + k - 1 ≡ k = omega arith in ap (λ k. get_or session.records k None) e) in
    record {
      matrix_is = records.matrix_is;
      shared = records.shared;
      enough = let e = records.enough in omega (arith, few, e);
    }
