-- Collecting the usable answers of a session, server by server.
use Rattle.std.proofs.Common.{◌≡◌, ℕ, suc, ◌+◌, ◌-◌, ◌*◌, ◌≤◌, List, [], ◌∷◌, ◌++◌, length, get_or, drop, Option, None, Some, option_and_then, refl, sym, ap, ◌∙◌, arith}
use Rattle.std.proofs.Math.Seq.{drop-cons}
use Rattle.std.proofs.lemmas.List.{append_assoc, append-nil, drop_all}
use Rattle.wire_frames.specs.declared.header.QueryHeader.{QueryHeader}
use Rattle.wire_frames.specs.declared.session.SessionParams.{SessionParams}
use Rattle.wire_frames.specs.Answer.{Answer, answers, answers_from, asked, usable, with_answer}
use Rattle.wire_frames.specs.Session.{Transcript}
use Rattle.block_decoder.specs.Usable.{payload_of}
use Rattle.block_decoder.proofs.UsableAnswers.{usable_size, answers_from-cons}

-- ---- one server's answer

-- a payload that is usable has a byte for each column
pub size_if_some : (x : Option (List ℕ)) (payload : List ℕ) (q : QueryHeader) → option_and_then (λ bytes. usable bytes q) x ≡ Some payload → length payload ≡ q.count * q.s
size_if_some None payload q e = absurd (cc)
size_if_some (Some bytes) payload q e = usable_size bytes payload q e

-- the payload of a server's answer is that of its record
pub payload_is_of : (session : Transcript) (i j : ℕ) (bytes : List ℕ) (p : SessionParams) (q : QueryHeader) (payload : Option (List ℕ)) → j ≡ i
    → Some bytes ≡ get_or session.records (j - 1) None → p ≡ session.params → q ≡ asked p i → payload ≡ usable bytes q
    → payload ≡ payload_of session i
payload_is_of session i j bytes p q payload same record_is params_are header_is usable_is =
    usable_is ∙ ap (usable bytes) (header_is ∙ ap (λ (p : SessionParams). asked p i) params_are)
    ∙ ap (option_and_then (λ (bytes : List ℕ). usable bytes (asked session.params i))) (record_is ∙ ap (λ (k : ℕ). get_or session.records (k - 1) None) same)

-- the usable answers from the next server on
unfoldable pub rest_of : Transcript → ℕ → List Answer
rest_of session next = answers_from next session.params (drop (next - 1) session.records)

-- the answer of the next in front of those of the servers behind it
pub rest_of-step : (session : Transcript) (next : ℕ) → 1 ≤ next → next ≤ length session.records → rest_of session next ≡ with_answer next (payload_of session next) (rest_of session (next + 1))
unfolding rest_of
rest_of-step session next low high =
    let one : suc (next - 1) ≡ next + 1 - 1 = omega arith in
    ap (answers_from next session.params) (drop-cons session.records (next - 1) None (omega (arith, low, high)) ∙ ap (λ k. get_or session.records (next - 1) None ∷ drop k session.records) one)
    ∙ answers_from-cons next session.params (get_or session.records (next - 1) None) (drop (next + 1 - 1) session.records)

-- none are left behind the last server
pub rest_of-none : (session : Transcript) → length session.records ≡ session.params.n → rest_of session (session.params.n + 1) ≡ []
unfolding rest_of
rest_of-none session all =
    let n = session.params.n in
    let none : drop (n + 1 - 1) session.records ≡ [] = drop_all (n + 1 - 1) session.records (omega (arith, all)) in
    ap (answers_from (n + 1) session.params) none

-- ---- all servers' answers

-- the answers of the servers before the next are collected
abbrev pub HasCollected : Transcript → List Answer → ℕ → Type 0
HasCollected session made next = made ++ rest_of session next ≡ answers session

-- before the first server there is none
pub collected_none : (session : Transcript) → HasCollected session [] 1
unfolding rest_of
collected_none session = refl

-- the next server's answer isn't usable
pub collected_absent : (session : Transcript) (made : List Answer) (next : ℕ) → 1 ≤ next → next ≤ length session.records
    → payload_of session next ≡ None → HasCollected session made next → HasCollected session made (next + 1)
collected_absent session made next low high absent so_far =
    ap (λ rest. made ++ rest) (sym (rest_of-step session next low high ∙ ap (λ p. with_answer next p (rest_of session (next + 1))) absent)) ∙ so_far

-- the next server's answer is usable
pub collected_present : (session : Transcript) (made : List Answer) (next : ℕ) (payload : List ℕ) → 1 ≤ next
    → next ≤ length session.records → payload_of session next ≡ Some payload → HasCollected session made next
    → HasCollected session (made ++ record { index = next; payload = payload } ∷ []) (next + 1)
collected_present session made next payload low high present so_far =
    append_assoc made (record { index = next; payload = payload } ∷ []) (rest_of session (next + 1))
    ∙ ap (λ rest. made ++ rest) (sym (rest_of-step session next low high ∙ ap (λ p. with_answer next p (rest_of session (next + 1))) present))
    ∙ so_far

-- when all servers are passed, the usable answers are collected
pub collected_all : (session : Transcript) (made : List Answer) → length session.records ≡ session.params.n
    → HasCollected session made (session.params.n + 1) → made ≡ answers session
collected_all session made all done =
    sym (append-nil made) ∙ ap (λ rest. made ++ rest) (sym (rest_of-none session all)) ∙ done
