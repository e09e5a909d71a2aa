-- The usable answers of the first servers of a session.
use Rattle.std.proofs.Common.{◌≡◌, ℕ, suc, ◌+◌, ◌<◌, ◌≤◌, ◌-◌, List, [], ◌∷◌, ◌++◌, length, get_or, take, Option, None, Some, option_and_then, refl, sym, ap, ap₂, ◌∙◌, arith}
use Rattle.std.proofs.lemmas.List.{length-append, length-take-le, take_more, take_all}
use Rattle.wire_frames.specs.declared.session.SessionParams.{SessionParams}
use Rattle.wire_frames.specs.Answer.{Answer, answers, answers_from, asked, usable, with_answer}
use Rattle.wire_frames.specs.Session.{Transcript}
use Rattle.block_decoder.specs.Usable.{payload_of}
use Rattle.block_decoder.proofs.UsableAnswers.{answers_from-cons}

-- an answer in front of two lists is in front of the first
with-append : (i : ℕ) (payload : Option (List ℕ)) (one two : List Answer) → with_answer i payload (one ++ two) ≡ with_answer i payload one ++ two
with-append i None one two = refl
with-append i (Some payload) one two = refl

-- the answers among records behind others are behind those of these
from-append : (i : ℕ) (p : SessionParams) (xs ys : List (Option (List ℕ)))
    → answers_from i p (xs ++ ys) ≡ answers_from i p xs ++ answers_from (i + length xs) p ys
from-append i p [] ys = let e : i ≡ i + 0 = omega arith in ap (λ n. answers_from n p ys) e
from-append i p (x ∷ xs) ys =
    let payload = option_and_then (λ bytes. usable bytes (asked p i)) x in
    let e : i + 1 + length xs ≡ i + suc (length xs) = omega arith in
    answers_from-cons i p x (xs ++ ys)
    ∙ ap (with_answer i payload) (from-append (i + 1) p xs ys)
    ∙ with-append i payload (answers_from (i + 1) p xs) (answers_from (i + 1 + length xs) p ys)
    ∙ ap₂ (λ (front : List Answer) (n : ℕ). front ++ answers_from n p ys) (sym (answers_from-cons i p x xs)) e

-- those of the first servers
unfoldable pub first_of : Transcript → ℕ → List Answer
first_of session count = answers_from 1 session.params (take count session.records)

-- that of one server
abbrev pub of_server : Transcript → ℕ → List Answer
of_server session i = with_answer i (payload_of session i) []

-- there are none of no servers
pub first_of-none : (session : Transcript) → first_of session 0 ≡ []
unfolding first_of
first_of-none session = refl

-- one server more adds its answer, where that is usable
pub first_of-more : (session : Transcript) (count : ℕ) → count < length session.records
    → first_of session (count + 1) ≡ first_of session count ++ of_server session (count + 1)
unfolding first_of
first_of-more session count within =
    let p = session.params in
    let x = get_or session.records count None in
    let size : 1 + length (take count session.records) ≡ count + 1 = let l = length-take-le count session.records (omega (arith, within)) in omega (arith, l) in
    let place : count ≡ count + 1 - 1 = omega arith in
    ap (answers_from 1 p) (take_more session.records count None within)
    ∙ from-append 1 p (take count session.records) (x ∷ [])
    ∙ ap (λ (n : ℕ). first_of session count ++ answers_from n p (x ∷ [])) size
    ∙ ap (λ (l : List Answer). first_of session count ++ l) (answers_from-cons (count + 1) p x []
    ∙ ap (λ (k : ℕ). with_answer (count + 1) (option_and_then (λ bytes. usable bytes (asked p (count + 1))) (get_or session.records k None)) []) place)

-- those of as many servers as there are are all
pub first_of-all : (session : Transcript) (count : ℕ) → length session.records ≤ count → first_of session count ≡ answers session
unfolding first_of
first_of-all session count all = ap (answers_from 1 session.params) (take_all count session.records all)

-- one more usable answer is counted, or none
pub count-one : (session : Transcript) (count : ℕ) (bytes : List ℕ) → count < length session.records → Some bytes ≡ payload_of session (count + 1)
    → length (first_of session (count + 1)) ≡ length (first_of session count) + 1
count-one session count bytes within is =
    ap length (first_of-more session count within) ∙ length-append (first_of session count) (of_server session (count + 1))
    ∙ ap (λ (payload : Option (List ℕ)). length (first_of session count) + length (with_answer (count + 1) payload [])) (sym is)

-- a server whose answer is not usable adds none
pub count-no : (session : Transcript) (count : ℕ) → count < length session.records → None ≡ payload_of session (count + 1)
    → length (first_of session (count + 1)) ≡ length (first_of session count)
count-no session count within is =
    ap length (first_of-more session count within) ∙ length-append (first_of session count) (of_server session (count + 1))
    ∙ ap (λ (payload : Option (List ℕ)). length (first_of session count) + length (with_answer (count + 1) payload [])) (sym is)
    ∙ (let e : length (first_of session count) + 0 ≡ length (first_of session count) = omega arith in e)
