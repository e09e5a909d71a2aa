-- The usable answers of the first servers of a session, and which of them aren't among some.
use Rattle.std.proofs.Common.{◌≡◌, ◌≢◌, ◌*◌, ℕ, suc, ◌+◌, ◌<◌, ◌≤◌, ◌-◌, ◌==◌, not, List, [], ◌∷◌, ◌++◌, length, get_or, take, drop, filter, Bool, true, false, cond, if◌then◌else◌, Option, None, Some, option_and_then, refl, sym, ap, ap₂, ◌∙◌, arith}
use Rattle.std.specs.Prelude.{flat_map, codes}
use Rattle.std.specs.List.{list_any}
use Rattle.std.proofs.lemmas.List.{append_assoc, append-nil, length-append, length-take-le, map-append, take_more, take_all, take-append-drop}
use Rattle.std.proofs.lemmas.Bool.{le-ltb, lt-ltb}
use Rattle.std.proofs.lemmas.List.Concat.{flat_map-cons}
use Rattle.std.proofs.lemmas.Grind.{flat_map-append}
use Rattle.wire_frames.specs.declared.session.SessionParams.{SessionParams}
use Rattle.wire_frames.specs.Answer.{Answer, answers, answers_from, asked, usable, with_answer}
use Rattle.wire_frames.specs.Session.{Transcript}
use Rattle.block_decoder.specs.Report.{Agreement, indices_of}
use Rattle.block_decoder.specs.Text.{number_word, others, words_of, liars_line}
use Rattle.block_decoder.specs.Usable.{payload_of}
use Rattle.block_decoder.proofs.UsableAnswers.{answers_from-cons, length-answers_from-le}

-- ---- the answers

-- an answer in front of two lists is in front of the first
with-append : (i : ℕ) (payload : Option (List ℕ)) (one two : List Answer) → with_answer i payload (one ++ two) ≡ with_answer i payload one ++ two
with-append i None one two = refl
with-append i (Some payload) one two = refl

-- the answers among records behind others are behind those of these
from-append : (i : ℕ) (p : SessionParams) (xs ys : List (Option (List ℕ)))
    → answers_from i p (xs ++ ys) ≡ answers_from i p xs ++ answers_from (i + length xs) p ys
from-append i p [] ys = let e : i ≡ i + 0 = omega arith in ap (λ n. answers_from n p ys) e
from-append i p (x ∷ xs) ys =
    let payload = option_and_then (λ bytes. usable bytes (asked p i)) x in
    let e : i + 1 + length xs ≡ i + suc (length xs) = omega arith in
    answers_from-cons i p x (xs ++ ys)
    ∙ ap (with_answer i payload) (from-append (i + 1) p xs ys)
    ∙ with-append i payload (answers_from (i + 1) p xs) (answers_from (i + 1 + length xs) p ys)
    ∙ ap₂ (λ (front : List Answer) (n : ℕ). front ++ answers_from n p ys) (sym (answers_from-cons i p x xs)) e

-- those of the first servers
unfoldable pub first_of : Transcript → ℕ → List Answer
first_of session count = answers_from 1 session.params (take count session.records)

-- they are those of the first records
pub first_of-is : (session : Transcript) (count : ℕ) → first_of session count ≡ answers_from 1 session.params (take count session.records)
unfolding first_of
first_of-is session count = refl

-- that of one server
abbrev pub of_server : Transcript → ℕ → List Answer
of_server session i = with_answer i (payload_of session i) []

-- there are none of no servers
pub first_of-none : (session : Transcript) → first_of session 0 ≡ []
unfolding first_of
first_of-none session = refl

-- one server more adds its answer, where that is usable
pub first_of-more : (session : Transcript) (count : ℕ) → count < length session.records
    → first_of session (count + 1) ≡ first_of session count ++ of_server session (count + 1)
unfolding first_of
first_of-more session count within =
    let p = session.params in
    let x = get_or session.records count None in
    let size : 1 + length (take count session.records) ≡ count + 1 = let l = length-take-le count session.records (omega (arith, within)) in omega (arith, l) in
    let place : count ≡ count + 1 - 1 = omega arith in
    ap (answers_from 1 p) (take_more session.records count None within)
    ∙ from-append 1 p (take count session.records) (x ∷ [])
    ∙ ap (λ (n : ℕ). first_of session count ++ answers_from n p (x ∷ [])) size
    ∙ ap (λ (l : List Answer). first_of session count ++ l) (answers_from-cons (count + 1) p x []
    ∙ ap (λ (k : ℕ). with_answer (count + 1) (option_and_then (λ bytes. usable bytes (asked p (count + 1))) (get_or session.records k None)) []) place)

-- those of as many servers as there are are all
pub first_of-all : (session : Transcript) (count : ℕ) → length session.records ≤ count → first_of session count ≡ answers session
unfolding first_of
first_of-all session count all = ap (answers_from 1 session.params) (take_all count session.records all)

-- all answers are those of the first servers, of the next, and of those behind it
pub answers-pieces : (session : Transcript) (count : ℕ) → count < length session.records
    → answers session ≡ first_of session count ++ (of_server session (count + 1) ++ answers_from (1 + length (take (count + 1) session.records)) session.params (drop (count + 1) session.records))
answers-pieces session count within =
    let p = session.params in
    let rest = answers_from (1 + length (take (count + 1) session.records)) p (drop (count + 1) session.records) in
    ap (answers_from 1 p) (sym (take-append-drop (count + 1) session.records))
    ∙ from-append 1 p (take (count + 1) session.records) (drop (count + 1) session.records)
    ∙ ap (λ (l : List Answer). l ++ rest) (sym (first_of-is session (count + 1)) ∙ first_of-more session count within)
    ∙ append_assoc (first_of session count) (of_server session (count + 1)) rest

-- ---- those that aren't among some

-- what passes of two lists is what passes of each
filter-append : {X : Type 0} (test : X → Bool) (xs ys : List X) → filter test (xs ++ ys) ≡ filter test xs ++ filter test ys
filter-append test [] ys = refl
filter-append test (x ∷ xs) ys = step (test x) (filter-append test xs ys)
  where
    step : (b : Bool) → filter test (xs ++ ys) ≡ filter test xs ++ filter test ys
        → cond b (x ∷ filter test (xs ++ ys)) (filter test (xs ++ ys)) ≡ cond b (x ∷ filter test xs) (filter test xs) ++ filter test ys
    step true e = ap (λ l. x ∷ l) e
    step false e = e

-- so the others of two lists are those of each
pub others-append : (indices : List ℕ) (one two : List Answer) → others indices (one ++ two) ≡ others indices one ++ others indices two
unfolding others
others-append indices one two =
    ap (filter (λ i. not (list_any (λ j. j == i) indices))) (map-append (λ (a : Answer). a.index) one two)
    ∙ filter-append (λ i. not (list_any (λ j. j == i) indices)) (indices_of one) (indices_of two)

-- and their numbers
pub words_of-append : (indices : List ℕ) (one two : List Answer) → words_of indices (one ++ two) ≡ words_of indices one ++ words_of indices two
unfolding words_of
words_of-append indices one two = ap (flat_map number_word) (others-append indices one two) ∙ flat_map-append number_word (others indices one) (others indices two)

-- no answers have no numbers
pub words_of-none : (indices : List ℕ) → words_of indices [] ≡ []
unfolding words_of others
words_of-none indices = refl

-- a server's answer alone, where it is usable
pub others-one : (indices : List ℕ) (i : ℕ) (payload : Option (List ℕ)) (bytes : List ℕ) → Some bytes ≡ payload
    → others indices (with_answer i payload []) ≡ if not (list_any (λ j. j == i) indices) then i ∷ [] else []
unfolding others
others-one indices i payload bytes is = ap (λ (p : Option (List ℕ)). filter (λ i. not (list_any (λ j. j == i) indices)) (indices_of (with_answer i p []))) (sym is)

-- and where it isn't
pub others-no : (indices : List ℕ) (i : ℕ) (payload : Option (List ℕ)) → None ≡ payload → others indices (with_answer i payload []) ≡ []
unfolding others
others-no indices i payload is = ap (λ (p : Option (List ℕ)). filter (λ i. not (list_any (λ j. j == i) indices)) (indices_of (with_answer i p []))) (sym is)

-- its word
pub words-one : (indices : List ℕ) (i : ℕ) (one : List Answer) (b : Bool) → others indices one ≡ (if b then i ∷ [] else [])
    → words_of indices one ≡ (if b then number_word i else [])
unfolding words_of
words-one indices i one true is = ap (flat_map number_word) is ∙ flat_map-cons number_word i [] ∙ append-nil (number_word i)
words-one indices i one false is = ap (flat_map number_word) is

-- one more usable answer is counted, or none
pub count-one : (session : Transcript) (count : ℕ) (bytes : List ℕ) → count < length session.records → Some bytes ≡ payload_of session (count + 1)
    → length (first_of session (count + 1)) ≡ length (first_of session count) + 1
count-one session count bytes within is =
    ap length (first_of-more session count within) ∙ length-append (first_of session count) (of_server session (count + 1))
    ∙ ap (λ (payload : Option (List ℕ)). length (first_of session count) + length (with_answer (count + 1) payload [])) (sym is)

-- a server whose answer is not usable adds none
pub count-no : (session : Transcript) (count : ℕ) → count < length session.records → None ≡ payload_of session (count + 1)
    → length (first_of session (count + 1)) ≡ length (first_of session count)
count-no session count within is =
    ap length (first_of-more session count within) ∙ length-append (first_of session count) (of_server session (count + 1))
    ∙ ap (λ (payload : Option (List ℕ)). length (first_of session count) + length (with_answer (count + 1) payload [])) (sym is)
    ∙ (let e : length (first_of session count) + 0 ≡ length (first_of session count) = omega arith in e)

-- so many at most
pub count-few : (session : Transcript) (count : ℕ) → count ≤ length session.records → length (first_of session count) ≤ count
unfolding first_of
count-few session count within =
    let l = length-take-le count session.records within in
    let few = length-answers_from-le 1 session.params (take count session.records) in
    omega (arith, l, few)

-- the words of all answers are those of the first servers, of the next, and of those behind it
pub words-pieces : (indices : List ℕ) (session : Transcript) (count : ℕ) → count < length session.records
    → words_of indices (answers session) ≡ words_of indices (first_of session count) ++ (words_of indices (of_server session (count + 1))
    ++ words_of indices (answers_from (1 + length (take (count + 1) session.records)) session.params (drop (count + 1) session.records)))
words-pieces indices session count within =
    let rest = answers_from (1 + length (take (count + 1) session.records)) session.params (drop (count + 1) session.records) in
    ap (words_of indices) (answers-pieces session count within)
    ∙ words_of-append indices (first_of session count) (of_server session (count + 1) ++ rest)
    ∙ ap (λ (l : List ℕ). words_of indices (first_of session count) ++ l) (words_of-append indices (of_server session (count + 1)) rest)

-- before the first server there is no number
pub words-none : (indices : List ℕ) (session : Transcript) → words_of indices (first_of session 0) ≡ []
unfolding words_of others first_of
words-none indices session = refl

-- each server adds the numbers of its own
pub words-more : (indices : List ℕ) (session : Transcript) (count : ℕ) → count < length session.records
    → words_of indices (first_of session (count + 1)) ≡ words_of indices (first_of session count) ++ words_of indices (of_server session (count + 1))
words-more indices session count within =
    ap (words_of indices) (first_of-more session count within) ∙ words_of-append indices (first_of session count) (of_server session (count + 1))

-- ---- the line of liars

-- there is no line where other answers could agree
pub liars-far : (answers : List Answer) (t h : ℕ) (agreements : List Agreement) → 2 * h ≤ length answers + t → liars_line answers t h agreements ≡ []
liars-far answers t h [] far = refl
liars-far answers t h (one ∷ []) far = ap (λ b. if b then codes "liars" ++ (words_of one.indices answers ++ codes "\n") else []) (le-ltb _ _ far)
liars-far answers t h (one ∷ another ∷ more) far = refl

-- nor where there is no one agreement
pub liars-many : (answers : List Answer) (t h : ℕ) (agreements : List Agreement) → length agreements ≢ 1 → liars_line answers t h agreements ≡ []
liars-many answers t h [] many = refl
liars-many answers t h (one ∷ []) many = absurd (many refl)
liars-many answers t h (one ∷ another ∷ more) many = refl

-- else it is that of the one agreement
pub liars-close : (answers : List Answer) (t h : ℕ) (agreements : List Agreement) (one : Agreement) → length answers + t < 2 * h → length agreements ≡ 1
    → one ≡ get_or agreements 0 one → liars_line answers t h agreements ≡ codes "liars" ++ (words_of one.indices answers ++ codes "\n")
liars-close answers t h [] one close e is = absurd (omega (arith, e))
liars-close answers t h (first ∷ []) one close e is =
    ap (λ b. if b then codes "liars" ++ (words_of first.indices answers ++ codes "\n") else []) (lt-ltb _ _ close)
    ∙ ap (λ (a : Agreement). codes "liars" ++ (words_of a.indices answers ++ codes "\n")) (sym is)
liars-close answers t h (first ∷ another ∷ more) one close e is = absurd (omega (arith, e))
