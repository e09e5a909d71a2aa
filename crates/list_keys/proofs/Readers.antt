-- What a reader has given, through its calls.
use Rattle.std.proofs.Common.{◌≡◌, ◌⊎◌, inl, inr, ℕ, ◌+◌, ◌<◌, ◌≤◌, Bool, true, false, not, List, [], ◌∷◌, ◌++◌, length, take, refl, sym, ◌∙◌, ap, ap₂, subst, arith}
use Rattle.std.specs.Prelude.{◌&&◌, Result, Ok, Err, None, Some}
use Rattle.std.proofs.lemmas.Bool.{cases_lt}
use Rattle.std.proofs.lemmas.List.{length_push, nil_from_length, take_all}
use Rattle.std.proofs.lemmas.List.Elements.{All-nil, All-push}
use Rattle.std.proofs.lemmas.List.Folds.{list_all-append}
use Rattle.std.proofs.lemmas.List.Sums.{prefix_len-le-length}
use Rattle.std.proofs.lemmas.Option.{none-some}
use Rattle.port_trait.specs.World.{World}
use Rattle.list_keys.specs.declared.form.Terms.{Terms}
use Rattle.list_keys.specs.declared.fault.LinesFault.{LinesFault}
use Rattle.list_keys.specs.declared.fault.LinesFault.TheVariants.{Memory, NoLine, ReadFault, Refused}
use Rattle.list_keys.specs.Form.{AreTerms, IsGood, refusal_of}
use Rattle.list_keys.specs.Lines.{ends_with_return, is_newline}
use Rattle.list_keys.specs.Window.{EndsAt, HasGiven, Window}
use Rattle.list_keys.specs.Reading.{FailsToGive, Gives, GivesAll, HasRead, Reading, Refuses}
use Rattle.list_keys.specs.Taking.{GivesLine}
use Rattle.list_keys.proofs.Faults.{good_line, refusal_kept}
use Rattle.list_keys.proofs.Given.{given_all, given_next, given_none, given_refused}

-- nothing was read
pub read_none : (terms : Terms) (window : Window) (w : World) → window.rest ≡ [] → window.ended ≡ false
    → HasRead (record { terms = terms; number = 0; returns = true; window = window }) [] w w
read_none terms window w empty fresh = record {
  window = given_none window w empty fresh;
  number = refl;
  few = omega arith;
  good = All-nil (IsGood terms.form);
  returns = refl;
}

-- more was taken
pub read_on : (old mid : Reading) (before : Window) (given : List (List ℕ)) (start w v : World)
    → record { terms = mid.terms; number = mid.number; returns = mid.returns; window = before } ≡ old
    → (HasGiven before given start w → HasGiven mid.window given start v) → HasRead old given start w → HasRead mid given start v
read_on old mid before given start w v is takes h =
    let held : HasRead (record { terms = mid.terms; number = mid.number; returns = mid.returns; window = before }) given start w =
    subst (λ (r : Reading). HasRead r given start w) (sym is) h in
    record { window = takes held.window; number = held.number; few = held.few; good = held.good; returns = held.returns }

-- where nothing is unread, no more comes
pub ends_empty : (window : Window) (at : ℕ) → EndsAt window at → window.rest ≡ [] → window.ended ≡ true
ends_empty window at ends empty =
    let none : at ≤ 0 = omega (arith, ends.is, prefix_len-le-length (λ b. not (is_newline b)) window.rest, ap length empty) in
    elim ends.settled [
      | inl lt ↦ absurd (omega (arith, lt, ap length empty))
      | inr (inl ended) ↦ ended
      | inr (inr long) ↦ absurd (omega (arith, long, none))
    ]

-- all lines are given
pub read_all : (reader : Reading) (at : ℕ) (given : List (List ℕ)) (start v : World) → EndsAt reader.window at → reader.window.rest ≡ []
    → HasRead reader given start v → GivesAll given start v
read_all reader at given start v ends empty h = given_all reader.window given start v empty (ends_empty reader.window at ends empty) h.window

-- there is none
pub read_no_line : (reader : Reading) (at : ℕ) (given : List (List ℕ)) (start v : World) → EndsAt reader.window at → reader.window.rest ≡ []
    → reader.number ≡ 0 → HasRead reader given start v → GivesAll [] start v
read_no_line reader at given start v ends empty none h =
    subst (λ (g : List (List ℕ)). GivesAll g start v) (nil_from_length given (sym h.number ∙ none)) (read_all reader at given start v ends empty h)

-- a line that isn't refused ends where it is seen to end
good_end : (terms : Terms) (window : Window) (at number : ℕ) → AreTerms terms → EndsAt window at
    → refusal_of terms number (take at window.rest) ≡ None → (at < length window.rest) ⊎ (window.ended ≡ true)
good_end terms window at number are ends good = elim (cases_lt at (length window.rest)) [
  | inl lt ↦ inl lt
  | inr all ↦ elim ends.settled [
    | inl lt ↦ inl lt
    | inr (inl ended) ↦ inr ended
    | inr (inr long) ↦
        let size : at ≡ length window.rest = omega (arith, all, ends.is, prefix_len-le-length (λ b. not (is_newline b)) window.rest) in
        let kept = refusal_kept terms number window.rest [] are.form (omega (arith, long, size)) in
        let whole : take at window.rest ≡ window.rest = take_all at window.rest (omega (arith, all)) in
        absurd (none-some kept.0 (sym good ∙ ap (refusal_of terms number) whole ∙ kept.1))
  ]
]

and_true : (b : Bool) → (b && true) ≡ b
and_true true = refl
and_true false = refl

-- one more line is given, or refused
pub read_line_more : (at : ℕ) (mid new : Reading) (result : Result Bool LinesFault) (given : List (List ℕ)) (start v : World)
    → 0 < length mid.window.rest → EndsAt mid.window at → HasRead mid given start v → GivesLine at mid result new → Gives result new given start v
read_line_more at mid new (Ok true) given start v some ends h gives =
    let line = take at mid.window.rest in
    let good = good_line mid.terms (mid.number + 1) line gives.1 in
    let size = length_push given line in
    subst (λ (r : Reading). HasRead r (given ++ r.window.line ∷ []) start v) (sym gives.2) record {
      window = given_next mid.window at given start v some ends.is (good_end mid.terms mid.window at (mid.number + 1) gives.0 ends gives.1) h.window;
      number = omega (arith, h.number, size);
      few = omega (arith, good.0, h.number, size);
      good = All-push (IsGood mid.terms.form) given line h.good good.1;
      returns = ap₂ (λ a b. a && b) h.returns (sym (and_true (ends_with_return line))) ∙ sym (list_all-append ends_with_return given (line ∷ []));
    }
read_line_more at mid new (Ok false) given start v some ends h gives = absurd gives
read_line_more at mid new (Err ReadFault) given start v some ends h gives = absurd gives
read_line_more at mid new (Err NoLine) given start v some ends h gives = absurd gives
read_line_more at mid new (Err Memory) given start v some ends h gives = absurd gives
read_line_more at mid new (Err (Refused number fault)) given start v some ends h gives =
    let place : number ≡ length given + 1 = gives.1 ∙ ap (λ n. n + 1) h.number in
    let refused : refusal_of mid.terms (length given + 1) (take at mid.window.rest) ≡ Some fault =
    subst (λ n. refusal_of mid.terms n (take at mid.window.rest) ≡ Some fault) place gives.2 in
    let first = given_refused mid.terms mid.window at given fault start v gives.0 some ends h.good h.few refused h.window in
    let found : Refuses mid.terms (length given + 1) fault start v = record { read = h.window.read; reads = h.window.reads; first = first } in
    subst (λ (r : Reading). FailsToGive r.terms (Refused number fault) start v) (sym gives.3)
    (subst (λ n. FailsToGive mid.terms (Refused n fault) start v) (sym place) found)
