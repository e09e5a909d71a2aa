-- What a line that isn't refused has.
use Rattle.std.proofs.Common.{◌≡◌, ◌≢◌, inl, inr, ℕ, ◌+◌, ◌<◌, ◌≤◌, true, false, Bool, List, length, take, drop, refl, sym, ◌∙◌, ap, subst, arith}
use Rattle.std.specs.Prelude.{All, IfOk, Result, Ok, Err, None}
use Rattle.std.specs.List.{position_or_len}
use Rattle.std.proofs.lemmas.Bool.{cases_Bool, cases_eq, cases_lt, cond-false, cond-true, eqb-false, le-ltb, lt-ltb, ne_eqb}
use Rattle.std.proofs.lemmas.List.{drop_all, get_or-take, length-take}
use Rattle.std.proofs.lemmas.List.Elements.{All-drop, All-from_get_or}
use Rattle.std.proofs.lemmas.List.Sums.{fails_before_first}
use Rattle.std.proofs.lemmas.Option.{none-some}
use Rattle.key_table.specs.Entry.{newline}
use Rattle.list_keys.specs.declared.TheConstants.{MOST_KEY}
use Rattle.list_keys.specs.declared.form.Form.{Form}
use Rattle.list_keys.specs.declared.form.Form.TheVariants.{Key, KeyWithoutTab, KeyAndValue}
use Rattle.list_keys.specs.declared.fault.LineFault.TheVariants.{EmptyKey, LongKey, LongValue, NoTab}
use Rattle.list_keys.specs.declared.fault.LinesFault.{LinesFault}
use Rattle.list_keys.specs.Form.{IsGood, IsWhole, fault_behind, fault_of, key_of, lacks_tab, most_value, value_of}
use Rattle.list_keys.specs.Lines.{is_newline}
use Rattle.list_keys.specs.Reading.{Reading}
use Rattle.list_keys.specs.Taking.{GivesLine}
use Rattle.list_keys.specs.Window.{EndsAt}
use Rattle.list_keys.proofs.Faults.{fault_empty_key, fault_long_key, good_line}

-- its key is neither empty
good_some : (form : Form) (line : List ℕ) → IsGood form line → 0 < length (key_of form line)
good_some form line good = elim (cases_eq (length (key_of form line)) 0) [
  | inl empty ↦ absurd (none-some EmptyKey (sym good ∙ fault_empty_key form line empty))
  | inr some ↦ omega (arith, some)
]

-- nor too long
good_few : (form : Form) (line : List ℕ) → IsGood form line → length (key_of form line) ≤ MOST_KEY
good_few form line good = elim (cases_lt MOST_KEY (length (key_of form line))) [
  | inl long ↦ absurd (none-some LongKey (sym good ∙ fault_long_key form line long))
  | inr few ↦ few
]

-- and nothing is wrong behind it
good_behind : (form : Form) (line : List ℕ) → IsGood form line → fault_behind form line ≡ None
unfolding fault_of
good_behind form line good =
    let some = good_some form line good in
    let few = good_few form line good in
    let count = length (key_of form line) in
    sym (cond-false _ _ _ (ne_eqb count 0 (λ e. omega (arith, e, some))) ∙ cond-false _ _ _ (le-ltb MOST_KEY count few)) ∙ good

-- its value isn't too long
good_value : (form : Form) (line : List ℕ) → IsGood form line → length (value_of form line) ≤ most_value form
unfolding key_of value_of fault_behind
good_value Key line good = omega (arith, ap length (drop_all (length line + 1) line (omega arith)))
good_value KeyWithoutTab line good = omega (arith, ap length (drop_all (length line + 1) line (omega arith)))
good_value (KeyAndValue most) line good =
    let behind = good_behind (KeyAndValue most) line good in
    let size = length (value_of (KeyAndValue most) line) in
    elim (cases_Bool (lacks_tab line)) [
      | inl lacks ↦ absurd (none-some NoTab (sym behind ∙ cond-true _ _ _ lacks))
      | inr has ↦ elim (cases_lt most size) [
        | inl long ↦ absurd (none-some (LongValue most) (sym behind ∙ cond-false _ _ _ has ∙ cond-true _ _ _ (lt-ltb most size long)))
        | inr few ↦ few
      ]
    ]

-- no byte before the first newline is one
no_newline : (text : List ℕ) (at : ℕ) → at ≡ position_or_len is_newline text → All (λ b. b ≢ newline) (take at text)
no_newline text at is =
    All-from_get_or (λ b. b ≢ newline) (take at text) 0
    (λ k lt.
    let before : k < at = omega (arith, lt, length-take at text) in
    let fails = fails_before_first is_newline text k 0 (omega (arith, before, is)) in
    λ e. eqb-false _ newline fails (sym (get_or-take at text k 0 before) ∙ e))

-- a value stands behind the key
value_is : (form : Form) (line : List ℕ) → value_of form line ≡ drop (length (key_of form line) + 1) line
unfolding value_of
value_is form line = refl

-- a line that is given is whole
pub line_whole : (at : ℕ) (mid new : Reading) (result : Result Bool LinesFault) → EndsAt mid.window at → GivesLine at mid result new
    → IfOk result (λ more. more ≡ true → IsWhole new.terms.form new.window.line)
line_whole at mid new (Ok true) ends gives = λ _.
    let line = take at mid.window.rest in
    let form = mid.terms.form in
    let good : IsGood form line = (good_line mid.terms (mid.number + 1) line gives.1).1 in
    let whole : IsWhole form line = record {
      some = good_some form line good;
      few = good_few form line good;
      value = record {
        few = good_value form line good;
        no_newline = subst (All (λ b. b ≢ newline)) (sym (value_is form line)) (All-drop (λ b. b ≢ newline) (length (key_of form line) + 1) line (no_newline mid.window.rest at ends.is));
      };
    } in
    subst (λ (r : Reading). IsWhole r.terms.form r.window.line) (sym gives.2) whole
line_whole at mid new (Ok false) ends gives = absurd gives
line_whole at mid new (Err fault) ends gives = tt
