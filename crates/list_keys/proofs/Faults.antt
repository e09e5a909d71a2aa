-- The faults of lines that are too long in any case.
use Rattle.std.proofs.Common.{◌≡◌, inl, inr, ℕ, ◌+◌, ◌<◌, ◌≤◌, not, List, ◌++◌, length, drop, sym, ◌∙◌, arith}
use Rattle.std.specs.Prelude.{None, Some}
use Rattle.std.specs.List.{position_or_len}
use Rattle.std.proofs.lemmas.Bool.{cases_eq, cases_lt, cond-false, cond-true, eq-eqb, le-ltb, lt-ltb, ne_eqb}
use Rattle.std.proofs.lemmas.List.{length-append, length-drop, length-take-le}
use Rattle.std.proofs.lemmas.Option.{none-some}
use Rattle.std.proofs.lemmas.List.Sums.{prefix_len-le-length}
use Rattle.list_keys.specs.declared.TheConstants.{LONGEST_LINE, MOST_KEY}
use Rattle.list_keys.specs.declared.form.Form.{Form}
use Rattle.list_keys.specs.declared.form.Form.TheVariants.{Key, KeyWithoutTab, KeyAndValue}
use Rattle.list_keys.specs.declared.form.Terms.{Terms}
use Rattle.list_keys.specs.declared.fault.LineFault.{LineFault}
use Rattle.list_keys.specs.declared.fault.LineFault.TheVariants.{EmptyKey, LongKey, LongValue, TooMany}
use Rattle.list_keys.specs.Form.{IsForm, fault_behind, fault_of, is_tab, key_of, refusal_of, value_of}
use Rattle.list_keys.proofs.Splits.{position_behind, position_kept}

-- a long key is a fault
pub fault_long_key : (form : Form) (line : List ℕ) → MOST_KEY < length (key_of form line) → fault_of form line ≡ Some LongKey
unfolding fault_of
fault_long_key form line lt =
    cond-false _ _ _ (ne_eqb (length (key_of form line)) 0 (λ e. omega (arith, e, lt))) ∙ cond-true _ _ _ (lt-ltb _ _ lt)

-- an empty one is
pub fault_empty_key : (form : Form) (line : List ℕ) → length (key_of form line) ≡ 0 → fault_of form line ≡ Some EmptyKey
unfolding fault_of
fault_empty_key form line e = cond-true _ _ _ (eq-eqb _ _ e)

-- how long a key is where values are parted off
tab_place : (most : ℕ) (line : List ℕ) → length (key_of (KeyAndValue most) line) ≡ position_or_len is_tab line
unfolding key_of
tab_place most line = length-take-le (position_or_len is_tab line) line (prefix_len-le-length _ line)

-- a long value is, behind a key that is none
fault_long_value : (most : ℕ) (line : List ℕ) → 0 < position_or_len is_tab line → position_or_len is_tab line ≤ MOST_KEY
    → position_or_len is_tab line + 1 + most < length line → fault_of (KeyAndValue most) line ≡ Some (LongValue most)
unfolding fault_of fault_behind value_of
fault_long_value most line some few long =
    let count = tab_place most line in
    cond-false _ _ _ (ne_eqb (length (key_of (KeyAndValue most) line)) 0 (λ e. omega (arith, e, count, some)))
    ∙ cond-false _ _ _ (le-ltb MOST_KEY (length (key_of (KeyAndValue most) line)) (omega (arith, count, few)))
    ∙ cond-false _ _ _ (ne_eqb (position_or_len is_tab line) (length line) (λ e. omega (arith, e, long)))
    ∙ cond-true _ _ _ (lt-ltb most (length (drop (length (key_of (KeyAndValue most) line) + 1) line))
    (omega (arith, count, long, length-drop (length (key_of (KeyAndValue most) line) + 1) line)))

-- a line that is too long in any case has a fault, and has it whatever follows
pub fault_kept : (form : Form) (line more : List ℕ) → IsForm form → LONGEST_LINE < length line
    → (fault : LineFault) × (fault_of form line ≡ Some fault) × (fault_of form (line ++ more) ≡ Some fault)
unfolding key_of
fault_kept Key line more is long = (
  LongKey,
  fault_long_key Key line (omega (arith, long)),
  fault_long_key Key (line ++ more) (omega (arith, long, length-append line more)),
)
fault_kept KeyWithoutTab line more is long = (
  LongKey,
  fault_long_key KeyWithoutTab line (omega (arith, long)),
  fault_long_key KeyWithoutTab (line ++ more) (omega (arith, long, length-append line more)),
)
fault_kept (KeyAndValue most) line more is long =
    let form = KeyAndValue most in
    let at = position_or_len is_tab line in
    let whole = line ++ more in
    let size = length-append line more in
    elim (cases_lt at (length line)) [
      | inl there ↦
          let same : position_or_len is_tab whole ≡ at = position_kept is_tab line more there in
          elim (cases_lt MOST_KEY at) [
            | inl far ↦ (
              LongKey,
              fault_long_key form line (omega (arith, far, tab_place most line)),
              fault_long_key form whole (omega (arith, far, same, tab_place most whole)),
            )
            | inr near ↦ elim (cases_eq at 0) [
              | inl none ↦ (
                EmptyKey,
                fault_empty_key form line (tab_place most line ∙ none),
                fault_empty_key form whole (tab_place most whole ∙ same ∙ none),
              )
              | inr some ↦ (
                LongValue most,
                fault_long_value most line (omega (arith, some)) near (omega (arith, near, long, is)),
                fault_long_value most whole (omega (arith, some, same)) (omega (arith, same, near)) (omega (arith, same, near, long, is, size)),
              )
            ]
          ]
      | inr lacks ↦
          let none : at ≡ length line = omega (arith, lacks, prefix_len-le-length (λ b. not (is_tab b)) line) in (
            LongKey,
            fault_long_key form line (omega (arith, none, long, tab_place most line)),
            fault_long_key form whole (omega (arith, none, long, tab_place most whole, position_behind is_tab line more none)),
          )
    ]

-- so is the line of any number refused, whatever follows
pub refusal_kept : (terms : Terms) (number : ℕ) (line more : List ℕ) → IsForm terms.form → LONGEST_LINE < length line
    → (fault : LineFault) × (refusal_of terms number line ≡ Some fault) × (refusal_of terms number (line ++ more) ≡ Some fault)
unfolding refusal_of
refusal_kept terms number line more is long = elim (cases_lt terms.most number) [
  | inl above ↦ (
    TooMany terms.most,
    cond-true _ _ _ (lt-ltb _ _ above),
    cond-true _ _ _ (lt-ltb _ _ above),
  )
  | inr below ↦
      let kept = fault_kept terms.form line more is long in (
        kept.0,
        cond-false _ _ _ (le-ltb _ _ below) ∙ kept.1,
        cond-false _ _ _ (le-ltb _ _ below) ∙ kept.2,
      )
]

-- a line that isn't refused is good, and its number is one that there may be
pub good_line : (terms : Terms) (number : ℕ) (line : List ℕ) → refusal_of terms number line ≡ None
    → (number ≤ terms.most) × (fault_of terms.form line ≡ None)
unfolding refusal_of
good_line terms number line e = elim (cases_lt terms.most number) [
  | inl above ↦ absurd (none-some (TooMany terms.most) (sym e ∙ cond-true _ _ _ (lt-ltb _ _ above)))
  | inr below ↦ (below, sym (cond-false _ _ _ (le-ltb _ _ below)) ∙ e)
]
