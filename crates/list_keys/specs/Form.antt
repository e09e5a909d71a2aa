-- What a line of a list is, and what may be wrong with it.
use Rattle.std.specs.Prelude.{◌≡◌, ◌<◌, ℕ, ◌+◌, ◌≤◌, Bool, ◌==◌, nat_lt, if◌then◌else◌, List, ◌++◌, ◌∷◌, drop, length, All, Option, None, Some}
use Rattle.std.specs.List.{before_first, position_or_len}
use Rattle.key_table.specs.Entry.{IsValue}
use Rattle.key_table.specs.declared.TheConstants.{MOST_PAIRS, MOST_VALUE}
use Rattle.list_keys.specs.declared.TheConstants.{MOST_KEY}
use Rattle.list_keys.specs.declared.form.Form.{Form}
use Rattle.list_keys.specs.declared.form.Form.TheVariants.{Key, KeyWithoutTab, KeyAndValue}
use Rattle.list_keys.specs.declared.form.Terms.{Terms}
use Rattle.list_keys.specs.declared.fault.LineFault.{LineFault}
use Rattle.list_keys.specs.declared.fault.LineFault.TheVariants.{EmptyKey, LongKey, NoTab, HasTab, LongValue, TooMany}

-- whether a byte is a tab
abbrev pub is_tab : ℕ → Bool
is_tab b = b == 9

-- whether a line has no tab
abbrev pub lacks_tab : List ℕ → Bool
lacks_tab line = position_or_len is_tab line == length line

-- the key of a line: the whole of it, or what stands before the first tab
unfoldable pub key_of : Form → List ℕ → List ℕ
key_of Key line = line
key_of KeyWithoutTab line = line
key_of (KeyAndValue most) line = before_first is_tab line

-- the value of a line: what stands behind the key and a tab
unfoldable pub value_of : Form → List ℕ → List ℕ
value_of form line = drop (length (key_of form line) + 1) line

-- what is wrong with a line whose key is neither empty nor too long, if anything
unfoldable pub fault_behind : Form → List ℕ → Option LineFault
fault_behind Key line = None
fault_behind KeyWithoutTab line = if lacks_tab line then None else Some HasTab
fault_behind (KeyAndValue most) line =
    if lacks_tab line then Some NoTab
    else if nat_lt most (length (value_of (KeyAndValue most) line)) then Some (LongValue most) else None

-- what is wrong with a line, if anything
unfoldable pub fault_of : Form → List ℕ → Option LineFault
fault_of form line =
    let count = length (key_of form line) in
    if count == 0 then Some EmptyKey else if nat_lt MOST_KEY count then Some LongKey else fault_behind form line

-- a line with which nothing is wrong
abbrev pub IsGood : Form → List ℕ → Type 0
IsGood form line = fault_of form line ≡ None

-- how many bytes a value has at most
abbrev pub most_value : Form → ℕ
most_value Key = 0
most_value KeyWithoutTab = 0
most_value (KeyAndValue most) = most

-- a line has a key that is neither empty nor too long, and a value
pub record IsWhole (form : Form) (line : List ℕ) : Type 0 where
  pub some : 0 < length (key_of form line)
  pub few : length (key_of form line) ≤ MOST_KEY
  pub value : IsValue (most_value form) (value_of form line)

-- no value may be longer than one of a table
abbrev pub IsForm : Form → Type 0
IsForm Key = Unit {0}
IsForm KeyWithoutTab = Unit {0}
IsForm (KeyAndValue most) = most ≤ MOST_VALUE

-- a form that lines may have, and no more of them than a list may have
pub record AreTerms (terms : Terms) : Type 0 where
  pub form : IsForm terms.form
  pub few : terms.most ≤ MOST_PAIRS

-- why the line of this number is refused, if it is
unfoldable pub refusal_of : Terms → ℕ → List ℕ → Option LineFault
refusal_of terms number line = if nat_lt terms.most number then Some (TooMany terms.most) else fault_of terms.form line

-- of these lines the one of this number is refused for this reason, and none before it
pub record IsFirstFault (terms : Terms) (text : List (List ℕ)) (number : ℕ) (fault : LineFault) : Type 0 where
  pub before : List (List ℕ)
  pub line : List ℕ
  pub behind : List (List ℕ)
  pub are : text ≡ before ++ line ∷ behind
  pub good : All (IsGood terms.form) before
  pub few : length before ≤ terms.most
  pub number_is : number ≡ length before + 1
  pub refused : refusal_of terms number line ≡ Some fault
