-- How a list is built, and where its parts are.
use Rattle.std.specs.Prelude.{ℕ, ◌≤◌, List, Option, IfSome}
use Rattle.quantity_limits.specs.declared.TheConstants.{MOST_ROWS}
use Rattle.key_table.specs.declared.TheConstants.{LEAST_DIGEST, MOST_DIGEST, MOST_PAIRS, MOST_VALUE}
use Rattle.list_keys.specs.Form.{IsForm}
use Rattle.list_keys.specs.declared.form.Form.{Form}
use Rattle.list_keys.specs.declared.form.Form.TheVariants.{Key, KeyAndValue}
use Rattle.list_keys.specs.declared.form.Terms.{Terms}
use Rattle.list_builds.specs.declared.order.Values.{Values}
use Rattle.list_builds.specs.declared.order.Values.TheVariants.{Absent, UpToLongest, UpTo}

-- how many bytes a digest has, what the lines say beside keys, how many rows are asked for, and the names of the files of
-- the keys, the coins, the database and the catalog, which goes to Output where it has none
pub record Order : Type 0 where
  pub digest : ℕ
  pub values : Values
  pub rows : Option ℕ
  pub keys : List ℕ
  pub coins : List ℕ
  pub database : List ℕ
  pub catalog : Option (List ℕ)

-- what each line is
abbrev pub form_of : Values → Form
form_of Absent = Key
form_of UpToLongest = KeyAndValue MOST_VALUE
form_of (UpTo most) = KeyAndValue most

-- what lines have to be
abbrev pub terms_of : Values → Terms
terms_of values = record { form = form_of values; most = MOST_PAIRS }

-- a digest, a value and a number of rows have sizes that they may have
pub record IsOrder (digest : ℕ) (values : Values) (rows : Option ℕ) : Type 0 where
  pub long_digest : LEAST_DIGEST ≤ digest
  pub short_digest : digest ≤ MOST_DIGEST
  pub short_values : IsForm (form_of values)
  pub some_rows : IfSome rows (λ r. 1 ≤ r)
  pub few_rows : IfSome rows (λ r. r ≤ MOST_ROWS)
