-- The numbers among the words: what they are called, and their ranges.
use Rattle.std.specs.Prelude.{ℕ, codes}
use Rattle.clap.specs.Words.{Text}
use Rattle.key_table.specs.declared.TheConstants.{LEAST_DIGEST, MOST_DIGEST, MOST_VALUE}
use Rattle.quantity_limits.specs.declared.TheConstants.{MOST_DEGREE, MOST_ROWS, MOST_SERVERS}
use Rattle.list_words.specs.declared.amount.Amount.{Amount}
use Rattle.list_words.specs.declared.amount.Amount.TheVariants.{DigestBytes, ValueBytes, Rows, Degree, Agree}

-- the name of the option
abbrev pub name_of : Amount → Text
name_of DigestBytes = codes "digest-bytes"
name_of ValueBytes = codes "value-bytes"
name_of Rows = codes "rows"
name_of Degree = codes "degree"
name_of Agree = codes "agree"

-- the least number that it may have
abbrev pub least_of : Amount → ℕ
least_of DigestBytes = LEAST_DIGEST
least_of ValueBytes = 0
least_of Rows = 1
least_of Degree = 1
least_of Agree = 1

-- and the greatest
abbrev pub most_of : Amount → ℕ
most_of DigestBytes = MOST_DIGEST
most_of ValueBytes = MOST_VALUE
most_of Rows = MOST_ROWS
most_of Degree = MOST_DEGREE
most_of Agree = MOST_SERVERS
