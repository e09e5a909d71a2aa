-- The values that several commands have, each in its range.
use Rattle.std.specs.Prelude.{ℕ, ◌*◌, ◌&&◌, if◌then◌else◌, List, Option, Some, None, codes, nat_lt, nat_le, unwrap_or}
use Rattle.std.specs.Str.{bytes_eq}
use Rattle.clap.specs.Words.{Row, Text, first_of}
use Rattle.wire_frames.specs.Limits.{IsInRange}
use Rattle.wire_frames.specs.Version.{number_of}
use Rattle.quantity_limits.specs.declared.TheConstants.{LEAST_SERVERS, MOST_DEGREE, MOST_SERVERS, MOST_ROWS, MOST_WIDTH, MOST_CELLS, MOST_WORKERS}
use Rattle.wire_frames.specs.declared.version.Version.TheVariants.{Single}
use Rattle.wire_frames.specs.declared.scheme.Scheme.{Scheme}
use Rattle.wire_frames.specs.declared.scheme.Scheme.TheVariants.{Shamir, Xor}
use Rattle.pir_words.specs.Chain.{◌>>=◌, ◌>>◌}
use Rattle.pir_words.specs.Numbers.{limited, number, number_in}
use Rattle.pir_words.specs.declared.ranges.Sizes.{Sizes}
use Rattle.pir_words.specs.declared.ranges.Sharing.{Sharing}

-- the rows of a database and their width
unfoldable pub sizes_in : List Row → Option Sizes
sizes_in m = do
  rows ← limited (codes "rows") 1 MOST_ROWS m
  width ← limited (codes "width") 1 MOST_WIDTH m
  nat_le (rows * width) MOST_CELLS
  Some (record { rows = rows; width = width })

-- the row that a text names, of so many
unfoldable pub row_named : ℕ → Text → Option ℕ
row_named rows text = do
  row ← number text
  nat_lt row rows
  Some row

-- a block of so many rows
unfoldable pub block_in : ℕ → List Row → Option ℕ
block_in rows m = do
  text ← first_of (codes "block") m
  row_named rows text

-- the scheme of this name
unfoldable pub scheme_named : Text → Option Scheme
scheme_named name =
    if bytes_eq name (codes "shamir") then Some Shamir
    else (if bytes_eq name (codes "xor") then Some Xor else None)

-- the scheme, Shamir's where none is named
unfoldable pub scheme_in : List Row → Option Scheme
scheme_in m = scheme_named (unwrap_or (first_of (codes "scheme") m) (codes "shamir"))

-- how many servers there are
unfoldable pub servers_in : List Row → Option ℕ
servers_in m = limited (codes "servers") LEAST_SERVERS MOST_SERVERS m

-- the degree t and the agreement h of n servers, 1 <= t < h <= n
unfoldable pub sharing_in : ℕ → List Row → Option Sharing
sharing_in n m = do
  t ← limited (codes "degree") 1 MOST_DEGREE m
  h ← number_in (codes "agree") m
  nat_lt t h && nat_le h n
  Some (record { degree = t; agree = h })

-- the sizes of a database of r rows of s bytes
abbrev pub sizes_of : ℕ → ℕ → Sizes
sizes_of r s = record { rows = r; width = s }

-- the degree t and the agreement h
abbrev pub sharing_of : ℕ → ℕ → Sharing
sharing_of t h = record { degree = t; agree = h }

-- a session for one block may have these numbers, whatever its own is: the scheme, degree and agreement of n servers, and
-- the sizes of a database
abbrev pub FitsSession : ℕ → Sharing → ℕ → Sizes → Type 0
FitsSession scheme sharing n sizes =
    IsInRange (record {
      version = number_of Single;
      scheme = scheme;
      t = sharing.degree;
      h = sharing.agree;
      n = n;
      count = 1;
      session = 0;
      r = sizes.rows;
      s = sizes.width;
    })

-- the number of workers, one where it isn't given
unfoldable pub workers_in : List Row → Option ℕ
workers_in m = do
  n ← number (unwrap_or (first_of (codes "workers") m) (codes "1"))
  nat_le 1 n && nat_le n MOST_WORKERS
  Some n

-- the file that random bytes come from
unfoldable pub coins_in : List Row → Text
coins_in m = unwrap_or (first_of (codes "coins") m) (codes "/dev/urandom")
