-- The versions of frames and sessions, and how they say for how many blocks a query asks.
use Rattle.std.specs.Prelude.{ℕ, max, ◌==◌, if◌then◌else◌}
use Rattle.wire_frames.specs.declared.query.Field.{Field}
use Rattle.wire_frames.specs.declared.query.Field.TheVariants.{Zero, Count}
use Rattle.wire_frames.specs.declared.version.Version.{Version}
use Rattle.wire_frames.specs.declared.version.Version.TheVariants.{Single, Several}

-- its number
abbrev pub number_of : Version → ℕ
number_of Single = 1
number_of Several = 2

-- the version that a number stands for, which is 1 or 2
unfoldable pub version_of : ℕ → Version
version_of number = if number == number_of Several then Several else Single

-- the byte that says for how many blocks a query asks: 0 in version 1
abbrev pub count_byte : Version → ℕ → ℕ
count_byte Single count = 0
count_byte Several count = count

-- the name of the field in which that byte stands
abbrev pub count_name : Version → Field
count_name Single = Zero
count_name Several = Count

-- for how many blocks such a byte asks: for one where it is 0
abbrev pub count_of : ℕ → ℕ
count_of byte = max 1 byte

-- the version of the answer to bytes that have this for their version, right or not: 1 unless it is 2
unfoldable pub answer_version : ℕ → Version
answer_version byte = if byte == number_of Several then Several else Single
