-- A field of a frame: a number of so many bytes, highest first, in a range.
use Rattle.std.specs.Prelude.{◌≡◌, ℕ, ◌-◌, ◌^◌, ◌/◌, ◌<◌, ◌≤◌, List, min}
use Rattle.std.specs.Int.{bytes_high_first}
use Rattle.quantity_limits.specs.declared.TheConstants.{MOST_SERVERS, MOST_BLOCKS, MOST_WIDTH, MOST_CELLS}
use Rattle.wire_frames.specs.declared.scheme.Scheme.{Scheme}
use Rattle.wire_frames.specs.declared.scheme.Scheme.TheVariants.{Shamir, Xor}
use Rattle.wire_frames.specs.declared.field.Number.{Number}
use Rattle.wire_frames.specs.declared.version.Version.{Version}
use Rattle.wire_frames.specs.Version.{count_byte}

-- a range of numbers that has some, and none of more bytes than the field has
pub record IsField (field : Number) : Type 0 where
  pub narrow : field.width ≤ 8
  pub some : field.least ≤ field.most
  pub fits : field.most < 256 ^ field.width

-- the bytes spell this number of the field
pub record IsNumber (field : Number) (bytes : List ℕ) (value : ℕ) : Type 0 where
  pub least : field.least ≤ value
  pub most : value ≤ field.most
  pub spelled : bytes ≡ bytes_high_first field.width value

-- the number of a session, which any eight bytes are
abbrev pub session_field : Number
session_field = record { width = 8; least = 0; most = 2 ^ 64 - 1 }

-- the byte that says for how many blocks a query of a version asks
abbrev pub count_field : Version → Number
count_field version =
    record { width = 1; least = count_byte version 1; most = count_byte version MOST_BLOCKS }

-- the width of so many rows, of which so many are asked for
abbrev pub width_field : ℕ → ℕ → Number
width_field count rows =
    record { width = 4; least = 1; most = min (MOST_WIDTH / count) (MOST_CELLS / rows) }

-- the most servers there may be, where there are at least so many: in the XOR scheme no more
abbrev pub most_servers : Scheme → ℕ → ℕ
most_servers Shamir least = MOST_SERVERS
most_servers Xor least = least

-- such a number of servers
abbrev pub servers_field : Scheme → ℕ → Number
servers_field scheme least = record { width = 1; least = least; most = most_servers scheme least }
