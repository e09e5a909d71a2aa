-- The schemes, and what of frames differs between them.
use Rattle.std.specs.Prelude.{ℕ, ◌==◌, if◌then◌else◌}
use Rattle.std.specs.Int.{div_ceil}
use Rattle.wire_frames.specs.declared.scheme.TheConstants.{SHAMIR, XOR}
use Rattle.wire_frames.specs.declared.scheme.Scheme.{Scheme}
use Rattle.wire_frames.specs.declared.scheme.Scheme.TheVariants.{Shamir, Xor}

-- the scheme that a number stands for, which is SHAMIR or XOR
unfoldable pub scheme_of : ℕ → Scheme
scheme_of number = if number == XOR then Xor else Shamir

-- its number
abbrev pub number_of : Scheme → ℕ
number_of Shamir = SHAMIR
number_of Xor = XOR

-- how many bytes a query has for each block: one for each row, and in the XOR scheme a bit for each
-- row
abbrev pub payload_len : Scheme → ℕ → ℕ
payload_len Shamir rows = rows
payload_len Xor rows = div_ceil rows 8
