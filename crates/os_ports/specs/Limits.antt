-- How long a stream to another program may take.
use Rattle.std.specs.Prelude.{ℕ, ◌+◌, ◌-◌, ◌*◌, ◌/◌, min, max}
use Rattle.std.specs.Duration.{as_nanos}
use Rattle.os_ports.specs.declared.limits.Allowance.{Allowance}

-- the nanoseconds of so many seconds
abbrev pub seconds : ℕ → ℕ
seconds n = n * 1000000000

-- the nanoseconds that a stream has left in all its calls: a second more for each 65536 bytes that it moved
abbrev pub nanos_left : Allowance → ℕ
nanos_left a = seconds (a.limit.whole + a.moved / 65536) - as_nanos a.spent

-- the nanoseconds that its next call may take
abbrev pub call_nanos : Allowance → ℕ
call_nanos a = min (seconds a.limit.call) (nanos_left a)

-- the nanoseconds that a read may take which comes so many after bytes last moved: until a call of then is over, and a millisecond at least
abbrev pub read_nanos : Allowance → ℕ → ℕ
read_nanos a quiet = min (max (seconds a.limit.call - quiet) 1000000) (nanos_left a)
