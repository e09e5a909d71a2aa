-- The ports as numbers.
use Rattle.std.specs.Prelude.{ℕ, ◌+◌}
use Rattle.port_trait.specs.declared.port.Port.{Port}
use Rattle.port_trait.specs.declared.port.Port.TheVariants.{Input, Output, Database, Coins, Record, Door, Guest, Link, Child, Share}

-- each port that there is one of
abbrev pub INPUT : ℕ
INPUT = 0

abbrev pub OUTPUT : ℕ
OUTPUT = 1

abbrev pub DATABASE : ℕ
DATABASE = 2

abbrev pub COINS : ℕ
COINS = 3

abbrev pub RECORD : ℕ
RECORD = 4

abbrev pub DOOR : ℕ
DOOR = 5

abbrev pub GUEST : ℕ
GUEST = 6

-- the link to server i
abbrev pub link : ℕ → ℕ
link i = 256 + i

-- child i
abbrev pub child : ℕ → ℕ
child i = 512 + i

-- the file with the share of server i
abbrev pub share_file : ℕ → ℕ
share_file i = 768 + i

-- the number that a port has in clauses
abbrev pub number : Port → ℕ
number Input = INPUT
number Output = OUTPUT
number Database = DATABASE
number Coins = COINS
number Record = RECORD
number Door = DOOR
number Guest = GUEST
number (Link i) = link i
number (Child i) = child i
number (Share i) = share_file i
